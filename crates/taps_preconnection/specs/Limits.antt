-- The limits of a file's counts and numbers (local).
use Rattle.std.specs.Prelude.{◌≡◌, ℕ, ◌≤◌, Some, length}
use Rattle.taps_preconnection.specs.declared.preconnection.Preconnection.{Preconnection}

-- the counts and numbers of a file keep these limits; times are in milliseconds
pub record IsWithin (pre : Preconnection) : Type 0 where
  pub some_path : 1 ≤ length pre.paths.items
  pub paths : length pre.paths.items ≤ 8
  pub locals : length pre.locals.items ≤ 8
  pub remotes : length pre.remotes.items ≤ 16
  pub framers : length pre.framers.items ≤ 8
  pub messages : length pre.messages.items ≤ 256
  pub least_delay : 10 ≤ pre.race.delay_ms
  pub delay : pre.race.delay_ms ≤ 2000
  pub least_timeout : 1 ≤ pre.race.timeout_ms
  pub timeout : pre.race.timeout_ms ≤ 3600000
  pub cancel : (c : ℕ) → pre.race.cancel_ms ≡ Some c → c ≤ 3600000
  pub expect : pre.exchange.expect ≤ 256
  pub least_deadline : 1 ≤ pre.exchange.deadline_ms
  pub deadline : pre.exchange.deadline_ms ≤ 3600000
  pub least_piece : 1 ≤ pre.exchange.piece
  pub piece : pre.exchange.piece ≤ 65536
  pub least_part : (p : ℕ) → pre.exchange.part ≡ Some p → 1 ≤ p
  pub part : (p : ℕ) → pre.exchange.part ≡ Some p → p ≤ 1048576
  pub clones : pre.exchange.clones ≤ 15
  pub least_connections : 1 ≤ pre.exchange.connections
  pub connections : pre.exchange.connections ≤ 16
