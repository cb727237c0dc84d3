-- What contracts see of a listener.
use Rattle.std.specs.Prelude.{ℕ}

-- its socket; how many connections it takes at most; and how many it took
pub record ListenerState : Type 0 where
  pub socket : ℕ
  pub limit : ℕ
  pub accepted : ℕ
