-- How a race stands: all that its rules read of its trace.
use Rattle.std.specs.Prelude.{ℕ, Bool, not, List, filter, Option}
use Rattle.taps_socket.specs.declared.item.Item.{Item}
use Rattle.taps_socket.specs.declared.race_answer.RaceAnswer.{RaceAnswer}
use Rattle.taps_socket.specs.RaceTrace.{begun, last_moment, attempts, last_attempt, has_fault}
use Rattle.taps_socket.specs.RaceSockets as sockets
use Rattle.taps_socket.specs.Winner as winner

-- the moments of its beginning, of its newest item and of its newest attempt; the number of attempts; whether a wait
-- was faulted; the answer of the first completion; and its sockets
pub record Standing : Type 0 where
  pub begun : ℕ
  pub last : ℕ
  pub last_attempt : ℕ
  pub attempts : ℕ
  pub faulted : Bool
  pub ready : Option RaceAnswer
  pub started : List ℕ
  pub still_open : List ℕ
  pub pending : List ℕ
  pub broken : List ℕ

-- how it stands after these items
abbrev pub standing : List Item → Standing
standing trace =
    record {
      begun = begun trace;
      last = last_moment trace;
      last_attempt = last_attempt trace;
      attempts = attempts trace;
      faulted = has_fault trace;
      ready = winner.ready trace;
      started = sockets.started trace;
      still_open = sockets.open_sockets trace;
      pending = sockets.pending_sockets trace;
      broken = sockets.broken_sockets trace;
    }

-- its open sockets but the winner's
abbrev pub losers : Standing → List ℕ
losers race = filter (λ s. not (winner.is_winner race.ready s)) race.still_open
