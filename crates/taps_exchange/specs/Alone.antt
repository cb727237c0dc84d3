-- An exchange of a group of one member is that of the member alone.
use Rattle.std.specs.Prelude.{◌≡◌, ◌↔◌, List, [], ◌∷◌}
use Rattle.taps_socket.specs.Calls.{Call}
use Rattle.taps_exchange.specs.declared.outcome.Outcome.{Outcome}
use Rattle.taps_exchange.specs.Members.{calls_on}
use Rattle.taps_exchange.specs.Turns.{Place, initiate, turn_of, turn_alone, IsInTurn, IsExchange}

-- calls are in turn of the one exactly when they are in turn of the other, with the same outcome; and all of them are
-- on the member's socket
pub record IsAlone (p : Place) (calls : List Call) : Type 0 where
  pub in_turn : IsInTurn (turn_of (initiate (p ∷ []))) calls ↔ IsInTurn (turn_alone p.member) calls
  pub exchange : (o : Outcome) →
      IsExchange (turn_of (initiate (p ∷ []))) calls o ↔ IsExchange (turn_alone p.member) calls o
  pub own : IsInTurn (turn_alone p.member) calls → calls_on p.member.socket calls ≡ calls

abbrev pub OneIsAlone : Type 0
OneIsAlone = (p : Place) (calls : List Call) → IsAlone p calls
