-- What the exchange of a group says of its calls in other words (local).
use Rattle.std.specs.Prelude.{◌≡◌, ◌≤◌, ℕ, List}
use Rattle.taps_socket.specs.Calls.{Call, items_of}
use Rattle.taps_socket.specs.Shows.{timed_after}
use Rattle.taps_exchange.specs.declared.outcome.Outcome.{Outcome}
use Rattle.taps_exchange.specs.Outcomes.{count_by, count_failures}
use Rattle.taps_exchange.specs.Turns.{Place, initiate, turn_of, IsExchange}
use Rattle.taps_group_exchange.specs.GroupExchanges.{AreGroupItems, sockets_in}

-- Each item is of the data of a member's socket, and at most one is a failure. One timed call more was made where the
-- outcome is Timed, and else none.
pub record IsGroupJudged (places : List Place) (calls : List Call) (o : Outcome) : Type 0 where
  pub own_items : AreGroupItems (sockets_in places) (items_of calls)
  pub one_failure : count_failures (items_of calls) ≤ 1
  pub timed : (n : ℕ) → timed_after calls n ≡ count_by o n

-- so it is for each exchange of a group whose first member initiated
abbrev pub JudgesGroups : Type 0
JudgesGroups = (places : List Place) (calls : List Call) (o : Outcome) →
    IsExchange (turn_of (initiate places)) calls o → IsGroupJudged places calls o
