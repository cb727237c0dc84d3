-- What is proved of every session that listens.
use Rattle.std.proofs.Common.{List, [], ◌∷◌, ◌++◌, refl}
use Rattle.taps_socket.specs.Calls.{Call, items_of}
use Rattle.taps_exchange.specs.Turns.{IsInTurn}
use Rattle.taps_listening.specs.ListenRules.{ListenRules}
use Rattle.taps_listening.specs.Listened.{ClosesAllSockets}
use Rattle.taps_listening.specs.Listening.{beginning, course_at, course_after, closes_of, turn_listening, AllInTurn}
use Rattle.taps_listening.proofs.Covers.{all_closed, covers_short}

pub turns_of : (r : ListenRules) (calls : List Call) → IsInTurn (turn_listening r) calls → AllInTurn r (course_at [] beginning) calls
turns_of r [] h = tt
turns_of r (call ∷ calls) h = (h.0, turns_of r calls h.1)

pub in_turn_of : (r : ListenRules) (calls : List Call) → AllInTurn r (course_at [] beginning) calls → IsInTurn (turn_listening r) calls
in_turn_of r [] h = tt
in_turn_of r (call ∷ calls) h = (h.0, in_turn_of r calls h.1)

pub closes_all_sockets : ClosesAllSockets
closes_all_sockets r before calls h =
    all_closed before (items_of (closes_of (course_after r calls).phase ++ calls) ++ before) (covers_short r before calls (course_after r calls).phase (turns_of r calls h) refl)
