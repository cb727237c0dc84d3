-- The calls of one message's turn.
use Rattle.std.specs.Prelude.{◌≡◌, ◌≤◌, List, [], ◌∷◌}
use Rattle.taps_message.specs.declared.accepted.Accepted.{Accepted}
use Rattle.taps_socket.specs.declared.answers.SendAnswer.TheVariants as send
use Rattle.taps_socket.specs.Calls.{Call, sends}
use Rattle.taps_connection.specs.Encodings.{Encoding}
use Rattle.taps_connection.specs.Outboxes.{Stand, begun, ending, refused, all_out, Outbox, after_calls}

-- the message before these is begun, or its stream is to be ended
abbrev pub IsOfMessage : List Accepted → Stand → Type 0
IsOfMessage behind (begun number ends rest tail) = tail ≡ behind
IsOfMessage behind (ending tail) = tail ≡ behind
IsOfMessage behind (refused number layer tail) = ⊥
IsOfMessage behind all_out = ⊥

-- so it is before each of these calls
abbrev pub AllOfMessage : Encoding → List Accepted → Outbox → List Call → Type 0
AllOfMessage e behind box [] = Unit {0}
AllOfMessage e behind box (call ∷ earlier) =
    IsOfMessage behind (after_calls e box earlier).stand × AllOfMessage e behind box earlier

-- a send that takes bytes takes at least one
abbrev pub TakesSome : Call → Type 0
TakesSome (sends socket bytes until (send.Sent count at)) = 1 ≤ count
TakesSome _ = Unit {0}

abbrev pub AllTakeSome : List Call → Type 0
AllTakeSome [] = Unit {0}
AllTakeSome (call ∷ earlier) = TakesSome call × AllTakeSome earlier
