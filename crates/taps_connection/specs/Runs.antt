-- Calls that a connection makes one by one as its outbox asks for them. A list of calls stands with its newest one
-- first.
use Rattle.std.specs.Prelude.{◌≡◌, ℕ, Bool, true, false, List, [], ◌∷◌, Some}
use Rattle.taps_socket.specs.declared.answers.SendAnswer.TheVariants as send
use Rattle.taps_socket.specs.declared.answers.RecvAnswer.TheVariants as recv
use Rattle.taps_socket.specs.Calls.{Call, sends, receives, request_of}
use Rattle.taps_connection.specs.Encodings.{Encoding}
use Rattle.taps_connection.specs.Outboxes.{Outbox, after_calls, asks_out}

-- each call is what the outbox asks then
abbrev pub AllAsked : Encoding → ℕ → ℕ → Outbox → List Call → Type 0
AllAsked e socket until box [] = Unit {0}
AllAsked e socket until box (call ∷ earlier) =
    (asks_out socket until (after_calls e box earlier).stand ≡ Some (request_of call)) ×
    AllAsked e socket until box earlier

-- these calls lead from one outbox to another
pub record IsRun (e : Encoding) (socket until : ℕ) (before : Outbox) (calls : List Call) (after : Outbox) : Type 0 where
  pub asked : AllAsked e socket until before calls
  pub reaches : after_calls e before calls ≡ after

-- the call was timed, or failed
abbrev pub is_stopped : Call → Bool
is_stopped (sends socket bytes until (send.Timed at)) = true
is_stopped (sends socket bytes until (send.Failed cause)) = true
is_stopped (receives socket most until came (recv.Timed at)) = true
is_stopped (receives socket most until came (recv.Failed cause)) = true
is_stopped _ = false

-- none of the calls was
abbrev pub AllGo : List Call → Type 0
AllGo [] = Unit {0}
AllGo (call ∷ earlier) = (is_stopped call ≡ false) × AllGo earlier

-- the newest call is this one, and none before it was timed or failed
pub record EndsWith (calls : List Call) (call : Call) : Type 0 where
  pub earlier : List Call
  pub newest : calls ≡ call ∷ earlier
  pub others_go : AllGo earlier
