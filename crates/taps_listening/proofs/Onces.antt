-- Lawful calls close no socket twice.
use Rattle.std.proofs.Common.{◌≡◌, ℕ, Bool, true, false, not, List, [], ◌∷◌, ◌++◌, refl}
use Rattle.taps_socket.specs.declared.answers.StartAnswer.TheVariants as start
use Rattle.taps_socket.specs.declared.answers.ListenAnswer.TheVariants as listen
use Rattle.taps_socket.specs.declared.answers.AcceptAnswer.TheVariants as accept
use Rattle.taps_socket.specs.declared.answers.SendAnswer.TheVariants as send
use Rattle.taps_socket.specs.declared.answers.RecvAnswer.TheVariants as recv
use Rattle.taps_socket.specs.declared.item.Item.{Item}
use Rattle.taps_socket.specs.Calls.{Call, sends, receives, shuts, closes, begins, starts, waits, listens, accepts, items_of}
use Rattle.taps_socket.specs.LiveSockets.{given}
use Rattle.taps_socket.specs.Once.{IsOnce}
use Rattle.taps_socket.specs.RaceSockets.{has, closed}
use Rattle.taps_socket.specs.Shows.{AreLawful}
use Rattle.taps_socket.proofs.Lists.{kept}

not_of : (b : Bool) → not b ≡ true → b ≡ false
not_of true h = cc
not_of false h = refl

pub once_after : (t : List Item) (told : ℕ) (calls : List Call) → AreLawful t told calls → IsOnce (closed t) → IsOnce (closed (items_of calls ++ t))
once_after t told [] a h = h
once_after t told (closes s ∷ calls) a h =
    (not_of (has (closed (items_of calls ++ t)) s) (kept (λ x. not (has (closed (items_of calls ++ t)) x)) (given (items_of calls ++ t)) s a.0).0, once_after t told calls a.1 h)
once_after t told (begins at ∷ calls) a h = once_after t told calls a.1 h
once_after t told (starts l g (start.Started s at) ∷ calls) a h = once_after t told calls a.1 h
once_after t told (starts l g (start.Refused cause at) ∷ calls) a h = once_after t told calls a.1 h
once_after t told (waits u x ∷ calls) a h = once_after t told calls a.1 h
once_after t told (listens g (listen.Listening s at) ∷ calls) a h = once_after t told calls a.1 h
once_after t told (listens g (listen.Refused cause at) ∷ calls) a h = once_after t told calls a.1 h
once_after t told (accepts l u (accept.Accepted s at) ∷ calls) a h = once_after t told calls a.1 h
once_after t told (accepts l u (accept.Timed at) ∷ calls) a h = once_after t told calls a.1 h
once_after t told (accepts l u (accept.Faulted at) ∷ calls) a h = once_after t told calls a.1 h
once_after t told (sends s b u (send.Sent count at) ∷ calls) a h = once_after t told calls a.1 h
once_after t told (sends s b u (send.Timed at) ∷ calls) a h = once_after t told calls a.1 h
once_after t told (sends s b u (send.Failed cause) ∷ calls) a h = once_after t told calls a.1 h
once_after t told (shuts s ∷ calls) a h = once_after t told calls a.1 h
once_after t told (receives s most u came (recv.Got count at) ∷ calls) a h = once_after t told calls a.1 h
once_after t told (receives s most u came recv.End ∷ calls) a h = once_after t told calls a.1 h
once_after t told (receives s most u came (recv.Timed at) ∷ calls) a h = once_after t told calls a.1 h
once_after t told (receives s most u came (recv.Failed cause) ∷ calls) a h = once_after t told calls a.1 h
