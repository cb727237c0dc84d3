-- What a listener's calls make of the sockets, and what they answer.
use Rattle.std.specs.Prelude.{◌≡◌, ℕ, ◌+◌, ◌<◌, ◌≤◌, List, [], ◌∷◌, Result, Ok, Err}
use Rattle.taps_stack.specs.declared.target.Target.{Target}
use Rattle.taps_socket.specs.declared.cause.Cause.{Cause}
use Rattle.taps_socket.specs.declared.item.Item.TheVariants as item
use Rattle.taps_socket.specs.declared.answers.ListenAnswer.TheVariants as listen
use Rattle.taps_socket.specs.declared.answers.AcceptAnswer.{AcceptAnswer}
use Rattle.taps_socket.specs.declared.answers.AcceptAnswer.TheVariants as accept
use Rattle.taps_socket.specs.Calls.{Call, listens, accepts, closes, accepted_at}
use Rattle.taps_socket.specs.Net.{Net, with_item, with_faults, after_accept, IsNextMoment, IsAcceptAnswer, IsGiven}
use Rattle.taps_connection.specs.declared.listener.ListenerAnswer.{ListenerAnswer}
use Rattle.taps_connection.specs.declared.listener.ListenerAnswer.TheVariants as answer
use Rattle.taps_connection.specs.declared.listener.Listener.{Listener}

-- the listen gave a socket, which has no traffic, and no connection was taken
pub record IsListening {N : Type 0} (Becomes : N → List Call → N → Type 0) (before after : N) (net net' : Net)
    (target : Target) (limit : ℕ) (l : Listener) : Type 0 where
  pub at : ℕ
  pub moment : IsNextMoment net at
  pub given : IsGiven l.socket net
  pub kept : l ≡ record { socket = l.socket; limit = limit; accepted = 0 }
  pub becomes : Becomes before (listens target (listen.Listening l.socket at) ∷ []) after
  pub changed : net' ≡ with_item net (item.Listening target l.socket at) at

-- or it was refused
pub record IsRefused {N : Type 0} (Becomes : N → List Call → N → Type 0) (before after : N) (net net' : Net)
    (target : Target) (cause : Cause) : Type 0 where
  pub at : ℕ
  pub moment : IsNextMoment net at
  pub becomes : Becomes before (listens target (listen.Refused cause at) ∷ []) after
  pub changed : net' ≡ with_item net (item.NotListening target cause at) at

abbrev pub HasListened : {N : Type 0} → (N → List Call → N → Type 0) → N → N → Net → Net → Target → ℕ →
    Result Listener Cause → Type 0
HasListened Becomes before after net net' target limit (Ok l) =
    IsListening Becomes before after net net' target limit l
HasListened Becomes before after net net' target limit (Err cause) =
    IsRefused Becomes before after net net' target cause

-- one accept was made, with this answer; fewer connections than the limit were taken before
pub record HasAsked {N : Type 0} (Becomes : N → List Call → N → Type 0) (before after : N) (net net' : Net)
    (until : ℕ) (l : Listener) (a : AcceptAnswer) : Type 0 where
  pub fewer : l.accepted < l.limit
  pub becomes : Becomes before (accepts l.socket until a ∷ []) after
  pub changed : net' ≡ with_faults (after_accept l.socket until a net) net'.faults
  pub moment : IsNextMoment net (accepted_at a)
  pub answered : IsAcceptAnswer a until net net'
  pub faults : net.faults ≤ net'.faults

-- what came of it, and what is kept: where as many connections as the limit were taken, no call was made
abbrev pub HasAccepted : {N : Type 0} → (N → List Call → N → Type 0) → N → N → Net → Net → ℕ → Listener →
    ListenerAnswer → Listener → Type 0
HasAccepted Becomes before after net net' until l (answer.Accepted socket at) l' =
    HasAsked Becomes before after net net' until l (accept.Accepted socket at) ×
    (l' ≡ record l { accepted = l.accepted + 1 })
HasAccepted Becomes before after net net' until l (answer.Timed at) l' =
    HasAsked Becomes before after net net' until l (accept.Timed at) × (l' ≡ l)
HasAccepted Becomes before after net net' until l answer.Faulted l' =
    ((at : ℕ) × HasAsked Becomes before after net net' until l (accept.Faulted at)) × (l' ≡ l)
HasAccepted Becomes before after net net' until l (answer.LimitReached limit) l' =
    (l.accepted ≡ l.limit) × (limit ≡ l.limit) × Becomes before [] after × (net' ≡ net) × (l' ≡ l)

-- its socket was closed
pub record HasStopped {N : Type 0} (Becomes : N → List Call → N → Type 0) (before after : N) (net net' : Net)
    (socket : ℕ) : Type 0 where
  pub becomes : Becomes before (closes socket ∷ []) after
  pub changed : net' ≡ with_item net (item.Closed socket) net.told
