-- What a race leaves to a session, and what follows it.
use Rattle.std.specs.Prelude.{◌≡◌, ◌<◌, ◌≤◌, ◌+◌, ◌*◌, ℕ, true, false, List, [], ◌∷◌, ◌++◌, length, slice_get, Option, Some, None, Result, Ok, Err, IfOk}
use Rattle.taps_base.specs.Counts.{Rose}
use Rattle.taps_base.specs.declared.no_memory.NoMemory.{NoMemory}
use Rattle.taps_framer.specs.Layers.{Layer}
use Rattle.taps_stack.specs.StackTable.{is_stream}
use Rattle.taps_stack.specs.declared.target.Target.{Target}
use Rattle.taps_socket.specs.declared.item.Item.{Item}
use Rattle.taps_socket.specs.declared.item.Item.TheVariants as item
use Rattle.taps_socket.specs.declared.race_answer.RaceAnswer.{RaceAnswer}
use Rattle.taps_socket.specs.declared.race_answer.RaceAnswer.TheVariants as answers
use Rattle.taps_socket.specs.Calls.{Call}
use Rattle.taps_socket.specs.LiveSockets.{live_sockets}
use Rattle.taps_socket.specs.RaceSockets.{has, pending_sockets}
use Rattle.taps_socket.specs.RaceTrace.{last_moment}
use Rattle.taps_socket.specs.Rules.{Rules}
use Rattle.taps_socket.specs.LawfulRace.{IsLawfulRace}
use Rattle.taps_socket.specs.Net.{Net, IsUnused, PreservesTraffic}
use Rattle.taps_connection.specs.Conditions.{IsHeld as IsHeldSocket}
use Rattle.taps_exchange.specs.Exchanged.{IsExchanged, IsCutShort}
use Rattle.taps_exchange.specs.Members.{Member}
use Rattle.taps_exchange.specs.declared.exchanged.Exchanged.{Exchanged}
use Rattle.taps_command.specs.Nets.{SocketsState, IsClosedOnce}
use Rattle.taps_command.specs.Ready.{Ready}
use Rattle.taps_session.specs.Session.{members_by, outcome_by}
use Rattle.taps_session.specs.SessionLogs.{members_told, IsSeen, LeavesSession}
use Rattle.taps_session.specs.Sessions.{Course, calls_of, member_at, stack_of, IsSessionOf}
use Rattle.taps_session.specs.declared.holding.Ended.{Ended}

-- the winner is one of the leaves, its socket is live, and an exchange may begin on it
pub record IsWon (targets : List Target) (trace : List Item) (leaf socket : ℕ) : Type 0 where
  pub listed : leaf < length targets
  pub live : has (live_sockets trace) socket ≡ true
  pub held : IsHeldSocket trace socket (is_stream (stack_of (slice_get targets leaf))) false false

-- so it is, if there is a winner
abbrev pub HasWinner : List Target → List Item → RaceAnswer → Type 0
HasWinner targets trace (answers.Ready leaf socket at) = IsWon targets trace leaf socket
HasWinner targets trace _ = Unit {0}

-- there is no traffic on the winner's socket, if there is a winner
abbrev pub HasUnusedWinner : Net → RaceAnswer → Type 0
HasUnusedWinner net (answers.Ready leaf socket at) = IsUnused (net.traffic socket)
HasUnusedWinner net _ = Unit {0}

-- the item of the close of the winner's socket, if there is a winner
abbrev pub closes_of : RaceAnswer → List Item
closes_of (answers.Ready leaf socket at) = item.Closed socket ∷ []
closes_of _ = []

-- the whole trace is a lawful race with this answer, its last time was reported last, there is room for an exchange and
-- the close of the winner, on whose socket there is no traffic, and with that close every socket is closed once; no
-- socket is pending, and each leaf used room for four items at most
pub record IsRaced (rules : Rules) (targets : List Target) (before after : Net) (answer : RaceAnswer) : Type 0 where
  pub lawful : IsLawfulRace rules 0 targets after.trace answer
  pub winner : HasWinner targets after.trace answer
  pub unused : HasUnusedWinner after answer
  pub told_last : after.told ≡ last_moment after.trace
  pub closed_once : IsClosedOnce (closes_of answer ++ after.trace)
  pub room : 3 ≤ after.spare
  pub used : before.spare ≤ after.spare + (4 * length targets + 1)
  pub idle : pending_sockets after.trace ≡ []
  pub preserved : PreservesTraffic before after
  pub fault : answer ≡ answers.SocketFault → Rose before.faults after.faults

-- an exchange of the member was carried out, or memory cut it short
abbrev pub WithWinner : {N : Type 0} → (N → List Call → N → Type 0) → N → N → Net → Net → Member →
    Result (Option Exchanged) NoMemory → Type 0
WithWinner Becomes before after net net' m (Ok (Some e)) =
    IsExchanged Becomes before after net net' m e.outcome e.sent e.heard.items
WithWinner Becomes before after net net' m (Ok None) = ⊥
WithWinner Becomes before after net net' m (Err none) = IsCutShort Becomes before after net net' m

-- there was none, and no call was made
abbrev pub WithoutWinner : {N : Type 0} → (N → List Call → N → Type 0) → N → N → Net → Net →
    Result (Option Exchanged) NoMemory → Type 0
WithoutWinner Becomes before after net net' (Ok (Some e)) = ⊥
WithoutWinner Becomes before after net net' (Ok None) = Becomes before [] after × (net' ≡ net)
WithoutWinner Becomes before after net net' (Err none) = ⊥

-- what follows a race with this answer, from a time on
abbrev pub GoesOn : {N : Type 0} → (N → List Call → N → Type 0) → N → N → Net → Net →
    List Layer → Ready → List Target → ℕ → RaceAnswer → Result (Option Exchanged) NoMemory → Type 0
GoesOn Becomes before after net net' shelf ready targets at (answers.Ready leaf socket won) result =
    WithWinner Becomes before after net net'
    (member_at shelf ready 0 (stack_of (slice_get targets leaf)) socket at) result
GoesOn Becomes before after net net' shelf ready targets at answers.NoCandidate result =
    WithoutWinner Becomes before after net net' result
GoesOn Becomes before after net net' shelf ready targets at answers.AllFailed result =
    WithoutWinner Becomes before after net net' result
GoesOn Becomes before after net net' shelf ready targets at answers.Timeout result =
    WithoutWinner Becomes before after net net' result
GoesOn Becomes before after net net' shelf ready targets at answers.Closed result =
    WithoutWinner Becomes before after net net' result
GoesOn Becomes before after net net' shelf ready targets at answers.SocketFault result =
    WithoutWinner Becomes before after net net' result

-- a session ran: so many items are its race's, with this answer, and of its exchange, if there was one, this is known
pub record IsEnded (shelf : List Layer) (ready : Ready) (e : Ended) (old new : SocketsState) : Type 0 where
  pub course : Course
  pub calls : new.calls ≡ calls_of course
  pub session : IsSessionOf shelf ready course
  pub seen : IsSeen shelf ready course old.net new.net
  pub raced : e.raced ≡ length course.race
  pub answer : e.answer ≡ course.answer
  pub members : members_by e.exchanged ≡ members_told shelf ready course
  pub outcome : outcome_by e.exchanged ≡ course.outcome

-- a session ran, or memory ran out; and what the sockets are then
pub record EndsSession (shelf : List Layer) (ready : Ready) (result : Result Ended NoMemory)
    (old new : SocketsState) : Type 0 where
  pub ended : IfOk result (λ e. IsEnded shelf ready e old new)
  pub leaves : LeavesSession shelf ready old new
  pub closed_once : IsClosedOnce new.net.trace
