-- How connections are accepted and served one after the other.
use Rattle.std.specs.Prelude.{◌≡◌, ◌≤◌, ℕ, ◌+◌, Bool, true, false, List, [], ◌∷◌, ◌++◌, length, Some, Result, Ok, Err}
use Rattle.taps_base.specs.declared.no_memory.NoMemory.{NoMemory}
use Rattle.taps_socket.specs.declared.item.Item.{Item}
use Rattle.taps_socket.specs.Calls.{Call}
use Rattle.taps_socket.specs.LiveSockets.{named}
use Rattle.taps_socket.specs.Net.{Net}
use Rattle.taps_socket.specs.RaceSockets.{has}
use Rattle.taps_socket.specs.Sides.{carries_stream, may_accept}
use Rattle.taps_exchange.specs.declared.exchanged.Exchanged.{Exchanged}
use Rattle.taps_exchange.specs.declared.outcome.Outcome.{Outcome}
use Rattle.taps_exchange.specs.declared.outcome.Outcome.TheVariants as outcome
use Rattle.taps_listening.specs.declared.listened.ListenEnd.{ListenEnd}
use Rattle.taps_listening.specs.declared.serving.Next.{Next}
use Rattle.taps_listening.specs.declared.serving.Next.TheVariants as next
use Rattle.taps_listening.specs.AnsweredStates.{AnsweredState}
use Rattle.taps_listening.specs.ListenRules.{ListenRules}
use Rattle.taps_listening.specs.Serving.{Served, answered_by, own_outcome}
use Rattle.taps_listening.specs.Listening.{Phase, accepting, stopping, Course, course_at, course_from, next_phase, phase_behind, listener_in, connection_in, closes_if, answered_all, AllInTurn, Goes}

-- behind a connection with this outcome the session goes on
abbrev pub is_done : Outcome → Bool
is_done outcome.Done = true
is_done (outcome.Expired place number) = true
is_done _ = false

-- A connection was served and closed: its exchange had this outcome, so many messages were sent, and these were heard.
pub record IsServedNext {N : Type 0} (Becomes : N → List Call → N → Type 0) (r : ListenRules) (before after : N)
    (listener : ℕ) (k : Course) (served : List Served) (o : Outcome) (sent : ℕ) (heard : List (List ℕ)) : Type 0 where
  pub out : Served
  pub goes : Goes Becomes r before after k (course_at (out ∷ served) (phase_behind r listener (out ∷ served) o))
  pub told : answered_by r out ≡ record { sent = sent; heard = heard }
  pub own : is_done o ≡ true → own_outcome r (length served) out ≡ o

-- Memory ran out: of the open sockets all but the listener were closed.
pub record IsCutBut {N : Type 0} (Becomes : N → List Call → N → Type 0) (r : ListenRules) (before after : N)
    (listener : ℕ) (k : Course) : Type 0 where
  pub calls : List Call
  pub course : Course
  pub in_turn : AllInTurn r k calls
  pub reaches : course_from r k calls ≡ course
  pub listens : listener_in course.phase ≡ Some listener
  pub becomes : Becomes before (closes_if (connection_in course.phase) ++ calls) after

abbrev pub HasServedOne : {N : Type 0} → (N → List Call → N → Type 0) → ListenRules → N → N → ℕ → Course →
    List Served → Result Exchanged NoMemory → Type 0
HasServedOne Becomes r before after listener k served (Ok e) =
    IsServedNext Becomes r before after listener k served e.outcome e.sent e.heard.items
HasServedOne Becomes r before after listener k served (Err none) = IsCutBut Becomes r before after listener k

-- before an accept: the first is made at a time, and before another the time is asked
abbrev pub phase_before : ListenRules → ℕ → ℕ → List Served → Phase
phase_before r listener first [] = accepting listener first
phase_before r listener first (c ∷ served) = next_phase r listener (c ∷ served)

-- an accept was made: a connection was served and closed, or the session has ended so, or memory ran out
abbrev pub HasNext : {N : Type 0} → (N → List Call → N → Type 0) → ListenRules → N → N → ℕ → ℕ →
    List Served → Result Next NoMemory → Type 0
HasNext Becomes r before after listener first served (Ok (next.Served e)) =
    IsServedNext Becomes r before after listener (course_at served (phase_before r listener first served)) served
    e.outcome e.sent e.heard.items
HasNext Becomes r before after listener first served (Ok (next.Over end)) =
    Goes Becomes r before after (course_at served (phase_before r listener first served))
    (course_at served (stopping listener end))
HasNext Becomes r before after listener first served (Err none) =
    IsCutBut Becomes r before after listener (course_at served (phase_before r listener first served))

-- all connections were accepted, or the session has ended so; what each of them sent and heard
pub record IsAcceptedAll {N : Type 0} (Becomes : N → List Call → N → Type 0) (r : ListenRules) (before after : N)
    (listener first : ℕ) (end : ListenEnd) (members : List AnsweredState) : Type 0 where
  pub served : List Served
  pub goes : Goes Becomes r before after (course_at [] (accepting listener first))
      (course_at served (stopping listener end))
  pub told : answered_all r served ≡ members

abbrev pub HasAcceptedAll : {N : Type 0} → (N → List Call → N → Type 0) → ListenRules → N → N → ℕ → ℕ →
    Result ListenEnd NoMemory → List AnsweredState → Type 0
HasAcceptedAll Becomes r before after listener first (Ok end) members =
    IsAcceptedAll Becomes r before after listener first end members
HasAcceptedAll Becomes r before after listener first (Err none) members =
    IsCutBut Becomes r before after listener (course_at [] (accepting listener first))

-- a socket listens, for streams
pub record IsListening (trace : List Item) (listener : ℕ) : Type 0 where
  pub may : may_accept trace listener ≡ true
  pub carries : carries_stream trace listener ≡ true
  pub is_named : has (named trace) listener ≡ true

-- sockets that were named before have the traffic that they had
abbrev pub PreservesNamed : Net → Net → Type 0
PreservesNamed before after = (s : ℕ) → has (named before.trace) s ≡ true → after.traffic s ≡ before.traffic s

-- What accepts and the calls of connections change: at most so many items were added; and the listener listens on.
pub record KeepsListening (listener most : ℕ) (before after : Net) : Type 0 where
  pub spare : before.spare ≤ after.spare + most
  pub grows : (s : ℕ) → has (named before.trace) s ≡ true → has (named after.trace) s ≡ true
  pub listening : IsListening before.trace listener → IsListening after.trace listener
