-- What is kept of sockets of the system beside the items.
use Rattle.std.specs.Prelude.{◌≡◌, ◌<◌, ◌≤◌, ◌+◌, ◌-◌, ◌^◌, ◌==◌, ◌++◌, ◌∷◌, ℕ, Bool, true, not, filter, List, [], length, slice_get, Option, Some, None}
use Rattle.taps_base.specs.Counts.{one_more}
use Rattle.taps_socket.specs.declared.item.How.{How}
use Rattle.taps_socket.specs.declared.item.How.TheVariants.{Reached, Completed, Broke, Faulted}
use Rattle.taps_socket.specs.declared.item.Item.{Item}
use Rattle.taps_socket.specs.declared.item.Item.TheVariants as item
use Rattle.taps_socket.specs.RaceSockets.{has, pending_sockets}
use Rattle.taps_socket.specs.LiveSockets.{given, named}
use Rattle.taps_socket.specs.Sides.{carries_stream}
use Rattle.taps_socket.specs.Net.{Net}
use Rattle.taps_real.specs.declared.channel.Channel.{Channel}
use Rattle.taps_socket.specs.declared.answers.WaitAnswer.{WaitAnswer}
use Rattle.taps_socket.specs.declared.timed_call.TimedCall.{TimedCall}
use Rattle.taps_real.specs.Channels.{fresh, traffic_at}

-- the count of faults after a wait that ended so
abbrev pub count_after : How → ℕ → ℕ
count_after Faulted faults = one_more faults
count_after _ faults = faults

-- the items so far, newest first; the last reported time; the spare items; the count of faults; the channel of each
-- socket; and the timed calls
pub record Table : Type 0 where
  pub trace : List Item
  pub told : ℕ
  pub spare : ℕ
  pub faults : ℕ
  pub channels : List Channel
  pub timed : ℕ
  pub last_timed : Option TimedCall

-- what is seen of them as of all sockets
abbrev pub net_of : Table → Net
net_of t =
    record {
      trace = t.trace;
      told = t.told;
      spare = t.spare;
      faults = t.faults;
      traffic = traffic_at t.channels;
      timed = t.timed;
      last_timed = t.last_timed;
    }

-- before the first call
abbrev pub none_given : Table
none_given = record { trace = []; told = 0; spare = 0; faults = 0; channels = []; timed = 0; last_timed = None }

-- with one item more, told at a time; with room for so many items; with one socket more, which carries a stream or
-- not; and with one timed call more
abbrev pub after_item : Table → Item → ℕ → Table
after_item t i at = record t { trace = i ∷ t.trace; told = at; spare = t.spare - 1 }

abbrev pub after_reserve : Table → ℕ → Table
after_reserve t spare = record t { spare = spare }

abbrev pub with_socket : Table → Bool → Table
with_socket t stream = record t { channels = t.channels ++ fresh stream ∷ [] }

abbrev pub after_timed : Table → TimedCall → Table
after_timed t call = record t { told = call.at; timed = one_more t.timed; last_timed = Some call }

-- after a wait
abbrev pub after_wait : Table → ℕ → WaitAnswer → Table
after_wait t until answer =
    record (after_item t (item.Waited until answer.at answer.how) answer.at) {
      faults = count_after answer.how t.faults;
    }

-- after an accept that was faulted
abbrev pub after_fault : Table → ℕ → Table
after_fault t at = record (after_item t (item.Faulted at) at) { faults = one_more t.faults }

-- after bytes came at a time
abbrev pub after_got : Table → ℕ → Table
after_got t at = record t { told = at }

-- so many sockets were given, no other is named, the pending ones are those of the items, and the last reported time
-- fits
pub record IsKept (trace : List Item) (told count : ℕ) (pending : List ℕ) : Type 0 where
  pub fits : told < 2 ^ 63
  pub given_are : count ≡ length (given trace)
  pub pending_are : pending ≡ pending_sockets trace
  pub named_below : (s : ℕ) → has (named trace) s ≡ true → s < count

-- there is a channel for each of so many sockets, and it carries what the socket carries
pub record AreChannels (trace : List Item) (count : ℕ) (channels : List Channel) : Type 0 where
  pub count_is : count ≡ length channels
  pub streams : (s : ℕ) (c : Channel) → slice_get channels s ≡ Some c → c.stream ≡ carries_stream trace s

-- there is room for so many more
pub record HasRoom (spare len capacity : ℕ) : Type 0 where
  pub room : len + spare ≤ capacity

-- as many stand there, and there is room for as many
pub record IsAsRoomy (len capacity len' capacity' : ℕ) : Type 0 where
  pub same_len : len' ≡ len
  pub same_capacity : capacity' ≡ capacity

-- an item that gives no socket, names no new one, and is of no wait and no close
abbrev pub IsQuiet : Item → List Item → Type 0
IsQuiet (item.Began at) trace = Unit {0}
IsQuiet (item.Refused leaf target cause at) trace = Unit {0}
IsQuiet (item.NotListening target cause at) trace = Unit {0}
IsQuiet (item.Faulted at) trace = Unit {0}
IsQuiet (item.Shut socket) trace = has (named trace) socket ≡ true
IsQuiet (item.Ended socket) trace = has (named trace) socket ≡ true
IsQuiet (item.DataFailed socket sending cause) trace = has (named trace) socket ≡ true
IsQuiet _ trace = ⊥

-- the pending sockets after such a wait: that of which it told is gone
abbrev pub without_told : How → List ℕ → List ℕ
without_told (Completed socket) pending = filter (λ s. not (socket == s)) pending
without_told (Broke socket cause) pending = filter (λ s. not (socket == s)) pending
without_told _ pending = pending
