-- What contracts see of scripted sockets, and what is kept beside it.
use Rattle.std.specs.Prelude.{◌≡◌, ◌<◌, ◌≤◌, ◌+◌, ◌-◌, ◌^◌, ℕ, Bool, true, false, not, filter, List, [], ◌∷◌, ◌++◌, length, take, slice_get, slice_set, Option, None, Some}
use Rattle.taps_base.specs.Counts.{one_more}
use Rattle.taps_socket.specs.declared.item.How.{How}
use Rattle.taps_socket.specs.declared.item.How.TheVariants.{Completed, Broke, Faulted}
use Rattle.taps_socket.specs.declared.item.Item.{Item}
use Rattle.taps_socket.specs.declared.item.Item.TheVariants as item
use Rattle.taps_stack.specs.declared.target.Target.{Target}
use Rattle.taps_stack.specs.StackTable.{is_stream}
use Rattle.taps_socket.specs.declared.timed_call.TimedCall.{TimedCall}
use Rattle.taps_socket.specs.declared.answers.StartAnswer.{StartAnswer}
use Rattle.taps_socket.specs.declared.answers.StartAnswer.TheVariants.{Started, Refused}
use Rattle.taps_socket.specs.declared.answers.WaitAnswer.{WaitAnswer}
use Rattle.taps_socket.specs.declared.answers.SendAnswer.{SendAnswer}
use Rattle.taps_socket.specs.declared.answers.SendAnswer.TheVariants as send
use Rattle.taps_socket.specs.declared.answers.RecvAnswer.{RecvAnswer}
use Rattle.taps_socket.specs.declared.answers.RecvAnswer.TheVariants as recv
use Rattle.taps_socket.specs.declared.timed_call.TimedKind.TheVariants as kind
use Rattle.taps_script.specs.declared.sending.SendStep.{SendStep}
use Rattle.taps_socket.specs.RaceSockets as sockets
use Rattle.taps_socket.specs.RaceSockets.{has}
use Rattle.taps_socket.specs.LiveSockets.{named}
use Rattle.taps_socket.specs.Sides.{carries_stream}
use Rattle.taps_socket.specs.Calls.{Call, items_of}
use Rattle.taps_socket.specs.Net.{Net, IsCount, with_piece}
use Rattle.taps_socket.specs.Shows.{Shows, written_after, read_after}
use Rattle.taps_script.specs.declared.line.Line.{Line}
use Rattle.taps_script.specs.ScriptLines.{begin_of, fate_under}
use Rattle.taps_script.specs.ScriptAnswers as answers
use Rattle.taps_script.specs.DataAnswers.{Link}
use Rattle.taps_script.specs.Channels.{Channel, fresh, traffic_at, IsWithin}
use Rattle.taps_script.specs.ScriptSteps.{link_by, clock_after, Follows}

-- the lines of the script; the clock; the items so far, newest first; the last reported time; the spare items; the
-- count of faults; the channel of each started socket; and the timed calls
pub record Scripted : Type 0 where
  pub lines : List Line
  pub clock : ℕ
  pub trace : List Item
  pub told : ℕ
  pub spare : ℕ
  pub faults : ℕ
  pub channels : List Channel
  pub timed : ℕ
  pub last_timed : Option TimedCall

-- what is seen of them as of all sockets
abbrev pub net_of : Scripted → Net
net_of s =
    record {
      trace = s.trace;
      told = s.told;
      spare = s.spare;
      faults = s.faults;
      traffic = traffic_at s.lines s.channels;
      timed = s.timed;
      last_timed = s.last_timed;
    }

-- before the first call
abbrev pub at_first : List Line → Scripted
at_first lines =
    record {
      lines = lines;
      clock = begin_of lines;
      trace = [];
      told = 0;
      spare = 0;
      faults = 0;
      channels = [];
      timed = 0;
      last_timed = None;
    }

-- the sockets with one item more that comes of no wait, told at a time, at this time of the clock
abbrev pub after_quiet : Scripted → Item → ℕ → ℕ → Scripted
after_quiet s i clock told = record s { clock = clock; trace = i ∷ s.trace; told = told; spare = s.spare - 1 }

-- and with one socket more
abbrev pub after_start : Scripted → ℕ → Target → ℕ → ℕ → Scripted
after_start s leaf target socket at =
    record s {
      trace = item.Started leaf target socket at ∷ s.trace;
      told = at;
      spare = s.spare - 1;
      channels = s.channels ++ fresh (is_stream target.stack)
          (answers.time_in (answers.to_come (fate_under leaf s.lines) socket at)) ∷ [];
    }

-- the sockets after a timed call
abbrev pub after_timed : Scripted → TimedCall → Scripted
after_timed s call = record s { clock = call.at; told = call.at; timed = one_more s.timed; last_timed = Some call }

-- the channel of a socket after bytes were taken at a time, and after so much was read
abbrev pub sent_in : Channel → List ℕ → ℕ → Channel
sent_in c bytes at =
    record c { room = c.room - length bytes; last_sent = Some at; written = with_piece c.stream bytes c.written }

-- a channel of which so much more was read
abbrev pub read_in : Channel → ℕ → Channel
read_in c count = record c { read = c.read + count }

-- so many bytes may be sent
pub record IsSendable (c : Channel) (count : ℕ) : Type 0 where
  pub room : count ≤ c.room
  pub some : 1 ≤ count
  pub datagram : c.stream ≡ false → count ≤ 65507

-- so much more may be read
pub record IsReadable (lines : List Line) (c : Channel) (count : ℕ) : Type 0 where
  pub within : IsWithin lines (read_in c count)
  pub fits : c.read + count < 2 ^ 64

-- the sockets with another channel of a socket, at this time
abbrev pub with_channel : Scripted → ℕ → Channel → Scripted
with_channel s socket c = record s { channels = slice_set s.channels socket c }

-- the clock stands at this time, which was reported
abbrev pub at_time : Scripted → ℕ → Scripted
at_time s at = record s { clock = at; told = at }

-- a send of so many bytes up to a time came to this, behind a last reported time
abbrev pub IsSendAnswerAt : SendAnswer → ℕ → Bool → ℕ → ℕ → Type 0
IsSendAnswerAt (send.Sent count at) clock stream n until = IsCount count n × (stream ≡ false → count ≡ n) × (at ≡ clock)
IsSendAnswerAt (send.Timed at) clock stream n until = (until ≤ at) × (at ≡ clock)
IsSendAnswerAt (send.Failed cause) clock stream n until = Unit {0}

-- a send comes not before the last reported time and in time, and its answer is one that a send may have
pub record IsSendStep (step : SendStep) (stream : Bool) (n until told : ℕ) : Type 0 where
  pub later : told ≤ step.clock
  pub fits : step.clock < 2 ^ 63
  pub answer : IsSendAnswerAt step.answer step.clock stream n until

-- a receive up to a time came to this
abbrev pub IsReceiveAnswerAt : RecvAnswer → ℕ → ℕ → Type 0
IsReceiveAnswerAt (recv.Got count at) clock until = at ≡ clock
IsReceiveAnswerAt recv.End clock until = Unit {0}
IsReceiveAnswerAt (recv.Timed at) clock until = (until ≤ at) × (at ≡ clock)
IsReceiveAnswerAt (recv.Failed cause) clock until = Unit {0}

-- a receive comes not before the last reported time and in time, and its answer is one that it may have
pub record IsReceiveStep (answer : RecvAnswer) (clock until told : ℕ) : Type 0 where
  pub later : told ≤ clock
  pub fits : clock < 2 ^ 63
  pub may : IsReceiveAnswerAt answer clock until

-- how much is read by so many bytes: each over a stream, else a datagram
abbrev pub read_count : Bool → ℕ → ℕ
read_count true count = count
read_count false count = 1

-- how much an answer reads: bytes of a stream, or a datagram
abbrev pub read_by : Bool → RecvAnswer → ℕ
read_by stream (recv.Got count at) = read_count stream count
read_by stream recv.End = 0
read_by stream (recv.Timed at) = 0
read_by stream (recv.Failed cause) = 0

-- the sockets after a send, with the channel of its socket before
abbrev pub after_send_by : Scripted → ℕ → Channel → List ℕ → ℕ → ℕ → SendAnswer → Scripted
after_send_by s socket c bytes until clock (send.Sent count at) =
    at_time (with_channel s socket (sent_in c (take count bytes) at)) at
after_send_by s socket c bytes until clock (send.Timed at) =
    after_timed s (record { kind = kind.Send; socket = socket; until = until; at = at })
after_send_by s socket c bytes until clock (send.Failed cause) =
    after_quiet s (item.DataFailed socket true cause) clock s.told

-- and after a receive
abbrev pub after_receive_by : Scripted → ℕ → Channel → ℕ → ℕ → RecvAnswer → Scripted
after_receive_by s socket c until clock (recv.Got count at) =
    at_time (with_channel s socket (read_in c (read_count c.stream count))) at
after_receive_by s socket c until clock recv.End = after_quiet s (item.Ended socket) clock s.told
after_receive_by s socket c until clock (recv.Timed at) =
    after_timed s (record { kind = kind.Recv; socket = socket; until = until; at = at })
after_receive_by s socket c until clock (recv.Failed cause) =
    after_quiet s (item.DataFailed socket false cause) clock s.told

-- the link of a socket by what is seen
abbrev pub link_at : Scripted → ℕ → Link
link_at s socket = link_by s.lines s.trace socket
    (traffic_at s.lines s.channels socket).written (traffic_at s.lines s.channels socket).read

-- the count of faults after a wait that ended so
abbrev pub count_after : How → ℕ → ℕ
count_after Faulted faults = one_more faults
count_after _ faults = faults

-- the sockets after a wait that ended so
abbrev pub after_wait : Scripted → ℕ → WaitAnswer → Scripted
after_wait s until answer =
    record s {
      clock = answer.at;
      trace = item.Waited until answer.at answer.how ∷ s.trace;
      told = answer.at;
      spare = s.spare - 1;
      faults = count_after answer.how s.faults;
    }

-- the events after such a wait: that of the socket of which it told is gone
abbrev pub without_told : How → List WaitAnswer → List WaitAnswer
without_told (Completed socket) events = filter (λ e. not (answers.is_of socket e)) events
without_told (Broke socket cause) events = filter (λ e. not (answers.is_of socket e)) events
without_told _ events = events

-- a socket that is given is not numbered past the last that may be
abbrev pub IsBelowLast : StartAnswer → Type 0
IsBelowLast (Started socket at) = socket < 2 ^ 32 - 1
IsBelowLast (Refused cause at) = Unit {0}

-- a channel is that of a socket
pub record IsChannelOf (lines : List Line) (trace : List Item) (s : ℕ) (c : Channel) : Type 0 where
  pub stream : c.stream ≡ carries_stream trace s
  pub done : c.done ≡ answers.done_of lines trace s
  pub fits : c.done < 2 ^ 63
  pub within : IsWithin lines c

-- there is a channel for each started socket
pub record AreChannels (lines : List Line) (trace : List Item) (started : ℕ) (channels : List Channel) : Type 0 where
  pub count : started ≡ length channels
  pub each : (s : ℕ) (c : Channel) → slice_get channels s ≡ Some c → IsChannelOf lines trace s c

-- the numbers of waits and of started sockets and the events are what the script's lines and the items tell, no time
-- was told past the clock, and no socket is named that was not started
pub record IsKept (lines : List Line) (trace : List Item)
    (now told waits started : ℕ) (events : List WaitAnswer) : Type 0 where
  pub fits : now < 2 ^ 63
  pub told_before : told ≤ now
  pub waits_are : waits ≡ answers.waits trace
  pub started_are : started ≡ length (sockets.started trace)
  pub events_are : events ≡ answers.events lines trace
  pub named_below : (s : ℕ) → has (named trace) s ≡ true → s < started

-- there is room for so many more
pub record HasRoom (spare len capacity : ℕ) : Type 0 where
  pub room : len + spare ≤ capacity

-- as many stand there, and there is room for as many
pub record IsAsRoomy (len capacity len' capacity' : ℕ) : Type 0 where
  pub same_len : len' ≡ len
  pub same_capacity : capacity' ≡ capacity

-- an item that starts no socket, tells no event and names no new socket, and is no wait
abbrev pub IsQuiet : Item → List Item → Type 0
IsQuiet (item.Began at) trace = Unit {0}
IsQuiet (item.Refused leaf target cause at) trace = Unit {0}
IsQuiet (item.NotListening target cause at) trace = Unit {0}
IsQuiet (item.Shut socket) trace = has (named trace) socket ≡ true
IsQuiet (item.Ended socket) trace = has (named trace) socket ≡ true
IsQuiet (item.DataFailed socket sending cause) trace = has (named trace) socket ≡ true
IsQuiet _ trace = ⊥

-- the sockets represent these calls: each was the script's answer, and the clock, the items and the pieces are those
-- that follow
pub record Represents (s : Scripted) (calls : List Call) : Type 0 where
  pub follows : Follows s.lines calls
  pub clock : s.clock ≡ clock_after s.lines calls
  pub trace : s.trace ≡ items_of calls
  pub written : (q : ℕ) → (traffic_at s.lines s.channels q).written ≡ written_after [] calls q (Some [])
  pub read : (q : ℕ) → (traffic_at s.lines s.channels q).read ≡ read_after [] calls q (Some [])

-- the script stays; the record shows the calls; and sockets that represented earlier calls represent these after them
pub record StaysScripted (before : Scripted) (calls : List Call) (after : Scripted) : Type 0 where
  pub lines : after.lines ≡ before.lines
  pub shows : Shows (net_of before) calls (net_of after)
  pub represents : (earlier : List Call) → Represents before earlier → Represents after (calls ++ earlier)

-- a named socket has a channel
pub record HasChannel (s : Scripted) (socket : ℕ) : Type 0 where
  pub channel : Channel
  pub there : slice_get s.channels socket ≡ Some channel
  pub its : IsChannelOf s.lines s.trace socket channel
