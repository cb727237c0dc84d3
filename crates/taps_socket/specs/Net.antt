-- What contracts see of sockets, and how each call changes it.
use Rattle.std.specs.Prelude.{◌≡◌, ◌<◌, ◌≤◌, ◌^◌, ◌-◌, ◌==◌, ℕ, Bool, true, false, if◌then◌else◌, List, [], ◌∷◌, ◌++◌, length, Option, None, Some}
use Rattle.std.specs.List.{concat}
use Rattle.std.specs.Option.{option_map}
use Rattle.taps_base.specs.Counts.{Rose, one_more}
use Rattle.taps_socket.specs.declared.item.How.{How}
use Rattle.taps_socket.specs.declared.item.How.TheVariants.{Reached, Completed, Broke, Faulted}
use Rattle.taps_socket.specs.declared.item.Item.{Item}
use Rattle.taps_socket.specs.declared.item.Item.TheVariants as item
use Rattle.taps_socket.specs.declared.timed_call.TimedCall.{TimedCall}
use Rattle.taps_socket.specs.declared.timed_call.TimedKind.TheVariants as kind
use Rattle.taps_socket.specs.declared.answers.StartAnswer.{StartAnswer}
use Rattle.taps_socket.specs.declared.answers.StartAnswer.TheVariants as start
use Rattle.taps_socket.specs.declared.answers.ListenAnswer.{ListenAnswer}
use Rattle.taps_socket.specs.declared.answers.ListenAnswer.TheVariants as listen
use Rattle.taps_socket.specs.declared.answers.AcceptAnswer.{AcceptAnswer}
use Rattle.taps_socket.specs.declared.answers.AcceptAnswer.TheVariants as accept
use Rattle.taps_socket.specs.declared.answers.SendAnswer.{SendAnswer}
use Rattle.taps_socket.specs.declared.answers.SendAnswer.TheVariants as send
use Rattle.taps_socket.specs.declared.answers.RecvAnswer.{RecvAnswer}
use Rattle.taps_socket.specs.declared.answers.RecvAnswer.TheVariants as recv
use Rattle.taps_socket.specs.RaceSockets.{has, pending_sockets}
use Rattle.taps_socket.specs.LiveSockets.{IsNewSocket}
use Rattle.taps_socket.specs.Sides.{carries_stream}
use Rattle.taps_socket.specs.Calls.{Call, begins, starts, waits, closes, listens, accepts, sends, shuts, receives, started_item, started_at, listened_item, listened_at, taken_of}

-- the traffic of one socket: its room for bytes to be sent; the time of its last Sent; and, where observable, the
-- pieces that were written on it and read from it, oldest first: over datagrams one for each, over a stream one of all
-- bytes
pub record Traffic : Type 0 where
  pub room : ℕ
  pub last_sent : Option ℕ
  pub written : Option (List (List ℕ))
  pub read : Option (List (List ℕ))

-- the items so far, newest first; the last reported time; how many items can be added without memory; how often a call
-- was faulted; the traffic of each socket; how often a call was timed, and the last call that was
pub record Net : Type 0 where
  pub trace : List Item
  pub told : ℕ
  pub spare : ℕ
  pub faults : ℕ
  pub traffic : ℕ → Traffic
  pub timed : ℕ
  pub last_timed : Option TimedCall

-- the sockets with one item more, told at this time
abbrev pub with_item : Net → Item → ℕ → Net
with_item net item at = record net { trace = item ∷ net.trace; told = at; spare = net.spare - 1 }

-- with this spare number of items
abbrev pub with_spare : Net → ℕ → Net
with_spare net spare = record net { spare = spare }

-- with this count of faults
abbrev pub with_faults : Net → ℕ → Net
with_faults net faults = record net { faults = faults }

-- with one timed call more
abbrev pub with_timed : Net → TimedCall → Net
with_timed net call = record net { told = call.at; timed = one_more net.timed; last_timed = Some call }

-- with other traffic of one socket
abbrev pub with_traffic : Net → ℕ → Traffic → Net
with_traffic net socket traffic = record net { traffic = λ s. if socket == s then traffic else net.traffic s }

-- with this room of one socket
abbrev pub with_room : Net → ℕ → ℕ → Net
with_room net socket room = with_traffic net socket (record (net.traffic socket) { room = room })

-- pieces with one more, over a stream or not
abbrev pub with_piece : Bool → List ℕ → List (List ℕ) → List (List ℕ)
with_piece true piece pieces = (concat pieces ++ piece) ∷ []
with_piece false piece pieces = pieces ++ piece ∷ []

-- the traffic of a socket after these bytes were taken at a time, and after these came
abbrev pub sent_on : Bool → List ℕ → ℕ → Traffic → Traffic
sent_on stream bytes at traffic =
    record traffic {
      room = traffic.room - length bytes;
      last_sent = Some at;
      written = option_map (with_piece stream bytes) traffic.written;
    }

-- traffic to which these bytes were read
abbrev pub received_on : Bool → List ℕ → Traffic → Traffic
received_on stream bytes traffic = record traffic { read = option_map (with_piece stream bytes) traffic.read }

-- after an accept
abbrev pub after_accept : ℕ → ℕ → AcceptAnswer → Net → Net
after_accept listener until (accept.Accepted socket at) net = with_item net (item.Accepted listener socket at) at
after_accept listener until (accept.Timed at) net =
    with_timed net (record { kind = kind.Accept; socket = listener; until = until; at = at })
after_accept listener until (accept.Faulted at) net = with_item net (item.Faulted at) at

-- after a send
abbrev pub after_send : ℕ → List ℕ → ℕ → SendAnswer → Net → Net
after_send socket bytes until (send.Sent count at) net =
    record (with_traffic net socket (sent_on (carries_stream net.trace socket)
    (taken_of bytes (send.Sent count at)) at (net.traffic socket))) { told = at }
after_send socket bytes until (send.Timed at) net =
    with_timed net (record { kind = kind.Send; socket = socket; until = until; at = at })
after_send socket bytes until (send.Failed cause) net = with_item net (item.DataFailed socket true cause) net.told

-- after a receive by which these bytes came
abbrev pub after_receive : ℕ → ℕ → List ℕ → RecvAnswer → Net → Net
after_receive socket until came (recv.Got count at) net =
    record (with_traffic net socket
    (received_on (carries_stream net.trace socket) came (net.traffic socket))) { told = at }
after_receive socket until came recv.End net = with_item net (item.Ended socket) net.told
after_receive socket until came (recv.Timed at) net =
    with_timed net (record { kind = kind.Recv; socket = socket; until = until; at = at })
after_receive socket until came (recv.Failed cause) net = with_item net (item.DataFailed socket false cause) net.told

-- after any call, but for the count of faults, which a faulted one raises
abbrev pub after_call : Call → Net → Net
after_call (begins at) net = with_item net (item.Began at) at
after_call (starts leaf target answer) net = with_item net (started_item leaf target answer) (started_at answer)
after_call (waits until answer) net = with_item net (item.Waited until answer.at answer.how) answer.at
after_call (closes socket) net = with_item net (item.Closed socket) net.told
after_call (listens target answer) net = with_item net (listened_item target answer) (listened_at answer)
after_call (accepts listener until answer) net = after_accept listener until answer net
after_call (sends socket bytes until answer) net = after_send socket bytes until answer net
after_call (shuts socket) net = with_item net (item.Shut socket) net.told
after_call (receives socket most until came answer) net = after_receive socket until came answer net

-- a time that may be reported next: none before the last reported one, and below 2^63
pub record IsLater (told at : ℕ) : Type 0 where
  pub later : told ≤ at
  pub fits : at < 2 ^ 63

-- a time that may be reported next
abbrev pub IsNextMoment : Net → ℕ → Type 0
IsNextMoment net at = IsLater net.told at

-- no piece, where observable
abbrev pub IsBlank : Option (List (List ℕ)) → Type 0
IsBlank None = Unit {0}
IsBlank (Some pieces) = pieces ≡ []

-- the traffic of a socket that was just given
pub record IsUnused (traffic : Traffic) : Type 0 where
  pub no_room : traffic.room ≡ 0
  pub never_sent : traffic.last_sent ≡ None
  pub none_written : IsBlank traffic.written
  pub none_read : IsBlank traffic.read

-- a socket that is given: its number is greater than every earlier one, and it has no traffic
pub record IsGiven (socket : ℕ) (net : Net) : Type 0 where
  pub number : IsNewSocket socket net.trace
  pub unused : IsUnused (net.traffic socket)

-- a start gives such a socket, and so does a listen
abbrev pub GivesNewSocket : StartAnswer → Net → Type 0
GivesNewSocket (start.Started socket at) net = IsGiven socket net
GivesNewSocket (start.Refused cause at) net = Unit {0}

-- where it listens, its socket is given
abbrev pub GivesListener : ListenAnswer → Net → Type 0
GivesListener (listen.Listening socket at) net = IsGiven socket net
GivesListener (listen.Refused cause at) net = Unit {0}

-- a wait is reached not before its time, which is below 2^63; it completes or breaks a socket that is pending; and it
-- is faulted where the count rose
abbrev pub MayEnd : How → ℕ → ℕ → Net → Net → Type 0
MayEnd Reached until at before after = (until ≤ at) × (until < 2 ^ 63)
MayEnd (Completed socket) until at before after = has (pending_sockets before.trace) socket ≡ true
MayEnd (Broke socket cause) until at before after = has (pending_sockets before.trace) socket ≡ true
MayEnd Faulted until at before after = Rose before.faults after.faults

-- an accept gives a new socket; it is timed not before its time; and it is faulted where the count rose
abbrev pub IsAcceptAnswer : AcceptAnswer → ℕ → Net → Net → Type 0
IsAcceptAnswer (accept.Accepted socket at) until before after = IsGiven socket before
IsAcceptAnswer (accept.Timed at) until before after = until ≤ at
IsAcceptAnswer (accept.Faulted at) until before after = Rose before.faults after.faults

-- a count of bytes of so many, of which there is at least one
pub record IsCount (count most : ℕ) : Type 0 where
  pub some : 1 ≤ count
  pub within : count ≤ most

-- a send of so many bytes takes some of them, over datagrams all; and it is timed not before its time
abbrev pub IsSendAnswer : SendAnswer → Bool → ℕ → ℕ → ℕ → Type 0
IsSendAnswer (send.Sent count at) stream most until told =
    IsCount count most × (stream ≡ false → count ≡ most) × IsLater told at
IsSendAnswer (send.Timed at) stream most until told = (until ≤ at) × IsLater told at
IsSendAnswer (send.Failed cause) stream most until told = Unit {0}

-- a receive of at most so many bytes gives some; only a stream ends; and it is timed not before its time
abbrev pub IsReceiveAnswer : RecvAnswer → Bool → ℕ → ℕ → ℕ → Type 0
IsReceiveAnswer (recv.Got count at) stream most until told = IsCount count most × IsLater told at
IsReceiveAnswer recv.End stream most until told = stream ≡ true
IsReceiveAnswer (recv.Timed at) stream most until told = (until ≤ at) × IsLater told at
IsReceiveAnswer (recv.Failed cause) stream most until told = Unit {0}

-- but for the items, the last reported time, spare and the faults nothing changed: no traffic of any socket, and no
-- timed call was made
abbrev pub PreservesTraffic : Net → Net → Type 0
PreservesTraffic before after =
    after ≡ record before { trace = after.trace; told = after.told; spare = after.spare; faults = after.faults }
