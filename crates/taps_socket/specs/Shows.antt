-- What the record of sockets shows of the calls that led to it. A list of calls stands with its newest one first.
use Rattle.std.specs.Prelude.{◌≡◌, ◌<◌, ◌≤◌, ◌^◌, ◌+◌, ◌==◌, ℕ, Bool, true, false, ◌||◌, if◌then◌else◌, List, [], ◌∷◌, ◌++◌, length, Option, None, Some}
use Rattle.std.specs.Option.{option_map}
use Rattle.taps_base.specs.Counts.{Rose, one_more}
use Rattle.taps_socket.specs.declared.item.How.{How}
use Rattle.taps_socket.specs.declared.item.How.TheVariants.{Reached, Completed, Broke, Faulted}
use Rattle.taps_socket.specs.declared.item.Item.{Item}
use Rattle.taps_socket.specs.declared.timed_call.TimedCall.{TimedCall}
use Rattle.taps_socket.specs.declared.timed_call.TimedKind.TheVariants as kind
use Rattle.taps_socket.specs.declared.answers.StartAnswer.{StartAnswer}
use Rattle.taps_socket.specs.declared.answers.StartAnswer.TheVariants as start
use Rattle.taps_socket.specs.declared.answers.ListenAnswer.{ListenAnswer}
use Rattle.taps_socket.specs.declared.answers.ListenAnswer.TheVariants as listen
use Rattle.taps_socket.specs.declared.answers.AcceptAnswer.{AcceptAnswer}
use Rattle.taps_socket.specs.declared.answers.AcceptAnswer.TheVariants as accept
use Rattle.taps_socket.specs.declared.answers.SendAnswer.{SendAnswer}
use Rattle.taps_socket.specs.declared.answers.SendAnswer.TheVariants as send
use Rattle.taps_socket.specs.declared.answers.RecvAnswer.{RecvAnswer}
use Rattle.taps_socket.specs.declared.answers.RecvAnswer.TheVariants as recv
use Rattle.taps_stack.specs.StackTable.{is_stream}
use Rattle.taps_socket.specs.RaceSockets.{has, pending_sockets}
use Rattle.taps_socket.specs.LiveSockets.{IsNewSocket, live_sockets}
use Rattle.taps_socket.specs.Sides.{carries_stream, may_accept, may_send, may_receive, may_shut}
use Rattle.taps_socket.specs.Calls.{Call, begins, starts, waits, closes, listens, accepts, sends, shuts, receives, started_at, listened_at, accepted_at, taken_of, items_of}
use Rattle.taps_socket.specs.Net.{Net, IsLater, IsSendAnswer, IsReceiveAnswer, with_piece}

-- the last reported time after a call, and after these calls
abbrev pub told_by : Call → ℕ → ℕ
told_by (begins at) told = at
told_by (starts leaf target answer) told = started_at answer
told_by (waits until answer) told = answer.at
told_by (closes socket) told = told
told_by (listens target answer) told = listened_at answer
told_by (accepts listener until answer) told = accepted_at answer
told_by (sends socket bytes until (send.Sent count at)) told = at
told_by (sends socket bytes until (send.Timed at)) told = at
told_by (sends socket bytes until (send.Failed cause)) told = told
told_by (shuts socket) told = told
told_by (receives socket most until came (recv.Got count at)) told = at
told_by (receives socket most until came recv.End) told = told
told_by (receives socket most until came (recv.Timed at)) told = at
told_by (receives socket most until came (recv.Failed cause)) told = told

-- the last reported time after calls
abbrev pub told_after : List Call → ℕ → ℕ
told_after [] told = told
told_after (call ∷ earlier) told = told_by call (told_after earlier told)

-- the timed call that a call is, if it is one
abbrev pub timed_by : Call → Option TimedCall
timed_by (accepts listener until (accept.Timed at)) =
    Some (record { kind = kind.Accept; socket = listener; until = until; at = at })
timed_by (sends socket bytes until (send.Timed at)) =
    Some (record { kind = kind.Send; socket = socket; until = until; at = at })
timed_by (receives socket most until came (recv.Timed at)) =
    Some (record { kind = kind.Recv; socket = socket; until = until; at = at })
timed_by _ = None

-- a count with one more, if a call was timed
abbrev pub count_with : Option TimedCall → ℕ → ℕ
count_with None n = n
count_with (Some call) n = one_more n

-- the last timed call, with one more, if it was timed
abbrev pub last_with : Option TimedCall → Option TimedCall → Option TimedCall
last_with None last = last
last_with (Some call) last = Some call

-- the number of timed calls after calls
abbrev pub timed_after : List Call → ℕ → ℕ
timed_after [] n = n
timed_after (call ∷ earlier) n = count_with (timed_by call) (timed_after earlier n)

-- the last timed call after calls
abbrev pub last_timed_after : List Call → Option TimedCall → Option TimedCall
last_timed_after [] last = last
last_timed_after (call ∷ earlier) last = last_with (timed_by call) (last_timed_after earlier last)

-- the time of the last Sent after an answer
abbrev pub sent_at : SendAnswer → Option ℕ → Option ℕ
sent_at (send.Sent count at) last = Some at
sent_at (send.Timed at) last = last
sent_at (send.Failed cause) last = last

-- the time of a socket's last send after a call
abbrev pub last_sent_by : Call → ℕ → Option ℕ → Option ℕ
last_sent_by (sends socket bytes until answer) s last = if socket == s then sent_at answer last else last
last_sent_by _ s last = last

-- the time of a socket's last send after calls
abbrev pub last_sent_after : List Call → ℕ → Option ℕ → Option ℕ
last_sent_after [] s last = last
last_sent_after (call ∷ earlier) s last = last_sent_by call s (last_sent_after earlier s last)

-- the piece that a send writes, if it writes one
abbrev pub piece_of : List ℕ → SendAnswer → Option (List ℕ)
piece_of bytes (send.Sent count at) = Some (taken_of bytes (send.Sent count at))
piece_of bytes (send.Timed at) = None
piece_of bytes (send.Failed cause) = None

-- the piece that a receive gives, if it gives one
abbrev pub piece_in : List ℕ → RecvAnswer → Option (List ℕ)
piece_in came (recv.Got count at) = Some came
piece_in came recv.End = None
piece_in came (recv.Timed at) = None
piece_in came (recv.Failed cause) = None

-- the piece that a call writes on a socket, if it writes one
abbrev pub written_by : Call → ℕ → Option (List ℕ)
written_by (sends socket bytes until answer) s = if socket == s then piece_of bytes answer else None
written_by _ s = None

-- the piece that a call reads on a socket, if it reads one
abbrev pub read_by : Call → ℕ → Option (List ℕ)
read_by (receives socket most until came answer) s = if socket == s then piece_in came answer else None
read_by _ s = None

-- pieces, where observable, with one more if there is one
abbrev pub grown : Bool → Option (List ℕ) → Option (List (List ℕ)) → Option (List (List ℕ))
grown stream None pieces = pieces
grown stream (Some piece) pieces = option_map (with_piece stream piece) pieces

-- the pieces written on a socket after these calls behind this trace, where observable
abbrev pub written_after : List Item → List Call → ℕ → Option (List (List ℕ)) → Option (List (List ℕ))
written_after trace [] s pieces = pieces
written_after trace (call ∷ earlier) s pieces =
    grown (carries_stream (items_of earlier ++ trace) s) (written_by call s) (written_after trace earlier s pieces)

-- the pieces read on a socket after these calls behind this trace, where observable
abbrev pub read_after : List Item → List Call → ℕ → Option (List (List ℕ)) → Option (List (List ℕ))
read_after trace [] s pieces = pieces
read_after trace (call ∷ earlier) s pieces =
    grown (carries_stream (items_of earlier ++ trace) s) (read_by call s) (read_after trace earlier s pieces)

-- how many bytes an answer to a send took
abbrev pub count_of : SendAnswer → ℕ
count_of (send.Sent count at) = count
count_of (send.Timed at) = 0
count_of (send.Failed cause) = 0

-- how many bytes a call takes of the room of a socket
abbrev pub taken_by : Call → ℕ → ℕ
taken_by (sends socket bytes until answer) s = if socket == s then count_of answer else 0
taken_by _ s = 0

-- how many bytes calls take of the room of a socket
abbrev pub taken_on : List Call → ℕ → ℕ
taken_on [] s = 0
taken_on (call ∷ earlier) s = taken_on earlier s + taken_by call s

-- a wait ended by a fault
abbrev pub is_fault_end : How → Bool
is_fault_end Faulted = true
is_fault_end _ = false

-- a call was faulted
abbrev pub is_faulted : Call → Bool
is_faulted (waits until answer) = is_fault_end answer.how
is_faulted (accepts listener until (accept.Faulted at)) = true
is_faulted _ = false

-- one of these calls was faulted
abbrev pub some_faulted : List Call → Bool
some_faulted [] = false
some_faulted (call ∷ earlier) = is_faulted call || some_faulted earlier

-- a socket that a start, a listen or an accept gives has a number greater than every earlier one
abbrev pub StartsNew : StartAnswer → List Item → Type 0
StartsNew (start.Started socket at) trace = IsNewSocket socket trace
StartsNew (start.Refused cause at) trace = Unit {0}

-- where it listens, its socket is new
abbrev pub ListensNew : ListenAnswer → List Item → Type 0
ListensNew (listen.Listening socket at) trace = IsNewSocket socket trace
ListensNew (listen.Refused cause at) trace = Unit {0}

-- where a connection was accepted, its socket is new; a timed answer comes not before its time
abbrev pub AcceptsNew : AcceptAnswer → ℕ → List Item → Type 0
AcceptsNew (accept.Accepted socket at) until trace = IsNewSocket socket trace
AcceptsNew (accept.Timed at) until trace = until ≤ at
AcceptsNew (accept.Faulted at) until trace = Unit {0}

-- a wait is reached not before its time, which is below 2^63; and it completes or breaks a socket that is pending
abbrev pub EndsInTime : How → ℕ → ℕ → List Item → Type 0
EndsInTime Reached until at trace = (until ≤ at) × (until < 2 ^ 63)
EndsInTime (Completed socket) until at trace = has (pending_sockets trace) socket ≡ true
EndsInTime (Broke socket cause) until at trace = has (pending_sockets trace) socket ≡ true
EndsInTime Faulted until at trace = Unit {0}

-- the bytes that came are as many as the answer says
abbrev pub IsGot : List ℕ → RecvAnswer → Type 0
IsGot came (recv.Got count at) = length came ≡ count
IsGot came _ = came ≡ []

-- a send of bytes on a socket that may send, of as many as a datagram may have
pub record IsLawfulSend (socket : ℕ) (bytes : List ℕ) (until : ℕ)
    (answer : SendAnswer) (trace : List Item) (told : ℕ) : Type 0 where
  pub may : may_send trace socket ≡ true
  pub some : 1 ≤ length bytes
  pub datagram : carries_stream trace socket ≡ false → length bytes ≤ 65507
  pub bounded : until < 2 ^ 63
  pub answered : IsSendAnswer answer (carries_stream trace socket) (length bytes) until told

-- a receive on a socket that may receive, of a datagram whole
pub record IsLawfulReceive (socket most until : ℕ) (came : List ℕ)
    (answer : RecvAnswer) (trace : List Item) (told : ℕ) : Type 0 where
  pub may : may_receive trace socket ≡ true
  pub some : 1 ≤ most
  pub datagram : carries_stream trace socket ≡ false → 65535 ≤ most
  pub bounded : until < 2 ^ 63
  pub answered : IsReceiveAnswer answer (carries_stream trace socket) most until told
  pub got : IsGot came answer

-- a call that may be made, with an answer that sockets may give, by the items before it and the last reported time
abbrev pub IsLawful : Call → List Item → ℕ → Type 0
IsLawful (begins at) trace told = IsLater told at
IsLawful (starts leaf target answer) trace told = IsLater told (started_at answer) × StartsNew answer trace
IsLawful (waits until answer) trace told = IsLater told answer.at × EndsInTime answer.how until answer.at trace
IsLawful (closes socket) trace told = has (live_sockets trace) socket ≡ true
IsLawful (listens target answer) trace told =
    (is_stream target.stack ≡ true) × IsLater told (listened_at answer) × ListensNew answer trace
IsLawful (accepts listener until answer) trace told =
    (may_accept trace listener ≡ true) × (until < 2 ^ 63)
    × IsLater told (accepted_at answer) × AcceptsNew answer until trace
IsLawful (sends socket bytes until answer) trace told = IsLawfulSend socket bytes until answer trace told
IsLawful (shuts socket) trace told = may_shut trace socket ≡ true
IsLawful (receives socket most until came answer) trace told = IsLawfulReceive socket most until came answer trace told

-- each call is, behind this trace and reported time
abbrev pub AreLawful : List Item → ℕ → List Call → Type 0
AreLawful trace told [] = Unit {0}
AreLawful trace told (call ∷ earlier) =
    IsLawful call (items_of earlier ++ trace) (told_after earlier told) × AreLawful trace told earlier

-- the record shows what it showed before and exactly these calls, which are lawful. Spare grows, and room does,
-- otherwise than by calls
pub record Shows (before : Net) (calls : List Call) (after : Net) : Type 0 where
  pub lawful : AreLawful before.trace before.told calls
  pub trace : after.trace ≡ items_of calls ++ before.trace
  pub told : after.told ≡ told_after calls before.told
  pub timed : after.timed ≡ timed_after calls before.timed
  pub last_timed : after.last_timed ≡ last_timed_after calls before.last_timed
  pub last_sent : (s : ℕ) → (after.traffic s).last_sent ≡ last_sent_after calls s (before.traffic s).last_sent
  pub written : (s : ℕ) → (after.traffic s).written ≡ written_after before.trace calls s (before.traffic s).written
  pub read : (s : ℕ) → (after.traffic s).read ≡ read_after before.trace calls s (before.traffic s).read
  pub rooms : (s : ℕ) → (before.traffic s).room ≤ (after.traffic s).room + taken_on calls s
  pub spare : before.spare ≤ after.spare + length (items_of calls)
  pub faults : before.faults ≤ after.faults
  pub fault : some_faulted calls ≡ true → Rose before.faults after.faults
