-- Which call comes next between the two ends of a connection that one program holds, and how that ends (local). A list
-- of calls stands with its newest one first.
use Rattle.std.specs.Prelude.{ℕ, ◌+◌, ◌-◌, Bool, true, false, ◌&&◌, ◌==◌, nat_le, nat_lt, min, if◌then◌else◌, List, [], ◌∷◌, length, drop}
use Rattle.taps_message.specs.declared.accepted.Accepted.{Accepted}
use Rattle.taps_socket.specs.declared.answers.SendAnswer.TheVariants as send
use Rattle.taps_socket.specs.declared.answers.RecvAnswer.TheVariants as recv
use Rattle.taps_socket.specs.Calls.{Call, sends, receives, shuts, to_send, to_shut}
use Rattle.taps_socket.specs.Shows.{told_after}
use Rattle.taps_connection.specs.Outboxes.{Stand, begun, ending, refused, all_out, Outbox}
use Rattle.taps_exchange.specs.declared.outcome.Outcome.{Outcome}
use Rattle.taps_exchange.specs.declared.outcome.Outcome.TheVariants as outcome
use Rattle.taps_exchange.specs.Decodings.{Hearing, enough, lacks, breaks, messages_of}
use Rattle.taps_exchange.specs.Members.{Member, calls_on, has_ended, outbox_after, hearing_after}
use Rattle.taps_exchange.specs.Turns.{Turn, asks, over, turn_in, turn_out, done_or}

-- the end that initiated, which sends, and the end that was accepted, which hears. The first one accepted its messages
-- when the second one was accepted, and its deadline is that of both
pub record Ends : Type 0 where
  pub from : Member
  pub to : Member

-- how the sending stands after these calls
abbrev pub sending : Ends → List Call → Outbox
sending x calls = outbox_after x.from (calls_on x.from.socket calls)

-- how many messages were sent whole: where the sending side is to be ended behind one, that one was not yet
abbrev pub count_by : Stand → ℕ → ℕ
count_by (begun number ends rest behind) sent = sent
count_by (ending behind) sent = sent - 1
count_by (refused number layer behind) sent = sent
count_by all_out sent = sent

abbrev pub sent_in : Ends → List Call → ℕ
sent_in x calls = count_by (sending x calls).stand (sending x calls).sent

-- messages stand in a list: 1, and else 0
abbrev pub one_if : List Accepted → ℕ
one_if [] = 0
one_if (m ∷ messages) = 1

-- the messages that are queued behind the one that is sent
abbrev pub queued_behind : Stand → List Accepted
queued_behind (begun number ends rest behind) = behind
queued_behind (ending behind) = behind
queued_behind (refused number layer behind) = behind
queued_behind all_out = []

-- the newest call is a receive, or there is none: then the sending end had its turn since
abbrev pub had_turn : List Call → Bool
had_turn [] = true
had_turn (receives socket most until came answer ∷ earlier) = true
had_turn (_ ∷ earlier) = false

-- 1 while a message is begun or queued, and else 0: one stays queued until the turn in which it is begun, or in which
-- it has expired
abbrev pub waiting : Ends → List Call → ℕ
waiting x [] = one_if x.from.messages
waiting x (sends socket bytes until (send.Sent count at) ∷ earlier) =
    if nat_lt count (length bytes) then 1 else one_if (queued_behind (sending x earlier).stand)
waiting x (sends socket bytes until answer ∷ earlier) = 1
waiting x (shuts socket ∷ earlier) = one_if (queued_behind (sending x earlier).stand)
waiting x (receives socket most until came answer ∷ earlier) = if had_turn earlier then 0 else waiting x earlier
waiting x (_ ∷ earlier) = 0

-- the other end ended its sending side
abbrev pub peer_ended : Ends → List Call → Bool
peer_ended x calls = has_ended (calls_on x.to.socket calls)

-- what the accepted end heard: it needs as many messages as were sent, and so many more
abbrev pub hearing : Ends → ℕ → List Call → Hearing
hearing x more calls = hearing_after (record x.to { needs = sent_in x calls + more }) (calls_on x.to.socket calls)

-- the last reported time, or one millisecond later, up to the deadline
abbrev pub at_once : Ends → List Call → ℕ
at_once x calls = min x.from.until (told_after calls x.from.accepted)

abbrev pub soon : Ends → List Call → ℕ
soon x calls = min x.from.until (told_after calls x.from.accepted + 1)

-- the sending end waits only where the accepted end needs no more
abbrev pub until_by : Hearing → ℕ → ℕ → ℕ
until_by (enough ms) now later = later
until_by (lacks ms unread) now later = now
until_by (breaks ms layer place) now later = now

-- the accepted end has its turn: where it needs more, it asks for bytes once
abbrev pub turn_hearing : Ends → ℕ → List Call → Turn → Turn
turn_hearing x more calls others =
    turn_in (record x.to { until = soon x calls }) (peer_ended x calls) (hearing x more calls) others

-- the sending end has its turn: its begun message goes out, or the next one. Where there is none, the accepted end goes
-- on until it heard all that were sent
abbrev pub turn_sending : Ends → List Call → Turn
turn_sending x calls =
    turn_out (record x.from { until = until_by (hearing x 1 calls) (at_once x calls) (soon x calls) }) 0
    (sending x calls).stand
    (turn_hearing x 0 calls (over (done_or (sending x calls).expired 0 outcome.Done)))

-- the accepted end has its turn, and then the sending end
abbrev pub turn_then : Ends → ℕ → List Call → Turn
turn_then x more calls = turn_hearing x more calls (turn_sending x calls)

-- what was read ends the exchange where it is no messages, and where the stream ended with too few of them
abbrev pub unless_cut : Bool → Hearing → Turn → Turn
unless_cut ended (enough ms) others = others
unless_cut true (lacks ms unread) others = over outcome.PeerEnded
unless_cut false (lacks ms unread) others = others
unless_cut ended (breaks ms layer place) others =
    over (outcome.BadFrame (record { message = length ms; layer = layer; place = place }))

-- else the sending end has its turn
abbrev pub turn_next : Ends → List Call → Turn
turn_next x calls = unless_cut (peer_ended x calls) (hearing x (waiting x calls) calls) (turn_sending x calls)

-- behind a message that went out whole the sending side is ended, or the accepted end has its turn
abbrev pub turn_behind : Ends → Stand → List Call → Turn
turn_behind x (begun number true rest behind) calls = asks (to_shut x.from.socket)
turn_behind x (begun number false rest behind) calls = turn_then x (waiting x calls) calls
turn_behind x (ending behind) calls = turn_then x (waiting x calls) calls
turn_behind x (refused number layer behind) calls = turn_then x (waiting x calls) calls
turn_behind x all_out calls = turn_then x (waiting x calls) calls

-- What comes next, by the newest call. A message goes on up to the same time. A timed turn ends the exchange only if
-- the deadline has passed, and one of the accepted end only if besides no message is begun or queued.
abbrev pub turn_by : Ends → Call → List Call → Turn
turn_by x (sends socket bytes until (send.Sent count at)) earlier =
    if nat_lt count (length bytes) then asks (to_send x.from.socket (drop count bytes) until)
    else turn_behind x (sending x earlier).stand (sends socket bytes until (send.Sent count at) ∷ earlier)
turn_by x (sends socket bytes until (send.Timed at)) earlier =
    if nat_le x.from.until at then over outcome.Timed
    else turn_then x 1 (sends socket bytes until (send.Timed at) ∷ earlier)
turn_by x (sends socket bytes until (send.Failed cause)) earlier = over (outcome.DataFailed cause)
turn_by x (shuts socket) earlier = turn_then x (waiting x (shuts socket ∷ earlier)) (shuts socket ∷ earlier)
turn_by x (receives socket most until came (recv.Got count at)) earlier =
    turn_next x (receives socket most until came (recv.Got count at) ∷ earlier)
turn_by x (receives socket most until came recv.End) earlier =
    turn_next x (receives socket most until came recv.End ∷ earlier)
turn_by x (receives socket most until came (recv.Timed at)) earlier =
    if nat_le x.from.until at && (waiting x (receives socket most until came (recv.Timed at) ∷ earlier) == 0)
    then over outcome.Timed
    else turn_sending x (receives socket most until came (recv.Timed at) ∷ earlier)
turn_by x (receives socket most until came (recv.Failed cause)) earlier = over (outcome.DataFailed cause)
turn_by x call earlier = turn_next x (call ∷ earlier)

-- the ends take turns, and the sending end has the first one
abbrev pub turn_loop : Ends → List Call → Turn
turn_loop x [] = turn_next x []
turn_loop x (call ∷ earlier) = turn_by x call earlier

-- how many messages more than those that were sent count as heard, by the outcome
abbrev pub needs_more : Ends → List Call → Outcome → ℕ
needs_more x calls outcome.Done = 0
needs_more x calls (outcome.Expired place number) = 0
needs_more x calls _ = waiting x calls

-- the messages that the accepted end heard: as many as it needs at the end
abbrev pub heard_in : Ends → List Call → Outcome → List (List ℕ)
heard_in x calls o = messages_of (hearing x (needs_more x calls o) calls)
