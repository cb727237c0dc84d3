-- Which call comes next in the exchange of a session, and how it ends (local; RFC 9622 sections 9.2 and 9.3).
use Rattle.std.specs.Prelude.{◌≡◌, ℕ, ◌+◌, ◌-◌, Bool, true, false, ◌||◌, ◌&&◌, ◌==◌, nat_lt, if◌then◌else◌, List, [], ◌∷◌, length, slice_index_or, Option, Some, None}
use Rattle.taps_socket.specs.declared.answers.SendAnswer.TheVariants as send
use Rattle.taps_socket.specs.declared.answers.RecvAnswer.TheVariants as recv
use Rattle.taps_socket.specs.Calls.{Call, sends, receives, Request, to_send, to_shut, to_receive, request_of}
use Rattle.taps_message.specs.declared.accepted.Accepted.{Accepted}
use Rattle.taps_connection.specs.Outboxes.{Stand, begun, ending, refused, all_out}
use Rattle.taps_exchange.specs.declared.outcome.Outcome.{Outcome}
use Rattle.taps_exchange.specs.declared.outcome.Outcome.TheVariants as outcome
use Rattle.taps_exchange.specs.Decodings.{Hearing, enough, lacks, breaks}
use Rattle.taps_exchange.specs.Members.{Member, calls_on, has_ended, outbox_after, hearing_after}

-- what comes next: a call, or the end with its outcome
pub data Turn : Type 0 where
  asks : (request : Request) → Turn
  over : (o : Outcome) → Turn

-- each call is the one that comes next after the calls before it
abbrev pub IsInTurn : (List Call → Turn) → List Call → Type 0
IsInTurn turn [] = Unit {0}
IsInTurn turn (call ∷ earlier) = (turn earlier ≡ asks (request_of call)) × IsInTurn turn earlier

-- and then it is over
pub record IsExchange (turn : List Call → Turn) (calls : List Call) (o : Outcome) : Type 0 where
  pub in_turn : IsInTurn turn calls
  pub ends : turn calls ≡ over o

-- the newest call ends the exchange: it was timed, or it failed
abbrev pub stop_by : Call → Option Outcome
stop_by (sends socket bytes until (send.Timed at)) = Some outcome.Timed
stop_by (sends socket bytes until (send.Failed cause)) = Some (outcome.DataFailed cause)
stop_by (receives socket most until came (recv.Timed at)) = Some outcome.Timed
stop_by (receives socket most until came (recv.Failed cause)) = Some (outcome.DataFailed cause)
stop_by _ = None

abbrev pub stop : List Call → Option Outcome
stop [] = None
stop (call ∷ earlier) = stop_by call

abbrev pub unless : Option Outcome → Turn → Turn
unless (Some o) turn = over o
unless None turn = turn

-- all messages had their turn, and as many as were needed were heard: the first member by place with an expired message
-- tells it
abbrev pub done_or : Option ℕ → ℕ → Outcome → Outcome
done_or None place others = others
done_or (Some number) place others = outcome.Expired place number

-- a member hears: a receive, or the end, or the next one's turn
abbrev pub turn_in : Member → Bool → Hearing → Turn → Turn
turn_in m ended (enough ms) others = others
turn_in m true (lacks ms unread) others = over outcome.PeerEnded
turn_in m false (lacks ms unread) others = asks (to_receive m.socket (m.decoding.most m.piece unread) m.until)
turn_in m ended (breaks ms layer place) others =
    over (outcome.BadFrame (record { message = length ms; layer = layer; place = place }))

-- a member at a place sends: its begun message, or the end of its sending side, or a refusal, or others have their turn
abbrev pub turn_out : Member → ℕ → Stand → Turn → Turn
turn_out m place (begun number ends rest behind) others = asks (to_send m.socket rest m.until)
turn_out m place (ending behind) others = asks (to_shut m.socket)
turn_out m place (refused number layer behind) others = over (outcome.NotSpeakable place number layer)
turn_out m place all_out others = others

-- One member: it sends, and then hears. These are the calls on its socket.
abbrev pub turn_alone : Member → List Call → Turn
turn_alone m calls =
    unless (stop calls)
    (turn_out m 0 (outbox_after m calls).stand
    (turn_in m (has_ended calls) (hearing_after m calls)
    (over (done_or (outbox_after m calls).expired 0 outcome.Done))))

-- a member of a group, its connection priority (RFC 9622 section 8.1.2), and, for each of its messages, the place among
-- all that the group accepted
pub record Place : Type 0 where
  pub member : Member
  pub priority : ℕ
  pub orders : List ℕ

abbrev pub stand_of : List Call → Place → Stand
stand_of calls p = (outbox_after p.member (calls_on p.member.socket calls)).stand

-- a member with a message whose turn it is, or whose stream is to be ended behind it: its number by place, how it stands,
-- and the place of that message
pub record Waiting : Type 0 where
  pub place : Place
  pub number : ℕ
  pub stand : Stand
  pub order : ℕ

-- the place of the message whose turn it is, by those behind it
abbrev pub order_before : Place → List Accepted → ℕ
order_before p behind = slice_index_or p.orders (length p.member.messages - length behind - 1) 0

abbrev pub waiting_at : Place → ℕ → Stand → List Accepted → Waiting
waiting_at p place stand behind =
    record { place = p; number = place; stand = stand; order = order_before p behind }

abbrev pub waiting_by : Place → ℕ → Stand → Option Waiting
waiting_by p place (begun number ends rest behind) = Some (waiting_at p place (begun number ends rest behind) behind)
waiting_by p place (ending behind) = Some (waiting_at p place (ending behind) behind)
waiting_by p place (refused number layer behind) = Some (waiting_at p place (refused number layer behind) behind)
waiting_by p place all_out = None

-- the one with the least priority number, and on a tie with the message that was accepted first
abbrev pub is_before : Waiting → Waiting → Bool
is_before a b =
    nat_lt a.place.priority b.place.priority || ((a.place.priority == b.place.priority) && nat_lt a.order b.order)

abbrev pub sooner : Option Waiting → Option Waiting → Option Waiting
sooner None b = b
sooner (Some a) None = Some a
sooner (Some a) (Some b) = if is_before b a then Some b else Some a

abbrev pub next_sender : List Call → ℕ → List Place → Option Waiting
next_sender calls place [] = None
next_sender calls place (p ∷ ps) = sooner (waiting_by p place (stand_of calls p)) (next_sender calls (place + 1) ps)

abbrev pub turn_sending : Option Waiting → Turn → Turn
turn_sending None others = others
turn_sending (Some w) others = turn_out w.place.member w.number w.stand others

-- the members hear by place
abbrev pub turns_in : List Call → List Place → Turn → Turn
turns_in calls [] others = others
turns_in calls (p ∷ ps) others =
    turn_in p.member (has_ended (calls_on p.member.socket calls))
    (hearing_after p.member (calls_on p.member.socket calls))
    (turns_in calls ps others)

abbrev pub outcome_by : List Call → ℕ → List Place → Outcome
outcome_by calls place [] = outcome.Done
outcome_by calls place (p ∷ ps) =
    done_or (outbox_after p.member (calls_on p.member.socket calls)).expired place (outcome_by calls (place + 1) ps)

-- the members of a group whose first one initiated: sends by priority, then receives by place
abbrev pub turn_of_group : List Place → List Call → Turn
turn_of_group places calls =
    unless (stop calls)
    (turn_sending (next_sender calls 0 places)
    (turns_in calls places
    (over (outcome_by calls 0 places))))

-- what an exchange is between: the members of a group that initiated
pub data Role : Type 0 where
  initiate : (members : List Place) → Role

abbrev pub turn_of : Role → List Call → Turn
turn_of (initiate members) calls = turn_of_group members calls
