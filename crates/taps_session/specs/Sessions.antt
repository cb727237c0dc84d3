-- A session as the calls that are made on sockets (RFC 9622 sections 6, 7 and 9; what a file asks for is local). Calls
-- and items stand with the newest one first.
use Rattle.std.specs.Prelude.{◌≡◌, ◌^◌, ◌+◌, ◌-◌, ℕ, min, List, [], ◌∷◌, ◌++◌, map, slice_get, Option, Some, None}
use Rattle.taps_framer.specs.Layers.{Layer}
use Rattle.taps_message.specs.declared.accepted.Accepted.{Accepted}
use Rattle.taps_stack.specs.declared.stack.Stack.{Stack}
use Rattle.taps_stack.specs.declared.stack.Stack.TheVariants.{Tcp}
use Rattle.taps_stack.specs.declared.target.Target.{Target}
use Rattle.taps_socket.specs.declared.item.Item.{Item}
use Rattle.taps_socket.specs.declared.race_answer.RaceAnswer.{RaceAnswer}
use Rattle.taps_socket.specs.declared.race_answer.RaceAnswer.TheVariants.{Ready}
use Rattle.taps_socket.specs.Calls.{Call, closes, AddEach}
use Rattle.taps_socket.specs.LawfulRace.{IsLawfulRace}
use Rattle.taps_socket.specs.RaceTrace.{last_moment}
use Rattle.taps_exchange.specs.declared.outcome.Outcome.{Outcome}
use Rattle.taps_exchange.specs.declared.outcome.Outcome.TheVariants as outcome
use Rattle.taps_exchange.specs.Accepting.{accepted_of}
use Rattle.taps_exchange.specs.Exchanged.{member_over}
use Rattle.taps_exchange.specs.Members.{Member}
use Rattle.taps_exchange.specs.Turns.{Place, Role, initiate, turn_of, IsInTurn, IsExchange}
use Rattle.taps_session.specs.FileMessages.{messages_on}
use Rattle.taps_session.specs.FileSessions.{rules_of, targets_of}
use Rattle.taps_command.specs.Places.{chain_of}
use Rattle.taps_command.specs.Ready as given

-- what came of a session: the calls of its race, which each added one of these items, the race's answer, the calls of
-- its exchange, and how that ended
pub record Course : Type 0 where
  pub raced : List Call
  pub race : List Item
  pub answer : RaceAnswer
  pub exchange : List Call
  pub outcome : Outcome

-- the stack of a leaf that is there
abbrev pub stack_of : Option Target → Stack
stack_of (Some target) = target.stack
stack_of None = Tcp

-- the deadline of an exchange that begins at a time: the last time that there is, if it would be past that
abbrev pub deadline_of : given.Ready → ℕ → ℕ
deadline_of ready at = min (at + ready.pre.exchange.deadline_ms) (2 ^ 63 - 1)

-- the member at a place, over a socket of a stack, from a time on
abbrev pub member_at : List Layer → given.Ready → ℕ → Stack → ℕ → ℕ → Member
member_at shelf ready place stack socket at =
    member_over socket stack (chain_of shelf ready.places) (accepted_of at (messages_on ready.pre stack place)) at
    ready.pre.exchange.expect ready.pre.exchange.piece (deadline_of ready at)

-- the member of the winner's socket, from the last reported time on
abbrev pub winner_of : List Layer → given.Ready → List Item → ℕ → ℕ → Member
winner_of shelf ready race leaf socket =
    member_at shelf ready 0 (stack_of (slice_get (targets_of ready) leaf)) socket (last_moment race)

-- the members of a session whose race has this answer, by place: the winner's socket, if there is one
abbrev pub members_after : List Layer → given.Ready → List Item → RaceAnswer → List Member
members_after shelf ready race (Ready leaf socket at) = winner_of shelf ready race leaf socket ∷ []
members_after shelf ready race _ = []

-- a member in a group of its own: its messages stand in the order in which it accepted them
abbrev pub alone_in : given.Ready → Member → Place
alone_in ready m = record {
  member = m;
  priority = ready.pre.connection.conn_priority;
  orders = map (λ (a : Accepted). a.number) m.messages;
}

-- the role of these members
abbrev pub role_of : given.Ready → List Member → Role
role_of ready members = initiate (map (alone_in ready) members)

-- with a winner, the calls are an exchange of the members with this outcome; without one there are none
abbrev pub IsExchangeAfter : given.Ready → List Member → List Call → Outcome → RaceAnswer → Type 0
IsExchangeAfter ready members calls o (Ready leaf socket at) = IsExchange (turn_of (role_of ready members)) calls o
IsExchangeAfter ready members calls o _ = (calls ≡ []) × (o ≡ outcome.Done)

-- with a winner, the calls are the first ones of an exchange of the members
abbrev pub IsBegunAfter : given.Ready → List Member → List Call → RaceAnswer → Type 0
IsBegunAfter ready members calls (Ready leaf socket at) = IsInTurn (turn_of (role_of ready members)) calls
IsBegunAfter ready members calls _ = calls ≡ []

-- the closes behind it: that of the winner's socket
abbrev pub closing : RaceAnswer → List Call
closing (Ready leaf socket at) = closes socket ∷ []
closing _ = []

-- all calls of a session: its race, its exchange and then the closes
abbrev pub calls_of : Course → List Call
calls_of c = closing c.answer ++ (c.exchange ++ c.raced)

-- a session of the role Initiate over a file's plan, with the framers of this shelf
pub record IsSessionOf (shelf : List Layer) (ready : given.Ready) (c : Course) : Type 0 where
  pub each : AddEach c.raced c.race
  pub lawful : IsLawfulRace (rules_of ready) 0 (targets_of ready) c.race c.answer
  pub exchanged : IsExchangeAfter ready (members_after shelf ready c.race c.answer) c.exchange c.outcome c.answer

-- calls of a session whose exchange was begun, and ended where memory ran out: its race, the first calls of its exchange
-- or all of them, and then the closes
pub record IsBegunSession (shelf : List Layer) (ready : given.Ready) (calls : List Call) : Type 0 where
  pub raced : List Call
  pub race : List Item
  pub answer : RaceAnswer
  pub exchange : List Call
  pub split : calls ≡ closing answer ++ (exchange ++ raced)
  pub each : AddEach raced race
  pub lawful : IsLawfulRace (rules_of ready) 0 (targets_of ready) race answer
  pub begun : IsBegunAfter ready (members_after shelf ready race answer) exchange answer
