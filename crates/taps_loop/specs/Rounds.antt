-- A round of the ends: the one sends, and then the other hears.
use Rattle.std.specs.Prelude.{◌≡◌, ◌≢◌, ℕ, ◌+◌, ◌-◌, ◌<◌, ◌≤◌, Bool, true, false, if◌then◌else◌, min, List, [], ◌∷◌, ◌++◌, length, Result, Ok, Err, ◌⊎◌}
use Rattle.taps_base.specs.declared.no_memory.NoMemory.{NoMemory}
use Rattle.taps_framer.specs.Layers.{Layer}
use Rattle.taps_socket.specs.declared.item.Item.{Item}
use Rattle.taps_socket.specs.Calls.{Call}
use Rattle.taps_socket.specs.Net.{Net}
use Rattle.taps_socket.specs.Shows.{told_after}
use Rattle.taps_connection.specs.declared.sender.Sender.{Sender}
use Rattle.taps_connection.specs.Encodings.{Encoding}
use Rattle.taps_connection.specs.Senders.{settled}
use Rattle.taps_connection.specs.Unread.{Unread, count_given}
use Rattle.taps_exchange.specs.declared.outcome.Outcome.{Outcome}
use Rattle.taps_exchange.specs.declared.outcome.Outcome.TheVariants as outcome
use Rattle.taps_exchange.specs.Outcomes.{IsExchangeItem}
use Rattle.taps_exchange.specs.Turns.{over, done_or, IsInTurn}
use Rattle.taps_loop.specs.declared.looked.Look.{Look}
use Rattle.taps_loop.specs.declared.looked.Look.TheVariants as look
use Rattle.taps_loop.specs.declared.rounds.Round.{Round}
use Rattle.taps_loop.specs.declared.rounds.Round.TheVariants as round
use Rattle.taps_loop.specs.Loops.{Ends, sending, sent_in, had_turn, waiting, hearing, turn_hearing, turn_sending, turn_loop, heard_in}
use Rattle.taps_loop.specs.Looks.{to_hear}
use Rattle.taps_loop.specs.Sends.{waits}
use Rattle.taps_loop.specs.Hears.{IsEnd, IsKept, IsFlagged, soon_by}

-- the time up to which the sending end sends
abbrev pub until_if : Bool → ℕ → ℕ → ℕ
until_if enough told deadline = if enough then soon_by told deadline else min deadline told

-- the sockets of both ends, how messages become bytes and bytes messages, and the deadline
pub record AreEnds (x : Ends) (e : Encoding) (from : ℕ) (stream : Bool) (fs : List Layer) (to piece deadline : ℕ) :
    Type 0 where
  pub encoding_is : x.from.encoding ≡ e
  pub from_is : x.from.socket ≡ from
  pub apart : x.to.socket ≢ from
  pub fixed : IsEnd x stream fs to piece deadline

-- what is kept of both ends stands for these calls, up to the last reported time
pub record AreKept (x : Ends) (calls : List Call) (e : Encoding) (stream : Bool) (fs : List Layer) (piece : ℕ)
    (s : Sender) (told : ℕ) (ended : Bool) (u : Unread) (ms : List (List ℕ)) : Type 0 where
  pub in_turn : IsInTurn (turn_loop x) calls
  pub sends : sending x calls ≡ settled e s
  pub sent_is : sent_in x calls ≡ s.sent
  pub hears : IsKept x calls stream fs piece ended u ms
  pub told_is : told ≡ told_after calls x.from.accepted

-- Then it is the turn of the sending end. Where a message waits, as many messages were heard as are needed or fewer.
pub record Stands (x : Ends) (calls : List Call) (s : Sender) (ms : List (List ℕ)) (enough : Bool) : Type 0 where
  pub turn : turn_loop x calls ≡ turn_sending x calls
  pub waits_for : waits s ≡ 1 → waiting x calls ≡ 1
  pub flagged : waits s ≡ 1 → IsFlagged enough (s.sent + 1) (hearing x 1 calls) ms
  pub enough_so : enough ≡ true → s.sent ≤ length ms
  pub had : enough ≡ false → had_turn calls ≡ true

-- no message is left, and the accepted end goes on alone
pub record IsLast (x : Ends) (calls : List Call) (s : Sender) (ms : List (List ℕ)) (enough : Bool) : Type 0 where
  pub turn : turn_loop x calls ≡ turn_hearing x 0 calls (over (done_or s.expired 0 outcome.Done))
  pub none : waits s ≡ 0
  pub enough_so : enough ≡ true → s.sent ≤ length ms
  pub had : enough ≡ false → had_turn calls ≡ true

-- the exchange is over: so many messages were sent, and these were heard
pub record IsEnded (x : Ends) (calls : List Call) (o : Outcome) (sent : ℕ) (ms : List (List ℕ)) : Type 0 where
  pub in_turn : IsInTurn (turn_loop x) calls
  pub ends : turn_loop x calls ≡ over o
  pub sent_is : sent_in x calls ≡ sent
  pub heard_is : heard_in x calls o ≡ ms

-- calls were made, each in turn; and then it is the sending end's turn again, or the exchange is over
abbrev pub IsRound : Ends → List Call → Encoding → Bool → List Layer → ℕ → Sender → ℕ → Bool → Unread → List (List ℕ) →
    Result Round NoMemory → Type 0
IsRound x calls e stream fs piece s told ended u ms (Ok (round.Again enough)) =
    AreKept x calls e stream fs piece s told ended u ms × Stands x calls s ms enough
IsRound x calls e stream fs piece s told ended u ms (Ok (round.Over o)) = IsEnded x calls o s.sent ms
IsRound x calls e stream fs piece s told ended u ms (Err none) = IsInTurn (turn_loop x) calls

pub record HasRounded {N : Type 0} (Becomes : N → List Call → N → Type 0) (x : Ends) (calls : List Call) (e : Encoding)
    (stream : Bool) (fs : List Layer) (piece : ℕ) (before after : N) (result : Result Round NoMemory) (s : Sender)
    (told : ℕ) (ended : Bool) (u : Unread) (ms : List (List ℕ)) : Type 0 where
  pub more : List Call
  pub becomes : Becomes before more after
  pub so : IsRound x (more ++ calls) e stream fs piece s told ended u ms result

-- what is left to be heard, and of the time
abbrev pub rest_by : ℕ → ℕ → Bool → Unread → ℕ
rest_by deadline told ended u = to_hear ended u + (deadline - told)

-- where fewer messages were heard than are needed, fewer were given out
abbrev pub Lags : Bool → Sender → Unread → Type 0
Lags enough s u = enough ≡ false → waits s ≡ 1 → count_given u < s.sent + 1

abbrev pub IfAgain : Result Round NoMemory → (Bool → Type 0) → Type 0
IfAgain (Ok (round.Again enough)) P = P enough
IfAgain (Ok (round.Over o)) P = Unit {0}
IfAgain (Err none) P = Unit {0}

-- an item of either socket
abbrev pub AreLoopItems : ℕ → ℕ → List Item → Type 0
AreLoopItems a b [] = Unit {0}
AreLoopItems a b (i ∷ items) = (IsExchangeItem a i ⊎ IsExchangeItem b i) × AreLoopItems a b items

-- items of the data of both sockets were added, for which spare was used up; no call was faulted; and the traffic of
-- all other sockets stayed
pub record Moves (a b : ℕ) (before after : Net) : Type 0 where
  pub items : List Item
  pub trace : after.trace ≡ items ++ before.trace
  pub own : AreLoopItems a b items
  pub spare : after.spare + length items ≡ before.spare
  pub faults : after.faults ≡ before.faults
  pub others : (s : ℕ) → s ≢ a → s ≢ b → after.traffic s ≡ before.traffic s

-- what a look makes of the beginning
abbrev pub round_of : Look → Round
round_of look.Enough = round.Again true
round_of look.Lacks = round.Again false
round_of (look.Over o) = round.Over o

-- calls were made, which are an exchange with an outcome; or memory ran out behind the first of them
pub record IsTaken {N : Type 0} (Becomes : N → List Call → N → Type 0) (x : Ends) (before after : N) (o : Outcome)
    (sent : ℕ) (ms : List (List ℕ)) : Type 0 where
  pub calls : List Call
  pub becomes : Becomes before calls after
  pub ended : IsEnded x calls o sent ms

pub record IsTakenShort {N : Type 0} (Becomes : N → List Call → N → Type 0) (x : Ends) (before after : N) : Type 0 where
  pub calls : List Call
  pub becomes : Becomes before calls after
  pub in_turn : IsInTurn (turn_loop x) calls

abbrev pub HasTaken : {N : Type 0} → (N → List Call → N → Type 0) → Ends → N → N → Result Outcome NoMemory → ℕ →
    List (List ℕ) → Type 0
HasTaken Becomes x before after (Ok o) sent ms = IsTaken Becomes x before after o sent ms
HasTaken Becomes x before after (Err none) sent ms = IsTakenShort Becomes x before after
