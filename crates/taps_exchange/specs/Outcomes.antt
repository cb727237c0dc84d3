-- What each outcome of an exchange says of its calls (local).
use Rattle.std.specs.Prelude.{◌≡◌, ◌≤◌, ℕ, ◌+◌, Bool, true, List, [], ◌∷◌, length, Some, None}
use Rattle.taps_base.specs.Counts.{one_more}
use Rattle.taps_chain.specs.declared.heard.BadAt.{BadAt}
use Rattle.taps_message.specs.declared.accepted.Accepted.{Accepted}
use Rattle.taps_socket.specs.declared.cause.Cause.{Cause}
use Rattle.taps_socket.specs.declared.item.Item.{Item}
use Rattle.taps_socket.specs.declared.item.Item.TheVariants as item
use Rattle.taps_socket.specs.declared.timed_call.TimedCall.{TimedCall}
use Rattle.taps_socket.specs.Calls.{Call, items_by, items_of}
use Rattle.taps_socket.specs.Shows.{timed_by, timed_after}
use Rattle.taps_connection.specs.Outboxes.{refused, all_out}
use Rattle.taps_exchange.specs.declared.outcome.Outcome.{Outcome}
use Rattle.taps_exchange.specs.declared.outcome.Outcome.TheVariants as outcome
use Rattle.taps_exchange.specs.Decodings.{enough, lacks, breaks}
use Rattle.taps_exchange.specs.Expiries.{ExpireInTime}
use Rattle.taps_exchange.specs.Members.{Member, has_ended, outbox_after, hearing_after}
use Rattle.taps_exchange.specs.Turns.{turn_alone, IsExchange}
use Rattle.taps_exchange.specs.Written.{pieces_written, AllTookAll, HasSomeBytes, IsWritten}

-- every message was sent or expired
abbrev pub IsOut : Member → List Call → Type 0
IsOut m calls = (outbox_after m calls).stand ≡ all_out

-- as many messages as it needs were heard
abbrev pub HasHeardEnough : Member → List Call → Type 0
HasHeardEnough m calls = (ms : List (List ℕ)) × (hearing_after m calls ≡ enough ms)

-- fewer were, and the bytes behind them are no message yet
abbrev pub HasHeardLess : Member → List Call → Type 0
HasHeardLess m calls = (ms : List (List ℕ)) × ((unread : List ℕ) × (hearing_after m calls ≡ lacks ms unread))

-- fewer were, and the bytes behind them are bad: the index, the layer and the place
pub record HasHeardBad (m : Member) (calls : List Call) (b : BadAt) : Type 0 where
  pub messages : List (List ℕ)
  pub layer : ℕ
  pub place : ℕ
  pub heard : hearing_after m calls ≡ breaks messages layer place
  pub told : b ≡ record { message = length messages; layer = layer; place = place }

-- the newest call was timed: one on the connection's socket, up to the deadline
pub record EndsTimed (m : Member) (calls : List Call) : Type 0 where
  pub call : Call
  pub earlier : List Call
  pub newest : calls ≡ call ∷ earlier
  pub timed : TimedCall
  pub told : timed_by call ≡ Some timed
  pub own : timed.socket ≡ m.socket
  pub bounded : timed.until ≡ m.until

-- the newest call failed with this cause, on the connection's socket
pub record EndsFailed (m : Member) (calls : List Call) (cause : Cause) : Type 0 where
  pub call : Call
  pub earlier : List Call
  pub newest : calls ≡ call ∷ earlier
  pub sending : Bool
  pub failed : items_by call ≡ item.DataFailed m.socket sending cause ∷ []

-- a message is refused by a layer
abbrev pub IsStuck : Member → List Call → ℕ → ℕ → Type 0
IsStuck m calls number layer = (behind : List Accepted) × ((outbox_after m calls).stand ≡ refused number layer behind)

-- each outcome, and where it comes
abbrev pub HasCause : Member → List Call → Outcome → Type 0
HasCause m calls outcome.Done = IsOut m calls × (((outbox_after m calls).expired ≡ None) × HasHeardEnough m calls)
HasCause m calls (outcome.Expired place number) =
    IsOut m calls × (((outbox_after m calls).expired ≡ Some number) × ((place ≡ 0) × HasHeardEnough m calls))
HasCause m calls outcome.Timed = EndsTimed m calls
HasCause m calls (outcome.DataFailed cause) = EndsFailed m calls cause
HasCause m calls outcome.PeerEnded = IsOut m calls × ((has_ended calls ≡ true) × HasHeardLess m calls)
HasCause m calls (outcome.BadFrame b) = IsOut m calls × HasHeardBad m calls b
HasCause m calls (outcome.NotSpeakable place number layer) = IsStuck m calls number layer × (place ≡ 0)

-- one timed call more where the outcome says so, and else none
abbrev pub count_by : Outcome → ℕ → ℕ
count_by outcome.Timed n = one_more n
count_by _ n = n

-- an item that an exchange adds: the end of the socket's sending side, the other end's, or a failure
abbrev pub IsExchangeItem : ℕ → Item → Type 0
IsExchangeItem s (item.Shut socket) = socket ≡ s
IsExchangeItem s (item.Ended socket) = socket ≡ s
IsExchangeItem s (item.DataFailed socket sending cause) = socket ≡ s
IsExchangeItem s _ = ⊥

abbrev pub AreExchangeItems : ℕ → List Item → Type 0
AreExchangeItems s [] = Unit {0}
AreExchangeItems s (i ∷ items) = IsExchangeItem s i × AreExchangeItems s items

abbrev pub failures_by : Item → ℕ
failures_by (item.DataFailed socket sending cause) = 1
failures_by _ = 0

abbrev pub count_failures : List Item → ℕ
count_failures [] = 0
count_failures (i ∷ items) = failures_by i + count_failures items

-- What an exchange says in other words: what was written; by which times messages expired; the cause of its outcome;
-- one timed call where it is Timed, and else none; and its items, of which at most one is a failure.
pub record IsJudged (m : Member) (calls : List Call) (o : Outcome) : Type 0 where
  pub written : IsWritten m.encoding m.messages (outbox_after m calls) (pieces_written calls)
      (AllTookAll calls × HasSomeBytes m.encoding)
  pub in_time : ExpireInTime m calls written.turned
  pub cause : HasCause m calls o
  pub timed : (n : ℕ) → timed_after calls n ≡ count_by o n
  pub items : AreExchangeItems m.socket (items_of calls)
  pub one_failure : count_failures (items_of calls) ≤ 1

-- so it is for each exchange of one member
abbrev pub JudgesExchanges : Type 0
JudgesExchanges = (m : Member) (calls : List Call) (o : Outcome) →
    IsExchange (turn_alone m) calls o → IsJudged m calls o
