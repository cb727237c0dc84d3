-- How the exchange of one member that initiated was carried out over sockets (RFC 9622 sections 9.2, 9.3 and 10).
use Rattle.std.specs.Prelude.{◌≡◌, ◌≢◌, ◌≤◌, ℕ, ◌+◌, List, [], ◌∷◌, ◌++◌, length, Option, Some, None, Result, Ok, Err}
use Rattle.taps_base.specs.declared.no_memory.NoMemory.{NoMemory}
use Rattle.taps_framer.specs.Layers.{Layer}
use Rattle.taps_message.specs.declared.accepted.Accepted.{Accepted}
use Rattle.taps_stack.specs.declared.stack.Stack.{Stack}
use Rattle.taps_stack.specs.StackTable.{is_stream}
use Rattle.taps_socket.specs.declared.item.Item.TheVariants as item
use Rattle.taps_socket.specs.Calls.{Call, closes, items_of}
use Rattle.taps_socket.specs.Net.{Net}
use Rattle.taps_connection.specs.declared.sender.Sender.{Sender}
use Rattle.taps_connection.specs.Encodings.{encoding_of}
use Rattle.taps_exchange.specs.declared.exchanged.Exchanged.{Exchanged}
use Rattle.taps_exchange.specs.declared.outcome.Outcome.{Outcome}
use Rattle.taps_exchange.specs.declared.outcome.Outcome.TheVariants as outcome
use Rattle.taps_exchange.specs.Decodings.{decoding_of, messages_of}
use Rattle.taps_exchange.specs.Expiries.{TimesRise}
use Rattle.taps_exchange.specs.Members.{Member, calls_on, outbox_after, hearing_after}
use Rattle.taps_exchange.specs.Outcomes.{AreExchangeItems, IsJudged, count_by}
use Rattle.taps_exchange.specs.Turns.{Place, initiate, turn_of, turn_alone, done_or, IsInTurn, IsExchange}

-- a connection of a stack through layers over a socket, which accepted these messages at a time
abbrev pub member_over : ℕ → Stack → List Layer → List Accepted → ℕ → ℕ → ℕ → ℕ → Member
member_over socket stack fs messages accepted needs piece until = record {
  socket = socket;
  encoding = encoding_of (is_stream stack) fs;
  decoding = decoding_of (is_stream stack) fs;
  messages = messages;
  accepted = accepted;
  needs = needs;
  piece = piece;
  until = until;
}

-- no message had its turn
pub record IsFresh (s : Sender) : Type 0 where
  pub begun : s.begun ≡ None
  pub sent : s.sent ≡ 0
  pub expired : s.expired ≡ None

-- what is heard in time ends the exchange as it is done, unless an outcome ended it before
abbrev pub outcome_or : Option ℕ → Option Outcome → Outcome
outcome_or expired (Some o) = o
outcome_or expired None = done_or expired 0 outcome.Done

-- Sockets went through calls that are the exchange of a member, with this outcome: so many messages were sent, and
-- these were heard.
pub record IsTalk {N : Type 0} (Becomes : N → List Call → N → Type 0) (before after : N) (m : Member) (o : Outcome)
    (sent : ℕ) (heard : List (List ℕ)) : Type 0 where
  pub calls : List Call
  pub becomes : Becomes before calls after
  pub exchange : IsExchange (turn_alone m) calls o
  pub sent_is : (outbox_after m calls).sent ≡ sent
  pub heard_is : messages_of (hearing_after m calls) ≡ heard

-- or want of memory cut it short
pub record IsCutTalk {N : Type 0} (Becomes : N → List Call → N → Type 0) (before after : N) (m : Member) : Type 0 where
  pub calls : List Call
  pub becomes : Becomes before calls after
  pub in_turn : IsInTurn (turn_alone m) calls

abbrev pub HasTalked : {N : Type 0} → (N → List Call → N → Type 0) → N → N → Member →
    Result Exchanged NoMemory → Type 0
HasTalked Becomes before after m (Ok e) = IsTalk Becomes before after m e.outcome e.sent e.heard.items
HasTalked Becomes before after m (Err none) = IsCutTalk Becomes before after m

-- the member as the one of its group
abbrev pub alone : Member → ℕ → List ℕ → Place
alone m priority orders = record { member = m; priority = priority; orders = orders }

-- The calls of an exchange and the close of its socket were made: their items were added, at most three, for which
-- spare was used up, and all of which are of the socket; no call was faulted; and the traffic of all other sockets
-- stayed.
pub record HasClosed (socket : ℕ) (calls : List Call) (before after : Net) : Type 0 where
  pub trace : after.trace ≡ item.Closed socket ∷ (items_of calls ++ before.trace)
  pub few : length (items_of calls) ≤ 2
  pub own_items : AreExchangeItems socket (items_of calls)
  pub spare : after.spare + (1 + length (items_of calls)) ≡ before.spare
  pub faults : after.faults ≡ before.faults
  pub others : (s : ℕ) → s ≢ socket → after.traffic s ≡ before.traffic s

-- Sockets went through the calls of an exchange of a member with this outcome, and then the socket was closed: so many
-- messages were sent, and these were heard. One timed call more was made where the outcome is Timed, and else none. No
-- call told a time before an earlier one.
pub record IsExchanged {N : Type 0} (Becomes : N → List Call → N → Type 0) (before after : N) (net net' : Net)
    (m : Member) (o : Outcome) (sent : ℕ) (heard : List (List ℕ)) : Type 0 where
  pub calls : List Call
  pub becomes : Becomes before (closes m.socket ∷ calls) after
  pub exchange : (priority : ℕ) (orders : List ℕ) →
      IsExchange (turn_of (initiate (alone m priority orders ∷ []))) calls o
  pub sent_is : (outbox_after m calls).sent ≡ sent
  pub heard_is : messages_of (hearing_after m calls) ≡ heard
  pub own : calls_on m.socket calls ≡ calls
  pub judged : IsJudged m calls o
  pub times_rise : TimesRise calls
  pub changes : HasClosed m.socket calls net net'
  pub timed : net'.timed ≡ count_by o net.timed

-- Want of memory cut the exchange short, and then the socket was closed.
pub record IsCutShort {N : Type 0} (Becomes : N → List Call → N → Type 0) (before after : N) (net net' : Net)
    (m : Member) : Type 0 where
  pub calls : List Call
  pub becomes : Becomes before (closes m.socket ∷ calls) after
  pub in_turn : (priority : ℕ) (orders : List ℕ) →
      IsInTurn (turn_of (initiate (alone m priority orders ∷ []))) calls
  pub own : calls_on m.socket calls ≡ calls
  pub changes : HasClosed m.socket calls net net'

-- the exchange was carried out, or want of memory cut it short
abbrev pub HasExchanged : {N : Type 0} → (N → List Call → N → Type 0) → N → N → Net → Net → Member →
    Result Exchanged NoMemory → Type 0
HasExchanged Becomes before after net net' m (Ok e) =
    IsExchanged Becomes before after net net' m e.outcome e.sent e.heard.items
HasExchanged Becomes before after net net' m (Err none) = IsCutShort Becomes before after net net' m
