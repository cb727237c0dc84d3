-- How the exchange over an accepted connection was carried out.
use Rattle.std.specs.Prelude.{◌≡◌, ◌≢◌, ◌≤◌, ℕ, ◌+◌, List, [], ◌∷◌, ◌++◌, length, Option, Some, None, Result, Ok, Err}
use Rattle.taps_base.specs.declared.no_memory.NoMemory.{NoMemory}
use Rattle.taps_socket.specs.declared.item.Item.{Item}
use Rattle.taps_socket.specs.declared.item.Item.TheVariants as item
use Rattle.taps_socket.specs.Calls.{Call, to_begin}
use Rattle.taps_socket.specs.Net.{Net}
use Rattle.taps_exchange.specs.declared.exchanged.Exchanged.{Exchanged}
use Rattle.taps_exchange.specs.declared.outcome.Outcome.{Outcome}
use Rattle.taps_exchange.specs.declared.outcome.Outcome.TheVariants as outcome
use Rattle.taps_exchange.specs.Decodings.{messages_of}
use Rattle.taps_exchange.specs.Outcomes.{IsExchangeItem}
use Rattle.taps_exchange.specs.Turns.{asks, over, done_or}
use Rattle.taps_listening.specs.ListenRules.{ListenRules, deadline_from}
use Rattle.taps_listening.specs.Serving.{Served, hearing_of, answered_by, turn_serving, served_after, AllServing}

-- calls that come next on a connection led from one state of it to another
pub record Serves {N : Type 0} (Becomes : N → List Call → N → Type 0) (r : ListenRules) (place : ℕ) (before after : N)
    (c c' : Served) : Type 0 where
  pub calls : List Call
  pub becomes : Becomes before calls after
  pub in_turn : AllServing r place c calls
  pub reaches : served_after c calls ≡ c'

-- and with them the exchange over it was over, with this outcome: so many messages were sent, and these were heard
pub record IsServedOut {N : Type 0} (Becomes : N → List Call → N → Type 0) (r : ListenRules) (place : ℕ)
    (before after : N) (c : Served) (o : Outcome) (sent : ℕ) (heard : List (List ℕ)) : Type 0 where
  pub out : Served
  pub serves : Serves Becomes r place before after c out
  pub is_over : turn_serving r place out ≡ over o
  pub told : answered_by r out ≡ record { sent = sent; heard = heard }

-- or memory ran out before
pub record IsServedShort {N : Type 0} (Becomes : N → List Call → N → Type 0) (r : ListenRules) (place : ℕ)
    (before after : N) (c : Served) : Type 0 where
  pub out : Served
  pub serves : Serves Becomes r place before after c out

abbrev pub HasServed : {N : Type 0} → (N → List Call → N → Type 0) → ListenRules → ℕ → N → N → Served →
    Result Exchanged NoMemory → Type 0
HasServed Becomes r place before after c (Ok e) =
    IsServedOut Becomes r place before after c e.outcome e.sent e.heard.items
HasServed Becomes r place before after c (Err none) = IsServedShort Becomes r place before after c

-- the connection over a socket heard enough, namely these, and is to accept its messages
pub record MayAnswer (r : ListenRules) (place socket until : ℕ) (heard : List (List ℕ)) (c : Served) : Type 0 where
  pub own : c.socket ≡ socket
  pub unanswered : c.answered ≡ None
  pub none_sent : c.answers ≡ []
  pub bounded : deadline_from r c.since ≡ until
  pub next : turn_serving r place c ≡ asks to_begin
  pub heard_is : messages_of (hearing_of r c) ≡ heard

-- the outcome of the connection at a place: that which ended it, or else by what expired
abbrev pub outcome_or : ℕ → Option ℕ → Option Outcome → Outcome
outcome_or place expired (Some o) = o
outcome_or place expired None = done_or expired place outcome.Done

-- an item that the calls of a connection add: the time was asked, or an item of its data
abbrev pub IsServingItem : ℕ → Item → Type 0
IsServingItem s (item.Began at) = Unit {0}
IsServingItem s i = IsExchangeItem s i

abbrev pub AreServingItems : ℕ → List Item → Type 0
AreServingItems s [] = Unit {0}
AreServingItems s (i ∷ items) = IsServingItem s i × AreServingItems s items

-- What the calls of a connection change: such items were added, at most so many; no call was faulted; and the traffic of
-- other sockets stayed.
pub record KeepsServing (socket most : ℕ) (before after : Net) : Type 0 where
  pub items : List Item
  pub trace : after.trace ≡ items ++ before.trace
  pub few : length items ≤ most
  pub own : AreServingItems socket items
  pub spare : after.spare + length items ≡ before.spare
  pub faults : after.faults ≡ before.faults
  pub others : (s : ℕ) → s ≢ socket → after.traffic s ≡ before.traffic s
