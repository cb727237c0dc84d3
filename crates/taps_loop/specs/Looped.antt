-- How both ends of a connection that one program holds went through their exchange, from the accept to the closes
-- (RFC 9622 sections 7.2, 9.2, 9.3 and 10).
use Rattle.std.specs.Prelude.{◌≡◌, ◌≢◌, ◌≤◌, ◌<◌, ◌^◌, ◌-◌, ◌+◌, ℕ, min, false, List, [], ◌∷◌, ◌++◌, length, Result, Ok, Err}
use Rattle.taps_base.specs.Counts.{Rose}
use Rattle.taps_base.specs.declared.no_memory.NoMemory.{NoMemory}
use Rattle.taps_framer.specs.Layers.{Layer}
use Rattle.taps_message.specs.declared.message.Message.{Message}
use Rattle.taps_stack.specs.declared.stack.Stack.{Stack}
use Rattle.taps_stack.specs.StackTable.{is_stream}
use Rattle.taps_socket.specs.declared.answers.AcceptAnswer.TheVariants as accept
use Rattle.taps_socket.specs.declared.item.Item.{Item}
use Rattle.taps_socket.specs.declared.item.Item.TheVariants as item
use Rattle.taps_socket.specs.Calls.{Call, accepts, closes}
use Rattle.taps_socket.specs.Net.{Net, IsGiven}
use Rattle.taps_connection.specs.Conditions.{IsHeld}
use Rattle.taps_connection.specs.Encodings.{encoding_of}
use Rattle.taps_exchange.specs.declared.exchanged.Exchanged.{Exchanged}
use Rattle.taps_exchange.specs.Accepting.{accepted_of}
use Rattle.taps_exchange.specs.Decodings.{decoding_of}
use Rattle.taps_exchange.specs.Exchanged.{member_over}
use Rattle.taps_exchange.specs.Turns.{IsInTurn, IsExchange}
use Rattle.taps_loop.specs.declared.looped.Looped.{Looped}
use Rattle.taps_loop.specs.declared.looped.Looped.TheVariants as looped
use Rattle.taps_loop.specs.Loops.{Ends, turn_loop, sent_in, heard_in}
use Rattle.taps_loop.specs.Rounds.{AreLoopItems}

-- so many milliseconds behind a time, as far as times go
abbrev pub deadline_by : ℕ → ℕ → ℕ
deadline_by at patience = min (at + patience) (2 ^ 63 - 1)

-- both ends: the socket and the stack of each; the layers, and the messages that the first one accepts when the second
-- one is accepted; how many bytes are asked for at once over a stream; and for how long they go on
abbrev pub ends_over : ℕ → Stack → ℕ → Stack → List Layer → List Message → ℕ → ℕ → ℕ → Ends
ends_over from stack to accepting fs messages at piece patience = record {
  from = member_over from stack fs (accepted_of at messages) at 0 piece (deadline_by at patience);
  to = member_over to accepting fs [] at 0 piece (deadline_by at patience);
}

-- these are such ends, up to a deadline
pub record AreEndsOver (x : Ends) (from : ℕ) (stack : Stack) (to : ℕ) (accepting : Stack) (fs : List Layer)
    (messages : List Message) (at piece deadline : ℕ) : Type 0 where
  pub encoding_is : x.from.encoding ≡ encoding_of (is_stream stack) fs
  pub from_is : x.from.socket ≡ from
  pub messages_is : x.from.messages ≡ accepted_of at messages
  pub accepted_is : x.from.accepted ≡ at
  pub deadline_is : x.from.until ≡ deadline
  pub decoding_is : x.to.decoding ≡ decoding_of (is_stream accepting) fs
  pub to_is : x.to.socket ≡ to
  pub piece_is : x.to.piece ≡ piece

-- Both ends may exchange: their sockets, which are two, are held, and nothing was shut or ended. These are the last
-- reported time, how many bytes are asked for at once, and the deadline.
pub record MayExchangeBoth (from : ℕ) (stack : Stack) (to : ℕ) (accepting : Stack) (at piece deadline : ℕ) (net : Net) :
    Type 0 where
  pub piece_some : 1 ≤ piece
  pub piece_few : piece ≤ 65536
  pub holds : IsHeld net.trace from (is_stream stack) false false
  pub held : IsHeld net.trace to (is_stream accepting) false false
  pub apart : to ≢ from
  pub told : net.told ≡ at
  pub spare : 6 ≤ net.spare
  pub bounded : deadline < 2 ^ 63
  pub some : net.trace ≢ []

-- calls were made that are an exchange with this outcome, and then both sockets were closed
pub record IsClosedBoth {N : Type 0} (Becomes : N → List Call → N → Type 0) (x : Ends) (from to : ℕ) (before after : N)
    (e : Exchanged) : Type 0 where
  pub calls : List Call
  pub becomes : Becomes before (closes to ∷ closes from ∷ calls) after
  pub exchange : IsExchange (turn_loop x) calls e.outcome
  pub sent_is : sent_in x calls ≡ e.sent
  pub heard_is : heard_in x calls e.outcome ≡ e.heard.items

-- want of memory cut the exchange short, and then both sockets were closed
pub record IsCutBoth {N : Type 0} (Becomes : N → List Call → N → Type 0) (x : Ends) (from to : ℕ)
    (before after : N) : Type 0 where
  pub calls : List Call
  pub becomes : Becomes before (closes to ∷ closes from ∷ calls) after
  pub in_turn : IsInTurn (turn_loop x) calls

abbrev pub HasClosedBoth : {N : Type 0} → (N → List Call → N → Type 0) → Ends → ℕ → ℕ → N → N →
    Result Exchanged NoMemory → Type 0
HasClosedBoth Becomes x from to before after (Ok e) = IsClosedBoth Becomes x from to before after e
HasClosedBoth Becomes x from to before after (Err none) = IsCutBoth Becomes x from to before after

-- so it is for such ends
abbrev pub HasClosedOver : {N : Type 0} → (N → List Call → N → Type 0) → ℕ → Stack → ℕ → Stack → List Layer →
    List Message → ℕ → ℕ → ℕ → N → N → Result Exchanged NoMemory → Type 0
HasClosedOver Becomes from stack to accepting fs messages at piece deadline before after result = (x : Ends) →
    AreEndsOver x from stack to accepting fs messages at piece deadline →
    HasClosedBoth Becomes x from to before after result

-- both sockets were closed, and nothing else was done
pub record ClosesTwo (from to : ℕ) (before after : Net) : Type 0 where
  pub trace : after.trace ≡ item.Closed to ∷ item.Closed from ∷ before.trace
  pub spare : after.spare + 2 ≡ before.spare
  pub faults : after.faults ≡ before.faults
  pub traffic : (s : ℕ) → after.traffic s ≡ before.traffic s

-- items of both sockets' data were added, and both were closed; no call was faulted; and the traffic of all other
-- sockets stayed
pub record ClosesBoth (from to : ℕ) (before after : Net) : Type 0 where
  pub items : List Item
  pub trace : after.trace ≡ item.Closed to ∷ item.Closed from ∷ (items ++ before.trace)
  pub own : AreLoopItems from to items
  pub spare : after.spare + (2 + length items) ≡ before.spare
  pub spent : before.spare ≤ after.spare + 6
  pub faults : after.faults ≡ before.faults
  pub others : (s : ℕ) → s ≢ from → s ≢ to → after.traffic s ≡ before.traffic s

-- A connection was accepted, at a time; both ends went through their exchange; and their sockets and the listener's
-- were closed.
pub record IsLooped {N : Type 0} (Becomes : N → List Call → N → Type 0) (ends : ℕ → ℕ → Ends) (listener from until : ℕ)
    (before after : N) (net net' : Net) (e : Exchanged) : Type 0 where
  pub to : ℕ
  pub at : ℕ
  pub calls : List Call
  pub becomes : Becomes before
      (closes listener ∷ closes to ∷ closes from ∷ (calls ++ accepts listener until (accept.Accepted to at) ∷ [])) after
  pub exchange : IsExchange (turn_loop (ends to at)) calls e.outcome
  pub sent_is : sent_in (ends to at) calls ≡ e.sent
  pub heard_is : heard_in (ends to at) calls e.outcome ≡ e.heard.items
  pub given : IsGiven to net
  pub items : List Item
  pub trace : net'.trace ≡ item.Closed listener ∷ item.Closed to ∷ item.Closed from
      ∷ (items ++ item.Accepted listener to at ∷ net.trace)
  pub own : AreLoopItems from to items

-- want of memory cut it short
pub record IsLoopCut {N : Type 0} (Becomes : N → List Call → N → Type 0) (ends : ℕ → ℕ → Ends) (listener from until : ℕ)
    (before after : N) (net net' : Net) : Type 0 where
  pub to : ℕ
  pub at : ℕ
  pub calls : List Call
  pub becomes : Becomes before
      (closes listener ∷ closes to ∷ closes from ∷ (calls ++ accepts listener until (accept.Accepted to at) ∷ [])) after
  pub in_turn : IsInTurn (turn_loop (ends to at)) calls
  pub given : IsGiven to net
  pub items : List Item
  pub trace : net'.trace ≡ item.Closed listener ∷ item.Closed to ∷ item.Closed from
      ∷ (items ++ item.Accepted listener to at ∷ net.trace)
  pub own : AreLoopItems from to items

-- the accept was timed, or it was faulted; and then the sockets were closed
pub record IsLoopTimed {N : Type 0} (Becomes : N → List Call → N → Type 0) (listener from until : ℕ)
    (before after : N) (net net' : Net) : Type 0 where
  pub at : ℕ
  pub becomes : Becomes before (closes listener ∷ closes from ∷ accepts listener until (accept.Timed at) ∷ []) after
  pub trace : net'.trace ≡ item.Closed listener ∷ item.Closed from ∷ net.trace

pub record IsLoopFaulted {N : Type 0} (Becomes : N → List Call → N → Type 0) (listener from until : ℕ)
    (before after : N) (net net' : Net) : Type 0 where
  pub at : ℕ
  pub becomes : Becomes before (closes listener ∷ closes from ∷ accepts listener until (accept.Faulted at) ∷ []) after
  pub trace : net'.trace ≡ item.Closed listener ∷ item.Closed from ∷ item.Faulted at ∷ net.trace
  pub faulted : Rose net.faults net'.faults

-- what came of it
abbrev pub HasLooped : {N : Type 0} → (N → List Call → N → Type 0) → (ℕ → ℕ → Ends) → ℕ → ℕ → ℕ → N → N → Net → Net →
    Result Looped NoMemory → Type 0
HasLooped Becomes ends listener from until before after net net' (Ok (looped.Exchanged e)) =
    IsLooped Becomes ends listener from until before after net net' e
HasLooped Becomes ends listener from until before after net net' (Ok looped.Timed) =
    IsLoopTimed Becomes listener from until before after net net'
HasLooped Becomes ends listener from until before after net net' (Ok looped.Faulted) =
    IsLoopFaulted Becomes listener from until before after net net'
HasLooped Becomes ends listener from until before after net net' (Err none) =
    IsLoopCut Becomes ends listener from until before after net net'
