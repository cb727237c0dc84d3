-- How the members of a group send, whichever members they are (RFC 9622 section 9.2).
use Rattle.std.specs.Prelude.{◌≡◌, ◌≤◌, ℕ, List, [], ◌∷◌, length, Option, Some, None, Result, Ok, Err}
use Rattle.taps_base.specs.declared.no_memory.NoMemory.{NoMemory}
use Rattle.taps_framer.specs.declared.framer.Framer as framer
use Rattle.taps_chain.specs.ChainLaws.{AreFramers}
use Rattle.taps_chain.specs.Layers.{layers_of}
use Rattle.taps_stack.specs.StackTable.{is_stream}
use Rattle.taps_socket.specs.Calls.{Call, items_of}
use Rattle.taps_socket.specs.Net.{Net}
use Rattle.taps_connection.specs.declared.sender.Pushed.{Pushed}
use Rattle.taps_connection.specs.declared.sender.Pushed.TheVariants as pushed
use Rattle.taps_connection.specs.Outboxes.{all_out}
use Rattle.taps_connection.specs.Runs.{AllGo}
use Rattle.taps_exchange.specs.declared.outcome.Outcome.{Outcome}
use Rattle.taps_exchange.specs.declared.outcome.Outcome.TheVariants as outcome
use Rattle.taps_exchange.specs.Decodings.{decoding_of}
use Rattle.taps_exchange.specs.Members.{calls_on, outbox_after}
use Rattle.taps_exchange.specs.Turns.{Place, stand_of, turn_of_group, IsInTurn, IsExchange}
use Rattle.taps_group.specs.declared.member.Member.{Member}
use Rattle.taps_group_exchange.specs.declared.sending.Sending.{Sending}
use Rattle.taps_group_exchange.specs.declared.sending.Sending.TheVariants as sending
use Rattle.taps_group_exchange.specs.GroupExchanges.{count_sent}
use Rattle.taps_group_exchange.specs.Standing.{EachAt, AreStanding, ReadsNone, count_shut}

-- what the answer of a member's turn makes of the exchange
abbrev pub IsToldBy : ℕ → Pushed → Result Sending NoMemory → Type 0
IsToldBy place (pushed.Sent number) result = result ≡ Ok sending.Goes
IsToldBy place pushed.Empty result = ⊥
IsToldBy place (pushed.Expired number) result = result ≡ Ok sending.Goes
IsToldBy place (pushed.Timed at) result = result ≡ Ok (sending.Over outcome.Timed)
IsToldBy place (pushed.Failed cause) result = result ≡ Ok (sending.Over (outcome.DataFailed cause))
IsToldBy place (pushed.NotSpeakable number layer) result =
    result ≡ Ok (sending.Over (outcome.NotSpeakable place number layer))
IsToldBy place pushed.NoMemory result = (none : NoMemory) × (result ≡ Err none)

-- all members have this deadline
abbrev pub AllUntil : ℕ → List Place → Type 0
AllUntil until [] = Unit {0}
AllUntil until (p ∷ places) = (p.member.until ≡ until) × AllUntil until places

-- The members send: none of the calls so far was timed or failed, and what is kept stands for them. Each item is the
-- end of a member's sending side.
pub record SendsOn {N : Type 0} {X : Type 0} {F : X → Type 0} (boxed : (x : X) → framer.Ghosts (F x))
    (Becomes : N → List Call → N → Type 0) (before now : N) (net net' : Net) (places : List Place)
    (members : List (Member X F)) : Type 0 where
  pub calls : List Call
  pub becomes : Becomes before calls now
  pub in_turn : IsInTurn (turn_of_group places) calls
  pub go : AllGo calls
  pub reads_none : ReadsNone calls
  pub standing : AreStanding boxed calls places members
  pub items : length (items_of calls) ≤ count_shut members
  pub faults : net'.faults ≡ net.faults

-- what a member keeps tells which message expired first
abbrev pub KeepsExpired : {X : Type 0} {F : X → Type 0} → List Call → Place → Member X F → Type 0
KeepsExpired calls p m =
    (outbox_after p.member (calls_on p.member.socket calls)).expired ≡ m.connection.sender.expired

-- and all messages had their turn
pub record HasSentAll {N : Type 0} {X : Type 0} {F : X → Type 0} (boxed : (x : X) → framer.Ghosts (F x))
    (Becomes : N → List Call → N → Type 0) (before now : N) (net net' : Net) (places : List Place)
    (members : List (Member X F)) : Type 0 where
  pub sends : SendsOn boxed Becomes before now net net' places members
  pub out : EachAt (λ (p : Place) (m : Member X F). stand_of sends.calls p ≡ all_out) places members
  pub expired : EachAt (KeepsExpired sends.calls) places members

-- a member tells how many messages it sent, and heard none
pub record IsSilent {X : Type 0} {F : X → Type 0} (boxed : (x : X) → framer.Ghosts (F x)) (calls : List Call)
    (p : Place) (m : Member X F) : Type 0 where
  pub sent : count_sent (outbox_after p.member (calls_on p.member.socket calls)) ≡ m.connection.sender.sent
  pub decoding : decoding_of (is_stream m.connection.stack) (layers_of boxed m.connection.chain) ≡ p.member.decoding
  pub framers : AreFramers (layers_of boxed m.connection.chain)

-- the sending ended the exchange
pub record IsSentOver {N : Type 0} {X : Type 0} {F : X → Type 0} (boxed : (x : X) → framer.Ghosts (F x))
    (Becomes : N → List Call → N → Type 0) (before now : N) (net net' : Net) (places : List Place) (o : Outcome)
    (members : List (Member X F)) : Type 0 where
  pub calls : List Call
  pub becomes : Becomes before calls now
  pub exchange : IsExchange (turn_of_group places) calls o
  pub reads_none : ReadsNone calls
  pub silent : EachAt (IsSilent boxed calls) places members
  pub few : length (items_of calls) ≤ length members
  pub faults : net'.faults ≡ net.faults

-- memory ran out
pub record IsSendingCut {N : Type 0} (Becomes : N → List Call → N → Type 0) (before now : N) (net net' : Net)
    (places : List Place) : Type 0 where
  pub calls : List Call
  pub becomes : Becomes before calls now
  pub in_turn : IsInTurn (turn_of_group places) calls
  pub few : length (items_of calls) ≤ length places
  pub faults : net'.faults ≡ net.faults

abbrev pub HasSentOut : {N : Type 0} {X : Type 0} {F : X → Type 0} → ((x : X) → framer.Ghosts (F x)) →
    (N → List Call → N → Type 0) → N → N → Net → Net → List Place → Result (Option Outcome) NoMemory →
    List (Member X F) → Type 0
HasSentOut boxed Becomes before now net net' places (Ok None) members =
    HasSentAll boxed Becomes before now net net' places members
HasSentOut boxed Becomes before now net net' places (Ok (Some o)) members =
    IsSentOver boxed Becomes before now net net' places o members
HasSentOut boxed Becomes before now net net' places (Err none) members =
    IsSendingCut Becomes before now net net' places
