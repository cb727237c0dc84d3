-- How the exchange of a group was carried out over sockets (RFC 9622 sections 7.4, 9 and 10).
use Rattle.std.specs.Prelude.{◌≡◌, ◌≤◌, ◌-◌, ◌*◌, ℕ, true, List, [], ◌∷◌, ◌++◌, length, map, Result, Ok, Err}
use Rattle.taps_base.specs.declared.no_memory.NoMemory.{NoMemory}
use Rattle.taps_socket.specs.declared.item.Item.{Item}
use Rattle.taps_socket.specs.Calls.{Call, items_of}
use Rattle.taps_socket.specs.Net.{Net}
use Rattle.taps_socket.specs.RaceSockets.{has}
use Rattle.taps_connection.specs.Outboxes.{Stand, begun, ending, refused, all_out, Outbox}
use Rattle.taps_exchange.specs.declared.outcome.Outcome.{Outcome}
use Rattle.taps_exchange.specs.Decodings.{messages_of}
use Rattle.taps_exchange.specs.Members.{calls_on, outbox_after, hearing_after}
use Rattle.taps_exchange.specs.Outcomes.{IsExchangeItem, count_by}
use Rattle.taps_exchange.specs.Turns.{Place, initiate, turn_of, IsInTurn, IsExchange}
use Rattle.taps_group.specs.Closes.{close_items, close_calls}
use Rattle.taps_group_exchange.specs.declared.exchanging.GroupExchanged.{GroupExchanged}
use Rattle.taps_group_exchange.specs.declared.told.Told.{Told}

-- what a member sent and heard: how many messages, and which
pub record MemberTold : Type 0 where
  pub sent : ℕ
  pub heard : List (List ℕ)

abbrev pub told_by : Told → MemberTold
told_by t = record { sent = t.sent; heard = t.heard.items }

-- the number of messages that were sent whole: an empty one behind which a stream is still to be ended had no turn yet
abbrev pub sent_by : Stand → ℕ → ℕ
sent_by (ending behind) sent = sent - 1
sent_by (begun number ends rest behind) sent = sent
sent_by (refused number layer behind) sent = sent
sent_by all_out sent = sent

abbrev pub count_sent : Outbox → ℕ
count_sent box = sent_by box.stand box.sent

abbrev pub told_of : List Call → Place → MemberTold
told_of calls p = record {
  sent = count_sent (outbox_after p.member (calls_on p.member.socket calls));
  heard = messages_of (hearing_after p.member (calls_on p.member.socket calls));
}

abbrev pub sockets_in : List Place → List ℕ
sockets_in places = map (λ (p : Place). p.member.socket) places

-- each item is of the data of one of these sockets
abbrev pub AreGroupItems : List ℕ → List Item → Type 0
AreGroupItems sockets [] = Unit {0}
AreGroupItems sockets (i ∷ items) =
    ((s : ℕ) × ((has sockets s ≡ true) × IsExchangeItem s i)) × AreGroupItems sockets items

-- The calls of an exchange and the closes of these sockets were made: their items were added, and no call was faulted.
pub record HasClosedAll (sockets : List ℕ) (calls : List Call) (before after : Net) : Type 0 where
  pub trace : after.trace ≡ close_items sockets ++ (items_of calls ++ before.trace)
  pub few : length (items_of calls) ≤ 2 * length sockets
  pub own_items : AreGroupItems sockets (items_of calls)
  pub faults : after.faults ≡ before.faults

-- Sockets went through the calls of an exchange of these members with this outcome, and then all members were closed by
-- place: this was sent and heard. One timed call more was made where the outcome is Timed, and else none.
pub record IsGroupExchanged {N : Type 0} (Becomes : N → List Call → N → Type 0) (before after : N) (net net' : Net)
    (places : List Place) (o : Outcome) (told : List Told) : Type 0 where
  pub calls : List Call
  pub becomes : Becomes before (close_calls (sockets_in places) ++ calls) after
  pub exchange : IsExchange (turn_of (initiate places)) calls o
  pub told_is : map told_by told ≡ map (told_of calls) places
  pub changes : HasClosedAll (sockets_in places) calls net net'
  pub timed : net'.timed ≡ count_by o net.timed

-- Want of memory cut the exchange short, and then all members were closed.
pub record IsGroupCut {N : Type 0} (Becomes : N → List Call → N → Type 0) (before after : N) (net net' : Net)
    (places : List Place) : Type 0 where
  pub calls : List Call
  pub becomes : Becomes before (close_calls (sockets_in places) ++ calls) after
  pub in_turn : IsInTurn (turn_of (initiate places)) calls
  pub changes : HasClosedAll (sockets_in places) calls net net'

-- the exchange was carried out, or want of memory cut it short
abbrev pub HasExchangedAll : {N : Type 0} → (N → List Call → N → Type 0) → N → N → Net → Net → List Place →
    Result GroupExchanged NoMemory → Type 0
HasExchangedAll Becomes before after net net' places (Ok e) =
    IsGroupExchanged Becomes before after net net' places e.outcome e.members.items
HasExchangedAll Becomes before after net net' places (Err none) = IsGroupCut Becomes before after net net' places
