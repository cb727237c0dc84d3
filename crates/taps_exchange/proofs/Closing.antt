-- Behind the calls of an exchange its socket is closed.
use Rattle.std.proofs.Common.{◌≡◌, ◌-◌, ◌≤◌, List, [], ◌∷◌, ◌++◌, length, ap, sym, ◌∙◌, arith, length-append}
use Rattle.std.specs.Prelude.{Result, Ok, Err}
use Rattle.taps_base.specs.declared.no_memory.NoMemory.{NoMemory}
use Rattle.taps_socket.specs.declared.item.Item.{Item}
use Rattle.taps_socket.specs.declared.item.Item.TheVariants as item
use Rattle.taps_socket.specs.Calls.{Call, closes, items_of}
use Rattle.taps_socket.specs.Net.{Net, with_item}
use Rattle.taps_socket.specs.Shows.{Shows}
use Rattle.taps_exchange.specs.declared.exchanged.Exchanged.{Exchanged}
use Rattle.taps_exchange.specs.Changes.{Changes}
use Rattle.taps_exchange.specs.Exchanged.{alone, HasTalked, HasClosed, HasExchanged}
use Rattle.taps_exchange.specs.Members.{Member}
use Rattle.taps_exchange.specs.Outcomes.{AreExchangeItems}
use Rattle.taps_exchange.proofs.Behind.{unchanged}
use Rattle.taps_exchange.proofs.Alone.{one_is_alone}
use Rattle.taps_exchange.proofs.Expiring.{times_rise}
use Rattle.taps_exchange.proofs.Judging.{judged, items_are}

closed_by : (m : Member) (calls : List Call) (a b c : Net) → Changes m.socket 2 a b → Shows a calls b → c ≡ with_item b (item.Closed m.socket) b.told → 3 ≤ a.spare → AreExchangeItems m.socket (items_of calls) → HasClosed m.socket calls a c
closed_by m calls a b c k s closed room own =
    let long = ap (λ (v : List Item). length v) (sym k.trace ∙ s.trace) in
    let p = length-append k.items a.trace in
    let q = length-append (items_of calls) a.trace in
    let same : length (items_of calls) ≡ length k.items = omega (arith, long, p, q) in
    let few = k.few in
    let spare = k.spare in
    let left : c.spare ≡ b.spare - 1 = ap (λ (v : Net). v.spare) closed in
    record {
      trace = ap (λ (v : Net). v.trace) closed ∙ ap (λ v. item.Closed m.socket ∷ v) s.trace;
      few = omega (arith, same, few);
      own_items = own;
      spare = omega (arith, same, few, spare, left, room);
      faults = ap (λ (v : Net). v.faults) closed ∙ k.faults;
      others = λ t other. ap (λ (v : Net). v.traffic t) closed ∙ k.others t other;
    }

pub closes_on : {N : Type 0} (Becomes : N → List Call → N → Type 0) (x y z : N) (a b c : Net) (m : Member) (result : Result Exchanged NoMemory) →
    ((a b c : N) (g h : List Call) → Becomes a g b → Becomes b h c → Becomes a (h ++ g) c) → ((calls : List Call) → Becomes x calls y → Shows a calls b) →
    HasTalked Becomes x y m result → Becomes y (closes m.socket ∷ []) z → Changes m.socket 2 a b → c ≡ with_item b (item.Closed m.socket) b.told → 3 ≤ a.spare → HasExchanged Becomes x z a c m result
closes_on Becomes x y z a b c m (Ok e) on shows k then changes closed room =
    let j = judged m k.calls e.outcome k.exchange in
    let own = items_are m k.calls k.exchange.in_turn in
    record {
      calls = k.calls;
      becomes = on x y z k.calls (closes m.socket ∷ []) k.becomes then;
      exchange = λ priority orders. ((one_is_alone (alone m priority orders) k.calls).exchange e.outcome).1 k.exchange;
      sent_is = k.sent_is;
      heard_is = k.heard_is;
      own = (one_is_alone (alone m 0 []) k.calls).own k.exchange.in_turn;
      judged = j;
      times_rise = (times_rise a.trace a.told k.calls (shows k.calls k.becomes).lawful).1;
      changes = closed_by m k.calls a b c changes (shows k.calls k.becomes) closed room own;
      timed = ap (λ (v : Net). v.timed) closed ∙ ((shows k.calls k.becomes).timed ∙ j.timed a.timed);
    }
closes_on Becomes x y z a b c m (Err none) on shows k then changes closed room =
    let own = items_are m k.calls k.in_turn in
    record {
      calls = k.calls;
      becomes = on x y z k.calls (closes m.socket ∷ []) k.becomes then;
      in_turn = λ priority orders. (one_is_alone (alone m priority orders) k.calls).in_turn.1 k.in_turn;
      own = (one_is_alone (alone m 0 []) k.calls).own k.in_turn;
      changes = closed_by m k.calls a b c changes (shows k.calls k.becomes) closed room own;
    }

-- before any call of the exchange
pub closes_none : {N : Type 0} (Becomes : N → List Call → N → Type 0) (x z : N) (a c : Net) (m : Member) (none : NoMemory) →
    ((a b c : N) (g h : List Call) → Becomes a g b → Becomes b h c → Becomes a (h ++ g) c) → ((calls : List Call) → Becomes x calls x → Shows a calls a) → Becomes x [] x →
    Becomes x (closes m.socket ∷ []) z → c ≡ with_item a (item.Closed m.socket) a.told → 3 ≤ a.spare → HasExchanged Becomes x z a c m (Err none)
closes_none Becomes x z a c m none on shows still then closed room =
    closes_on Becomes x x z a a c m (Err none) on shows (record { calls = []; becomes = still; in_turn = tt }) then (unchanged m.socket 2 a) closed room
