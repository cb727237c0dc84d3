-- What the calls of a connection change, call by call.
use Rattle.std.proofs.Common.{◌≡◌, ◌-◌, ◌+◌, ◌≤◌, ℕ, List, [], ◌∷◌, ◌++◌, refl, ap, sym, ◌∙◌, arith, append_assoc, length-append}
use Rattle.taps_socket.specs.declared.item.Item.{Item}
use Rattle.taps_socket.specs.declared.item.Item.TheVariants as item
use Rattle.taps_socket.specs.Net.{Net, with_item}
use Rattle.taps_exchange.specs.Changes.{Changes}
use Rattle.taps_exchange.specs.Outcomes.{AreExchangeItems}
use Rattle.taps_listening.specs.Served.{AreServingItems, KeepsServing}

pub keeps_none : (socket : ℕ) (a : Net) → KeepsServing socket 0 a a
keeps_none socket a = record { items = []; trace = refl; few = omega arith; own = tt; spare = omega arith; faults = refl; others = λ s other. refl }

pub keeps_time : (socket at : ℕ) (a b : Net) → 1 ≤ a.spare → b ≡ with_item a (item.Began at) at → KeepsServing socket 1 a b
keeps_time socket at a b room e =
    record {
      items = item.Began at ∷ [];
      trace = ap (λ (v : Net). v.trace) e;
      few = omega arith;
      own = (tt, tt);
      spare = (let s : b.spare ≡ a.spare - 1 = ap (λ (v : Net). v.spare) e in omega (arith, s, room));
      faults = ap (λ (v : Net). v.faults) e;
      others = λ s other. ap (λ (v : Net). v.traffic s) e;
    }

serving_items : (s : ℕ) (items : List Item) → AreExchangeItems s items → AreServingItems s items
serving_items s [] h = tt
serving_items s (item.Shut socket ∷ items) h = (h.0, serving_items s items h.1)
serving_items s (item.Ended socket ∷ items) h = (h.0, serving_items s items h.1)
serving_items s (item.DataFailed socket sending cause ∷ items) h = (h.0, serving_items s items h.1)
serving_items s (i ∷ items) h = absurd h.0

pub keeps_changes : (socket most : ℕ) (a b : Net) → Changes socket most a b → KeepsServing socket most a b
keeps_changes socket most a b h =
    record { items = h.items; trace = h.trace; few = h.few; own = serving_items socket h.items h.own; spare = h.spare; faults = h.faults; others = h.others }

serving_behind : (s : ℕ) (a b : List Item) → AreServingItems s a → AreServingItems s b → AreServingItems s (a ++ b)
serving_behind s [] b h g = g
serving_behind s (i ∷ a) b h g = (h.0, serving_behind s a b h.1 g)

pub keeps_on : (socket most then all : ℕ) (a b c : Net) → most + then ≤ all → KeepsServing socket most a b → KeepsServing socket then b c → KeepsServing socket all a c
keeps_on socket most then all a b c few p q =
    let size = length-append q.items p.items in
    record {
      items = q.items ++ p.items;
      trace = q.trace ∙ (ap (λ v. q.items ++ v) p.trace ∙ sym (append_assoc q.items p.items a.trace));
      few = (let x = p.few in let y = q.few in omega (arith, size, x, y, few));
      own = serving_behind socket q.items p.items q.own p.own;
      spare = (let x = p.spare in let y = q.spare in omega (arith, size, x, y));
      faults = q.faults ∙ p.faults;
      others = λ s other. q.others s other ∙ p.others s other;
    }

pub keeps_wider : (socket most all : ℕ) (a b : Net) → most ≤ all → KeepsServing socket most a b → KeepsServing socket all a b
keeps_wider socket most all a b wide p =
    record { items = p.items; trace = p.trace; few = (let x = p.few in omega (arith, x, wide)); own = p.own; spare = p.spare; faults = p.faults; others = p.others }
