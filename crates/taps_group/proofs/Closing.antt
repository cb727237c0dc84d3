-- Closing the members by place, one by one.
use Rattle.std.proofs.Common.{◌≡◌, ℕ, ◌+◌, ◌-◌, ◌≤◌, Bool, true, false, not, ◌||◌, List, [], ◌∷◌, ◌++◌, length, refl, sym, ◌∙◌, ap, subst, arith, append_assoc, length-append}
use Rattle.std.specs.Prelude.{◌==◌}
use Rattle.std.specs.List.{All}
use Rattle.std.proofs.lemmas.Bool.Decides.{nat_tests}
use Rattle.std.proofs.lemmas.List.Elements.{All-nil, All-cons, All-head, All-tail}
use Rattle.taps_socket.specs.declared.item.Item.{Item}
use Rattle.taps_socket.specs.declared.item.Item.TheVariants as item
use Rattle.taps_socket.specs.RaceSockets.{has, closed}
use Rattle.taps_socket.specs.LiveSockets.{live_sockets, given}
use Rattle.taps_socket.specs.Calls.{Call, closes}
use Rattle.taps_socket.specs.Net.{Net, with_item}
use Rattle.taps_socket.proofs.Lists.{kept, keeps}
use Rattle.taps_group.specs.Closes.{MayClose, close_items, close_calls, with_closes}

not_either : (q r : Bool) → (q || r) ≡ false → (q ≡ false) × (r ≡ false)
not_either true r h = absurd (cc)
not_either false r h = (refl, h)

other_open : (a b : Bool) → a ≡ false → not b ≡ true → not (a || b) ≡ true
other_open a b e h = rw e h

test_false_back : (a b : ℕ) → (a == b) ≡ false → (b == a) ≡ false
test_false_back a b h = grind (arith, nat_tests)

-- another live socket stays live
live_after : (t : List Item) (s x : ℕ) → (x == s) ≡ false → has (live_sockets t) x ≡ true → has (live_sockets (item.Closed s ∷ t)) x ≡ true
live_after t s x differs h =
    let was = kept (λ v. not (has (closed t) v)) (given t) x h in
    keeps (λ v. not (has (s ∷ closed t) v)) (given t) x (other_open (s == x) (has (closed t) x) (test_false_back x s differs) was.0) was.1

pub live_on : (t : List Item) (s : ℕ) (rest : List ℕ) → has rest s ≡ false → All (λ x. has (live_sockets t) x ≡ true) rest → All (λ x. has (live_sockets (item.Closed s ∷ t)) x ≡ true) rest
live_on t s [] absent h = All-nil (λ x. has (live_sockets (item.Closed s ∷ t)) x ≡ true)
live_on t s (x ∷ rest) absent h =
    let apart = not_either (x == s) (has rest s) absent in
    All-cons (λ v. has (live_sockets (item.Closed s ∷ t)) v ≡ true) x rest (live_after t s x apart.0 (All-head (λ v. has (live_sockets t) v ≡ true) x rest h)) (live_on t s rest apart.1 (All-tail (λ v. has (live_sockets t) v ≡ true) x rest h))

pub may_go_on : (t : List Item) (s : ℕ) (rest : List ℕ) → MayClose t (s ∷ rest) → MayClose (item.Closed s ∷ t) rest
may_go_on t s rest may = record {
  live = live_on t s rest may.once.0 (All-tail (λ v. has (live_sockets t) v ≡ true) s rest may.live);
  once = may.once.1;
}

pub first_live : (t : List Item) (s : ℕ) (rest : List ℕ) → MayClose t (s ∷ rest) → has (live_sockets t) s ≡ true
first_live t s rest may = All-head (λ x. has (live_sockets t) x ≡ true) s rest may.live

items_more : (done : List ℕ) (s : ℕ) → close_items (done ++ s ∷ []) ≡ item.Closed s ∷ close_items done
items_more [] s = refl
items_more (x ∷ done) s = ap (λ v. v ++ item.Closed x ∷ []) (items_more done s)

calls_more : (done : List ℕ) (s : ℕ) → close_calls (done ++ s ∷ []) ≡ closes s ∷ close_calls done
calls_more [] s = refl
calls_more (x ∷ done) s = ap (λ v. v ++ closes x ∷ []) (calls_more done s)

-- so many are closed, and the rest can be
pub record IsClosing {N : Type 0} (Becomes : N → List Call → N → Type 0) (before now : N) (net net' : Net) (all rest : List ℕ) : Type 0 where
  pub done : List ℕ
  pub split : all ≡ done ++ rest
  pub changed : net' ≡ with_closes done net
  pub becomes : Becomes before (close_calls done) now
  pub may : MayClose net'.trace rest
  pub spare : length rest ≤ net'.spare

pub closing_begins : {N : Type 0} (Becomes : N → List Call → N → Type 0) (before : N) (net : Net) (all : List ℕ) → Becomes before [] before → MayClose net.trace all → length all ≤ net.spare → IsClosing Becomes before before net net all all
closing_begins Becomes before net all itself may spare = record {
  done = [];
  split = refl;
  changed = (let none : net.spare ≡ net.spare - 0 = omega arith in ap (λ p. record net { spare = p }) none);
  becomes = itself;
  may = may;
  spare = spare;
}

closed_more : (net net' net'' : Net) (done : List ℕ) (s : ℕ) → net' ≡ with_closes done net → net'' ≡ with_item net' (item.Closed s) net'.told → net'' ≡ with_closes (done ++ s ∷ []) net
closed_more net net' net'' done s was is =
    let items : item.Closed s ∷ (close_items done ++ net.trace) ≡ close_items (done ++ s ∷ []) ++ net.trace = ap (λ v. v ++ net.trace) (sym (items_more done s)) in
    let size : length (done ++ s ∷ []) ≡ length done + 1 = length-append done (s ∷ []) in
    let spare : net.spare - length done - 1 ≡ net.spare - length (done ++ s ∷ []) = omega arith in
    is ∙ (ap (λ (n : Net). with_item n (item.Closed s) n.told) was ∙ (ap (λ t. record net { trace = t; spare = net.spare - length done - 1 }) items ∙ ap (λ p. record net { trace = close_items (done ++ s ∷ []) ++ net.trace; spare = p }) spare))

pub closing_on : {N : Type 0} (Becomes : N → List Call → N → Type 0) (before now then : N) (net net' net'' : Net) (all rest : List ℕ) (s : ℕ) →
    ((x y z : N) (first more : List Call) → Becomes x first y → Becomes y more z → Becomes x (more ++ first) z) →
    net'' ≡ with_item net' (item.Closed s) net'.told → Becomes now (closes s ∷ []) then → IsClosing Becomes before now net net' all (s ∷ rest) → IsClosing Becomes before then net net'' all rest
closing_on Becomes before now then net net' net'' all rest s on is becomes c =
    let spare : length (s ∷ rest) ≤ net'.spare = c.spare in
    let lower : net''.spare ≡ net'.spare - 1 = ap (λ (n : Net). n.spare) is in
    record {
      done = c.done ++ s ∷ [];
      split = c.split ∙ sym (append_assoc c.done (s ∷ []) rest);
      changed = closed_more net net' net'' c.done s c.changed is;
      becomes = subst (λ v. Becomes before v then) (sym (calls_more c.done s)) (on before now then (close_calls c.done) (closes s ∷ []) c.becomes becomes);
      may = subst (λ t. MayClose t rest) (sym (ap (λ (n : Net). n.trace) is)) (may_go_on net'.trace s rest c.may);
      spare = omega arith;
    }

-- where the first of the rest is this one
pub first_of : {N : Type 0} (Becomes : N → List Call → N → Type 0) (before now : N) (net net' : Net) (all rest more : List ℕ) (s : ℕ) → rest ≡ s ∷ more → IsClosing Becomes before now net net' all rest → (has (live_sockets net'.trace) s ≡ true) × (1 ≤ net'.spare)
first_of Becomes before now net net' all rest more s is c =
    let may : MayClose net'.trace (s ∷ more) = subst (MayClose net'.trace) is c.may in
    let size : length rest ≡ length (s ∷ more) = ap length is in
    let spare = c.spare in
    (first_live net'.trace s more may, omega arith)
