-- In a race that is told rightly and in order no socket is closed twice and no leaf attempted twice.
use Rattle.std.proofs.Common.{◌≡◌, ℕ, ◌+◌, ◌<◌, true, false, List, [], ◌∷◌, inl, inr, arith, length-append}
use Rattle.std.specs.Prelude.{◌==◌, Some, None}
use Rattle.std.proofs.lemmas.Bool.{eqb-true, not-true}
use Rattle.taps_socket.specs.declared.item.Item.{Item}
use Rattle.taps_socket.specs.declared.item.Item.TheVariants as item
use Rattle.taps_socket.specs.RaceTrace.{tries, attempts, leaves}
use Rattle.taps_socket.specs.RaceSockets.{has, closed}
use Rattle.taps_socket.specs.Once.{IsOnce}
use Rattle.taps_socket.specs.LawfulRace.{Each, HasLeaf}
use Rattle.taps_racer.specs.Stands.{IsToldRightly}
use Rattle.taps_socket.proofs.Lists.{either, false_by}
use Rattle.taps_racer.proofs.Races.{open_parts}

pub closes_once : (t : List Item) → Each IsToldRightly t → IsOnce (closed t)
closes_once [] h = tt
closes_once (item.Closed x ∷ r) h = (not-true _ (open_parts r x h.0).0, closes_once r h.1)
closes_once (i ∷ r) h = closes_once r h.1

-- each leaf so far is below the next one
below : (first leaf n x : ℕ) (earlier : List ℕ) → leaf ≡ first + n → (has earlier x ≡ true → x < first + n) → has (leaf ∷ earlier) x ≡ true → x < first + (n + 1)
below first leaf n x earlier e old h =
    elim (either (leaf == x) (has earlier x) h) as (λ _. x < first + (n + 1)) [
      | inl same ↦ (let s : leaf ≡ x = eqb-true _ _ same in omega arith)
      | inr there ↦ (let l = old there in omega arith)
    ]

leaves_below : (first : ℕ) (t : List Item) (x : ℕ) → Each (HasLeaf first) t → has (leaves t) x ≡ true → x < first + attempts t
leaves_below first [] x h there = cc
leaves_below first (item.Started leaf target s at ∷ r) x h there =
    rw (length-append (tries r) (Some s ∷ [])) (below first leaf (attempts r) x (leaves r) h.0 (leaves_below first r x h.1) there)
leaves_below first (item.Refused leaf target cause at ∷ r) x h there =
    rw (length-append (tries r) (None ∷ [])) (below first leaf (attempts r) x (leaves r) h.0 (leaves_below first r x h.1) there)
leaves_below first (i ∷ r) x h there = leaves_below first r x h.1 there

new_leaf : (first leaf : ℕ) (r : List Item) → Each (HasLeaf first) r → leaf ≡ first + attempts r → has (leaves r) leaf ≡ false
new_leaf first leaf r h e = false_by _ (λ there. (let l = leaves_below first r leaf h there in omega arith))

pub leaves_once : (first : ℕ) (t : List Item) → Each (HasLeaf first) t → IsOnce (leaves t)
leaves_once first [] h = tt
leaves_once first (item.Started leaf target s at ∷ r) h = (new_leaf first leaf r h.1 h.0, leaves_once first r h.1)
leaves_once first (item.Refused leaf target cause at ∷ r) h = (new_leaf first leaf r h.1 h.0, leaves_once first r h.1)
leaves_once first (i ∷ r) h = leaves_once first r h.1
