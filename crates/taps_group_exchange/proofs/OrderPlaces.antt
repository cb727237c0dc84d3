-- The places of the members' messages in the list of all that a group accepted: of one member they rise, and no two
-- members share one.
use Rattle.std.proofs.Common.{◌≡◌, ℕ, zero, suc, ◌+◌, ◌-◌, ◌<◌, ◌≤◌, Bool, true, false, if◌then◌else◌, List, [], ◌∷◌, slice_get, Option, Some, None, refl, sym, ap, ◌∙◌, arith}
use Rattle.std.specs.Prelude.{◌==◌}
use Rattle.std.proofs.lemmas.Bool.{eqb-true}
use Rattle.taps_group.specs.Orders.{orders_from, orders_of}

record IsPlaceOf (member k x : ℕ) (order : List ℕ) : Type 0 where
  pub from : k ≤ x
  pub holds : slice_get order (x - k) ≡ Some member

further : (member k x p : ℕ) (order : List ℕ) → IsPlaceOf member (k + 1) x order → IsPlaceOf member k x (p ∷ order)
further member k x p order h =
    let from = h.from in
    let step : x - k ≡ suc (x - (k + 1)) = omega arith in
    record { from = omega arith; holds = ap (slice_get (p ∷ order)) step ∙ h.holds }

same_some : (x y : ℕ) → Some x ≡ Some y → x ≡ y
same_some x y e = cc

place_by : (q : Bool) (member k p : ℕ) (order os : List ℕ) (n x : ℕ) → (q ≡ true → p ≡ member) → ((m y : ℕ) → slice_get os m ≡ Some y → IsPlaceOf member (k + 1) y order) → slice_get (if q then k ∷ os else os) n ≡ Some x → IsPlaceOf member k x (p ∷ order)
place_by true member k p order os zero x is others h =
    let same : k ≡ x = same_some k x h in
    let none : x - k ≡ zero = omega (arith, same) in
    record { from = omega (arith, same); holds = ap (slice_get (p ∷ order)) none ∙ ap Some (is refl) }
place_by true member k p order os (suc n) x is others h = further member k x p order (others n x h)
place_by false member k p order os n x is others h = further member k x p order (others n x h)

place_in : (member k : ℕ) (order : List ℕ) (n x : ℕ) → slice_get (orders_from member k order) n ≡ Some x → IsPlaceOf member k x order
place_in member k [] n x h = (let none : Option ℕ = None in let z : none ≡ Some x = h in absurd (cc))
place_in member k (p ∷ order) n x h = place_by (p == member) member k p order (orders_from member (k + 1) order) n x (eqb-true p member) (place_in member (k + 1) order) h

-- of two members
pub apart : (order : List ℕ) (i j n m x y : ℕ) → slice_get (orders_of i order) n ≡ Some x → slice_get (orders_of j order) m ≡ Some y → x ≡ y → i ≡ j
apart order i j n m x y h k same =
    let a = place_in i 0 order n x h in
    let b = place_in j 0 order m y k in
    let z : Some i ≡ Some j = sym a.holds ∙ (ap (λ v. slice_get order (v - 0)) same ∙ b.holds) in
    same_some i j z

rise_by : (q : Bool) (member k : ℕ) (order os : List ℕ) (n m x y : ℕ) → ((i z : ℕ) → slice_get os i ≡ Some z → IsPlaceOf member (k + 1) z order) → ((i j u v : ℕ) → i < j → slice_get os i ≡ Some u → slice_get os j ≡ Some v → u < v) → n < m →
    slice_get (if q then k ∷ os else os) n ≡ Some x → slice_get (if q then k ∷ os else os) m ≡ Some y → x < y
rise_by true member k order os zero zero x y in_os rises less h g = absurd (omega arith)
rise_by true member k order os zero (suc m) x y in_os rises less h g =
    let same : k ≡ x = same_some k x h in
    let from = (in_os m y g).from in
    omega (arith, same, from)
rise_by true member k order os (suc n) zero x y in_os rises less h g = absurd (omega arith)
rise_by true member k order os (suc n) (suc m) x y in_os rises less h g = rises n m x y (omega arith) h g
rise_by false member k order os n m x y in_os rises less h g = rises n m x y less h g

rise_from : (member k : ℕ) (order : List ℕ) (n m x y : ℕ) → n < m → slice_get (orders_from member k order) n ≡ Some x → slice_get (orders_from member k order) m ≡ Some y → x < y
rise_from member k [] n m x y less h g = (let none : Option ℕ = None in let z : none ≡ Some x = h in absurd (cc))
rise_from member k (p ∷ order) n m x y less h g = rise_by (p == member) member k order (orders_from member (k + 1) order) n m x y (place_in member (k + 1) order) (rise_from member (k + 1) order) less h g

-- of one member
pub rise : (order : List ℕ) (i n m x y : ℕ) → n < m → slice_get (orders_of i order) n ≡ Some x → slice_get (orders_of i order) m ≡ Some y → x < y
rise order i n m x y less h g = rise_from i 0 order n m x y less h g
