-- What holds of each member at its place, where one of them changes.
use Rattle.std.proofs.Common.{◌≡◌, ℕ, zero, suc, Bool, true, false, ◌||◌, List, [], ◌∷◌, map, length, slice_get, slice_set, Option, Some, None, refl, sym, ◌∙◌, subst, arith}
use Rattle.std.specs.Prelude.{◌==◌}
use Rattle.std.proofs.lemmas.Bool.{eqb-true, eq-eqb}
use Rattle.taps_socket.specs.Once.{IsOnce}
use Rattle.taps_socket.specs.RaceSockets.{has}
use Rattle.taps_exchange.specs.Turns.{Place}
use Rattle.taps_group_exchange.specs.Standing.{EachAt}

pub neither : (a b : Bool) → (a || b) ≡ false → (a ≡ false) × (b ≡ false)
neither true b h = absurd (cc)
neither false b h = (refl, h)

pub false_by : (b : Bool) → (b ≡ true → ⊥) → b ≡ false
false_by true h = absurd (h refl)
false_by false h = refl

pub other_way : (a b : ℕ) → (a == b) ≡ false → (b == a) ≡ false
other_way a b h = false_by (b == a) (λ e. let same : b ≡ a = eqb-true b a e in let z : true ≡ false = sym (eq-eqb a b (sym same)) ∙ h in absurd (cc))

-- the socket of one that is there is none that is not among all
pub not_here : {M : Type 0} (f : M → ℕ) (members : List M) (k s : ℕ) (m : M) → has (map f members) s ≡ false → slice_get members k ≡ Some m → (f m == s) ≡ false
not_here f [] k s m h at = (let none : Option _ = None in let z : none ≡ Some m = at in absurd (cc))
not_here f (x ∷ members) zero s m h at = (let same : x ≡ m = cc in subst (λ v. (f v == s) ≡ false) same (neither (f x == s) (has (map f members) s) h).0)
not_here f (x ∷ members) (suc k) s m h at = not_here f members k s m (neither (f x == s) (has (map f members) s) h).1 at

-- one changes on its own socket
module _ {M : Type 0} (f : M → ℕ) (R R' : Place → M → Type 0) where
  all_others : (m : M) (places : List Place) (members : List M) → ((p : Place) (x : M) → (f m == f x) ≡ false → R p x → R' p x) → has (map f members) (f m) ≡ false → EachAt R places members → EachAt R' places members
  all_others m [] [] others h z = tt
  all_others m [] (x ∷ members) others h z = absurd z
  all_others m (p ∷ places) [] others h z = absurd z
  all_others m (p ∷ places) (x ∷ members) others h z =
      let d = neither (f x == f m) (has (map f members) (f m)) h in
      (others p x (other_way (f x) (f m) d.0) z.0, all_others m places members others d.1 z.1)

  pub each_set : (m n : M) (k : ℕ) (places : List Place) (members : List M) → ((p : Place) (x : M) → (f m == f x) ≡ false → R p x → R' p x) → ((p : Place) → slice_get places k ≡ Some p → R p m → R' p n) → slice_get members k ≡ Some m → IsOnce (map f members) → EachAt R places members → EachAt R' places (slice_set members k n)
  each_set m n k [] [] others here at once z = tt
  each_set m n k [] (x ∷ members) others here at once z = absurd z
  each_set m n k (p ∷ places) [] others here at once z = absurd z
  each_set m n zero (p ∷ places) (x ∷ members) others here at once z =
      let same : x ≡ m = cc in
      (here p refl (subst (R p) same z.0), all_others m places members others (subst (λ v. has (map f members) (f v) ≡ false) same once.0) z.1)
  each_set m n (suc k) (p ∷ places) (x ∷ members) others here at once z =
      (others p x (not_here f members k (f x) m once.0 at) z.0, each_set m n k places members others here at once.1 z.1)

-- the place of one that is there
pub place_there : {M : Type 0} (R : Place → M → Type 0) (k : ℕ) (m : M) (places : List Place) (members : List M) → slice_get members k ≡ Some m → EachAt R places members → (p : Place) × ((slice_get places k ≡ Some p) × R p m)
place_there R k m [] [] at z = (let none : Option _ = None in let w : none ≡ Some m = at in absurd (cc))
place_there R k m [] (x ∷ members) at z = absurd z
place_there R k m (p ∷ places) [] at z = absurd z
place_there R zero m (p ∷ places) (x ∷ members) at z = (let same : x ≡ m = cc in (p, (refl, subst (R p) same z.0)))
place_there R (suc k) m (p ∷ places) (x ∷ members) at z = place_there R k m places members at z.1

pub each_map : {M : Type 0} (R R' : Place → M → Type 0) (places : List Place) (members : List M) → ((p : Place) (m : M) → R p m → R' p m) → EachAt R places members → EachAt R' places members
each_map R R' [] [] h z = tt
each_map R R' [] (m ∷ members) h z = absurd z
each_map R R' (p ∷ places) [] h z = absurd z
each_map R R' (p ∷ places) (m ∷ members) h z = (h p m z.0, each_map R R' places members h z.1)

-- as many places as members
pub each_length : {M : Type 0} (R : Place → M → Type 0) (places : List Place) (members : List M) → EachAt R places members → length places ≡ length members
each_length R [] [] z = refl
each_length R [] (m ∷ members) z = absurd z
each_length R (p ∷ places) [] z = absurd z
each_length R (p ∷ places) (m ∷ members) z = (let r = each_length R places members z.1 in omega (arith, r))

-- and what holds of each member besides
pub each_and : {M : Type 0} (R : Place → M → Type 0) (P : M → Type 0) (places : List Place) (members : List M) → ((i : ℕ) (m : M) → slice_get members i ≡ Some m → P m) → EachAt R places members → EachAt (λ p m. R p m × P m) places members
each_and R P [] [] h z = tt
each_and R P [] (m ∷ members) h z = absurd z
each_and R P (p ∷ places) [] h z = absurd z
each_and R P (p ∷ places) (m ∷ members) h z = ((z.0, h zero m refl), each_and R P places members (λ i x at. h (suc i) x at) z.1)
