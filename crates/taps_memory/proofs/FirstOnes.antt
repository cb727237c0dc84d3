-- The first one of which a test holds: its place, and another in place of it.
use Rattle.std.proofs.Common.{◌≡◌, ℕ, ◌+◌, ◌<◌, Bool, true, false, ◌||◌, List, [], ◌∷◌, length, refl, ap, subst, arith, if◌then◌else◌, add-one}
use Rattle.std.specs.Prelude.{slice_get, slice_set, Option, None, Some, option_map, map}
use Rattle.std.specs.List.{list_any}
use Rattle.taps_memory.specs.Pairs.{first_of, change_first, place_first}

module _ {A : Type 0} where
  pub record IsFirst (test : A → Bool) (xs : List A) (k : ℕ) : Type 0 where
    pub one : A
    pub there : slice_get xs k ≡ Some one
    pub holds : test one ≡ true
    pub any : list_any test xs ≡ true
    pub within : k < length xs
    pub first : first_of test xs ≡ Some one
    pub changed : (change : A → A) → change_first test change xs ≡ slice_set xs k (change one)

  pub record HasNone (test : A → Bool) (xs : List A) : Type 0 where
    pub none : list_any test xs ≡ false
    pub first : first_of test xs ≡ None
    pub changed : (change : A → A) → change_first test change xs ≡ xs

  -- one that is found
  next_found : (test : A → Bool) (x : A) (xs : List A) (k : ℕ) → test x ≡ false → IsFirst test xs k → IsFirst test (x ∷ xs) (k + 1)
  next_found test x xs k e h =
      rw (add-one) (record {
        one = h.one;
        there = h.there;
        holds = h.holds;
        any = rw e h.any;
        within = (let w = h.within in omega arith);
        first = rw e h.first;
        changed = λ change. rw e (ap (λ ys. x ∷ ys) (h.changed change));
      })

  found_by : (q : Bool) (test : A → Bool) (x : A) (xs : List A) (k : ℕ) → test x ≡ q →
      ((j : ℕ) → place_first test xs ≡ Some j → IsFirst test xs j) →
      (if q then Some 0 else option_map (λ k. k + 1) (place_first test xs)) ≡ Some k → IsFirst test (x ∷ xs) k
  found_by true test x xs k e ih h =
      let z : 0 ≡ k = cc in
      subst (IsFirst test (x ∷ xs)) z (record {
        one = x;
        there = refl;
        holds = e;
        any = rw e refl;
        within = omega arith;
        first = rw e refl;
        changed = λ change. rw e refl;
      })
  found_by false test x xs k e ih h = by_place (place_first test xs) refl h
    where
      by_place : (o : Option ℕ) → place_first test xs ≡ o → option_map (λ k. k + 1) o ≡ Some k → IsFirst test (x ∷ xs) k
      by_place None f g = absurd (let z : None ≡ Some k = g in cc)
      by_place (Some j) f g = (let z : j + 1 ≡ k = cc in subst (IsFirst test (x ∷ xs)) z (next_found test x xs j e (ih j f)))

  pub found : (test : A → Bool) (xs : List A) (k : ℕ) → place_first test xs ≡ Some k → IsFirst test xs k
  found test [] k h = absurd (let z : None ≡ Some k = h in cc)
  found test (x ∷ xs) k h = found_by (test x) test x xs k refl (found test xs) h

  -- none that is found
  none_by : (q : Bool) (test : A → Bool) (x : A) (xs : List A) → test x ≡ q → (place_first test xs ≡ None → HasNone test xs) →
      (if q then Some 0 else option_map (λ k. k + 1) (place_first test xs)) ≡ None → HasNone test (x ∷ xs)
  none_by true test x xs e ih h = absurd (let z : Some 0 ≡ None = h in cc)
  none_by false test x xs e ih h = by_place (place_first test xs) refl h
    where
      by_place : (o : Option ℕ) → place_first test xs ≡ o → option_map (λ k. k + 1) o ≡ None → HasNone test (x ∷ xs)
      by_place None f g =
          (let n = ih f in
          record {
            none = rw e n.none;
            first = rw e n.first;
            changed = λ change. rw e (ap (λ ys. x ∷ ys) (n.changed change));
          })
      by_place (Some j) f g = absurd (let z : Some (j + 1) ≡ None = g in cc)

  pub not_found : (test : A → Bool) (xs : List A) → place_first test xs ≡ None → HasNone test xs
  not_found test [] h = record { none = refl; first = refl; changed = λ change. refl }
  not_found test (x ∷ xs) h = none_by (test x) test x xs refl (not_found test xs) h

  -- a test that holds of one finds one
  any_by : (q : Bool) (test : A → Bool) (x : A) (xs : List A) → (first_of test xs ≡ None → list_any test xs ≡ false) → (if q then Some x else first_of test xs) ≡ None → (q || list_any test xs) ≡ false
  any_by true test x xs ih h = (let z : Some x ≡ None = h in absurd cc)
  any_by false test x xs ih h = ih h

  pub none_of : (test : A → Bool) (xs : List A) → first_of test xs ≡ None → list_any test xs ≡ false
  none_of test [] h = refl
  none_of test (x ∷ xs) h = any_by (test x) test x xs (none_of test xs) h

-- the first one of what each is made to
first_map_by : {A B : Type 0} (q : Bool) (f : A → B) (x : A) (o : Option A) (r : Option B) → r ≡ option_map f o → (if q then Some (f x) else r) ≡ option_map f (if q then Some x else o)
first_map_by true f x o r e = refl
first_map_by false f x o r e = e

pub first_map : {A B : Type 0} (test : B → Bool) (f : A → B) (xs : List A) → first_of test (map f xs) ≡ option_map f (first_of (λ x. test (f x)) xs)
first_map test f [] = refl
first_map test f (x ∷ xs) = first_map_by (test (f x)) f x (first_of (λ x. test (f x)) xs) (first_of test (map f xs)) (first_map test f xs)
