-- Answers by a grammar, of an image of a grammar, of two grammars, and with an error.
use Rattle.std.proofs.Common.{◌≡◌, ◌≤◌, ℕ, max, List, ◌++◌, length, take, ◌⊎◌, inl, inr, Result, Ok, Err, nat_le, arith}
use Rattle.std.specs.Prelude.{IfOk, IfErr}
use Rattle.std.proofs.lemmas.Bool.{cases_Bool}
use Rattle.std.proofs.lemmas.Bool.Decides.{nat_tests}
use Rattle.taps_endpoint.specs.Places.{Begins, IsPlace}
use Rattle.taps_endpoint.specs.Answers.{answer_as, answer_either, answer_with}

-- the answer is the value of the text, the only one, or its place
pub record IsAnswer {A : Type 0} (IsText : A → List ℕ → Type 0) (text : List ℕ) (r : Result A ℕ) : Type 0 where
  pub found : IfOk r (λ a. IsText a text)
  pub only : (a : A) → IsText a text → r ≡ Ok a
  pub place : IfErr r (λ place. IsPlace IsText text place)

-- each value of the second grammar is one of the first, seen otherwise, with the same texts
pub record IsImage {A B : Type 0} (f : A → B) (IsA : A → List ℕ → Type 0) (IsB : B → List ℕ → Type 0) : Type 0 where
  pub forth : (a : A) (x : List ℕ) → IsA a x → IsB (f a) x
  pub back : (b : B) (x : List ℕ) → IsB b x → (a : A) × IsA a x × (b ≡ f a)

pub image_answer : {A B : Type 0} (f : A → B) (IsA : A → List ℕ → Type 0) (IsB : B → List ℕ → Type 0) (text : List ℕ) (r : Result A ℕ) → IsImage f IsA IsB → IsAnswer IsA text r → IsAnswer IsB text (answer_as f r)
image_answer f IsA IsB text (Ok a) image is = record {
  found = image.forth a text is.found;
  only = λ b of. let (other, of_other, same) = image.back b text of in let e = is.only other of_other in cc;
  place = tt;
}
image_answer f IsA IsB text (Err place) image is = record {
  found = tt;
  only = λ b of. let (other, of_other, same) = image.back b text of in let e = is.only other of_other in absurd (cc);
  place = record {
    within = is.place.within;
    begins = let (a, rest, of) = is.place.begins in (f a, rest, image.forth a _ of);
    longest = λ n le (b, rest, of). let (a, of_a, same) = image.back b _ of in is.place.longest n le (a, rest, of_a);
  };
}

-- the texts of the third grammar are those of the first two, which have none in common
pub record IsUnion {A : Type 0} (IsA IsB IsC : A → List ℕ → Type 0) : Type 0 where
  pub left : (a : A) (x : List ℕ) → IsA a x → IsC a x
  pub right : (a : A) (x : List ℕ) → IsB a x → IsC a x
  pub back : (a : A) (x : List ℕ) → IsC a x → IsA a x ⊎ IsB a x
  pub apart : (a b : A) (x : List ℕ) → IsA a x → IsB b x → ⊥

within_either : {A : Type 0} (IsA IsB IsC : A → List ℕ → Type 0) (text : List ℕ) (p q n : ℕ) → IsUnion IsA IsB IsC → IsPlace IsA text p → IsPlace IsB text q
    → n ≤ length text → Begins IsC (take n text) → (n ≤ p) ⊎ (n ≤ q)
within_either IsA IsB IsC text p q n union first second le (c, rest, is) = elim (union.back c (take n text ++ rest) is) [
  | inl of_a ↦ inl (first.longest n le (c, rest, of_a))
  | inr of_b ↦ inr (second.longest n le (c, rest, of_b))
]

union_place : {A : Type 0} (IsA IsB IsC : A → List ℕ → Type 0) (text : List ℕ) (p q : ℕ) → IsUnion IsA IsB IsC → IsPlace IsA text p → IsPlace IsB text q → IsPlace IsC text (max p q)
union_place IsA IsB IsC text p q union first second = elim (cases_Bool (nat_le q p)) [
  | inl le ↦
      let is : max p q ≡ p = grind (arith, nat_tests) in
      rw is (record {
        within = first.within;
        begins = let (a, rest, of) = first.begins in (a, rest, union.left a _ of);
        longest = λ n le begins. elim (within_either IsA IsB IsC text p q n union first second le begins) [ inl at_p ↦ at_p | inr at_q ↦ grind (arith, nat_tests) ];
      })
  | inr more ↦
      let is : max p q ≡ q = grind (arith, nat_tests) in
      rw is (record {
        within = second.within;
        begins = let (a, rest, of) = second.begins in (a, rest, union.right a _ of);
        longest = λ n le begins. elim (within_either IsA IsB IsC text p q n union first second le begins) [ inl at_p ↦ grind (arith, nat_tests) | inr at_q ↦ at_q ];
      })
]

union_first : {A : Type 0} (IsA IsB IsC : A → List ℕ → Type 0) (text : List ℕ) (a : A) → IsUnion IsA IsB IsC → IsAnswer IsA text (Ok a) → IsAnswer IsC text (Ok a)
union_first IsA IsB IsC text a union first = record {
  found = union.left a text first.found;
  only = λ b of. elim (union.back b text of) [ inl of_a ↦ first.only b of_a | inr of_b ↦ absurd (union.apart a b text first.found of_b) ];
  place = tt;
}

union_second : {A : Type 0} (IsA IsB IsC : A → List ℕ → Type 0) (text : List ℕ) (p : ℕ) (b : A) → IsUnion IsA IsB IsC → IsAnswer IsB text (Ok b) → IsAnswer IsC text (Ok b)
union_second IsA IsB IsC text p b union second = record {
  found = union.right b text second.found;
  only = λ a of. elim (union.back a text of) [ inl of_a ↦ absurd (union.apart a b text of_a second.found) | inr of_b ↦ second.only a of_b ];
  place = tt;
}

refuted : {A : Type 0} (a : A) (p : ℕ) → ◌≡◌ {A = Result A ℕ} (Err p) (Ok a) → ⊥
refuted a p e = cc

union_neither : {A : Type 0} (IsA IsB IsC : A → List ℕ → Type 0) (text : List ℕ) (p q : ℕ) → IsUnion IsA IsB IsC → IsAnswer IsA text (Err p) → IsAnswer IsB text (Err q) → IsAnswer IsC text (Err (max p q))
union_neither IsA IsB IsC text p q union first second = record {
  found = tt;
  only = λ a of. elim (union.back a text of) [ inl of_a ↦ absurd (refuted a p (first.only a of_a)) | inr of_b ↦ absurd (refuted a q (second.only a of_b)) ];
  place = union_place IsA IsB IsC text p q union first.place second.place;
}

pub union_answer : {A : Type 0} (IsA IsB IsC : A → List ℕ → Type 0) (text : List ℕ) (r s : Result A ℕ) → IsUnion IsA IsB IsC → IsAnswer IsA text r → IsAnswer IsB text s → IsAnswer IsC text (answer_either r s)
union_answer IsA IsB IsC text (Ok a) s union first second = union_first IsA IsB IsC text a union first
union_answer IsA IsB IsC text (Err p) (Ok b) union first second = union_second IsA IsB IsC text p b union second
union_answer IsA IsB IsC text (Err p) (Err q) union first second = union_neither IsA IsB IsC text p q union first second

-- the answer with its error is the value of the text, the only one, or its place
pub record IsAnswerWith {A E : Type 0} (place_in : E → ℕ) (IsText : A → List ℕ → Type 0) (text : List ℕ) (r : Result A E) : Type 0 where
  pub found : IfOk r (λ a. IsText a text)
  pub only : (a : A) → IsText a text → r ≡ Ok a
  pub place : IfErr r (λ e. IsPlace IsText text (place_in e))

pub error_answer : {A E : Type 0} (error : ℕ → E) (place_in : E → ℕ) (IsText : A → List ℕ → Type 0) (text : List ℕ) (r : Result A ℕ) → ((place : ℕ) → place_in (error place) ≡ place) → IsAnswer IsText text r → IsAnswerWith place_in IsText text (answer_with error r)
error_answer error place_in IsText text (Ok a) same is = record { found = is.found; only = λ b of. let e = is.only b of in cc; place = tt }
error_answer error place_in IsText text (Err place) same is = record { found = tt; only = λ b of. absurd (refuted b place (is.only b of)); place = rw (same place) is.place }
