-- What stands behind and before words.
use Rattle.std.proofs.Common.{Bor, ◌≡◌, ◌≢◌, ℕ, ◌+◌, ◌-◌, Bool, true, false, List, [], ◌∷◌, ◌++◌, length, take, drop, length-append, refl, ap, sym, ◌∙◌, arith, if◌then◌else◌}
use Rattle.std.specs.Prelude.{◌==◌, Option, Some, None, option_map, MatchOption, IfSome, bytes_eq}
use Rattle.std.proofs.lemmas.Bool.{eqb-true, eq-eqb}
use Rattle.std.proofs.lemmas.Slice.Eq.{bytes_eq-Decides}
use Rattle.taps_log.specs.Reading.{after, before}

-- words are read before any rest
pub after_words : (words rest : List ℕ) → after words (words ++ rest) ≡ Some rest
after_words [] rest = refl
after_words (w ∷ words) rest = rw (eq-eqb w w refl) (after_words words rest)

after_by : (q : Bool) (w b : ℕ) (words text rest : List ℕ) → (b == w) ≡ q
    → (after words text ≡ Some rest → text ≡ words ++ rest) → (if q then after words text else None) ≡ Some rest
    → b ∷ text ≡ w ∷ (words ++ rest)
after_by true w b words text rest e more h = rw (eqb-true b w e) (ap (λ v. w ∷ v) (more h))
after_by false w b words text rest e more h = cc

-- and only they
pub words_after : (words text rest : List ℕ) → after words text ≡ Some rest → text ≡ words ++ rest
words_after [] text rest h = (let s : Some text ≡ Some rest = h in cc)
words_after (w ∷ words) [] rest h = cc
words_after (w ∷ words) (b ∷ text) rest h = after_by (b == w) w b words text rest refl (words_after words text rest) h

none_of : {T : Type 0} (o : Option T) → ((x : T) → o ≡ Some x → ⊥) → None ≡ o
none_of None h = refl
none_of (Some x) h = absurd (h x refl)

-- what a strip of words from the front gives
pub strips : (text words : List ℕ) (r : Option (Bor (List ℕ)))
    → MatchOption r ((rest : List ℕ) → text ≢ words ++ rest) (λ x. text ≡ words ++ x.now)
    → option_map (λ x. x.now) r ≡ after words text
strips text words (Some x) h = sym (ap (after words) h ∙ after_words words x.now)
strips text words None h = none_of (after words text) (λ rest e. h rest (words_after words text rest e))

pub strips_found : (text words : List ℕ) (r : Option (Bor (List ℕ)))
    → MatchOption r ((rest : List ℕ) → text ≢ words ++ rest) (λ x. text ≡ words ++ x.now)
    → IfSome r (λ x. text ≡ words ++ x.now)
strips_found text words (Some x) h = h
strips_found text words None h = tt

-- and from the end
pub strips_end : (text words : List ℕ) (r : Option (Bor (List ℕ)))
    → MatchOption r (bytes_eq (drop (length text - length words) text) words ≡ false)
    (λ x. (bytes_eq (drop (length text - length words) text) words ≡ true) × (x.now ≡ take (length text - length words) text) × (length x.now + length words ≡ length text))
    → option_map (λ x. x.now) r ≡ before words text
unfolding before
strips_end text words (Some x) h = rw h.0 (ap Some h.1)
strips_end text words None h = rw h refl

pub end_found : (text words : List ℕ) (r : Option (Bor (List ℕ)))
    → MatchOption r ((front : List ℕ) → text ≢ front ++ words) (λ x. text ≡ x.now ++ words)
    → IfSome r (λ x. text ≡ x.now ++ words)
end_found text words (Some x) h = h
end_found text words None h = tt

-- the two parts of a text
pub drop_front : (xs ys : List ℕ) → drop (length xs) (xs ++ ys) ≡ ys
drop_front [] ys = refl
drop_front (x ∷ xs) ys = drop_front xs ys

pub take_front : (xs ys : List ℕ) → take (length xs) (xs ++ ys) ≡ xs
take_front [] ys = refl
take_front (x ∷ xs) ys = ap (λ v. x ∷ v) (take_front xs ys)

-- words at the end are read behind any text
pub before_words : (front words : List ℕ) → before words (front ++ words) ≡ Some front
unfolding before
before_words front words =
    let len : length (front ++ words) - length words ≡ length front = omega (arith, length-append front words) in
    let back : drop (length front) (front ++ words) ≡ words = drop_front front words in
    let first : take (length front) (front ++ words) ≡ front = take_front front words in
    rw (len, back, first, (bytes_eq-Decides words words).1 refl) refl
