-- The texts of a script's lines, by its first line end.
use Rattle.std.proofs.Common.{◌≡◌, ℕ, ◌<◌, Bool, true, false, List, [], ◌∷◌, length, length-append, refl, ap, ◌∙◌, arith, if◌then◌else◌}
use Rattle.std.specs.Prelude.{◌==◌, cond, Option, None, Some, option_map}
use Rattle.std.specs.Option.{option_map_or}
use Rattle.taps_script.specs.ScriptReading.{split_at_byte}
use Rattle.taps_script.specs.Scripts.{in_front, texts_of}
use Rattle.taps_script.proofs.SplitTexts.{split_parts}

-- where the first line ends
first_by : (q : Bool) (b : ℕ) (bytes : List ℕ) (p : List ℕ × List ℕ) → ((p : List ℕ × List ℕ) → split_at_byte 10 bytes ≡ Some p → texts_of bytes ≡ p.0 ∷ texts_of p.1) → cond {A = Option (List ℕ × List ℕ)} q (Some ([], bytes)) (option_map {T = List ℕ × List ℕ} {U = List ℕ × List ℕ} (λ p. (b ∷ p.0, p.1)) (split_at_byte 10 bytes)) ≡ Some p → (if q then [] ∷ texts_of bytes else in_front b (texts_of bytes)) ≡ p.0 ∷ texts_of p.1
first_by true b bytes p more h =
    let front : [] ≡ p.0 = ap (λ o. option_map_or (λ p. p.0) o []) h in
    let rest : bytes ≡ p.1 = ap (λ o. option_map_or (λ p. p.1) o []) h in
    rw (← front, ← rest) refl
first_by false b bytes p more h = by_split (split_at_byte 10 bytes) refl h
  where
    by_split : (o : Option (List ℕ × List ℕ)) → split_at_byte 10 bytes ≡ o → option_map {T = List ℕ × List ℕ} {U = List ℕ × List ℕ} (λ p. (b ∷ p.0, p.1)) o ≡ Some p → in_front b (texts_of bytes) ≡ p.0 ∷ texts_of p.1
    by_split None s h = cc
    by_split (Some r) s h =
        (let front : b ∷ r.0 ≡ p.0 = ap (λ o. option_map_or (λ p. p.0) o []) h in
        let rest : r.1 ≡ p.1 = ap (λ o. option_map_or (λ p. p.1) o []) h in
        ap (in_front b) (more r s) ∙ (rw (← front, ← rest) refl))

pub first_text : (bytes : List ℕ) (p : List ℕ × List ℕ) → split_at_byte 10 bytes ≡ Some p → texts_of bytes ≡ p.0 ∷ texts_of p.1
first_text [] p h = cc
first_text (b ∷ bytes) p h = first_by (b == 10) b bytes p (first_text bytes) h

pub rest_shorter : (bytes : List ℕ) (p : List ℕ × List ℕ) → split_at_byte 10 bytes ≡ Some p → length p.1 < length bytes
rest_shorter bytes p h = let e = ap length (split_parts 10 bytes p h) in let l = length-append p.0 (10 ∷ p.1) in omega arith

-- where no line ends
last_by : (q : Bool) (b : ℕ) (bytes : List ℕ) → (split_at_byte 10 bytes ≡ None → in_front b (texts_of bytes) ≡ (b ∷ bytes) ∷ []) → cond {A = Option (List ℕ × List ℕ)} q (Some ([], bytes)) (option_map {T = List ℕ × List ℕ} {U = List ℕ × List ℕ} (λ p. (b ∷ p.0, p.1)) (split_at_byte 10 bytes)) ≡ None → (if q then [] ∷ texts_of bytes else in_front b (texts_of bytes)) ≡ (b ∷ bytes) ∷ []
last_by true b bytes more h = cc
last_by false b bytes more h = by_split (split_at_byte 10 bytes) refl h
  where
    by_split : (o : Option (List ℕ × List ℕ)) → split_at_byte 10 bytes ≡ o → option_map {T = List ℕ × List ℕ} {U = List ℕ × List ℕ} (λ p. (b ∷ p.0, p.1)) o ≡ None → in_front b (texts_of bytes) ≡ (b ∷ bytes) ∷ []
    by_split None s h = more s
    by_split (Some r) s h = cc

front_of : (b : ℕ) (bytes : List ℕ) → split_at_byte 10 bytes ≡ None → in_front b (texts_of bytes) ≡ (b ∷ bytes) ∷ []
front_of b [] h = refl
front_of b (d ∷ bytes) h = ap (in_front b) (last_by (d == 10) d bytes (front_of d bytes) h)

pub last_text : (bytes : List ℕ) → 0 < length bytes → split_at_byte 10 bytes ≡ None → texts_of bytes ≡ bytes ∷ []
last_text [] some h = absurd (omega arith)
last_text (b ∷ bytes) some h = last_by (b == 10) b bytes (front_of b bytes) h
