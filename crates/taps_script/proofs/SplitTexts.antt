-- A text is split at its first such byte.
use Rattle.std.proofs.Common.{◌≡◌, ℕ, suc, ◌+◌, Bool, true, false, not, ◌||◌, List, [], ◌∷◌, ◌++◌, length, take, drop, add-one, refl, ap, arith, if◌then◌else◌}
use Rattle.std.specs.Prelude.{◌==◌, cond, nat_lt, position, Option, None, Some, option_map}
use Rattle.std.specs.List.{position_or_len, prefix_len}
use Rattle.std.specs.Option.{option_map_or}
use Rattle.std.proofs.lemmas.Bool.{eqb-true, eq-eqb, lt-ltb}
use Rattle.std.proofs.lemmas.Bool.Decides.{nat_tests}
use Rattle.taps_socket.specs.RaceSockets.{has}
use Rattle.taps_script.specs.ScriptReading.{split_at_byte}

at_place : (b : ℕ) (text : List ℕ) (m k : ℕ) (r q : Bool) → k ≡ 1 + m → q ≡ r → option_map {T = List ℕ × List ℕ} {U = List ℕ × List ℕ} (λ p. (b ∷ p.0, p.1)) (option_map {U = List ℕ × List ℕ} (λ i. (take i text, drop (i + 1) text)) (if r then Some m else None)) ≡ option_map {U = List ℕ × List ℕ} (λ i. (take i (b ∷ text), drop (i + 1) (b ∷ text))) (if q then Some k else None)
at_place b text m k true q e same = let next : k ≡ suc m = omega arith in rw (same, next) (simp add-one)
at_place b text m k false q e same = rw same refl

step : (q : Bool) (mark b : ℕ) (text : List ℕ) → (b == mark) ≡ q → split_at_byte mark text ≡ option_map (λ i. (take i text, drop (i + 1) text)) (position (λ b. b == mark) text) → split_at_byte mark (b ∷ text) ≡ option_map (λ i. (take i (b ∷ text), drop (i + 1) (b ∷ text))) (position (λ b. b == mark) (b ∷ text))
step true mark b text e ih = rw (e, lt-ltb 0 (suc (length text)) (omega arith)) refl
step false mark b text e ih =
    rw (e, ih) (at_place b text (position_or_len (λ b. b == mark) text) (1 + prefix_len (λ x. not (x == mark)) text) (nat_lt (position_or_len (λ b. b == mark) text) (length text)) (nat_lt (1 + prefix_len (λ x. not (x == mark)) text) (suc (length text))) refl (grind (arith, nat_tests)))

pub split_by_position : (mark : ℕ) (text : List ℕ) → split_at_byte mark text ≡ option_map (λ i. (take i text, drop (i + 1) text)) (position (λ b. b == mark) text)
split_by_position mark [] = refl
split_by_position mark (b ∷ text) = step (b == mark) mark b text refl (split_by_position mark text)

-- the parts make the text again
parts_by : (q : Bool) (mark b : ℕ) (text : List ℕ) (p : List ℕ × List ℕ) → (b == mark) ≡ q → ((p : List ℕ × List ℕ) → split_at_byte mark text ≡ Some p → text ≡ p.0 ++ mark ∷ p.1) → (if q then Some ([], text) else option_map {T = List ℕ × List ℕ} (λ p. (b ∷ p.0, p.1)) (split_at_byte mark text)) ≡ Some p → b ∷ text ≡ p.0 ++ mark ∷ p.1
parts_by true mark b text p e more h =
    let first : [] ≡ p.0 = ap (λ o. option_map_or (λ p. p.0) o []) h in
    let rest : text ≡ p.1 = ap (λ o. option_map_or (λ p. p.1) o []) h in
    rw (← first, ← rest, eqb-true b mark e) refl
parts_by false mark b text p e more h = by_split (split_at_byte mark text) refl h
  where
    by_split : (o : Option (List ℕ × List ℕ)) → split_at_byte mark text ≡ o → option_map {T = List ℕ × List ℕ} (λ p. (b ∷ p.0, p.1)) o ≡ Some p → b ∷ text ≡ p.0 ++ mark ∷ p.1
    by_split None s h = cc
    by_split (Some r) s h =
        (let first : b ∷ r.0 ≡ p.0 = ap (λ o. option_map_or (λ p. p.0) o []) h in
        let rest : r.1 ≡ p.1 = ap (λ o. option_map_or (λ p. p.1) o []) h in
        rw (← first, ← rest) (ap (λ t. b ∷ t) (more r s)))

pub split_parts : (mark : ℕ) (text : List ℕ) (p : List ℕ × List ℕ) → split_at_byte mark text ≡ Some p → text ≡ p.0 ++ mark ∷ p.1
split_parts mark [] p e = cc
split_parts mark (b ∷ text) p e = parts_by (b == mark) mark b text p refl (split_parts mark text) e

-- and a text that is made of two parts is split into them where the first has no such byte
joined_by : (q : Bool) (mark b : ℕ) (front rest : List ℕ) → (b == mark) ≡ q → (q || has front mark) ≡ false → (has front mark ≡ false → split_at_byte mark (front ++ mark ∷ rest) ≡ Some (front, rest)) → cond {A = Option (List ℕ × List ℕ)} q (Some ([], front ++ mark ∷ rest)) (option_map {T = List ℕ × List ℕ} {U = List ℕ × List ℕ} (λ p. (b ∷ p.0, p.1)) (split_at_byte mark (front ++ mark ∷ rest))) ≡ Some (b ∷ front, rest)
joined_by true mark b front rest e h more = cc
joined_by false mark b front rest e h more = rw (more h) refl

pub split_joined : (mark : ℕ) (front rest : List ℕ) → has front mark ≡ false → split_at_byte mark (front ++ mark ∷ rest) ≡ Some (front, rest)
split_joined mark [] rest h = rw (eq-eqb mark mark refl) refl
split_joined mark (b ∷ front) rest h = joined_by (b == mark) mark b front rest refl h (split_joined mark front rest)
