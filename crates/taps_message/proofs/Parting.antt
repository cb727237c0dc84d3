-- The parts of bytes by their definition make them up.
use Rattle.std.proofs.Common.{◌≡◌, ℕ, zero, suc, ◌≤◌, ◌<◌, List, [], ◌∷◌, ◌++◌, Bool, true, false, nat_le, cond, length, take, drop, refl, sym, ◌∙◌, ap, arith, append_assoc, length-drop}
use Rattle.std.specs.List.{concat}
use Rattle.std.proofs.lemmas.List.{take-append-drop, length-take-le}
use Rattle.std.proofs.lemmas.List.Elements.{All-nil, All-cons}
use Rattle.std.proofs.lemmas.Bool.{leb-true, leb-false, le-leb, lt-leb}
use Rattle.taps_message.specs.Parts.{PartState, full_part, last_part, ArePartsOf, parts_within, parts_of}

-- a body that is its own last part
one_part : (max : ℕ) (body : List ℕ) → length body ≤ max → ArePartsOf body max (last_part body ∷ [])
one_part max body fits = record {
  full = [];
  rest = body;
  in_order = refl;
  joined = refl;
  exact = All-nil _;
  fits = fits;
  filled = λ some. some;
}

-- a full part before the parts of what is left
more_parts : (max : ℕ) (body : List ℕ) (parts : List PartState) → 1 ≤ max → max < length body → ArePartsOf (drop max body) max parts → ArePartsOf body max (full_part (take max body) ∷ parts)
more_parts max body parts some more left = record {
  full = take max body ∷ left.full;
  rest = left.rest;
  in_order = ap (λ ps. full_part (take max body) ∷ ps) left.in_order;
  joined = append_assoc (take max body) (concat left.full) left.rest ∙ ap (λ bytes. take max body ++ bytes) left.joined ∙ take-append-drop max body;
  exact = All-cons (λ bytes. length bytes ≡ max) (take max body) left.full (length-take-le max body (omega arith)) left.exact;
  fits = left.fits;
  filled = λ _. left.filled (omega (arith, length-drop max body));
}

-- the parts by one more step of the definition
step_parts : (max most : ℕ) (body : List ℕ) → 1 ≤ max → (fits : Bool) → nat_le (length body) max ≡ fits → ((length (drop max body) ≤ most) → ArePartsOf (drop max body) max (parts_within max most (drop max body))) → length body ≤ suc most →
    ArePartsOf body max (cond fits (last_part body ∷ []) (full_part (take max body) ∷ parts_within max most (drop max body)))
step_parts max most body some true is behind enough = one_part max body (leb-true (length body) max is)
step_parts max most body some false is behind enough =
    more_parts max body _ some (leb-false (length body) max is) (behind (omega (arith, length-drop max body)))

pub are_parts : (max most : ℕ) (body : List ℕ) → 1 ≤ max → length body ≤ most → ArePartsOf body max (parts_within max most body)
are_parts max zero body some enough = one_part max body (omega arith)
are_parts max (suc most) body some enough =
    step_parts max most body some (nat_le (length body) max) refl (λ fewer. are_parts max most (drop max body) some fewer) enough

-- the last part, and a part before it, at any bound on how many more there are
last_within : (max most : ℕ) (body : List ℕ) → length body ≤ max → parts_within max most body ≡ last_part body ∷ []
last_within max zero body fits = refl
last_within max (suc most) body fits = rw (le-leb (length body) max fits) refl

full_within : (max most : ℕ) (body : List ℕ) → max < length body → parts_within max (suc most) body ≡ full_part (take max body) ∷ parts_within max most (drop max body)
full_within max most body more = rw (lt-leb (length body) max more) refl

same_step : (max most more : ℕ) (body : List ℕ) → 1 ≤ max → length body ≤ suc most → length body ≤ suc more → (fits : Bool) → nat_le (length body) max ≡ fits →
    (length (drop max body) ≤ most → length (drop max body) ≤ more → parts_within max most (drop max body) ≡ parts_within max more (drop max body)) →
    parts_within max (suc most) body ≡ parts_within max (suc more) body
same_step max most more body some a b true is behind =
    let fits = leb-true (length body) max is in
    last_within max (suc most) body fits ∙ sym (last_within max (suc more) body fits)
same_step max most more body some a b false is behind =
    let longer = leb-false (length body) max is in
    full_within max most body longer
    ∙ ap (λ ps. full_part (take max body) ∷ ps) (behind (omega (arith, length-drop max body)) (omega (arith, length-drop max body)))
    ∙ sym (full_within max more body longer)

-- the bound does not matter where it is enough
same_parts : (max most more : ℕ) (body : List ℕ) → 1 ≤ max → length body ≤ most → length body ≤ more → parts_within max most body ≡ parts_within max more body
same_parts max zero more body some a b = sym (last_within max more body (omega arith))
same_parts max (suc most) zero body some a b = last_within max (suc most) body (omega arith)
same_parts max (suc most) (suc more) body some a b =
    same_step max most more body some a b (nat_le (length body) max) refl (λ c d. same_parts max most more (drop max body) some c d)

pub last_step : (max : ℕ) (body : List ℕ) → length body ≤ max → parts_of max body ≡ last_part body ∷ []
last_step max body fits = last_within max (length body) body fits

pub full_step : (max : ℕ) (body : List ℕ) → 1 ≤ max → max < length body → parts_of max body ≡ full_part (take max body) ∷ parts_of max (drop max body)
full_step max [] some more = absurd (omega arith)
full_step max (b ∷ body) some more =
    full_within max (length body) (b ∷ body) more
    ∙ ap (λ ps. full_part (take max (b ∷ body)) ∷ ps) (same_parts max (length body) (length (drop max (b ∷ body))) (drop max (b ∷ body)) some (omega (arith, length-drop max (b ∷ body))) (omega arith))
