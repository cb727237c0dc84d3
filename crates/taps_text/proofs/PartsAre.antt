-- Parts that make up a body are its parts by the definition.
use Rattle.std.proofs.Common.{◌≡◌, ℕ, ◌≤◌, ◌<◌, List, [], ◌∷◌, ◌++◌, length, take, drop, map, refl, sym, ◌∙◌, ap, arith, append_assoc, length-append}
use Rattle.std.specs.List.{All, concat}
use Rattle.std.proofs.Math.Seq.{take-append_seam, drop-append_seam}
use Rattle.std.proofs.lemmas.List.Elements.{All-head, All-tail}
use Rattle.taps_message.specs.Parts.{PartState, full_part, last_part, ArePartsOf, parts_of}
use Rattle.taps_message.proofs.Parting.{last_step, full_step}

seam : (front back : List ℕ) (n : ℕ) → n ≡ length front → (take n (front ++ back) ≡ front) × (drop n (front ++ back) ≡ back)
seam front back n e = rw e (take-append_seam front back, drop-append_seam front back)

-- a full part, and then those of the bytes behind it
full_before : (max : ℕ) (part behind : List ℕ) → 1 ≤ max → length part ≡ max → 0 < length behind → parts_of max (part ++ behind) ≡ full_part part ∷ parts_of max behind
full_before max part behind some exact more =
    let longer : max < length (part ++ behind) = omega (arith, length-append part behind, exact) in
    let both = seam part behind max (sym exact) in
    full_step max (part ++ behind) some longer ∙ rw (both.0, both.1) refl

are_in : (max : ℕ) (full : List (List ℕ)) (rest : List ℕ) → 1 ≤ max → All (λ bytes. length bytes ≡ max) full → length rest ≤ max → (0 < length (concat full ++ rest) → 0 < length rest) →
    map full_part full ++ last_part rest ∷ [] ≡ parts_of max (concat full ++ rest)
are_in max [] rest some exact fits filled = sym (last_step max rest fits)
are_in max (part ∷ full) rest some exact fits filled =
    let whole : length part ≡ max = All-head (λ bytes. length bytes ≡ max) part full exact in
    let split : concat (part ∷ full) ++ rest ≡ part ++ (concat full ++ rest) = append_assoc part (concat full) rest in
    let longer : 0 < length (concat (part ∷ full) ++ rest) = omega (arith, ap length split, length-append part (concat full ++ rest), whole, some) in
    let left : 0 < length rest = filled longer in
    let behind : 0 < length (concat full ++ rest) = omega (arith, length-append (concat full) rest, left) in
    ap (λ ps. full_part part ∷ ps) (are_in max full rest some (All-tail (λ bytes. length bytes ≡ max) part full exact) fits (λ _. left))
    ∙ sym (full_before max part (concat full ++ rest) some whole behind)
    ∙ ap (parts_of max) (sym split)

pub parts_are : (max : ℕ) (body : List ℕ) (ps : List PartState) → 1 ≤ max → ArePartsOf body max ps → ps ≡ parts_of max body
parts_are max body ps some parts =
    let filled : 0 < length (concat parts.full ++ parts.rest) → 0 < length parts.rest = λ more. parts.filled (omega (arith, more, ap length parts.joined)) in
    parts.in_order ∙ are_in max parts.full parts.rest some parts.exact parts.fits filled ∙ ap (parts_of max) parts.joined
