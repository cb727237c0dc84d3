-- What is seen in the bytes that a scan represents with further ones.
use Rattle.std.proofs.Common.{◌≡◌, ℕ, ◌+◌, ◌<◌, ◌≤◌, true, false, List, [], ◌∷◌, ◌++◌, length, take, drop, slice_index_or, ap, sym, subst, ◌∙◌, arith, append_assoc, length-append}
use Rattle.std.proofs.lemmas.Grind.{common_steps}
use Rattle.std.proofs.Math.Seq.{take-append-add}
use Rattle.taps_framer.specs.Layers.{Layer, IsLawful, IsWholeFrame, holds_whole_frame, is_viable, lives, first_frame}
use Rattle.taps_framer.specs.Sights.{IsBadPlace}
use Rattle.taps_framer.proofs.Prefixes.{take_drop}
use Rattle.taps_framer.proofs.Laws.{holds_this}
use Rattle.taps_framer.proofs.Sights.{bad_here}
use Rattle.taps_framer.specs.declared.scan.Scan.{Scan}
use Rattle.taps_framer.specs.declared.scan.Run.{Run}
use Rattle.taps_framer.specs.declared.scan.Run.TheVariants as run
use Rattle.taps_framer.specs.Scans.{IsRun, looked}

-- the bytes before a place, and the byte there
taken_and_one : (bytes : List ℕ) (place : ℕ) → place < length bytes →
    take place bytes ++ slice_index_or bytes place 0 ∷ [] ≡ take (place + 1) bytes
taken_and_one bytes place h = grind (arith, common_steps)

pub one_more : (x bytes : List ℕ) (place : ℕ) → place < length bytes →
    (x ++ take place bytes) ++ slice_index_or bytes place 0 ∷ [] ≡ x ++ take (place + 1) bytes
one_more x bytes place h =
    append_assoc x (take place bytes) (slice_index_or bytes place 0 ∷ []) ∙ ap (λ (w : List ℕ). x ++ w) (taken_and_one bytes place h)

-- with some further bytes there is one frame, and that is the frame that all of them begin with
pub run_whole : (f : Layer) (i : ℕ) → IsLawful f i → (x bytes : List ℕ) (used : ℕ) → IsWholeFrame f i (x ++ take used bytes) →
    (holds_whole_frame f i (x ++ bytes) ≡ true) × (first_frame f i (x ++ bytes) ≡ x ++ take used bytes)
run_whole f i l x bytes used w =
    let e : x ++ bytes ≡ f.frame i (f.front i (x ++ take used bytes)) ++ drop used bytes =
    ap (λ (v : List ℕ). x ++ v) (sym (take_drop used bytes)) ∙ sym (append_assoc x (take used bytes) (drop used bytes)) ∙
    ap (λ (v : List ℕ). v ++ drop used bytes) (sym w.exact) in
    let h = holds_this f i l (x ++ bytes) (f.front i (x ++ take used bytes)) (drop used bytes) w.spoken e in
    (h.0, h.1 ∙ w.exact)

-- how many bytes that frame has
pub run_whole_length : (f : Layer) (i : ℕ) → IsLawful f i → (x bytes : List ℕ) (used : ℕ) → used ≤ length bytes →
    IsWholeFrame f i (x ++ take used bytes) → length x + used ≡ length (first_frame f i (x ++ bytes))
run_whole_length f i l x bytes used k w =
    let n : length (take used bytes) ≡ used = grind (arith, common_steps) in
    let e = (run_whole f i l x bytes used w).1 in
    omega (arith, n, ap length e, length-append x (take used bytes))

-- where a run finds the bytes bad is their bad place
pub run_bad : (f : Layer) (i : ℕ) → IsLawful f i → (x bytes : List ℕ) (place : ℕ) → place < length bytes →
    is_viable f i (x ++ take place bytes) ≡ true → lives f i (x ++ take (place + 1) bytes) ≡ false →
    (lives f i (x ++ bytes) ≡ false) × IsBadPlace f i (x ++ bytes) (length x + place)
run_bad f i l x bytes place k v d =
    let V : List ℕ → Type 0 = λ w. is_viable f i w ≡ true in
    let D : List ℕ → Type 0 = λ w. lives f i w ≡ false in
    let e : length x + (place + 1) ≡ (length x + place) + 1 = omega arith in
    bad_here f i l (x ++ bytes) (length x + place)
    (omega (arith, k, length-append x bytes))
    (subst V (sym (take-append-add x bytes place)) v)
    (subst D (sym (take-append-add x bytes (place + 1)) ∙ ap (λ (n : ℕ). take n (x ++ bytes)) e) d)

-- no more bytes are looked at than there are
pub looked_within : (f : Layer) (scans : ℕ → Scan → List ℕ → Type 0) (i : ℕ) (x bytes : List ℕ) (run : Run) → IsRun f scans i x bytes run → looked run bytes ≤ length bytes
looked_within f scans i x bytes (run.More scan) h = omega arith
looked_within f scans i x bytes (run.Whole used) h = h.1
looked_within f scans i x bytes (run.Bad place) h = omega (arith, h.0)
