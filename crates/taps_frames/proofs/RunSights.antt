-- What a run says of one byte, and of a whole buffer.
use Rattle.std.proofs.Common.{◌≡◌, ℕ, false, ◌+◌, List, [], ◌∷◌, ◌++◌, take, subst, arith}
use Rattle.taps_framer.specs.declared.scan.Scan.{Scan}
use Rattle.taps_framer.specs.declared.scan.Run.{Run}
use Rattle.taps_framer.specs.declared.scan.Run.TheVariants.{More, Whole, Bad}
use Rattle.taps_framer.specs.Layers.{Layer, IsLawful, IsWholeFrame, lives}
use Rattle.taps_framer.specs.Sights.{IsSight, IsBadPlace}
use Rattle.taps_framer.specs.Scans.{IsSeen, IsRun}
use Rattle.taps_framer.proofs.Scans.{run_whole, run_whole_length, run_bad}
use Rattle.taps_frames.specs.Runs.{seen_by, sight_by}

-- a run over one byte is a step
pub one_step : (f : Layer) (scans : ℕ → Scan → List ℕ → Type 0) (i : ℕ) (x : List ℕ) (b : ℕ) (run : Run) → IsRun f scans i x (b ∷ []) run →
    IsSeen f scans i (x ++ b ∷ []) (seen_by run)
one_step f scans i x b (More scan) h = h
one_step f scans i x b (Whole used) h =
    let e : used ≡ 1 = omega (arith, h.0, h.1) in
    subst (λ (n : ℕ). IsWholeFrame f i (x ++ take n (b ∷ []))) e h.2
one_step f scans i x b (Bad place) h =
    let e : place ≡ 0 = omega (arith, h.0) in
    subst (λ (n : ℕ). lives f i (x ++ take (n + 1) (b ∷ [])) ≡ false) e h.2

-- a run from the first byte is a sight
pub run_sight : (f : Layer) (scans : ℕ → Scan → List ℕ → Type 0) (i : ℕ) → IsLawful f i → (bytes : List ℕ) (run : Run) →
    IsRun f scans i [] bytes run → IsSight f i bytes (sight_by run)
run_sight f scans i l bytes (More scan) h = (h.unfinished, h.viable)
run_sight f scans i l bytes (Whole used) h = ((run_whole f i l [] bytes used h.2).0, omega (arith, run_whole_length f i l [] bytes used h.1 h.2))
run_sight f scans i l bytes (Bad place) h =
    let r = run_bad f i l [] bytes place h.0 h.1 h.2 in
    let e : 0 + place ≡ place = omega arith in
    (r.0, subst (λ (n : ℕ). IsBadPlace f i bytes n) e r.1)
