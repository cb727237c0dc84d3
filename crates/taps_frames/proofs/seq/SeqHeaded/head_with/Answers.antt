use Rattle.std.proofs.Common.{ℕ, List, [], ◌∷◌, ◌++◌, get_or, refl, ap, ◌∙◌, arith}
use Rattle.std.specs.Int.{w64, to_be_bytes}
use Rattle.taps_frames.specs.Seq.{seq_format}
use Rattle.taps_frames.proofs.Rebuilt.{grown_next}
use Rattle.taps_frames.proofs.Prefixed.{seq_lawful}
use Rattle.taps_frames.proofs.seq.SeqHeaded.head_with.Goals as goal

abbrev last_four : List ℕ → List ℕ
last_four r = get_or r 0 0 ∷ get_or r 1 0 ∷ get_or r 2 0 ∷ get_or r 3 0 ∷ []

pub returns : goal.returns
returns c = λ x p.
    grown_next seq_format (to_be_bytes w64 c.args.index) seq_lawful c.args.index c.args.count c.args.value c.args.byte x p _ refl (omega arith)
    _ _ _ c.head_in.result c.grown_by.result
    (ap (λ (r : List ℕ). get_or r 0 0 ∷ get_or r 1 0 ∷ get_or r 2 0 ∷ get_or r 3 0 ∷ get_or r 4 0 ∷ get_or r 5 0 ∷ get_or r 6 0 ∷ get_or r 7 0 ∷ last_four c.to_be_bytes-2.result) c.to_be_bytes.ensures
    ∙ ap (λ (r : List ℕ). to_be_bytes w64 c.args.index ++ last_four r) c.to_be_bytes-2.ensures) c.first_of-seen.ensures c.head_in.ensures c.behind.ensures c.grown_by.ensures
