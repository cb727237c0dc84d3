use Rattle.std.proofs.Common.{ℕ, List, [], ◌∷◌, get_or, refl, ap, arith}
use Rattle.taps_frames.specs.Tag.{tag_format}
use Rattle.taps_frames.proofs.Rebuilt.{grown_next}
use Rattle.taps_frames.proofs.Prefixed.{tag_lawful}
use Rattle.taps_frames.proofs.tag.TagHeaded.head_with.Goals as goal

pub returns : goal.returns
returns c = λ x p.
    grown_next (tag_format c.args.self.now.kind) (c.args.self.now.kind ∷ []) (tag_lawful c.args.self.now.kind) c.args.index c.args.count c.args.value c.args.byte x p _ refl (omega arith)
    _ _ _ c.head_in.result c.grown_by.result
    (ap (λ (r : List ℕ). c.args.self.now.kind ∷ get_or r 0 0 ∷ get_or r 1 0 ∷ get_or r 2 0 ∷ get_or r 3 0 ∷ []) c.to_be_bytes.ensures) c.first_of-seen.ensures c.head_in.ensures c.behind.ensures c.grown_by.ensures
