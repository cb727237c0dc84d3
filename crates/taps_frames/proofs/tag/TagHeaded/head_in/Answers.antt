use Rattle.std.proofs.Common.{◌≡◌, ℕ, List, [], ◌∷◌, length, refl, ap, sym, subst, arith}
use Rattle.std.specs.Prelude.{codes}
use Rattle.taps_frames.specs.Heads.{IsHead}
use Rattle.taps_frames.specs.Len16.{len16_format}
use Rattle.taps_frames.specs.Tag.{tag_format}
use Rattle.taps_frames.proofs.Len16Heads.{len16_begun}
use Rattle.taps_frames.proofs.tag.TagHeaded.head_in.Goals as goal

pub returns-in-Ok : goal.returns-in-Ok
returns-in-Ok c =
    let i : ℕ = c.args.index in
    let e : c.args.buffer.now ≡ c.args.self.now.kind ∷ c.in-Ok.rest.now = c.in-Ok.ensures in
    subst (λ (x : List ℕ). IsHead (tag_format c.args.self.now.kind) i x c.moved.result) (sym e)
    (c.moved.ensures (codes "tag") (λ _. c.args.self.now.kind ∷ []) len16_format i c.in-Ok.rest.now refl (omega (arith, ap length e)) c.head_in.ensures)

pub returns-in-Err : goal.returns-in-Err
returns-in-Err c = c.in-Err.ensures (codes "tag") (λ _. c.args.self.now.kind ∷ []) len16_format c.args.index refl (len16_begun c.args.index [] refl (omega arith))
