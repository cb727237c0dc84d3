use Rattle.std.proofs.Common.{◌≡◌, ℕ, List, [], ◌++◌, length, refl, ap, sym, subst, ◌∙◌, arith}
use Rattle.std.specs.Prelude.{codes}
use Rattle.std.specs.Int.{w64, to_be_bytes}
use Rattle.taps_frames.specs.Heads.{IsHead}
use Rattle.taps_frames.specs.Len32.{len32_format}
use Rattle.taps_frames.specs.Seq.{seq_format}
use Rattle.taps_frames.proofs.Len32Heads.{len32_begun}
use Rattle.taps_frames.proofs.seq.SeqHeaded.head_in.Goals as goal

pub returns-in-Ok : goal.returns-in-Ok
returns-in-Ok c =
    let i : ℕ = c.args.index in
    let e : c.args.buffer.now ≡ to_be_bytes w64 i ++ c.in-Ok.rest.now =
    c.in-Ok.ensures ∙ ap (λ (p : List ℕ). p ++ c.in-Ok.rest.now) c.to_be_bytes.ensures in
    subst (λ (x : List ℕ). IsHead seq_format i x c.moved.result) (sym e)
    (c.moved.ensures (codes "seq") (λ j. to_be_bytes w64 j) len32_format i c.in-Ok.rest.now refl (omega (arith, ap length e)) c.head_in.ensures)

pub returns-in-Err : goal.returns-in-Err
returns-in-Err c = c.in-Err.ensures (codes "seq") (λ j. to_be_bytes w64 j) len32_format c.args.index (sym c.to_be_bytes.ensures) (len32_begun c.args.index [] refl (omega arith) (omega arith))
