use Rattle.std.proofs.Common.{[], ◌∷◌, ◌++◌, refl, inl, inr}
use Rattle.taps_frames.proofs.StuffedSights.{part_represents, closes, escape_bad}
use Rattle.taps_frames.proofs.stuffed.step_escaped.Goals as goal

pub returns-then-byte-eq-ESCAPED_ESCAPE : goal.returns-then-byte-eq-ESCAPED_ESCAPE
returns-then-byte-eq-ESCAPED_ESCAPE c = λ x p h.
    part_represents c.args._index (record { phase = 0; length = c.args.length; rest = 0 }) (x ++ c.args.byte ∷ [])
    (closes x c.args.length c.args.byte p (elim c.if-byte-eq-ESCAPED_ESCAPE.either [ inl e ↦ inl e | inr w ↦ inr w.1 ])) h refl

pub returns-else-byte-eq-ESCAPED_ESCAPE : goal.returns-else-byte-eq-ESCAPED_ESCAPE
returns-else-byte-eq-ESCAPED_ESCAPE c = λ x p h.
    escape_bad c.args._index x c.args.length c.args.byte p c.if-byte-eq-ESCAPED_ESCAPE.false.0 c.if-byte-eq-ESCAPED_ESCAPE.false.1
