use Rattle.std.proofs.Common.{ℕ, true, [], ◌∷◌, ◌++◌, ◌+◌, sym, subst, refl, arith}
use Rattle.taps_framer.specs.Layers.{IsWholeFrame}
use Rattle.taps_frames.specs.Stuffed.{stuffed, IsPart}
use Rattle.taps_frames.proofs.StuffedSights.{is_part, is_half, part_represents, half_represents, whole_seen, full_bad, opens, one_read}
use Rattle.taps_frames.proofs.stuffed.step.Goals as goal

pub returns-then-scan-eq-ESCAPED : goal.returns-then-scan-eq-ESCAPED
returns-then-scan-eq-ESCAPED c = λ x h. c.step_escaped.ensures x (is_half c.args._index c.args.scan x h c.if-scan-eq-ESCAPED.true) h.told.0

pub returns-then-byte-eq-END : goal.returns-then-byte-eq-END
returns-then-byte-eq-END c = λ x h.
    subst (λ (v : ℕ). IsWholeFrame stuffed c.args._index (x ++ v ∷ [])) (sym c.if-byte-eq-END.true)
    (whole_seen c.args._index x c.args.scan.length (is_part c.args._index c.args.scan x h c.if-scan-eq-ESCAPED.false) h.told.0)

pub returns-then-scan : goal.returns-then-scan
returns-then-scan c = λ x h.
    full_bad c.args._index x c.args.scan.length c.args.byte (is_part c.args._index c.args.scan x h c.if-scan-eq-ESCAPED.false) c.if-scan.true c.if-byte-eq-END.false

pub returns-then-byte-eq-ESCAPE : goal.returns-then-byte-eq-ESCAPE
returns-then-byte-eq-ESCAPE c = λ x h.
    let s = h.told.0 in
    half_represents c.args._index (record { phase = 1; length = c.args.scan.length + 1; rest = 0 }) (x ++ c.args.byte ∷ [])
    (subst (λ (v : ℕ). IsPart (x ++ v ∷ []) true (c.args.scan.length + 1)) (sym c.if-byte-eq-ESCAPE.true)
    (opens x c.args.scan.length (is_part c.args._index c.args.scan x h c.if-scan-eq-ESCAPED.false))) (omega (arith, s, c.if-scan.false)) refl

pub returns : goal.returns
returns c = λ x h.
    let s = h.told.0 in
    part_represents c.args._index (record { phase = 0; length = c.args.scan.length + 1; rest = 0 }) (x ++ c.args.byte ∷ [])
    (one_read x c.args.scan.length c.args.byte (is_part c.args._index c.args.scan x h c.if-scan-eq-ESCAPED.false) (omega arith) c.if-byte-eq-END.false c.if-byte-eq-ESCAPE.false)
    (omega (arith, s, c.if-scan.false)) refl
