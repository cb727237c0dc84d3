use Rattle.std.proofs.Common.{ℕ, ap, sym, ◌∙◌}
use Rattle.taps_frames.specs.Stuffed.{spelled}
use Rattle.taps_frames.proofs.Spellings.{special, spelled_ending, spelled_escape}
use Rattle.taps_frames.proofs.stuffed.spelling.Goals as goal

pub returns-then-byte-eq-END : goal.returns-then-byte-eq-END
returns-then-byte-eq-END c = sym (ap (λ (v : ℕ). spelled v) c.if-byte-eq-END.true ∙ spelled_ending)

pub returns-else-byte-eq-END : goal.returns-else-byte-eq-END
returns-else-byte-eq-END c = sym (ap (λ (v : ℕ). spelled v) (special c.args.byte c.requires c.if-byte-eq-END.false) ∙ spelled_escape)
