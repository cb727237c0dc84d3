use Rattle.std.proofs.Common.{◌++◌, List, ℕ, ap, sym, ◌∙◌, arith}
use Rattle.taps_framer.proofs.Prefixes.{append-nil}
use Rattle.taps_frames.proofs.StuffedRuns.{plain_past}
use Rattle.taps_frames.proofs.stuffed.read_all.Goals as goal

pub returns : goal.returns
returns c =
    sym (append-nil c.loop-at.out.items) ∙ ap (λ (w : List ℕ). c.loop-at.out.items ++ w) (sym (plain_past c.args.frame.now c.loop-at.at (omega (arith, c.loop-at-test.false)))) ∙ c.loop-at.invariant.items
