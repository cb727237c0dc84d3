use Rattle.std.proofs.Common.{[], sym, subst}
use Rattle.taps_framer.specs.declared.sight.Sight.{Sight}
use Rattle.taps_framer.specs.Sights.{IsSight}
use Rattle.taps_frames.specs.Line.{line, line_scan}
use Rattle.taps_frames.proofs.Lines.{lawful}
use Rattle.taps_frames.proofs.RunSights.{run_sight}
use Rattle.taps_frames.proofs.line.LineFramer.read.Goals as goal

pub advance-requires : goal.advance-requires
advance-requires c = ([], c.start.ensures)

pub returns : goal.returns
returns c =
    subst (λ (v : Sight). IsSight line c.args.index c.args.buffer.now v) (sym c.sight_of.ensures)
    (run_sight line line_scan c.args.index (lawful c.args.index) c.args.buffer.now c.advance.result (c.advance.ensures [] c.start.ensures))
