use Rattle.std.proofs.Common.{[], sym, subst}
use Rattle.taps_framer.specs.declared.sight.Sight.{Sight}
use Rattle.taps_framer.specs.Sights.{IsSight}
use Rattle.taps_frames.specs.Stuffed.{stuffed, stuffed_scan}
use Rattle.taps_frames.proofs.StuffedLaws.{lawful}
use Rattle.taps_frames.proofs.RunSights.{run_sight}
use Rattle.taps_frames.proofs.stuffed.StuffedFramer.read.Goals as goal

pub advance-requires : goal.advance-requires
advance-requires c = ([], c.start.ensures)

pub returns : goal.returns
returns c =
    subst (λ (v : Sight). IsSight stuffed c.args.index c.args.buffer.now v) (sym c.sight_of.ensures)
    (run_sight stuffed stuffed_scan c.args.index (lawful c.args.index) c.args.buffer.now c.advance.result (c.advance.ensures [] c.start.ensures))
