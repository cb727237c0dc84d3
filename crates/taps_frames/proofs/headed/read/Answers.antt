use Rattle.std.proofs.Common.{[], sym, subst}
use Rattle.taps_framer.specs.declared.sight.Sight.{Sight}
use Rattle.taps_framer.specs.Sights.{IsSight}
use Rattle.taps_frames.specs.Formats.{headed}
use Rattle.taps_frames.specs.Scans.{headed_scan}
use Rattle.taps_frames.proofs.HeadedScans.{laws}
use Rattle.taps_frames.proofs.RunSights.{run_sight}
use Rattle.taps_frames.proofs.headed.read.Goals as goal

pub advance-requires : goal.advance-requires
advance-requires g c = ([], c.start.ensures)

pub returns : goal.returns
returns g c =
    subst (λ (v : Sight). IsSight (headed (g.H.Headed.format c.args.framer.now)) c.args.index c.args.buffer.now v) (sym c.sight_of.ensures)
    (run_sight (headed (g.H.Headed.format c.args.framer.now)) (headed_scan (g.H.Headed.format c.args.framer.now) (g.H.Headed.number c.args.framer.now)) c.args.index (laws (g.H.Headed.format c.args.framer.now) (g.H.Headed.number c.args.framer.now) c.vouch_for_heads.ensures c.args.index)
    c.args.buffer.now c.advance.result (c.advance.ensures [] c.start.ensures))
