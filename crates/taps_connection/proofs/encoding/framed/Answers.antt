use Rattle.std.proofs.Common.{◌∙◌}
use Rattle.taps_connection.proofs.Framing.{is_framed}
use Rattle.taps_connection.proofs.encoding.framed.Goals as goal

pub returns-in-Ok : goal.returns-in-Ok
returns-in-Ok g c = is_framed _ c.vouch.ensures.framers c.args.index c.ranges.index.fits c.requires c.args.body.now c.from_vec.result c.in-Ok.ensures.spoken (c.from_vec.ensures ∙ c.in-Ok.ensures.chained)
