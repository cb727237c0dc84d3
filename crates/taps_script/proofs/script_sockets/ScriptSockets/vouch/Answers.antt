use Rattle.std.proofs.Common.{subst}
use Rattle.taps_script.specs.SomeRace.{GoesOnFrom}
use Rattle.taps_script.proofs.SomeRace.{goes_on_from}
use Rattle.taps_script.proofs.script_sockets.ScriptSockets.vouch.Goals as goal

pub returns : goal.returns
returns c = subst GoesOnFrom c.self.view_is (goes_on_from _ c.self.inside.waits c.self.inside.started c.self.inside.events.items c.self.invariant.0)
