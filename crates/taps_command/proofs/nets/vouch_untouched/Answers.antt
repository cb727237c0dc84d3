use Rattle.std.proofs.Common.{[], refl}
use Rattle.taps_command.proofs.nets.vouch_untouched.Goals as goal

pub returns : goal.returns
returns g c =
    let none = g.met.N.Sockets.becomes_itself c.args.net.now in
    record { calls = []; becomes = none; shows = g.met.N.Sockets.shows c.args.net.now c.args.net.now [] none; holds = refl }
