use Rattle.std.proofs.Common.{subst}
use Rattle.taps_script.specs.ScriptNet.{HasChannel}
use Rattle.taps_script.proofs.script_sockets.ScriptSockets.find.Goals as goal

pub returns : goal.returns
returns c =
    let channel = c.channel_at.result.now in
    let is = c.self.invariant.1.each c.args.socket channel c.channel_at.ensures in
    subst (λ v. HasChannel v c.args.socket) c.self.view_is (record { channel = channel; there = c.channel_at.ensures; its = is })
