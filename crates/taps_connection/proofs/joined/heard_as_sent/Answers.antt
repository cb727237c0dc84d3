use Rattle.std.proofs.Common.{◌<◌, ◌^◌, ◌∙◌, arith}
use Rattle.taps_connection.specs.Sources.{unread_of}
use Rattle.taps_connection.specs.Unread.{count_given}
use Rattle.taps_connection.proofs.Joinings.{heard_of_source}
use Rattle.taps_connection.proofs.joined.heard_as_sent.Goals as goal

pub returns : goal.returns
returns g c =
    let sent : c.args.from.now.sender.sent < 2 ^ 64 = omega arith in
    let given : count_given (unread_of c.args.to.now.receiver.source) < 2 ^ 64 = omega arith in
    heard_of_source _ _ _ c.requires.same c.requires.some c.vouch.ensures.framers _ sent _ c.requires.left _ _ c.requires.sound.source (c.requires.sound.fits ∙ c.requires.stream) given
