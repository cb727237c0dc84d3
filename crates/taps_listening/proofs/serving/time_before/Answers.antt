use Rattle.taps_listening.proofs.Keeping.{keeps_time}
use Rattle.taps_listening.proofs.serving.time_before.Goals as goal

pub returns-else-place-eq0-clause-keeps : goal.returns-else-place-eq0-clause-keeps
returns-else-place-eq0-clause-keeps g c =
    λ socket. keeps_time socket c.now.result (g.N.Sockets.net c.args.net.now) (g.N.Sockets.net c.now.new.self) c.requires.spare c.now.ensures.net
