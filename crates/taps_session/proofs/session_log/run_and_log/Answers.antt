use Rattle.taps_session.proofs.Logs.{logged, unlogged}
use Rattle.taps_session.proofs.session_log.run_and_log.Goals as goal

pub returns-in-Ok-clause-ran : goal.returns-in-Ok-clause-ran
returns-in-Ok-clause-ran g c = unlogged _ _ g.N.Sockets.Becomes _ _ _ _ _ _ _ c.in-Err-log.none c.in-Ok.ensures.ran

pub returns-in-Ok-log-clause-ran : goal.returns-in-Ok-log-clause-ran
returns-in-Ok-log-clause-ran g c =
    logged _ _ g.N.Sockets.Becomes _ _ _ _ c.args.ready.now.pre _ c.args.plan.now _ c.in-Ok.session c.in-Ok-log.printed c.requires.plan.ranked c.in-Ok-log.ensures.log c.in-Ok-log.ensures.status c.in-Ok.ensures.ran
