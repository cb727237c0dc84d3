use Rattle.std.proofs.Common.{sym}
use Rattle.taps_racer.proofs.Numbers.{has_at}
use Rattle.taps_racer.proofs.order.had_socket.Goals as goal

pub returns-in-Some : goal.returns-in-Some
returns-in-Some c = sym (has_at c.args.attempts.now c.in-Some.field-0 c.args.socket (c.in-Some.ensures c.args.attempts.now c.requires))

pub returns-in-None : goal.returns-in-None
returns-in-None c = sym (c.in-None.ensures c.args.attempts.now c.requires)
