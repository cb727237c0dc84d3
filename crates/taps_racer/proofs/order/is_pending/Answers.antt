use Rattle.std.proofs.Common.{sym}
use Rattle.taps_racer.specs.Attempts.{pending_socket}
use Rattle.taps_racer.proofs.Numbers.{search_none, pending_tells}
use Rattle.taps_racer.proofs.Marks.{place_within, pending_there}
use Rattle.taps_racer.proofs.order.is_pending.Goals as goal

pub is_pending_at-requires : goal.is_pending_at-requires
is_pending_at-requires c = place_within c.args.attempts.now c.in-Some.place c.args.socket (c.in-Some.ensures c.args.attempts.now c.requires)

pub returns-in-Some : goal.returns-in-Some
returns-in-Some c =
    pending_there c.args.attempts.now c.args.order.now c.requires c.in-Some.place c.args.socket c.is_pending_at.result (c.in-Some.ensures c.args.attempts.now c.requires) c.is_pending_at.ensures

pub returns-in-None : goal.returns-in-None
returns-in-None c = sym (search_none pending_socket pending_tells c.args.attempts.now c.args.socket (c.in-None.ensures c.args.attempts.now c.requires))
