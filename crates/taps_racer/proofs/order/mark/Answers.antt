use Rattle.std.proofs.Common.{sym}
use Rattle.taps_racer.proofs.Marks.{place_within, marks_at, marks_none}
use Rattle.taps_racer.proofs.order.mark.Goals as goal

pub mark_at-requires : goal.mark_at-requires
mark_at-requires c = place_within c.args.attempts.now c.in-Some.place c.args.socket (c.in-Some.ensures c.args.attempts.now c.requires)

pub returns-in-Some : goal.returns-in-Some
returns-in-Some c =
    marks_at c.args.attempts.now c.mark_at.new.attempts c.args.order.now c.requires c.in-Some.place c.args.socket c.args.state (c.in-Some.ensures c.args.attempts.now c.requires) c.mark_at.ensures

pub returns-in-None : goal.returns-in-None
returns-in-None c = sym (marks_none c.args.attempts.now c.args.socket c.args.state (c.in-None.ensures c.args.attempts.now c.requires))
