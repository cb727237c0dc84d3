use Rattle.std.proofs.Common.{subst, refl}
use Rattle.taps_group.proofs.Places.{indexed}
use Rattle.taps_group_exchange.specs.GroupHearings.{HearsOrOver}
use Rattle.taps_group_exchange.proofs.HearingGroup.{step_hears, step_cut, step_close, step_sockets, step_talk, still_over, not_stopped}
use Rattle.taps_group_exchange.proofs.hearing.hear_next.Goals as goal

pub returns-in-Some-clause-stepped : goal.returns-in-Some-clause-stepped
returns-in-Some-clause-stepped g c = λ first net_first places told need size h.
    still_over (λ vtable. (g.dyn-1.0.entry vtable).1) g.N.Sockets.Becomes first c.args.net.now net_first (g.N.Sockets.net c.args.net.now) places told c.args.members.now.items c.args.place _ c.index.result.now c.args.stopped c.in-Some.field-0 c.in-Some.is size (indexed _ _ _ c.requires.member c.index.ensures) c.sent-sent.ensures c.new-heard.ensures.items h

pub returns-in-Some-clause-talk : goal.returns-in-Some-clause-talk
returns-in-Some-clause-talk g c = λ told is. absurd (not_stopped c.args.stopped c.in-Some.field-0 _ told c.in-Some.is is)

pub returns-in-Ok-clause-stepped : goal.returns-in-Ok-clause-stepped
returns-in-Ok-clause-stepped g c = λ first net_first places told need size h.
    step_hears (λ vtable. (g.dyn-1.0.entry vtable).1) g.N.Sockets.Becomes first c.args.net.now c.hear_at.new.net net_first (g.N.Sockets.net c.args.net.now) (g.N.Sockets.net c.hear_at.new.net) places told c.args.members.now.items c.hear_at.new.members.items c.args.until c.args.needs c.args.place g.met.N.Sockets.becomes_on (g.met.N.Sockets.shows c.args.net.now c.hear_at.new.net) size c.requires.close.once need c.in-Ok.ensures.changed
    c.in-Ok.stopped c.hear_at.new.heard.items _ c.index.result.now c.in-Ok.ensures.heard (indexed _ _ _ c.requires.member c.index.ensures) c.sent-sent.ensures refl
    (subst (λ v. HearsOrOver (λ vtable. (g.dyn-1.0.entry vtable).1) g.N.Sockets.Becomes first c.args.net.now net_first (g.N.Sockets.net c.args.net.now) places v told c.args.members.now.items) c.in-None.is h)

pub returns-in-Ok-clause-talk : goal.returns-in-Ok-clause-talk
returns-in-Ok-clause-talk g c = λ told is. step_talk (λ vtable. (g.dyn-1.0.entry vtable).1) (g.N.Sockets.net c.args.net.now) (g.N.Sockets.net c.hear_at.new.net) c.args.members.now.items c.hear_at.new.members.items c.args.place c.in-Ok.ensures.changed c.requires.close.once (c.requires.talk c.in-None.is)

pub returns-in-Ok-clause-close : goal.returns-in-Ok-clause-close
returns-in-Ok-clause-close g c = step_close (g.N.Sockets.net c.args.net.now) (g.N.Sockets.net c.hear_at.new.net) c.args.members.now.items c.hear_at.new.members.items c.args.place c.in-Ok.ensures.changed c.requires.close

pub returns-in-Ok-clause-sockets : goal.returns-in-Ok-clause-sockets
returns-in-Ok-clause-sockets g c = step_sockets (g.N.Sockets.net c.args.net.now) (g.N.Sockets.net c.hear_at.new.net) c.args.members.now.items c.hear_at.new.members.items c.args.place c.in-Ok.ensures.changed

pub returns-in-Err-clause-stepped : goal.returns-in-Err-clause-stepped
returns-in-Err-clause-stepped g c = λ first net_first places told need size h.
    step_cut (λ vtable. (g.dyn-1.0.entry vtable).1) g.N.Sockets.Becomes first c.args.net.now c.hear_at.new.net net_first (g.N.Sockets.net c.args.net.now) (g.N.Sockets.net c.hear_at.new.net) places told c.args.members.now.items c.hear_at.new.members.items c.args.until c.args.needs c.args.place g.met.N.Sockets.becomes_on (g.met.N.Sockets.shows c.args.net.now c.hear_at.new.net) size c.requires.close.once need c.in-Err.ensures.changed
    c.in-Err.none c.hear_at.new.heard.items c.in-Err.ensures.heard
    (subst (λ v. HearsOrOver (λ vtable. (g.dyn-1.0.entry vtable).1) g.N.Sockets.Becomes first c.args.net.now net_first (g.N.Sockets.net c.args.net.now) places v told c.args.members.now.items) c.in-None.is h)

pub returns-in-Err-clause-close : goal.returns-in-Err-clause-close
returns-in-Err-clause-close g c = step_close (g.N.Sockets.net c.args.net.now) (g.N.Sockets.net c.hear_at.new.net) c.args.members.now.items c.hear_at.new.members.items c.args.place c.in-Err.ensures.changed c.requires.close

pub returns-in-Err-clause-sockets : goal.returns-in-Err-clause-sockets
returns-in-Err-clause-sockets g c = step_sockets (g.N.Sockets.net c.args.net.now) (g.N.Sockets.net c.hear_at.new.net) c.args.members.now.items c.hear_at.new.members.items c.args.place c.in-Err.ensures.changed
