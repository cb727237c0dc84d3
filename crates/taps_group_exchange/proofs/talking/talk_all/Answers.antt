use Rattle.std.proofs.Common.{[], slice_get, ap, sym, subst, ◌∙◌}
use Rattle.std.specs.Prelude.{Ok}
use Rattle.taps_group_exchange.specs.GroupHearings.{HearsOrOver}
use Rattle.taps_group_exchange.proofs.Joining.{until_all, hears_next, cut_sending}
use Rattle.taps_group_exchange.proofs.talking.talk_all.Goals as goal

pub hear_all-heard-requires-clause-talk : goal.hear_all-heard-requires-clause-talk
hear_all-heard-requires-clause-talk g c = λ is i m at. c.in-Ok.ensures.talk (ap Ok is) i m (ap (λ l. slice_get l i) (sym c.into_members-members.ensures) ∙ at)

pub returns-in-Ok-clause-talked : goal.returns-in-Ok-clause-talked
returns-in-Ok-clause-talked g c = λ places need standing.
    c.hear_all-heard.ensures.heard c.args.net.now (g.N.Sockets.net c.args.net.now) places need
    (subst (λ l. HearsOrOver (λ vtable. (g.dyn-1.0.entry vtable).1) g.N.Sockets.Becomes c.args.net.now c.send_all.new.net (g.N.Sockets.net c.args.net.now) (g.N.Sockets.net c.send_all.new.net) places c.in-Ok.stopped [] l) (sym c.into_members-members.ensures)
    (hears_next (λ vtable. (g.dyn-1.0.entry vtable).1) g.N.Sockets.Becomes c.args.net.now c.send_all.new.net (g.N.Sockets.net c.args.net.now) (g.N.Sockets.net c.send_all.new.net) places c.send_all.new.group c.in-Ok.ensures.sound c.in-Ok.stopped (λ is. c.in-Ok.ensures.talk (ap Ok is)) (c.in-Ok.ensures.sent places (until_all c.args.until c.args.needs places need) standing)))

pub returns-in-Err-clause-talked : goal.returns-in-Err-clause-talked
returns-in-Err-clause-talked g c = λ places need standing.
    cut_sending g.N.Sockets.Becomes c.args.net.now c.send_all.new.net (g.N.Sockets.net c.args.net.now) (g.N.Sockets.net c.send_all.new.net) places (c.in-Err.ensures.sent places (until_all c.args.until c.args.needs places need) standing)
