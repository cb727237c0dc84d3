use Rattle.std.proofs.Common.{[], ap, sym, subst, ◌∙◌}
use Rattle.taps_group.specs.Closes.{sockets_of}
use Rattle.taps_group_exchange.specs.GroupEnds.{outcome_or}
use Rattle.taps_group_exchange.specs.GroupHearings.{HasHeardOut}
use Rattle.taps_group_exchange.proofs.GroupEnding.{cut_closed, exchanged_all}
use Rattle.taps_group_exchange.proofs.Joining.{sockets_same}
use Rattle.taps_group_exchange.proofs.exchanging.exchange_group.Goals as goal

pub returns-in-Ok-clause-exchanged : goal.returns-in-Ok-clause-exchanged
returns-in-Ok-clause-exchanged g c = λ places need standing.
    let heard = subst (λ r. HasHeardOut (λ vtable. (g.dyn-1.0.entry vtable).1) g.N.Sockets.Becomes c.args.net.now c.talk_all-members.new.net (g.N.Sockets.net c.args.net.now) (g.N.Sockets.net c.talk_all-members.new.net) places r c.talk_all-members.result.0.items) c.in-Ok.is (c.talk_all-members.ensures.talked places need standing) in
    exchanged_all g.N.Sockets.Becomes c.args.net.now c.talk_all-members.new.net c.close_all.new.net (g.N.Sockets.net c.args.net.now) (g.N.Sockets.net c.talk_all-members.new.net) (g.N.Sockets.net c.close_all.new.net) places (sockets_of c.talk_all-members.result.0.items)
    g.met.N.Sockets.becomes_on (λ calls b. g.met.N.Sockets.shows c.args.net.now c.talk_all-members.new.net calls b)
    (sockets_same (λ vtable. (g.dyn-1.0.entry vtable).1) [] places c.args.group.members.items standing ∙ sym c.talk_all-members.ensures.sockets) c.close_all.ensures.becomes c.close_all.ensures.net
    (λ vtable. (g.dyn-1.0.entry vtable).1) c.in-Ok.progress.told.items c.talk_all-members.result.0.items heard.0 c.in-Ok.progress.stopped c.outcome_or.result (c.outcome_or.ensures ∙ ap (outcome_or c.in-Ok.progress.stopped) c.outcome_at_end-done.ensures) heard.1

pub returns-in-Err-clause-exchanged : goal.returns-in-Err-clause-exchanged
returns-in-Err-clause-exchanged g c = λ places need standing.
    let heard = subst (λ r. HasHeardOut (λ vtable. (g.dyn-1.0.entry vtable).1) g.N.Sockets.Becomes c.args.net.now c.talk_all-members.new.net (g.N.Sockets.net c.args.net.now) (g.N.Sockets.net c.talk_all-members.new.net) places r c.talk_all-members.result.0.items) c.in-Err.is (c.talk_all-members.ensures.talked places need standing) in
    cut_closed g.N.Sockets.Becomes c.args.net.now c.talk_all-members.new.net c.close_all.new.net (g.N.Sockets.net c.args.net.now) (g.N.Sockets.net c.talk_all-members.new.net) (g.N.Sockets.net c.close_all.new.net) places (sockets_of c.talk_all-members.result.0.items)
    g.met.N.Sockets.becomes_on (λ calls b. g.met.N.Sockets.shows c.args.net.now c.talk_all-members.new.net calls b)
    (sockets_same (λ vtable. (g.dyn-1.0.entry vtable).1) [] places c.args.group.members.items standing ∙ sym c.talk_all-members.ensures.sockets) c.close_all.ensures.becomes c.close_all.ensures.net
    heard
