use Rattle.std.proofs.Common.{sym, subst, arith}
use Rattle.taps_group.specs.Closes.{MayClose, sockets_of}
use Rattle.taps_group_exchange.specs.GroupExchanges.{HasExchangedAll}
use Rattle.taps_group_exchange.specs.GroupHearings.{AllNeed}
use Rattle.taps_group_exchange.specs.Members.{places_at}
use Rattle.taps_cloning.specs.GroupRules.{terms_of}
use Rattle.taps_cloning.proofs.Holds.{same_count}
use Rattle.taps_cloning.proofs.Places.{need_all}
use Rattle.taps_cloning.proofs.Sessions.{cut_from}
use Rattle.taps_cloning.proofs.holding.exchange_from.Goals as goal

pub exchange_group-requires-clause-opened : goal.exchange_group-requires-clause-opened
exchange_group-requires-clause-opened g c = (c.in-Ok.ensures.ready c.requires.new_group.0 (g.N.Sockets.net c.args.net.now) c.requires.new_group.1).opened

pub exchange_group-requires-clause-talk : goal.exchange_group-requires-clause-talk
exchange_group-requires-clause-talk g c = (c.in-Ok.ensures.ready c.requires.new_group.0 (g.N.Sockets.net c.args.net.now) c.requires.new_group.1).talk

pub exchange_group-requires-clause-none_shut : goal.exchange_group-requires-clause-none_shut
exchange_group-requires-clause-none_shut g c = (c.in-Ok.ensures.ready c.requires.new_group.0 (g.N.Sockets.net c.args.net.now) c.requires.new_group.1).none_shut

pub exchange_group-requires-clause-spare : goal.exchange_group-requires-clause-spare
exchange_group-requires-clause-spare g c =
    let same = same_count c.prepare_group.new.group.members.items c.args.group.members.items c.prepare_group.ensures.sockets in
    let spare = c.requires.spare in
    omega (arith, same, spare)

pub finish_all-requires-clause-may : goal.finish_all-requires-clause-may
finish_all-requires-clause-may g c = subst (MayClose (g.N.Sockets.net c.args.net.now).trace) (sym c.prepare_group.ensures.sockets) c.requires.opened.may_close

pub finish_all-requires-clause-spare : goal.finish_all-requires-clause-spare
finish_all-requires-clause-spare g c =
    let same = same_count c.prepare_group.new.group.members.items c.args.group.members.items c.prepare_group.ensures.sockets in
    let spare = c.requires.spare in
    omega (arith, same, spare)

pub returns-in-Ok : goal.returns-in-Ok
returns-in-Ok g c = λ fs group_for.
    let terms = terms_of c.args.terms.now fs c.args.priorities.now c.args.messages.items in
    let ready = c.in-Ok.ensures.ready terms (g.N.Sockets.net c.args.net.now) group_for in
    let sockets = sockets_of c.prepare_group.new.group.members.items in
    let needs : AllNeed c.deadline.result c.args.terms.now.expect (places_at terms c.args.at sockets) = subst (λ until. AllNeed until c.args.terms.now.expect (places_at terms c.args.at sockets)) (sym c.deadline.ensures) (need_all terms c.args.at 0 sockets) in
    subst (λ s. HasExchangedAll g.N.Sockets.Becomes c.args.net.now c.exchange_group.new.net (g.N.Sockets.net c.args.net.now) (g.N.Sockets.net c.exchange_group.new.net) (places_at terms c.args.at s) c.exchange_group.result) c.prepare_group.ensures.sockets
    (c.exchange_group.ensures.exchanged (places_at terms c.args.at sockets) needs ready.standing)

pub returns-in-Err : goal.returns-in-Err
returns-in-Err g c = λ fs group_for.
    let terms = terms_of c.args.terms.now fs c.args.priorities.now c.args.messages.items in
    cut_from g.N.Sockets.Becomes c.args.net.now c.finish_all.new.net (g.N.Sockets.net c.args.net.now) (g.N.Sockets.net c.finish_all.new.net) terms c.args.at (sockets_of c.args.group.members.items) (sockets_of c.prepare_group.new.group.members.items) c.prepare_group.ensures.sockets c.finish_all.ensures.net c.finish_all.ensures.becomes
