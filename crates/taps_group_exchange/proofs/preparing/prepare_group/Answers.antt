use Rattle.std.proofs.Common.{◌<◌, ℕ, length, sym, ap, subst, ◌∙◌}
use Rattle.std.specs.List.{All}
use Rattle.taps_group.specs.Closes.{sockets_of}
use Rattle.taps_group_exchange.specs.declared.addressed.Addressed.{Addressed}
use Rattle.taps_group_exchange.proofs.HandingOn.{priorities_size}
use Rattle.taps_group_exchange.proofs.Readying.{all_unused, none_ordered, priorities_sockets, ready}
use Rattle.taps_group_exchange.proofs.preparing.prepare_group.Goals as goal

pub hand_all-requires-clause-addressed : goal.hand_all-requires-clause-addressed
hand_all-requires-clause-addressed g c =
    subst (λ (n : ℕ). All (λ (a : Addressed). a.member < n) c.args.messages.items)
    (sym (ap length c.set_priorities.ensures.set.members ∙ priorities_size c.args.priorities.now c.args.group.now.members.items)) c.requires.addressed

pub returns-in-Ok-clause-ready : goal.returns-in-Ok-clause-ready
returns-in-Ok-clause-ready g c = λ t net fits.
    let same = ap sockets_of c.set_priorities.ensures.set.members ∙ priorities_sockets c.args.priorities.now c.args.group.now.members.items in
    ready (λ vtable. (g.dyn-1.0.entry vtable).1) t c.args.at net c.args.priorities.now c.args.messages.items c.args.group.now c.set_priorities.new.group c.hand_all.new.group fits c.set_priorities.ensures.set
    (c.in-Ok.ensures.handed (all_unused (λ vtable. (g.dyn-1.0.entry vtable).1) t c.args.at net c.args.priorities.now c.args.messages.items c.args.group.now c.set_priorities.new.group fits c.set_priorities.ensures.set) (none_ordered (λ vtable. (g.dyn-1.0.entry vtable).1) t c.args.at net c.args.priorities.now c.args.messages.items c.args.group.now c.set_priorities.new.group fits c.set_priorities.ensures.set))
    c.hand_all.ensures.sound (c.hand_all.ensures.sockets ∙ same)

pub returns-in-Ok-clause-sockets : goal.returns-in-Ok-clause-sockets
returns-in-Ok-clause-sockets g c = c.hand_all.ensures.sockets ∙ (ap sockets_of c.set_priorities.ensures.set.members ∙ priorities_sockets c.args.priorities.now c.args.group.now.members.items)

pub returns-in-Err-clause-sockets : goal.returns-in-Err-clause-sockets
returns-in-Err-clause-sockets g c = c.hand_all.ensures.sockets ∙ (ap sockets_of c.set_priorities.ensures.set.members ∙ priorities_sockets c.args.priorities.now c.args.group.now.members.items)
