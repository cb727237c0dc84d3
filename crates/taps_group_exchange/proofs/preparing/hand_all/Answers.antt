use Rattle.std.proofs.Common.{◌≡◌, refl, sym, subst, ◌∙◌, arith}
use Rattle.std.specs.Vec.Iter.{into_iter_steps}
use Rattle.std.proofs.lemmas.List.{map-id}
use Rattle.std.proofs.lemmas.Iterator.{YieldsList}
use Rattle.std.proofs.lemmas.Iterator.Adapters.{YieldsList-from_vec}
use Rattle.std.proofs.lemmas.Iterator.Consumers.{YieldsList-end}
use Rattle.taps_group_exchange.specs.Preparing.{AreHanded}
use Rattle.taps_group_exchange.proofs.HandingOn.{hands_more, hands_none}
use Rattle.taps_group_exchange.proofs.preparing.hand_all.Goals as goal

pub handing-init : goal.handing-init
handing-init g c = record { sound = c.requires.sound; sockets = refl; handed = λ unused none. hands_none c.args.at c.args.group.now unused none }

pub handing-preserved : goal.handing-preserved
handing-preserved g c =
    let i = c.handing.invariant in
    record {
      sound = c.hand.ensures.sound;
      sockets = c.hand.ensures.sockets ∙ i.sockets;
      handed = λ unused none. hands_more c.args.at c.handing.yielded c.in-Some.addressed c.args.group.now c.handing.group c.hand.new.group unused (i.handed unused none) c.in-Ok.ensures.handed;
    }

pub returns-clause-handed : goal.returns-clause-handed
returns-clause-handed g c = λ unused none.
    let gives = c.into_iter-addressed-iterator.ensures.into_iter_gives in
    let whole : YieldsList into_iter_steps (λ y. y) c.into_iter-addressed-iterator.result c.args.messages.items = YieldsList-from_vec c.args.messages.items gives.0 (let size = gives.1 in omega (arith, size)) in
    let all : c.handing.yielded ≡ c.args.messages.items = sym (map-id c.handing.yielded) ∙ (YieldsList-end whole c.handing.yielded c.handing.addressed-iterator c.handing.yielded_by c.next.result c.next.new.self c.in-None.is c.next.ensures.steps).0 in
    subst (λ l. AreHanded c.args.at l c.args.group.now c.handing.group) all (c.handing.invariant.handed unused none)
