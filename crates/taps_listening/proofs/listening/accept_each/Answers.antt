use Rattle.std.proofs.Common.{◌≡◌, ◌*◌, ◌+◌, false, refl, sym, subst, ◌∙◌, arith}
use Rattle.std.specs.Prelude.{Ok}
use Rattle.taps_chain.specs.Layers.{layers_of}
use Rattle.taps_listening.specs.declared.serving.Next.TheVariants as next
use Rattle.taps_listening.specs.Accepts.{is_done, HasNext}
use Rattle.taps_listening.specs.ListenRules.{rules_of}
use Rattle.taps_listening.proofs.ListeningOn.{listening_on, listening_same}
use Rattle.taps_listening.proofs.SoFar.{IsSoFar, none_so_far, one_more, one_ends, one_cut, session_ends, session_cut, named_on}
use Rattle.taps_listening.proofs.listening.accept_each.Goals as goal

pub accepting-init : goal.accepting-init
accepting-init g c =
    record {
      so_far = none_so_far g.N.Sockets.Becomes (rules_of c.args.service.now (layers_of (λ vtable. (g.dyn-1.0.entry vtable).1) c.args.chain.now) c.args.messages.now) c.args.net.now c.args.listener c.args.first c.args.members.now.items (g.met.N.Sockets.becomes_itself c.args.net.now) c.requires.none;
      keeps = listening_same c.args.listener (6 * 0) (g.N.Sockets.net c.args.net.now);
      others = λ s h. refl;
    }

pub returns-in-Err-push-clause-accepted : goal.returns-in-Err-push-clause-accepted
returns-in-Err-push-clause-accepted g c =
    let q : HasNext g.N.Sockets.Becomes (rules_of c.args.service.now (layers_of (λ vtable. (g.dyn-1.0.entry vtable).1) c.args.chain.now) c.args.messages.now) c.accepting.net c.serve_next.new.net c.args.listener c.args.first c.accepting.invariant.so_far.served (Ok (next.Served c.in-Ok-Served.exchanged)) =
    subst (λ v. HasNext g.N.Sockets.Becomes (rules_of c.args.service.now (layers_of (λ vtable. (g.dyn-1.0.entry vtable).1) c.args.chain.now) c.args.messages.now) c.accepting.net c.serve_next.new.net c.args.listener c.args.first c.accepting.invariant.so_far.served (Ok v)) c.in-Ok-Served.field-0-is (c.in-Ok-Served.ensures.next c.accepting.invariant.so_far.served c.accepting.invariant.so_far.count) in
    one_cut g.N.Sockets.Becomes (rules_of c.args.service.now (layers_of (λ vtable. (g.dyn-1.0.entry vtable).1) c.args.chain.now) c.args.messages.now) c.args.net.now c.accepting.net c.serve_next.new.net c.args.listener c.args.first c.accepting.place c.accepting.outcome c.accepting.members.items g.met.N.Sockets.becomes_on c.accepting.invariant.so_far c.in-Ok-Served.exchanged.outcome c.in-Ok-Served.exchanged.sent c.in-Ok-Served.exchanged.heard.items q

pub returns-then-not-is_done-clause-accepted : goal.returns-then-not-is_done-clause-accepted
returns-then-not-is_done-clause-accepted g c =
    let q : HasNext g.N.Sockets.Becomes (rules_of c.args.service.now (layers_of (λ vtable. (g.dyn-1.0.entry vtable).1) c.args.chain.now) c.args.messages.now) c.accepting.net c.serve_next.new.net c.args.listener c.args.first c.accepting.invariant.so_far.served (Ok (next.Served c.in-Ok-Served.exchanged)) =
    subst (λ v. HasNext g.N.Sockets.Becomes (rules_of c.args.service.now (layers_of (λ vtable. (g.dyn-1.0.entry vtable).1) c.args.chain.now) c.args.messages.now) c.accepting.net c.serve_next.new.net c.args.listener c.args.first c.accepting.invariant.so_far.served (Ok v)) c.in-Ok-Served.field-0-is (c.in-Ok-Served.ensures.next c.accepting.invariant.so_far.served c.accepting.invariant.so_far.count) in
    let done : is_done c.in-Ok-Served.exchanged.outcome ≡ false = sym c.is_done.ensures ∙ c.if-not-is_done.true in
    one_ends g.N.Sockets.Becomes (rules_of c.args.service.now (layers_of (λ vtable. (g.dyn-1.0.entry vtable).1) c.args.chain.now) c.args.messages.now) c.args.net.now c.accepting.net c.serve_next.new.net c.args.listener c.args.first c.accepting.place c.accepting.outcome c.accepting.members.items g.met.N.Sockets.becomes_on c.accepting.invariant.so_far c.in-Ok-Served.exchanged.outcome c.in-Ok-Served.exchanged.sent c.in-Ok-Served.exchanged.heard.items q c.push.new.self.items c.in-Ok.ensures.items done

pub returns-in-Ok-Over-clause-accepted : goal.returns-in-Ok-Over-clause-accepted
returns-in-Ok-Over-clause-accepted g c =
    let q : HasNext g.N.Sockets.Becomes (rules_of c.args.service.now (layers_of (λ vtable. (g.dyn-1.0.entry vtable).1) c.args.chain.now) c.args.messages.now) c.accepting.net c.serve_next.new.net c.args.listener c.args.first c.accepting.invariant.so_far.served (Ok (next.Over c.in-Ok-Over.end)) =
    subst (λ v. HasNext g.N.Sockets.Becomes (rules_of c.args.service.now (layers_of (λ vtable. (g.dyn-1.0.entry vtable).1) c.args.chain.now) c.args.messages.now) c.accepting.net c.serve_next.new.net c.args.listener c.args.first c.accepting.invariant.so_far.served (Ok v)) c.in-Ok-Over.field-0-is (c.in-Ok-Over.ensures.next c.accepting.invariant.so_far.served c.accepting.invariant.so_far.count) in
    session_ends g.N.Sockets.Becomes (rules_of c.args.service.now (layers_of (λ vtable. (g.dyn-1.0.entry vtable).1) c.args.chain.now) c.args.messages.now) c.args.net.now c.accepting.net c.serve_next.new.net c.args.listener c.args.first c.accepting.place c.accepting.outcome c.accepting.members.items g.met.N.Sockets.becomes_on c.accepting.invariant.so_far c.in-Ok-Over.end q

pub returns-in-Err-clause-accepted : goal.returns-in-Err-clause-accepted
returns-in-Err-clause-accepted g c =
    session_cut g.N.Sockets.Becomes (rules_of c.args.service.now (layers_of (λ vtable. (g.dyn-1.0.entry vtable).1) c.args.chain.now) c.args.messages.now) c.args.net.now c.accepting.net c.serve_next.new.net c.args.listener c.args.first c.accepting.place c.accepting.outcome c.accepting.members.items g.met.N.Sockets.becomes_on c.accepting.invariant.so_far (c.in-Err.ensures.next c.accepting.invariant.so_far.served c.accepting.invariant.so_far.count)

pub accepting-preserved : goal.accepting-preserved
accepting-preserved g c =
    let q : HasNext g.N.Sockets.Becomes (rules_of c.args.service.now (layers_of (λ vtable. (g.dyn-1.0.entry vtable).1) c.args.chain.now) c.args.messages.now) c.accepting.net c.serve_next.new.net c.args.listener c.args.first c.accepting.invariant.so_far.served (Ok (next.Served c.in-Ok-Served.exchanged)) =
    subst (λ v. HasNext g.N.Sockets.Becomes (rules_of c.args.service.now (layers_of (λ vtable. (g.dyn-1.0.entry vtable).1) c.args.chain.now) c.args.messages.now) c.accepting.net c.serve_next.new.net c.args.listener c.args.first c.accepting.invariant.so_far.served (Ok v)) c.in-Ok-Served.field-0-is (c.in-Ok-Served.ensures.next c.accepting.invariant.so_far.served c.accepting.invariant.so_far.count) in
    let done = sym c.is_done.ensures ∙ c.if-not-is_done.false in
    record {
      so_far = subst (λ v. IsSoFar g.N.Sockets.Becomes (rules_of c.args.service.now (layers_of (λ vtable. (g.dyn-1.0.entry vtable).1) c.args.chain.now) c.args.messages.now) c.args.net.now c.serve_next.new.net c.args.listener c.args.first (c.accepting.place + 1) v c.push.new.self.items) (sym c.or_later-outcome.ensures)
          (one_more g.N.Sockets.Becomes (rules_of c.args.service.now (layers_of (λ vtable. (g.dyn-1.0.entry vtable).1) c.args.chain.now) c.args.messages.now) c.args.net.now c.accepting.net c.serve_next.new.net c.args.listener c.args.first c.accepting.place c.accepting.outcome c.accepting.members.items g.met.N.Sockets.becomes_on c.accepting.invariant.so_far c.in-Ok-Served.exchanged.outcome c.in-Ok-Served.exchanged.sent c.in-Ok-Served.exchanged.heard.items q c.push.new.self.items c.in-Ok.ensures.items done);
      keeps = listening_on c.args.listener (6 * c.accepting.place) 6 (6 * (c.accepting.place + 1)) (g.N.Sockets.net c.args.net.now) (g.N.Sockets.net c.accepting.net) (g.N.Sockets.net c.serve_next.new.net) (omega arith) c.accepting.invariant.keeps c.serve_next.ensures.keeps;
      others = named_on c.args.listener (6 * c.accepting.place) (g.N.Sockets.net c.args.net.now) (g.N.Sockets.net c.accepting.net) (g.N.Sockets.net c.serve_next.new.net) c.accepting.invariant.keeps c.accepting.invariant.others c.serve_next.ensures.others;
    }
