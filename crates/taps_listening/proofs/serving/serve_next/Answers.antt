use Rattle.std.proofs.Common.{◌≡◌, ◌≢◌, ◌+◌, ◌-◌, ℕ, ◌∷◌, [], true, false, refl, sym, ap, subst, ◌∙◌, arith}
use Rattle.taps_chain.specs.Layers.{layers_of}
use Rattle.taps_connection.specs.Conditions.{IsHeld}
use Rattle.taps_socket.specs.declared.answers.AcceptAnswer.TheVariants as accept
use Rattle.taps_socket.specs.Calls.{accepts, to_accept}
use Rattle.taps_socket.specs.Net.{Net}
use Rattle.taps_exchange.specs.declared.outcome.Outcome.TheVariants as outcome
use Rattle.taps_exchange.specs.Turns.{asks}
use Rattle.taps_listening.specs.declared.listened.ListenEnd.TheVariants as ends
use Rattle.taps_listening.specs.Accepts.{IsListening, phase_before}
use Rattle.taps_listening.specs.ListenRules.{rules_of}
use Rattle.taps_listening.specs.Listening.{course_at, accepting, serving, stopping, Goes}
use Rattle.taps_listening.specs.Serving.{first_served}
use Rattle.taps_listening.proofs.ListeningOn.{listening_on, listening_served, listening_accepted, listening_timed, listening_faulted}
use Rattle.taps_listening.proofs.Going.{goes_on, next_on, cut_on}
use Rattle.taps_listening.proofs.Traces.{not_new, held_accepted}
use Rattle.taps_listening.proofs.serving.serve_next.Goals as goal

pub accept-requires-clause-may : goal.accept-requires-clause-may
accept-requires-clause-may g c =
    let still = (listening_served c.args.listener (c.args.listener + 1) 1 (g.N.Sockets.net c.args.net.now) (g.N.Sockets.net c.time_before-at.new.net) (λ e. absurd (omega (arith, e))) (c.time_before-at.ensures.keeps (c.args.listener + 1))) in (still.listening c.requires.listening).may

pub serve-requires-clause-held : goal.serve-requires-clause-held
serve-requires-clause-held g c =
    let still = (listening_served c.args.listener (c.args.listener + 1) 1 (g.N.Sockets.net c.args.net.now) (g.N.Sockets.net c.time_before-at.new.net) (λ e. absurd (omega (arith, e))) (c.time_before-at.ensures.keeps (c.args.listener + 1))) in
    let on : IsListening (g.N.Sockets.net c.time_before-at.new.net).trace c.args.listener = still.listening c.requires.listening in
    let other : c.args.listener ≢ c.in-Accepted.socket = not_new c.args.listener c.in-Accepted.socket (g.N.Sockets.net c.time_before-at.new.net).trace c.in-Accepted.ensures.answer.number on.is_named in
    subst (λ v. IsHeld v c.in-Accepted.socket true false false) (sym (ap (λ (v : Net). v.trace) c.in-Accepted.ensures.net))
    (held_accepted c.args.listener c.in-Accepted.socket c.in-Accepted.at (g.N.Sockets.net c.time_before-at.new.net).trace c.in-Accepted.ensures.answer.number on)

pub returns-in-Ok-clause-next : goal.returns-in-Ok-clause-next
returns-in-Ok-clause-next g c =
    λ served e.
    let accepts_it : Goes g.N.Sockets.Becomes (rules_of c.args.service.now (layers_of (λ vtable. (g.dyn-1.0.entry vtable).1) c.args.chain.now) c.args.messages.now) c.time_before-at.new.net c.accept.new.self (course_at served (accepting c.args.listener c.time_before-at.result)) (course_at served (serving c.args.listener (first_served c.in-Accepted.socket c.in-Accepted.at))) =
    record {
      calls = accepts c.args.listener c.deadline.result (accept.Accepted c.in-Accepted.socket c.in-Accepted.at) ∷ [];
      becomes = c.in-Accepted.ensures.becomes;
      in_turn = (ap (λ (v : ℕ). asks (to_accept c.args.listener v)) (sym c.deadline.ensures.is), tt);
      reaches = refl;
    } in
    let goes = goes_on g.N.Sockets.Becomes (rules_of c.args.service.now (layers_of (λ vtable. (g.dyn-1.0.entry vtable).1) c.args.chain.now) c.args.messages.now) c.args.net.now c.time_before-at.new.net c.accept.new.self (course_at served (phase_before (rules_of c.args.service.now (layers_of (λ vtable. (g.dyn-1.0.entry vtable).1) c.args.chain.now) c.args.messages.now) c.args.listener c.args.first served)) (course_at served (accepting c.args.listener c.time_before-at.result)) g.met.N.Sockets.becomes_on (c.time_before-at.ensures.goes served e) (course_at served (serving c.args.listener (first_served c.in-Accepted.socket c.in-Accepted.at))) accepts_it in
    next_on g.N.Sockets.Becomes (rules_of c.args.service.now (layers_of (λ vtable. (g.dyn-1.0.entry vtable).1) c.args.chain.now) c.args.messages.now) c.args.net.now c.accept.new.self c.serve.new.net (course_at served (phase_before (rules_of c.args.service.now (layers_of (λ vtable. (g.dyn-1.0.entry vtable).1) c.args.chain.now) c.args.messages.now) c.args.listener c.args.first served)) (course_at served (serving c.args.listener (first_served c.in-Accepted.socket c.in-Accepted.at))) g.met.N.Sockets.becomes_on goes c.args.listener served c.in-Ok.exchanged.outcome c.in-Ok.exchanged.sent c.in-Ok.exchanged.heard.items (c.in-Ok.ensures.served c.args.listener served e)

pub returns-in-Ok-clause-keeps : goal.returns-in-Ok-clause-keeps
returns-in-Ok-clause-keeps g c =
    let still = (listening_served c.args.listener (c.args.listener + 1) 1 (g.N.Sockets.net c.args.net.now) (g.N.Sockets.net c.time_before-at.new.net) (λ e. absurd (omega (arith, e))) (c.time_before-at.ensures.keeps (c.args.listener + 1))) in
    let on : IsListening (g.N.Sockets.net c.time_before-at.new.net).trace c.args.listener = still.listening c.requires.listening in
    let other : c.args.listener ≢ c.in-Accepted.socket = not_new c.args.listener c.in-Accepted.socket (g.N.Sockets.net c.time_before-at.new.net).trace c.in-Accepted.ensures.answer.number on.is_named in
    listening_on c.args.listener 2 4 6 (g.N.Sockets.net c.args.net.now) (g.N.Sockets.net c.accept.new.self) (g.N.Sockets.net c.serve.new.net) (omega arith)
    (listening_on c.args.listener 1 1 2 (g.N.Sockets.net c.args.net.now) (g.N.Sockets.net c.time_before-at.new.net) (g.N.Sockets.net c.accept.new.self) (omega arith) still (listening_accepted c.args.listener c.in-Accepted.socket c.in-Accepted.at c.deadline.result (g.N.Sockets.net c.time_before-at.new.net) (g.N.Sockets.net c.accept.new.self) c.in-Accepted.ensures.net))
    (c.in-Ok.ensures.keeps c.args.listener other)

pub returns-in-Ok-clause-others : goal.returns-in-Ok-clause-others
returns-in-Ok-clause-others g c =
    λ s h.
    let still = (listening_served c.args.listener (c.args.listener + 1) 1 (g.N.Sockets.net c.args.net.now) (g.N.Sockets.net c.time_before-at.new.net) (λ e. absurd (omega (arith, e))) (c.time_before-at.ensures.keeps (c.args.listener + 1))) in
    let before : (g.N.Sockets.net c.time_before-at.new.net).traffic s ≡ (g.N.Sockets.net c.args.net.now).traffic s = (c.time_before-at.ensures.keeps (s + 1)).others s (λ e. absurd (omega (arith, e))) in
    let then : (g.N.Sockets.net c.accept.new.self).traffic s ≡ (g.N.Sockets.net c.time_before-at.new.net).traffic s = ap (λ (v : Net). v.traffic s) c.in-Accepted.ensures.net in
    c.in-Ok.ensures.others s (not_new s c.in-Accepted.socket (g.N.Sockets.net c.time_before-at.new.net).trace c.in-Accepted.ensures.answer.number (still.grows s h)) ∙ (then ∙ before)

pub returns-in-Err-clause-next : goal.returns-in-Err-clause-next
returns-in-Err-clause-next g c =
    λ served e.
    let accepts_it : Goes g.N.Sockets.Becomes (rules_of c.args.service.now (layers_of (λ vtable. (g.dyn-1.0.entry vtable).1) c.args.chain.now) c.args.messages.now) c.time_before-at.new.net c.accept.new.self (course_at served (accepting c.args.listener c.time_before-at.result)) (course_at served (serving c.args.listener (first_served c.in-Accepted.socket c.in-Accepted.at))) =
    record {
      calls = accepts c.args.listener c.deadline.result (accept.Accepted c.in-Accepted.socket c.in-Accepted.at) ∷ [];
      becomes = c.in-Accepted.ensures.becomes;
      in_turn = (ap (λ (v : ℕ). asks (to_accept c.args.listener v)) (sym c.deadline.ensures.is), tt);
      reaches = refl;
    } in
    let goes = goes_on g.N.Sockets.Becomes (rules_of c.args.service.now (layers_of (λ vtable. (g.dyn-1.0.entry vtable).1) c.args.chain.now) c.args.messages.now) c.args.net.now c.time_before-at.new.net c.accept.new.self (course_at served (phase_before (rules_of c.args.service.now (layers_of (λ vtable. (g.dyn-1.0.entry vtable).1) c.args.chain.now) c.args.messages.now) c.args.listener c.args.first served)) (course_at served (accepting c.args.listener c.time_before-at.result)) g.met.N.Sockets.becomes_on (c.time_before-at.ensures.goes served e) (course_at served (serving c.args.listener (first_served c.in-Accepted.socket c.in-Accepted.at))) accepts_it in
    cut_on g.N.Sockets.Becomes (rules_of c.args.service.now (layers_of (λ vtable. (g.dyn-1.0.entry vtable).1) c.args.chain.now) c.args.messages.now) c.args.net.now c.accept.new.self c.serve.new.net (course_at served (phase_before (rules_of c.args.service.now (layers_of (λ vtable. (g.dyn-1.0.entry vtable).1) c.args.chain.now) c.args.messages.now) c.args.listener c.args.first served)) (course_at served (serving c.args.listener (first_served c.in-Accepted.socket c.in-Accepted.at))) g.met.N.Sockets.becomes_on goes c.args.listener (c.in-Err.ensures.served c.args.listener served e)

pub returns-in-Err-clause-keeps : goal.returns-in-Err-clause-keeps
returns-in-Err-clause-keeps g c =
    let still = (listening_served c.args.listener (c.args.listener + 1) 1 (g.N.Sockets.net c.args.net.now) (g.N.Sockets.net c.time_before-at.new.net) (λ e. absurd (omega (arith, e))) (c.time_before-at.ensures.keeps (c.args.listener + 1))) in
    let on : IsListening (g.N.Sockets.net c.time_before-at.new.net).trace c.args.listener = still.listening c.requires.listening in
    let other : c.args.listener ≢ c.in-Accepted.socket = not_new c.args.listener c.in-Accepted.socket (g.N.Sockets.net c.time_before-at.new.net).trace c.in-Accepted.ensures.answer.number on.is_named in
    listening_on c.args.listener 2 4 6 (g.N.Sockets.net c.args.net.now) (g.N.Sockets.net c.accept.new.self) (g.N.Sockets.net c.serve.new.net) (omega arith)
    (listening_on c.args.listener 1 1 2 (g.N.Sockets.net c.args.net.now) (g.N.Sockets.net c.time_before-at.new.net) (g.N.Sockets.net c.accept.new.self) (omega arith) still (listening_accepted c.args.listener c.in-Accepted.socket c.in-Accepted.at c.deadline.result (g.N.Sockets.net c.time_before-at.new.net) (g.N.Sockets.net c.accept.new.self) c.in-Accepted.ensures.net))
    (c.in-Err.ensures.keeps c.args.listener other)

pub returns-in-Err-clause-others : goal.returns-in-Err-clause-others
returns-in-Err-clause-others g c =
    λ s h.
    let still = (listening_served c.args.listener (c.args.listener + 1) 1 (g.N.Sockets.net c.args.net.now) (g.N.Sockets.net c.time_before-at.new.net) (λ e. absurd (omega (arith, e))) (c.time_before-at.ensures.keeps (c.args.listener + 1))) in
    let before : (g.N.Sockets.net c.time_before-at.new.net).traffic s ≡ (g.N.Sockets.net c.args.net.now).traffic s = (c.time_before-at.ensures.keeps (s + 1)).others s (λ e. absurd (omega (arith, e))) in
    let then : (g.N.Sockets.net c.accept.new.self).traffic s ≡ (g.N.Sockets.net c.time_before-at.new.net).traffic s = ap (λ (v : Net). v.traffic s) c.in-Accepted.ensures.net in
    c.in-Err.ensures.others s (not_new s c.in-Accepted.socket (g.N.Sockets.net c.time_before-at.new.net).trace c.in-Accepted.ensures.answer.number (still.grows s h)) ∙ (then ∙ before)

pub returns-in-Timed-clause-next : goal.returns-in-Timed-clause-next
returns-in-Timed-clause-next g c =
    λ served e.
    let accepts_it : Goes g.N.Sockets.Becomes (rules_of c.args.service.now (layers_of (λ vtable. (g.dyn-1.0.entry vtable).1) c.args.chain.now) c.args.messages.now) c.time_before-at.new.net c.accept.new.self (course_at served (accepting c.args.listener c.time_before-at.result)) (course_at served (stopping c.args.listener (ends.Exchanged outcome.Timed))) =
    record {
      calls = accepts c.args.listener c.deadline.result (accept.Timed c.in-Timed.at) ∷ [];
      becomes = c.in-Timed.ensures.becomes;
      in_turn = (ap (λ (v : ℕ). asks (to_accept c.args.listener v)) (sym c.deadline.ensures.is), tt);
      reaches = refl;
    } in
    let goes = goes_on g.N.Sockets.Becomes (rules_of c.args.service.now (layers_of (λ vtable. (g.dyn-1.0.entry vtable).1) c.args.chain.now) c.args.messages.now) c.args.net.now c.time_before-at.new.net c.accept.new.self (course_at served (phase_before (rules_of c.args.service.now (layers_of (λ vtable. (g.dyn-1.0.entry vtable).1) c.args.chain.now) c.args.messages.now) c.args.listener c.args.first served)) (course_at served (accepting c.args.listener c.time_before-at.result)) g.met.N.Sockets.becomes_on (c.time_before-at.ensures.goes served e) (course_at served (stopping c.args.listener (ends.Exchanged outcome.Timed))) accepts_it in
    goes

pub returns-in-Timed-clause-keeps : goal.returns-in-Timed-clause-keeps
returns-in-Timed-clause-keeps g c =
    listening_on c.args.listener 1 1 6 (g.N.Sockets.net c.args.net.now) (g.N.Sockets.net c.time_before-at.new.net) (g.N.Sockets.net c.accept.new.self) (omega arith) (listening_served c.args.listener (c.args.listener + 1) 1 (g.N.Sockets.net c.args.net.now) (g.N.Sockets.net c.time_before-at.new.net) (λ e. absurd (omega (arith, e))) (c.time_before-at.ensures.keeps (c.args.listener + 1))) (listening_timed c.args.listener c.in-Timed.at c.deadline.result (g.N.Sockets.net c.time_before-at.new.net) (g.N.Sockets.net c.accept.new.self) c.in-Timed.ensures.net)

pub returns-in-Timed-clause-others : goal.returns-in-Timed-clause-others
returns-in-Timed-clause-others g c =
    λ s h. ap (λ (v : Net). v.traffic s) c.in-Timed.ensures.net ∙ (c.time_before-at.ensures.keeps (s + 1)).others s (λ e. absurd (omega (arith, e)))

pub returns-in-Faulted-clause-next : goal.returns-in-Faulted-clause-next
returns-in-Faulted-clause-next g c =
    λ served e.
    let accepts_it : Goes g.N.Sockets.Becomes (rules_of c.args.service.now (layers_of (λ vtable. (g.dyn-1.0.entry vtable).1) c.args.chain.now) c.args.messages.now) c.time_before-at.new.net c.accept.new.self (course_at served (accepting c.args.listener c.time_before-at.result)) (course_at served (stopping c.args.listener ends.Faulted)) =
    record {
      calls = accepts c.args.listener c.deadline.result (accept.Faulted c.in-Faulted.at) ∷ [];
      becomes = c.in-Faulted.ensures.becomes;
      in_turn = (ap (λ (v : ℕ). asks (to_accept c.args.listener v)) (sym c.deadline.ensures.is), tt);
      reaches = refl;
    } in
    let goes = goes_on g.N.Sockets.Becomes (rules_of c.args.service.now (layers_of (λ vtable. (g.dyn-1.0.entry vtable).1) c.args.chain.now) c.args.messages.now) c.args.net.now c.time_before-at.new.net c.accept.new.self (course_at served (phase_before (rules_of c.args.service.now (layers_of (λ vtable. (g.dyn-1.0.entry vtable).1) c.args.chain.now) c.args.messages.now) c.args.listener c.args.first served)) (course_at served (accepting c.args.listener c.time_before-at.result)) g.met.N.Sockets.becomes_on (c.time_before-at.ensures.goes served e) (course_at served (stopping c.args.listener ends.Faulted)) accepts_it in
    goes

pub returns-in-Faulted-clause-keeps : goal.returns-in-Faulted-clause-keeps
returns-in-Faulted-clause-keeps g c =
    listening_on c.args.listener 1 1 6 (g.N.Sockets.net c.args.net.now) (g.N.Sockets.net c.time_before-at.new.net) (g.N.Sockets.net c.accept.new.self) (omega arith) (listening_served c.args.listener (c.args.listener + 1) 1 (g.N.Sockets.net c.args.net.now) (g.N.Sockets.net c.time_before-at.new.net) (λ e. absurd (omega (arith, e))) (c.time_before-at.ensures.keeps (c.args.listener + 1))) (listening_faulted c.args.listener c.in-Faulted.at c.deadline.result (g.N.Sockets.net c.time_before-at.new.net) (g.N.Sockets.net c.accept.new.self) c.in-Faulted.ensures.net)

pub returns-in-Faulted-clause-others : goal.returns-in-Faulted-clause-others
returns-in-Faulted-clause-others g c =
    λ s h. ap (λ (v : Net). v.traffic s) c.in-Faulted.ensures.net ∙ (c.time_before-at.ensures.keeps (s + 1)).others s (λ e. absurd (omega (arith, e)))

pub accept-requires-clause-room : goal.accept-requires-clause-room
accept-requires-clause-room g c =
    let k = c.time_before-at.ensures.keeps 0 in let s = k.spare in let few = k.few in let all = c.requires.spare in omega (arith, s, few, all)

pub serve-requires-clause-spare : goal.serve-requires-clause-spare
serve-requires-clause-spare g c =
    let k = c.time_before-at.ensures.keeps 0 in let s = k.spare in let few = k.few in let all = c.requires.spare in
    let one : (g.N.Sockets.net c.accept.new.self).spare ≡ (g.N.Sockets.net c.time_before-at.new.net).spare - 1 = ap (λ (v : Net). v.spare) c.in-Accepted.ensures.net in
    omega (arith, s, few, all, one)
