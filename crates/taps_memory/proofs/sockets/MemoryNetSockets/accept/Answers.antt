use Rattle.std.proofs.Common.{refl, ap, sym, ◌∙◌, subst, arith}
use Rattle.std.specs.Prelude.{max}
use Rattle.taps_socket.specs.declared.answers.AcceptAnswer.TheVariants as answer
use Rattle.taps_socket.specs.declared.timed_call.TimedKind.TheVariants as kind
use Rattle.taps_socket.specs.Calls.{accepts}
use Rattle.taps_socket.specs.Net.{IsLater}
use Rattle.taps_memory.specs.Memory.{state_of, after_accept, after_turn, after_timed}
use Rattle.taps_memory.proofs.Named.{listener_named}
use Rattle.taps_memory.proofs.Founds.{accept_met, accept_unmet}
use Rattle.taps_memory.proofs.Answered.{accept_is}
use Rattle.taps_memory.proofs.Going.{goes_calm, accepted_net, accepted_state}
use Rattle.taps_memory.proofs.sockets.MemoryNetSockets.accept.Goals as goal

pub note_accepted-requires-clause-named : goal.note_accepted-requires-clause-named
note_accepted-requires-clause-named c = listener_named c.args.self.now.trace c.args.listener c.requires.may

pub returns-then-is_waited_for-clause-net : goal.returns-then-is_waited_for-clause-net
returns-then-is_waited_for-clause-net c = rw (c.note_accepted.ensures, c.time-at.ensures.told) (accepted_net c.args.self.now c.args.listener c.next_number-socket.result c.next_number-socket.ensures.sound c.next_number-socket.ensures.absent)

pub returns-then-is_waited_for-clause-becomes : goal.returns-then-is_waited_for-clause-becomes
returns-then-is_waited_for-clause-becomes c =
    let a = c.args.self.now in
    let l = c.args.listener in
    let s = c.next_number-socket.result in
    let given = c.next_number-socket.ensures in
    let next : IsLater a.told a.told = subst (λ v. IsLater a.told v) c.time-at.ensures.told c.time-at.ensures.next in
    let calm = sym c.is_to_fault.ensures ∙ c.if-is_to_fault.false in
    let met = accept_met a l c.args.until (sym c.is_waited_for.ensures ∙ c.if-is_waited_for.true) in
    rw (c.note_accepted.ensures, c.time-at.ensures.told) (goes_calm a (after_accept a l s) (accepts l c.args.until (answer.Accepted s a.told)) refl (accepted_net a l s given.sound given.absent) refl
    (c.requires.may, c.requires.until, next, given.given.number) refl
    (ap (λ n. accepts l c.args.until (answer.Accepted n a.told)) given.number ∙ ap (accepts l c.args.until) (sym (accept_is a.setting (state_of a) l c.args.until _ calm met))) (accepted_state a l c.args.until s))

pub returns-clause-becomes : goal.returns-clause-becomes
returns-clause-becomes c =
    let a = c.args.self.now in
    let l = c.args.listener in
    let until = c.args.until in
    let at = max a.told until in
    let calm = sym c.is_to_fault.ensures ∙ c.if-is_to_fault.false in
    let unmet = accept_unmet a l until (sym c.is_waited_for.ensures ∙ c.if-is_waited_for.false) in
    rw (c.note_timed_accept.ensures.net, c.note_timed_accept.ensures.answer) (goes_calm a (after_timed (after_turn a) (record { kind = kind.Accept; socket = l; until = until; at = at })) (accepts l until (answer.Timed at)) refl refl refl
    (c.requires.may, c.requires.until, c.note_timed_accept.ensures.next, omega arith) refl
    (ap (accepts l until) (sym (accept_is a.setting (state_of a) l until _ calm unmet))) refl)
