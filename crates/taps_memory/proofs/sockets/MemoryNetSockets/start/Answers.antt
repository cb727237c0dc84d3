use Rattle.std.proofs.Common.{refl, ap, sym, subst}
use Rattle.taps_socket.specs.declared.answers.StartAnswer.TheVariants as answer
use Rattle.taps_socket.specs.Calls.{starts}
use Rattle.taps_socket.specs.Net.{IsLater}
use Rattle.taps_memory.specs.Memory.{after_start}
use Rattle.taps_memory.proofs.Going.{goes_calm, started_net, started_state}
use Rattle.taps_memory.proofs.sockets.MemoryNetSockets.start.Goals as goal

pub returns-in-Ok-clause-net : goal.returns-in-Ok-clause-net
returns-in-Ok-clause-net c = rw (c.note_start.ensures, c.time-at.ensures.told) (started_net c.args.self.now c.args.leaf c.args.target c.in-Ok.listener c.in-Ok.socket)

pub returns-in-Ok-clause-becomes : goal.returns-in-Ok-clause-becomes
returns-in-Ok-clause-becomes c =
    let a = c.args.self.now in
    let l = c.in-Ok.listener in
    let s = c.in-Ok.socket in
    let can = c.in-Ok.ensures.begun in
    let next : IsLater a.told a.told = subst (λ v. IsLater a.told v) c.time-at.ensures.told c.time-at.ensures.next in
    rw (c.note_start.ensures, c.time-at.ensures.told) (goes_calm a (after_start a c.args.leaf c.args.target l s) (starts c.args.leaf c.args.target (answer.Started s a.told)) refl (started_net a c.args.leaf c.args.target l s) refl
    (next, can.given.number) refl (ap (starts c.args.leaf c.args.target) (sym c.in-Ok.ensures.answer)) (started_state a c.args.leaf c.args.target l s can.listens))
