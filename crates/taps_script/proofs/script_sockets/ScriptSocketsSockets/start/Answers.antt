use Rattle.std.proofs.Common.{◌≡◌, true, false, refl, ap, arith}
use Rattle.taps_socket.specs.declared.answers.StartAnswer.TheVariants as answer
use Rattle.taps_socket.specs.Calls.{starts}
use Rattle.taps_script.specs.ScriptNet.{after_start}
use Rattle.taps_script.specs.ScriptSteps.{Step}
use Rattle.taps_script.specs.Goings.{goes}
use Rattle.taps_script.proofs.Traffics.{start_net}
use Rattle.taps_script.proofs.script_sockets.ScriptSocketsSockets.start.Goals as goal

pub returns-in-Started-clause-net : goal.returns-in-Started-clause-net
returns-in-Started-clause-net c = rw c.note_start.ensures (start_net c.args.self.now c.args.leaf c.args.target c.in-Started.socket c.in-Started.at)

pub returns-in-Started-clause-becomes : goal.returns-in-Started-clause-becomes
returns-in-Started-clause-becomes c =
    let a = c.args.self.now in
    let socket = c.in-Started.socket in
    let at = c.in-Started.at in
    let b = after_start a c.args.leaf c.args.target socket at in
    let e = c.in-Started.ensures in
    rw c.note_start.ensures (goes a b (starts c.args.leaf c.args.target (answer.Started socket at)) refl (start_net a c.args.leaf c.args.target socket at) (e.next, e.socket.number) (omega arith)
    (λ h. (let z : false ≡ true = h in absurd cc))
    (ap (λ x. (let s : Step = record { clock = a.clock; call = starts c.args.leaf c.args.target x } in s)) e.answer))
