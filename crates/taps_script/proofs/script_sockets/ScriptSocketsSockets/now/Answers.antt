use Rattle.std.proofs.Common.{◌≡◌, true, false, refl, arith}
use Rattle.taps_socket.specs.declared.item.Item.TheVariants.{Began}
use Rattle.taps_socket.specs.Calls.{begins}
use Rattle.taps_script.specs.ScriptNet.{after_quiet}
use Rattle.taps_script.specs.Goings.{goes}
use Rattle.taps_script.proofs.script_sockets.ScriptSocketsSockets.now.Goals as goal

pub returns-clause-becomes : goal.returns-clause-becomes
returns-clause-becomes c =
    let a = c.args.self.now in
    let at = c.clock-at.result in
    rw c.note.ensures (goes a (after_quiet a (Began at) at at) (begins at) refl refl c.clock-at.ensures.next (omega arith) (λ e. (let z : false ≡ true = e in absurd cc)) (rw c.clock-at.ensures.clock refl))
