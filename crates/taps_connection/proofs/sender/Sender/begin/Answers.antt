use Rattle.std.proofs.Common.{refl}
use Rattle.taps_chain.specs.Layers.{layers_of}
use Rattle.taps_connection.specs.Encodings.{encoding_of}
use Rattle.taps_connection.proofs.Beginning.{taken_by, sound_without, sound_by}
use Rattle.taps_connection.proofs.sender.Sender.begin.Goals as goal

pub returns-in-Message-clause-taken : goal.returns-in-Message-clause-taken
returns-in-Message-clause-taken g c = λ until.
    taken_by (encoding_of c.args.stream (layers_of (λ vtable. (g.dyn-1.0.entry vtable).1) c.args.chain.now)) c.args.socket until c.args.self.now c.next.new.self c.in-Message.number c.in-Message.message c.open.result c.open.new.self c.requires.none c.in-Message.ensures.next c.open.ensures.opened

pub returns-in-Expired-clause-sound : goal.returns-in-Expired-clause-sound
returns-in-Expired-clause-sound g c =
    let given = c.in-Expired.ensures.next in
    sound_without c.args.stream (layers_of (λ vtable. (g.dyn-1.0.entry vtable).1) c.args.chain.now) c.args.self.now (record c.args.self.now { queue = c.next.new.self; expired = c.or_else-self.result }) (record { number = c.in-Expired.number; at = given.at; message = given.message }) c.next.new.self.queue c.requires.none given.front refl c.requires.none refl refl c.requires.sound

pub returns-in-Message-clause-sound : goal.returns-in-Message-clause-sound
returns-in-Message-clause-sound g c =
    sound_by c.args.stream (layers_of (λ vtable. (g.dyn-1.0.entry vtable).1) c.args.chain.now) c.args.self.now c.next.new.self c.in-Message.number c.in-Message.message c.open.result c.open.new.self c.requires.none c.in-Message.ensures.next c.open.ensures.opened c.open.ensures.ready c.requires.sound
