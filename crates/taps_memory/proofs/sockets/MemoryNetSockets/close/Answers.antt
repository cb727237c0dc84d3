use Rattle.std.proofs.Common.{refl}
use Rattle.taps_socket.specs.Calls.{closes}
use Rattle.taps_memory.specs.Memory.{after_close}
use Rattle.taps_memory.proofs.Named.{live_named}
use Rattle.taps_memory.proofs.Going.{goes_calm, closed_net, closed_state}
use Rattle.taps_memory.proofs.sockets.MemoryNetSockets.close.Goals as goal

pub note_close-requires-clause-named : goal.note_close-requires-clause-named
note_close-requires-clause-named c = live_named c.args.self.now.trace c.args.socket c.requires.live

pub returns-clause-net : goal.returns-clause-net
returns-clause-net c = rw c.note_close.ensures (closed_net c.args.self.now c.args.socket)

pub returns-clause-becomes : goal.returns-clause-becomes
returns-clause-becomes c =
    let a = c.args.self.now in
    let s = c.args.socket in
    rw c.note_close.ensures (goes_calm a (after_close a s) (closes s) refl (closed_net a s) refl c.requires.live refl refl (closed_state a s))
