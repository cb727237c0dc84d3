use Rattle.std.proofs.Common.{refl}
use Rattle.taps_socket.specs.Calls.{shuts}
use Rattle.taps_memory.specs.Memory.{after_shut}
use Rattle.taps_memory.proofs.Named.{shutter_named}
use Rattle.taps_memory.proofs.Going.{goes_calm, shut_net, shut_state}
use Rattle.taps_memory.proofs.sockets.MemoryNetSockets.shut.Goals as goal

pub note_shut-requires-clause-named : goal.note_shut-requires-clause-named
note_shut-requires-clause-named c = shutter_named c.args.self.now.trace c.args.socket c.requires.may

pub returns-clause-net : goal.returns-clause-net
returns-clause-net c = rw c.note_shut.ensures (shut_net c.args.self.now c.args.socket)

pub returns-clause-becomes : goal.returns-clause-becomes
returns-clause-becomes c =
    let a = c.args.self.now in
    let s = c.args.socket in
    rw c.note_shut.ensures (goes_calm a (after_shut a s) (shuts s) refl (shut_net a s) refl c.requires.may refl refl (shut_state a s))
