use Rattle.std.proofs.Common.{◌∙◌, sym, ap}
use Rattle.taps_chain.specs.Layers.{layers_of}
use Rattle.taps_socket.specs.RaceSockets.{has}
use Rattle.taps_socket.specs.Sides.{carries_stream, is_connected, shut}
use Rattle.taps_connection.specs.Encodings.{encoding_of}
use Rattle.taps_connection.proofs.Turning.{begun_is, driven_behind, driven_still, adds_still, keeps_behind, keeps_still, keeps_begun, written_same, ready_of, open_of, may_of, some_begun}
use Rattle.taps_connection.proofs.sender.Sender.drive_out.Goals as goal

pub returns-then-is_some-clause-driven : goal.returns-then-is_some-clause-driven
returns-then-is_some-clause-driven g c = c.drive.ensures.driven (encoding_of c.args.stream (layers_of (λ vtable. (g.dyn-1.0.entry vtable).1) c.args.chain.now))

pub returns-then-is_some-clause-written : goal.returns-then-is_some-clause-written
returns-then-is_some-clause-written g c =
    let b = some_begun c.args.self.now.begun (sym c.is_some.ensures ∙ c.if-is_some.true) in
    let k = rw c.requires.carries at c.drive.ensures.written in
    keeps_begun (encoding_of c.args.stream (layers_of (λ vtable. (g.dyn-1.0.entry vtable).1) c.args.chain.now)) c.args.stream _ _ c.args.self.now c.drive.new.self b.0 c.drive.result b.1 (k (encoding_of c.args.stream (layers_of (λ vtable. (g.dyn-1.0.entry vtable).1) c.args.chain.now)))

pub returns-then-is_some-clause-sound : goal.returns-then-is_some-clause-sound
returns-then-is_some-clause-sound g c =
    let k = rw c.requires.carries at c.drive.ensures.sound in
    k (layers_of (λ vtable. (g.dyn-1.0.entry vtable).1) c.args.chain.now) c.requires.sound

pub drive-requires-in-None-clause-ready : goal.drive-requires-in-None-clause-ready
drive-requires-in-None-clause-ready g c =
    let trace = c.begin.ensures.roomier.adds.trace in
    ready_of c.args.stream (layers_of (λ vtable. (g.dyn-1.0.entry vtable).1) c.args.chain.now) c.begin.new.self _ _ (ap (λ t. carries_stream t c.args.socket) trace ∙ c.requires.carries) (begun_is _ _ _ (c.in-None.ensures.taken c.args.until)) c.begin.ensures.sound

pub drive-requires-in-None-clause-still_open : goal.drive-requires-in-None-clause-still_open
drive-requires-in-None-clause-still_open g c = open_of c.args.stream (layers_of (λ vtable. (g.dyn-1.0.entry vtable).1) c.args.chain.now) c.begin.new.self _ (begun_is _ _ _ (c.in-None.ensures.taken c.args.until)) c.begin.ensures.sound

pub drive-requires-in-None-clause-may : goal.drive-requires-in-None-clause-may
drive-requires-in-None-clause-may g c =
    let trace = c.begin.ensures.roomier.adds.trace in
    let h = c.in-None.ensures.taken c.args.until in
    may_of (g.N.Sockets.net c.begin.new.net).trace c.args.socket c.args.self.now.shut (ap (λ t. is_connected t c.args.socket) trace ∙ c.requires.connected) (ap (λ t. has (shut t) c.args.socket) trace ∙ c.requires.shut_by)
    (sym (ap (λ v. v.shut) h.kept) ∙ open_of c.args.stream (layers_of (λ vtable. (g.dyn-1.0.entry vtable).1) c.args.chain.now) c.begin.new.self _ (begun_is _ _ _ h) c.begin.ensures.sound)

pub returns-in-Some-clause-driven : goal.returns-in-Some-clause-driven
returns-in-Some-clause-driven g c = driven_still g.N.Sockets.Becomes (encoding_of c.args.stream (layers_of (λ vtable. (g.dyn-1.0.entry vtable).1) c.args.chain.now)) _ _ c.args.socket c.args.until c.args.self.now c.begin.new.self _ c.begin.ensures.becomes (c.in-Some.ensures.taken c.args.until).0

pub returns-in-Some-clause-adds : goal.returns-in-Some-clause-adds
returns-in-Some-clause-adds g c = adds_still c.args.socket c.args.until _ _ _ _ (c.in-Some.ensures.taken c.args.until).1 c.begin.ensures.roomier.adds

pub returns-in-Some-clause-written : goal.returns-in-Some-clause-written
returns-in-Some-clause-written g c =
    let t = c.in-Some.ensures.taken c.args.until in
    keeps_still (encoding_of c.args.stream (layers_of (λ vtable. (g.dyn-1.0.entry vtable).1) c.args.chain.now)) c.args.stream c.args.socket c.args.until _ _ c.args.self.now c.begin.new.self _ t.1 t.0 (written_same c.args.socket _ _ c.begin.ensures.roomier)

pub returns-in-None-clause-driven : goal.returns-in-None-clause-driven
returns-in-None-clause-driven g c =
    driven_behind g.N.Sockets.Becomes (encoding_of c.args.stream (layers_of (λ vtable. (g.dyn-1.0.entry vtable).1) c.args.chain.now)) _ _ _ c.args.socket c.args.until c.args.self.now c.begin.new.self _ _ g.met.N.Sockets.becomes_on c.begin.ensures.becomes c.drive-in-None.ensures.moved (c.in-None.ensures.taken c.args.until) (c.drive-in-None.ensures.driven (encoding_of c.args.stream (layers_of (λ vtable. (g.dyn-1.0.entry vtable).1) c.args.chain.now)))

pub returns-in-None-clause-written : goal.returns-in-None-clause-written
returns-in-None-clause-written g c =
    let trace = c.begin.ensures.roomier.adds.trace in
    let carries = ap (λ t. carries_stream t c.args.socket) trace ∙ c.requires.carries in
    let k = rw carries at c.drive-in-None.ensures.written in
    keeps_behind (encoding_of c.args.stream (layers_of (λ vtable. (g.dyn-1.0.entry vtable).1) c.args.chain.now)) c.args.stream _ _ _ c.args.self.now c.begin.new.self c.drive-in-None.new.self c.drive-in-None.result (c.in-None.ensures.taken c.args.until) (written_same c.args.socket _ _ c.begin.ensures.roomier) (k (encoding_of c.args.stream (layers_of (λ vtable. (g.dyn-1.0.entry vtable).1) c.args.chain.now)))

pub returns-in-None-clause-sound : goal.returns-in-None-clause-sound
returns-in-None-clause-sound g c =
    let trace = c.begin.ensures.roomier.adds.trace in
    let carries = ap (λ t. carries_stream t c.args.socket) trace ∙ c.requires.carries in
    let k = rw carries at c.drive-in-None.ensures.sound in
    k (layers_of (λ vtable. (g.dyn-1.0.entry vtable).1) c.args.chain.now) c.begin.ensures.sound
