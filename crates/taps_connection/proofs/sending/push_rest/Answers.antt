use Rattle.std.proofs.Common.{ap, ◌∙◌, sym, arith, ◌-◌, length, take, drop, subst, ◌+◌, []}
use Rattle.std.specs.Prelude.{None}
use Rattle.taps_socket.specs.Sides.{may_send, carries_stream}
use Rattle.taps_connection.specs.Pushes.{IsPushing, HasPushed}
use Rattle.taps_connection.specs.declared.sending.Pause.TheVariants as pause
use Rattle.taps_connection.proofs.Pushing.{starts, pushing_more, pushed_timed, pushed_failed, pushed_whole}
use Rattle.taps_connection.proofs.Taking.{adds_nothing, adds_on, adds_sent, adds_timed, adds_failed, took_nothing, took_none, took_sent, count_taken, rest_length}
use Rattle.taps_connection.proofs.sending.push_rest.Goals as goal

pub sending-init : goal.sending-init
sending-init g c =
    record {
      pushing = starts g.N.Sockets.Becomes _ c.args.socket c.args.until c.args.bytes.now c.args.from c.args.at (g.met.N.Sockets.becomes_itself _);
      took = took_nothing _ _ c.args.bytes.now c.args.from c.requires.within;
      adds = adds_nothing c.args.socket _;
    }

pub send-requires-clause-spare : goal.send-requires-clause-spare
send-requires-clause-spare g c = let s = c.sending.invariant.adds.spare in let r = c.requires.spare in omega arith

pub send-requires-clause-may : goal.send-requires-clause-may
send-requires-clause-may g c = ap (λ t. may_send t c.args.socket) c.sending.invariant.adds.trace ∙ c.requires.may

pub send-requires-clause-room : goal.send-requires-clause-room
send-requires-clause-room g c =
    let n = rest_length c.args.bytes.now c.sending.taken in
    let room = c.sending.invariant.took.room in
    let was = c.requires.room in
    let h = c.sending-test.true in
    omega arith

pub send-requires-clause-datagram : goal.send-requires-clause-datagram
send-requires-clause-datagram g c = λ e.
    let n = rest_length c.args.bytes.now c.sending.taken in
    let few = (c.requires.datagram (ap (λ t. carries_stream t c.args.socket) (sym c.sending.invariant.adds.trace) ∙ e)).1 in
    omega arith

pub sending-preserved : goal.sending-preserved
sending-preserved g c =
    let on = g.met.N.Sockets.becomes_on in
    let inv = c.sending.invariant in
    let k = c.in-Sent.ensures.answer in
    let size = count_taken _ c.in-Sent.count k.0 in
    let m = pushing_more g.N.Sockets.Becomes _ _ _ c.args.socket c.args.until c.args.bytes.now c.args.from c.args.at c.sending.taken c.sending.moment c.in-Sent.count c.in-Sent.at on c.sending-test.true inv.pushing c.in-Sent.ensures.becomes in
    record {
      pushing = subst (λ v. IsPushing g.N.Sockets.Becomes c.args.net.now c.send.new.self c.args.socket c.args.until c.args.bytes.now c.args.from c.args.at (c.sending.taken + c.in-Sent.count) v) (sym c.max-moment.ensures) m;
      took = took_sent (carries_stream (g.N.Sockets.net c.args.net.now).trace c.args.socket) c.args.socket c.args.until (g.N.Sockets.net c.args.net.now) (g.N.Sockets.net c.sending.net) (g.N.Sockets.net c.send.new.self) c.args.bytes.now c.args.from c.sending.taken c.in-Sent.count c.in-Sent.at (ap (λ t. carries_stream t c.args.socket) inv.adds.trace) inv.took c.sending-test.true k.0 k.1 c.in-Sent.ensures.net size;
      adds = adds_on c.args.socket [] None (g.N.Sockets.net c.args.net.now) (g.N.Sockets.net c.sending.net) (g.N.Sockets.net c.send.new.self) inv.adds (adds_sent c.args.socket c.args.until (take (length c.args.bytes.now - c.sending.taken) (drop c.sending.taken c.args.bytes.now)) c.in-Sent.count c.in-Sent.at (g.N.Sockets.net c.sending.net) (g.N.Sockets.net c.send.new.self) c.in-Sent.ensures.net);
    }

pub returns-in-Timed-clause-pushed : goal.returns-in-Timed-clause-pushed
returns-in-Timed-clause-pushed g c =
    let on = g.met.N.Sockets.becomes_on in
    let p = pushed_timed g.N.Sockets.Becomes _ _ _ c.args.socket c.args.until c.args.bytes.now c.args.from c.args.at c.sending.taken c.sending.moment c.in-Timed.at on c.sending-test.true c.sending.invariant.pushing c.in-Timed.ensures.becomes in
    subst (λ v. HasPushed g.N.Sockets.Becomes c.args.net.now c.send.new.self c.args.socket c.args.until c.args.bytes.now c.args.from c.args.at c.sending.taken v (pause.Timed c.in-Timed.at)) (sym c.max.ensures) p

pub returns-in-Timed-clause-took : goal.returns-in-Timed-clause-took
returns-in-Timed-clause-took g c = took_none _ _ _ _ c.args.bytes.now c.args.from c.sending.taken (ap (λ n. n.traffic c.args.socket) c.in-Timed.ensures.net) c.sending.invariant.took

pub returns-in-Timed-clause-adds : goal.returns-in-Timed-clause-adds
returns-in-Timed-clause-adds g c = adds_on c.args.socket [] _ _ _ _ c.sending.invariant.adds (adds_timed c.args.socket c.args.until (take (length c.args.bytes.now - c.sending.taken) (drop c.sending.taken c.args.bytes.now)) c.in-Timed.at _ _ c.in-Timed.ensures.net)

pub returns-in-Failed-clause-pushed : goal.returns-in-Failed-clause-pushed
returns-in-Failed-clause-pushed g c =
    let on = g.met.N.Sockets.becomes_on in
    pushed_failed g.N.Sockets.Becomes _ _ _ c.args.socket c.args.until c.args.bytes.now c.args.from c.args.at c.sending.taken c.sending.moment c.in-Failed.cause on c.sending-test.true c.sending.invariant.pushing c.in-Failed.ensures.becomes

pub returns-in-Failed-clause-took : goal.returns-in-Failed-clause-took
returns-in-Failed-clause-took g c = took_none _ _ _ _ c.args.bytes.now c.args.from c.sending.taken (ap (λ n. n.traffic c.args.socket) c.in-Failed.ensures.net) c.sending.invariant.took

pub returns-in-Failed-clause-adds : goal.returns-in-Failed-clause-adds
returns-in-Failed-clause-adds g c =
    let s = c.sending.invariant.adds.spare in
    let r = c.requires.spare in
    adds_on c.args.socket _ None _ _ _ c.sending.invariant.adds (adds_failed c.args.socket c.args.until (take (length c.args.bytes.now - c.sending.taken) (drop c.sending.taken c.args.bytes.now)) c.in-Failed.cause _ _ (omega arith) c.in-Failed.ensures.net)

pub returns-clause-pushed : goal.returns-clause-pushed
returns-clause-pushed g c =
    let w = c.sending.invariant.took.within in
    let h = c.sending-test.false in
    pushed_whole g.N.Sockets.Becomes _ _ c.args.socket c.args.until c.args.bytes.now c.args.from c.args.at c.sending.taken c.sending.moment (omega arith) c.sending.invariant.pushing

pub returns-clause-took : goal.returns-clause-took
returns-clause-took g c = c.sending.invariant.took

pub returns-clause-adds : goal.returns-clause-adds
returns-clause-adds g c = c.sending.invariant.adds
