use Rattle.std.proofs.Common.{◌≤◌, ◌+◌, drop, sym, ◌∙◌, arith}
use Rattle.taps_script.specs.PeerTimes.{arrived}
use Rattle.taps_script.proofs.Pieces.{arrives_at, next_place, rest_fits}
use Rattle.taps_script.proofs.incoming.datagram_at.Goals as goal

pub loop-line-preserved : goal.loop-line-preserved
loop-line-preserved c =
    let i = c.loop-line.line-index in
    let lines = c.args.lines.now in
    let here = arrives_at lines i c.args.done c.args.now c.in-Some.delay c.from.result c.sent.result c.in-Some.bytes c.line-item.result c.loop-line-test.true c.line-item.is c.sent.ensures c.in-Some.is c.from.ensures c.if-done-from.false in
    let some : 1 ≤ c.loop-line.left = omega arith in
    record {
      fit = rest_fits lines (i + 1) c.requires.fit;
      same = sym (next_place c.loop-line.left c.in-Some.bytes.now _ (arrived c.args.done c.args.now (drop (i + 1) lines)) some here) ∙ c.loop-line.invariant.same;
    }
