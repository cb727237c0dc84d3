use Rattle.std.proofs.Common.{◌+◌, ◌∙◌, ◌-◌, ◌++◌, drop, take, ap}
use Rattle.std.specs.List.{concat}
use Rattle.taps_script.specs.PeerTimes.{arrived}
use Rattle.taps_script.proofs.Pieces.{arrives_at, copied_more}
use Rattle.taps_script.proofs.incoming.copy_arrived.Goals as goal

pub loop-line-preserved : goal.loop-line-preserved
loop-line-preserved c =
    let i = c.loop-line.line-index in
    let lines = c.args.lines.now in
    let most = c.args.most in
    let filled = c.loop-line.filled in
    let here = arrives_at lines i c.args.done c.args.now c.in-Some.delay c.from.result c.sent.result c.in-Some.bytes c.line-item.result c.loop-line-test.true c.line-item.is c.sent.ensures c.in-Some.is c.from.ensures c.if-done-from.false in
    let more = concat (arrived c.args.done c.args.now (drop (i + 1) lines)) in
    let step = copied_more most filled c.copy_more.result.1 c.loop-line.left c.copy_more.result.0 c.loop-line.out c.copy_more.new.out c.in-Some.bytes.now more _ c.loop-line.invariant.within c.copy_more.ensures.skip c.copy_more.ensures.filled c.copy_more.ensures.bytes
    (c.loop-line.invariant.bytes ∙ ap (λ pieces. take filled c.loop-line.out ++ take (most - filled) (drop c.loop-line.left (concat pieces))) here) in
    record { within = step.0; length = c.copy_more.ensures.length ∙ c.loop-line.invariant.length; bytes = step.1 }
