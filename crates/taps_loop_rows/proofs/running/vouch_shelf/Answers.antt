use Rattle.std.proofs.Common.{◌<◌, length, arith}
use Rattle.taps_loop_rows.proofs.Shelved.{framers_more}
use Rattle.taps_loop_rows.proofs.running.vouch_shelf.Goals as goal

pub loop-place-preserved : goal.loop-place-preserved
loop-place-preserved g c =
    let less : c.loop-place.place < length c.args.shelf.now.items = omega arith in
    framers_more (λ b. (goal.Framer-dyn g (b.vtable, b.value)).layer b.value) c.args.shelf.now.items c.loop-place.place c.index.result.now less c.index.ensures c.vouch_in.ensures c.loop-place.invariant
