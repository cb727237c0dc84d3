use Rattle.std.proofs.Common.{arith}
use Rattle.taps_text.proofs.Appended.{continues_on}
use Rattle.taps_text.proofs.Steps.{leaves_done, leaves_on}
use Rattle.taps_text.proofs.generated.put_leaves.Goals as goal

pub loop-leaf-preserved : goal.loop-leaf-preserved
loop-leaf-preserved c = record {
  continues = continues_on c.args.text.now.items c.loop-leaf.text.items c.put_leaf.new.text.items _ c.loop-leaf.invariant.continues c.in_ok-put_leaf.ensures;
  whole = rw c.next-x.ensures (leaves_on c.args.count c.loop-leaf.leaf c.loop-leaf.x c.loop-leaf.text.items c.put_leaf.new.text.items _ (omega (arith, c.loop-leaf-test.true)) c.in_ok-put_leaf.ensures c.loop-leaf.invariant.whole);
}

pub returns : goal.returns
returns c = leaves_done c.args.count c.loop-leaf.leaf c.loop-leaf.x c.loop-leaf.text.items _ (omega (arith, c.loop-leaf-test.false)) c.loop-leaf.invariant.whole
