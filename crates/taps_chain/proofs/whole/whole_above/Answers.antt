use Rattle.std.proofs.Common.{arith, ◌≤◌}
use Rattle.taps_chain.proofs.Counting.{counted_step, handed_more}
use Rattle.taps_chain.proofs.Depths.{framer_at}
use Rattle.taps_chain.proofs.Opening.{reached_fault, reached_more}
use Rattle.taps_chain.proofs.whole.whole_above.Goals as goal

pub open-requires : goal.open-requires
open-requires g c = framer_at _ _ _ c.at-framer.ensures c.requires.framers

pub returns-in-Bad : goal.returns-in-Bad
returns-in-Bad g c =
    let n = counted_step _ _ _ _ _ _ _ _ _ _ _ (omega arith) c.loop-depth.invariant.handed c.deref.ensures.value c.open.ensures.uncounted c.open.ensures.counted c.loop-depth.invariant.counted in
    record {
      whole = reached_fault _ _ _ _ _ _ _ _ c.at-framer.ensures c.loop-depth.invariant.reached c.deref.ensures.value _ c.in-Bad.ensures.opened;
      uncounted = n.below;
      counted = n.behind;
    }

pub returns-in-NoMemory : goal.returns-in-NoMemory
returns-in-NoMemory g c =
    let n = counted_step _ _ _ _ _ _ _ _ _ _ _ (omega arith) c.loop-depth.invariant.handed c.deref.ensures.value c.open.ensures.uncounted c.open.ensures.counted c.loop-depth.invariant.counted in
    record {
      whole = tt;
      uncounted = n.below;
      counted = n.behind;
    }

pub loop-depth-preserved : goal.loop-depth-preserved
loop-depth-preserved g c =
    let le : c.args.first ≤ c.loop-depth.depth = omega arith in
    record {
      reached = reached_more _ _ _ _ _ _ _ _ c.at-framer.ensures c.loop-depth.invariant.reached c.deref.ensures.value _ _ (omega arith) c.in-Body.ensures.opened.0 c.in-Body.ensures.opened.1;
      handed = handed_more _ _ _ _ _ _ _ _ _ le c.at-framer.ensures c.loop-depth.invariant.handed c.deref.ensures.value c.in-Body.ensures.opened.0 c.in-Body.ensures.opened.1;
      counted = counted_step _ _ _ _ _ _ _ _ _ _ _ le c.loop-depth.invariant.handed c.deref.ensures.value c.open.ensures.uncounted c.open.ensures.counted c.loop-depth.invariant.counted;
    }

pub returns-clause-uncounted : goal.returns-clause-uncounted
returns-clause-uncounted g c = c.loop-depth.invariant.counted.below

pub returns-clause-counted : goal.returns-clause-counted
returns-clause-counted g c = c.loop-depth.invariant.counted.behind
