use Rattle.std.proofs.Common.{◌∙◌, arith, sym}
use Rattle.taps_chain.proofs.Wrapping.{wrapped_by_more}
use Rattle.taps_chain.proofs.chain.Chain.wrap.Goals as goal

pub loop-depth-preserved : goal.loop-depth-preserved
loop-depth-preserved g c = record {
  within = omega arith;
  wrapped = wrapped_by_more _ _ _ _ _ _ _ (omega arith) c.at-framer.ensures c.loop-depth.invariant.wrapped _ _ _ c.deref-in-loop-depth.ensures.value c.deref.ensures.value (sym c.speaks_in.ensures ∙ c.if-not-speaks_in.false) c.in_ok-current-2.ensures;
}
