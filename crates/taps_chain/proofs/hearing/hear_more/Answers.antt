use Rattle.std.proofs.Common.{arith, refl, sym, [], ◌∷◌, ◌++◌}
use Rattle.taps_chain.proofs.Depths.{has_layer}
use Rattle.taps_chain.proofs.UnderWay.{index_bound, ends_short, ends_bad, shorter, one_more}
use Rattle.taps_chain.proofs.hearing.hear_more.Goals as goal

pub returns-in-Err-clause-ends : goal.returns-in-Err-clause-ends
returns-in-Err-clause-ends g c =
    let n = has_layer _ _ _ c.requires.first in
    let k = c.messages.invariant.under_way in
    record {
      messages = k.messages;
      kept = c.in-Err.ensures.err k.messages k.kept;
      holds = rw c.out_of_memory.ensures (ends_short _ n c.requires.framers _ _ _ c.requires.few _ _ k.holds c.out_of_memory.result.rest);
    }

pub take_out-requires-clause-index : goal.take_out-requires-clause-index
take_out-requires-clause-index g c =
    let n = has_layer _ _ _ c.requires.first in
    omega (arith, c.requires.few, index_bound _ n c.requires.framers _ _ _ c.requires.few _ _ c.messages.invariant.under_way.holds)

pub messages-smaller : goal.messages-smaller
messages-smaller g c =
    let n = has_layer _ _ _ c.requires.first in
    let f = c.in-Message.ensures.found in
    omega (arith, shorter _ n c.requires.framers _ _ _ c.requires.few _ _ c.messages.invariant.under_way.holds _ _ f.0 f.1 f.2, c.take_out.ensures.taken)

pub messages-preserved : goal.messages-preserved
messages-preserved g c =
    let n = has_layer _ _ _ c.requires.first in
    let f = c.in-Message.ensures.found in
    let k = c.messages.invariant.under_way in
    record {
      under_way = record {
        messages = k.messages ++ c.in-Message.body ∷ [];
        kept = c.in_default.ensures.ok k.messages k.kept (sym k.holds.index);
        holds = one_more _ n c.requires.framers _ _ _ c.requires.few _ _ k.holds _ _ f.0 f.1 f.2 _
            c.take_out.ensures.taken c.take_out.ensures.next.0 c.take_out.ensures.next.1 c.take_out.ensures.looked;
      };
      fed = omega (arith, c.take_out.ensures.next.1, c.messages.invariant.fed);
    }

pub returns-in-Bad-clause-ends : goal.returns-in-Bad-clause-ends
returns-in-Bad-clause-ends g c =
    let n = has_layer _ _ _ c.requires.first in
    let k = c.messages.invariant.under_way in
    record {
      messages = k.messages;
      kept = k.kept;
      holds = rw c.fails.ensures.end (ends_bad _ n c.requires.framers _ _ _ c.requires.few _ _ k.holds _ _ refl c.fails.ensures.rest c.in-Bad.ensures.found);
    }

pub returns-in-NoMemory-clause-ends : goal.returns-in-NoMemory-clause-ends
returns-in-NoMemory-clause-ends g c =
    let n = has_layer _ _ _ c.requires.first in
    let k = c.messages.invariant.under_way in
    record {
      messages = k.messages;
      kept = k.kept;
      holds = rw c.out_of_memory-in-NoMemory.ensures (ends_short _ n c.requires.framers _ _ _ c.requires.few _ _ k.holds c.out_of_memory-in-NoMemory.result.rest);
    }
