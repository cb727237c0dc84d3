use Rattle.std.proofs.Common.{arith}
use Rattle.taps_text.proofs.Appended.{continues_on}
use Rattle.taps_text.proofs.Steps.{addresses_done, addresses_on}
use Rattle.taps_text.proofs.generated.put_addresses.Goals as goal

pub loop-place-preserved : goal.loop-place-preserved
loop-place-preserved c = record {
  continues = continues_on c.args.text.now.items c.loop-place.text.items c.put_address.new.text.items _ c.loop-place.invariant.continues c.in_ok-put_address.ensures;
  whole = rw c.next-x.ensures (addresses_on c.args.count c.loop-place.place c.loop-place.x c.loop-place.text.items c.put_address.new.text.items _ (omega (arith, c.loop-place-test.true)) c.in_ok-put_address.ensures c.loop-place.invariant.whole);
}

pub returns : goal.returns
returns c = addresses_done c.args.count c.loop-place.place c.loop-place.x c.loop-place.text.items _ (omega (arith, c.loop-place-test.false)) c.loop-place.invariant.whole
