use Rattle.std.proofs.Common.{arith}
use Rattle.taps_text.proofs.Appended.{continues_on}
use Rattle.taps_text.proofs.Steps.{messages_done, messages_on}
use Rattle.taps_text.proofs.generated.put_messages.Goals as goal

pub loop-preserved : goal.loop-preserved
loop-preserved c = record {
  continues = continues_on c.args.text.now.items c.loop.text.items c.put_message.new.text.items _ c.loop.invariant.continues c.in_ok-put_message.ensures;
  whole = rw c.next-x.ensures (messages_on c.args.count c.loop.counter c.loop.x c.loop.text.items c.put_message.new.text.items _ (omega (arith, c.loop-test.true)) c.in_ok-put_message.ensures c.loop.invariant.whole);
}

pub returns : goal.returns
returns c = messages_done c.args.count c.loop.counter c.loop.x c.loop.text.items _ (omega (arith, c.loop-test.false)) c.loop.invariant.whole
