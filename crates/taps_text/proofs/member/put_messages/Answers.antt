use Rattle.std.proofs.Common.{arith, refl}
use Rattle.std.proofs.lemmas.Grind.{common_steps}
use Rattle.taps_text.proofs.Appended.{continues_none, continues_on}
use Rattle.taps_text.proofs.member.put_messages.Goals as goal

pub loop-number-init : goal.loop-number-init
loop-number-init c = record { continues = continues_none c.args.text.now.items; whole = refl }

pub loop-number-preserved : goal.loop-number-preserved
loop-number-preserved c = record {
  continues = continues_on c.args.text.now.items c.loop-number.text.items c.put_heard.new.text.items _ c.loop-number.invariant.continues c.in_ok-put_heard.ensures;
  whole = grind (arith, common_steps, c.loop-number.invariant.whole, c.in_ok-put_heard.ensures);
}
