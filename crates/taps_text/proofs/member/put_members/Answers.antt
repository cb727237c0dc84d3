use Rattle.std.proofs.Common.{arith, refl}
use Rattle.std.proofs.lemmas.Grind.{common_steps}
use Rattle.taps_text.proofs.Appended.{continues_none, continues_on}
use Rattle.taps_text.proofs.member.put_members.Goals as goal

pub loop-place-init : goal.loop-place-init
loop-place-init c = record { continues = continues_none c.args.text.now.items; whole = refl }

pub loop-place-preserved : goal.loop-place-preserved
loop-place-preserved c = record {
  continues = continues_on c.args.text.now.items c.loop-place.text.items c.put_member.new.text.items _ c.loop-place.invariant.continues c.in_ok-put_member.ensures;
  whole = grind (arith, common_steps, c.loop-place.invariant.whole, c.in_ok-put_member.ensures);
}
