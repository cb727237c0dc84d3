use Rattle.std.proofs.Common.{◌≡◌, ◌-◌, [], ◌∷◌, ◌++◌, length, ap, subst, sym, ◌∙◌, arith, length-append}
use Rattle.taps_base.specs.Lists.{ListState}
use Rattle.taps_group_exchange.specs.declared.told.Told.{Told}
use Rattle.taps_cloning.specs.Telling.{nothing, TellNothing}
use Rattle.taps_group_exchange.specs.GroupExchanges.{MemberTold, told_by}
use Rattle.taps_cloning.proofs.Sessions.{tells_nothing_more}
use Rattle.taps_cloning.proofs.telling.tell_nothing.Goals as goal

pub telling-preserved : goal.telling-preserved
telling-preserved c =
    let t : Told = record { sent = 0; heard = c.new.result } in
    let items : c.add.new.self.items ≡ c.telling.told.items ++ t ∷ [] = ap (λ (v : ListState _). v.items) c.add.ensures in
    let spare : c.add.new.self.spare ≡ c.telling.told.spare - 1 = ap (λ (v : ListState _). v.spare) c.add.ensures in
    let test = c.telling-test.true in
    let room = c.telling.invariant.room in
    let count = c.telling.invariant.count in
    let size = length-append c.telling.told.items (t ∷ []) in
    let told : told_by t ≡ nothing = ap (λ h. (let m : MemberTold = record { sent = 0; heard = h } in m)) c.new.ensures.items in
    record {
      few = omega (arith, test);
      count = ap length items ∙ omega (arith, size, count);
      room = omega (arith, spare, room, test);
      nothing = subst TellNothing (sym items) (tells_nothing_more c.telling.told.items t c.telling.invariant.nothing told);
    }
