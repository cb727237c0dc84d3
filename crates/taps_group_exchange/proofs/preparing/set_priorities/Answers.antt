use Rattle.std.proofs.Common.{◌≡◌, ◌+◌, suc, length, take, get_or, sym, ap, subst, ◌∙◌, arith}
use Rattle.std.specs.Prelude.{slice_get, slice_set, Some}
use Rattle.std.proofs.lemmas.Option.{slice_get-get_or}
use Rattle.std.proofs.Math.Seq.{take-length}
use Rattle.taps_group.specs.declared.group.Group.{Group}
use Rattle.taps_group_exchange.specs.Preparing.{with_priorities, IsPrioritized}
use Rattle.taps_group_exchange.proofs.HandingOn.{priorities_size, priority_next}
use Rattle.taps_group_exchange.proofs.preparing.set_priorities.Goals as goal

pub set_priority-requires-clause-member : goal.set_priority-requires-clause-member
set_priority-requires-clause-member g c =
    let same = ap length c.setting.invariant.set.members in
    let size = priorities_size (take c.setting.place c.args.priorities.now) c.args.group.now.members.items in
    let test = c.setting-test.true in
    let few = c.requires.few in
    omega (arith, same, size, test, few)

pub set_priority-requires-clause-bounded : goal.set_priority-requires-clause-bounded
set_priority-requires-clause-bounded g c = c.requires.bounded c.setting.place 0 c.setting-test.true

pub setting-preserved : goal.setting-preserved
setting-preserved g c =
    let i = c.setting.invariant in
    let ps = c.args.priorities.now in
    let k = c.setting.place in
    let first = c.args.group.now.members.items in
    let ch = c.set_priority.ensures.set in
    let given = slice_get-get_or ps k 0 c.setting-test.true in
    let was : slice_get (with_priorities (take k ps) first) k ≡ Some ch.was = ap (λ l. slice_get l k) (sym i.set.members) ∙ ch.at in
    let next : suc k ≡ k + 1 = omega arith in
    record {
      within = (let test = c.setting-test.true in omega (arith, test));
      sound = c.set_priority.ensures.sound;
      set = record {
        members = ch.changed ∙ (ap (slice_set c.setting.group.members.items k) ch.by ∙ (ap (λ l. slice_set l k (record ch.was { priority = get_or ps k 0 })) i.set.members ∙ (priority_next ps k (get_or ps k 0) first ch.was given was ∙ ap (λ j. with_priorities (take j ps) first) next)));
        rest = c.set_priority.ensures.rest ∙ ap (λ (v : Group _ _). record v { members = c.set_priority.new.group.members; props = c.set_priority.new.group.props }) i.set.rest;
      };
    }

pub returns-clause-set : goal.returns-clause-set
returns-clause-set g c =
    let i = c.setting.invariant in
    let ps = c.args.priorities.now in
    let within = i.within in
    let test = c.setting-test.false in
    let all : c.setting.place ≡ length ps = omega (arith, within, test) in
    subst (λ l. IsPrioritized l c.args.group.now c.setting.group) (ap (λ j. take j ps) all ∙ take-length ps) i.set
