use Rattle.std.proofs.Common.{refl, sym, ap, ◌∙◌}
use Rattle.std.specs.Prelude.{slice_set}
use Rattle.taps_group_exchange.proofs.HandingOn.{never_refused, priority_taken}
use Rattle.taps_group_exchange.proofs.preparing.set_priority.Goals as goal

pub unreachable-requires : goal.unreachable-requires
unreachable-requires g c = (let s = c.in-Err.ensures.set in never_refused c.args.priority s.0.priority c.args.group.now.props c.in-Err.field-0 c.requires.bounded s.1.1)

pub returns-clause-set : goal.returns-clause-set
returns-clause-set g c =
    let s = c.in-Ok.ensures.set in
    let same = priority_taken c.args.priority s.was.priority s.priority c.args.group.now.props c.set.new.self.props c.requires.bounded s.set.own in
    record {
      was = s.was;
      becomes = record s.was { priority = c.args.priority };
      at = s.at;
      changed = s.members ∙ ap (λ v. slice_set c.args.group.now.members.items c.args.place (record s.was { priority = v })) (sym same);
      by = refl;
    }
