use Rattle.std.proofs.Common.{◌≡◌, refl, sym, ◌∙◌, ap}
use Rattle.taps_group.specs.Properties.{set_by, with_priority}
use Rattle.taps_group.proofs.Members.{prioritised}
use Rattle.taps_group.proofs.Places.{holds_at, indexed, some_at}
use Rattle.taps_group.proofs.Setting.{is_set_for}
use Rattle.taps_group.proofs.Soundness.{sound_changed}
use Rattle.taps_group.proofs.group.Group.set.Goals as goal

pub returns-in-Ok-clause-set : goal.returns-in-Ok-clause-set
returns-in-Ok-clause-set g c =
    let m = c.index_mut.result.now in
    let at = indexed c.args.self.now.members.items c.args.member m c.requires c.index_mut.ensures.value in
    let own : c.props_of-props.result ≡ with_priority m.priority c.args.self.now.props = holds_at c.args.self.now.members.items c.args.member m (λ n. c.props_of-props.result ≡ with_priority n.priority c.args.self.now.props) at c.props_of-props.ensures in
    record {
      was = m;
      priority = c.set.new.self.conn_priority;
      at = at;
      members = refl;
      set = is_set_for c.args.name.now c.args.value c.args.self.now.props c.set.new.self m.priority c.set.new.self.conn_priority refl (ap (set_by c.args.name.now c.args.value) (sym own) ∙ c.in-Ok.ensures.set);
      rest = refl;
    }

pub returns-in-Ok-clause-sound : goal.returns-in-Ok-clause-sound
returns-in-Ok-clause-sound g c = λ sound.
    let m = c.index_mut.result.now in
    sound_changed _ c.args.self.now _ c.args.member m (record m { priority = c.set.new.self.conn_priority })
    (indexed c.args.self.now.members.items c.args.member m c.requires c.index_mut.ensures.value) refl refl refl
    (λ h. prioritised _ _ _ m c.set.new.self.conn_priority h)
    sound

pub returns-in-Err-clause-set : goal.returns-in-Err-clause-set
returns-in-Err-clause-set g c =
    let (m, at) = some_at c.args.self.now.members.items c.args.member c.requires in
    let own : c.props_of-props.result ≡ with_priority m.priority c.args.self.now.props = holds_at c.args.self.now.members.items c.args.member m (λ n. c.props_of-props.result ≡ with_priority n.priority c.args.self.now.props) at c.props_of-props.ensures in
    (m, (at, ap (set_by c.args.name.now c.args.value) (sym own) ∙ c.in-Err.ensures.set.0, refl))
