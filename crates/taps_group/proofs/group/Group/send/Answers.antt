use Rattle.std.proofs.Common.{◌≡◌, [], ◌∷◌, ◌++◌, inl, length, rules, refl, sym, ◌∙◌, ap}
use Rattle.std.proofs.lemmas.List.{append-nil}
use Rattle.taps_group.proofs.Accepting.{accepted_group, refused_group, refused_by, none_changed}
use Rattle.taps_group.proofs.Places.{indexed}
use Rattle.taps_group.proofs.Soundness.{sound_same}
use Rattle.taps_group.proofs.group.Group.send.Goals as goal

pub accept-requires : goal.accept-requires
accept-requires g c = record { sound = (c.requires.sound.each c.args.member c.index_mut.result.now (indexed c.args.self.now.members.items c.args.member c.index_mut.result.now c.requires.member c.index_mut.ensures.value)).sending }

pub returns-then-is_err-clause-sent : goal.returns-then-is_err-clause-sent
returns-then-is_err-clause-sent g c = (inl (record { told = refl; handed_back = refl }, none_changed c.args.self.now.members.items c.args.member c.requires.member), record { order = c.reserve.ensures.items ∙ sym (append-nil c.args.self.now.order.items); rest = refl })

pub returns-then-is_err-clause-sound : goal.returns-then-is_err-clause-sound
returns-then-is_err-clause-sound g c = sound_same _ c.args.self.now _ refl c.reserve.ensures.items refl c.requires.sound

pub returns-in-Ok-clause-sent : goal.returns-in-Ok-clause-sent
returns-in-Ok-clause-sent g c =
    let m = c.index_mut.result.now in (
      record {
        was = m;
        becomes = c.accept.new.self;
        at = indexed c.args.self.now.members.items c.args.member m c.requires.member c.index_mut.ensures.value;
        changed = refl;
        by = c.in-Ok.ensures.accepted.0;
      },
      record { order = c.add.ensures ∙ ap (λ v. v ++ c.args.member ∷ []) c.reserve.ensures.items; rest = refl },
    )

pub returns-in-Ok-clause-sound : goal.returns-in-Ok-clause-sound
returns-in-Ok-clause-sound g c =
    let m = c.index_mut.result.now in
    let count : c.len-order.result ≡ length c.args.self.now.order.items = search rules in
    accepted_group _ c.args.self.now _ c.args.member c.len-order.result c.args.message c.args.at _ m c.accept.new.self
    (indexed c.args.self.now.members.items c.args.member m c.requires.member c.index_mut.ensures.value) refl
    (c.add.ensures ∙ ap (λ v. v ++ c.args.member ∷ []) c.reserve.ensures.items) refl count c.in-Ok.ensures.accepted c.in-Ok.ensures.sound c.requires.sound

pub returns-in-Err-clause-sent : goal.returns-in-Err-clause-sent
returns-in-Err-clause-sent g c =
    let m = c.index_mut.result.now in (
      refused_by c.args.self.now.members.items _ c.args.member c.len-order.result c.args.message c.args.at c.in-Err.refused m c.accept.new.self
          (indexed c.args.self.now.members.items c.args.member m c.requires.member c.index_mut.ensures.value) refl c.in-Err.ensures.accepted,
      record { order = c.reserve.ensures.items ∙ sym (append-nil c.args.self.now.order.items); rest = refl },
    )

pub returns-in-Err-clause-sound : goal.returns-in-Err-clause-sound
returns-in-Err-clause-sound g c =
    let m = c.index_mut.result.now in
    refused_group _ c.args.self.now _ c.args.member c.len-order.result c.args.message c.args.at c.in-Err.refused m c.accept.new.self
    (indexed c.args.self.now.members.items c.args.member m c.requires.member c.index_mut.ensures.value) refl c.reserve.ensures.items refl c.in-Err.ensures.accepted c.in-Err.ensures.sound c.requires.sound
