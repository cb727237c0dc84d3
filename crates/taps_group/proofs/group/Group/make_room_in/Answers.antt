use Rattle.std.proofs.Common.{ap, refl}
use Rattle.taps_group.proofs.Members.{resound_by, same_numbers}
use Rattle.taps_group.proofs.Places.{indexed}
use Rattle.taps_group.proofs.Soundness.{sound_changed}
use Rattle.taps_group.proofs.group.Group.make_room_in.Goals as goal

pub returns-clause-room : goal.returns-clause-room
returns-clause-room g c =
    let m = c.index_mut.result.now in
    let e = c.make_room_in.ensures in
    record {
      was = m;
      becomes = record m { connection = c.make_room_in.new.self };
      at = indexed _ _ _ c.requires.member c.index_mut.ensures.value;
      changed = refl;
      by = record {
        ok = e.ok;
        grows = e.grows;
        had = e.had;
        err = e.err;
        unread = e.unread;
        ended = e.ended;
        kept = ap (λ k. record m { connection = k }) e.kept;
      };
    }

pub returns-clause-sound : goal.returns-clause-sound
returns-clause-sound g c =
    let m = c.index_mut.result.now in
    let k = c.make_room_in.new.self in
    let e = c.make_room_in.ensures in
    sound_changed _ c.args.self.now _ c.args.member m (record m { connection = k })
    (indexed _ _ _ c.requires.member c.index_mut.ensures.value) refl refl refl
    (λ h. resound_by _ _ _ m k m.connection.sender k.receiver e.kept h.sending (e.sound h.receiving) (same_numbers m.connection.sender h.numbers) h)
    c.requires.sound
