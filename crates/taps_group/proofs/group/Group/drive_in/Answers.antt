use Rattle.std.proofs.Common.{ap, refl}
use Rattle.taps_group.specs.Receiving.{MayDriveIn}
use Rattle.taps_group.proofs.Members.{moved_numbers, moved_sound, resound_by}
use Rattle.taps_connection.specs.declared.connection.Connection.{Connection}
use Rattle.taps_group.proofs.Opening.{pulled_on}
use Rattle.taps_group.proofs.Places.{holds_at, indexed}
use Rattle.taps_group.proofs.Soundness.{sound_changed}
use Rattle.taps_group.proofs.group.Group.drive_in.Goals as goal

pub drive_in-requires-clause-wanting : goal.drive_in-requires-clause-wanting
drive_in-requires-clause-wanting g c = let may : MayDriveIn (g.N.Sockets.net c.args.net.now) c.args.until c.index_mut.result.now = holds_at c.args.self.now.members.items c.args.member c.index_mut.result.now (MayDriveIn (g.N.Sockets.net c.args.net.now) c.args.until) (indexed c.args.self.now.members.items c.args.member c.index_mut.result.now c.requires.member c.index_mut.ensures.value) c.requires.may in may.wanting

pub drive_in-requires-clause-goes_on : goal.drive_in-requires-clause-goes_on
drive_in-requires-clause-goes_on g c = let may : MayDriveIn (g.N.Sockets.net c.args.net.now) c.args.until c.index_mut.result.now = holds_at c.args.self.now.members.items c.args.member c.index_mut.result.now (MayDriveIn (g.N.Sockets.net c.args.net.now) c.args.until) (indexed c.args.self.now.members.items c.args.member c.index_mut.result.now c.requires.member c.index_mut.ensures.value) c.requires.may in may.goes_on

pub drive_in-requires-clause-sound : goal.drive_in-requires-clause-sound
drive_in-requires-clause-sound g c = (c.requires.sound.each _ _ (indexed _ _ _ c.requires.member c.index_mut.ensures.value)).receiving

pub drive_in-requires-clause-held : goal.drive_in-requires-clause-held
drive_in-requires-clause-held g c = let may : MayDriveIn (g.N.Sockets.net c.args.net.now) c.args.until c.index_mut.result.now = holds_at c.args.self.now.members.items c.args.member c.index_mut.result.now (MayDriveIn (g.N.Sockets.net c.args.net.now) c.args.until) (indexed c.args.self.now.members.items c.args.member c.index_mut.result.now c.requires.member c.index_mut.ensures.value) c.requires.may in may.held

pub drive_in-requires-clause-spare : goal.drive_in-requires-clause-spare
drive_in-requires-clause-spare g c = let may : MayDriveIn (g.N.Sockets.net c.args.net.now) c.args.until c.index_mut.result.now = holds_at c.args.self.now.members.items c.args.member c.index_mut.result.now (MayDriveIn (g.N.Sockets.net c.args.net.now) c.args.until) (indexed c.args.self.now.members.items c.args.member c.index_mut.result.now c.requires.member c.index_mut.ensures.value) c.requires.may in may.spare

pub drive_in-requires-clause-until : goal.drive_in-requires-clause-until
drive_in-requires-clause-until g c = let may : MayDriveIn (g.N.Sockets.net c.args.net.now) c.args.until c.index_mut.result.now = holds_at c.args.self.now.members.items c.args.member c.index_mut.result.now (MayDriveIn (g.N.Sockets.net c.args.net.now) c.args.until) (indexed c.args.self.now.members.items c.args.member c.index_mut.result.now c.requires.member c.index_mut.ensures.value) c.requires.may in may.bounded

pub returns-clause-driven : goal.returns-clause-driven
returns-clause-driven g c =
    let m = c.index_mut.result.now in
    let e = c.drive_in.ensures in
    record {
      was = m;
      becomes = record m { connection = c.drive_in.new.self };
      at = indexed _ _ _ c.requires.member c.index_mut.ensures.value;
      changed = refl;
      by = record {
        pulled = e.pulled;
        held = e.held;
        adds = e.adds;
        traffic = e.traffic;
        represents = e.represents;
        kept = ap (λ k. record m { connection = k }) e.kept;
        sender = e.sender;
      };
    }

pub returns-clause-sound : goal.returns-clause-sound
returns-clause-sound g c =
    let m = c.index_mut.result.now in
    let k = c.drive_in.new.self in
    let e = c.drive_in.ensures in
    sound_changed _ c.args.self.now _ c.args.member m (record m { connection = k })
    (indexed _ _ _ c.requires.member c.index_mut.ensures.value) refl refl refl
    (λ h. resound_by _ _ _ m k k.sender k.receiver e.kept (moved_sound _ _ m.connection.sender k.sender e.sender h.sending) e.sound (moved_numbers m.connection.sender k.sender e.sender h.numbers) h)
    c.requires.sound

pub returns-clause-opened : goal.returns-clause-opened
returns-clause-opened g c = λ opened.
    let m = c.index_mut.result.now in
    pulled_on (g.N.Sockets.net c.args.net.now) (g.N.Sockets.net c.drive_in.new.net) c.args.self.now.members.items _ c.args.member m (record m { connection = c.drive_in.new.self }) m.connection.socket c.drive_in.result
    (indexed c.args.self.now.members.items c.args.member m c.requires.member c.index_mut.ensures.value) refl (ap (λ (k : Connection _ _ _). k.socket) c.drive_in.ensures.kept) c.drive_in.ensures.adds.trace opened
