use Rattle.std.proofs.Common.{ap, refl}
use Rattle.taps_group.specs.Sending.{MayDriveOut}
use Rattle.taps_group.proofs.Members.{resound_by}
use Rattle.taps_group.proofs.Numbering.{driven_numbers}
use Rattle.taps_connection.specs.declared.connection.Connection.{Connection}
use Rattle.taps_group.proofs.Opening.{pushed_on}
use Rattle.taps_group.proofs.Places.{holds_at, indexed}
use Rattle.taps_group.proofs.Soundness.{sound_changed}
use Rattle.taps_group.proofs.group.Group.drive_out.Goals as goal

pub drive_out-requires-clause-sound : goal.drive_out-requires-clause-sound
drive_out-requires-clause-sound g c = (c.requires.sound.each _ _ (indexed _ _ _ c.requires.member c.index_mut.ensures.value)).sending

pub drive_out-requires-clause-held : goal.drive_out-requires-clause-held
drive_out-requires-clause-held g c = let may : MayDriveOut (g.N.Sockets.net c.args.net.now) c.args.until c.index_mut.result.now = holds_at c.args.self.now.members.items c.args.member c.index_mut.result.now (MayDriveOut (g.N.Sockets.net c.args.net.now) c.args.until) (indexed c.args.self.now.members.items c.args.member c.index_mut.result.now c.requires.member c.index_mut.ensures.value) c.requires.may in may.held

pub drive_out-requires-clause-room : goal.drive_out-requires-clause-room
drive_out-requires-clause-room g c = let may : MayDriveOut (g.N.Sockets.net c.args.net.now) c.args.until c.index_mut.result.now = holds_at c.args.self.now.members.items c.args.member c.index_mut.result.now (MayDriveOut (g.N.Sockets.net c.args.net.now) c.args.until) (indexed c.args.self.now.members.items c.args.member c.index_mut.result.now c.requires.member c.index_mut.ensures.value) c.requires.may in may.room

pub drive_out-requires-clause-spare : goal.drive_out-requires-clause-spare
drive_out-requires-clause-spare g c = let may : MayDriveOut (g.N.Sockets.net c.args.net.now) c.args.until c.index_mut.result.now = holds_at c.args.self.now.members.items c.args.member c.index_mut.result.now (MayDriveOut (g.N.Sockets.net c.args.net.now) c.args.until) (indexed c.args.self.now.members.items c.args.member c.index_mut.result.now c.requires.member c.index_mut.ensures.value) c.requires.may in may.spare

pub drive_out-requires-clause-until : goal.drive_out-requires-clause-until
drive_out-requires-clause-until g c = let may : MayDriveOut (g.N.Sockets.net c.args.net.now) c.args.until c.index_mut.result.now = holds_at c.args.self.now.members.items c.args.member c.index_mut.result.now (MayDriveOut (g.N.Sockets.net c.args.net.now) c.args.until) (indexed c.args.self.now.members.items c.args.member c.index_mut.result.now c.requires.member c.index_mut.ensures.value) c.requires.may in may.bounded

pub returns-clause-driven : goal.returns-clause-driven
returns-clause-driven g c =
    let m = c.index_mut.result.now in
    let e = c.drive_out.ensures in
    record {
      was = m;
      becomes = record m { connection = c.drive_out.new.self };
      at = indexed _ _ _ c.requires.member c.index_mut.ensures.value;
      changed = refl;
      by = record {
        driven = e.driven;
        adds = e.adds;
        written = e.written;
        read = e.read;
        room = e.room;
        held = e.held;
        kept = ap (λ k. record m { connection = k }) e.kept;
      };
    }

pub returns-clause-sound : goal.returns-clause-sound
returns-clause-sound g c =
    let m = c.index_mut.result.now in
    let d = c.drive_out.ensures.driven in
    sound_changed _ c.args.self.now _ c.args.member m (record m { connection = c.drive_out.new.self })
    (indexed _ _ _ c.requires.member c.index_mut.ensures.value) refl refl refl
    (λ h. resound_by _ _ _ m c.drive_out.new.self c.drive_out.new.self.sender m.connection.receiver c.drive_out.ensures.kept c.drive_out.ensures.sound h.receiving (driven_numbers _ _ _ _ _ _ _ d.pushed_by h.numbers) h)
    c.requires.sound

pub returns-clause-opened : goal.returns-clause-opened
returns-clause-opened g c = λ opened.
    let m = c.index_mut.result.now in
    pushed_on (g.N.Sockets.net c.args.net.now) (g.N.Sockets.net c.drive_out.new.net) c.args.self.now.members.items _ c.args.member m (record m { connection = c.drive_out.new.self }) m.connection.socket c.drive_out.new.self.sender.shut c.drive_out.result
    (indexed c.args.self.now.members.items c.args.member m c.requires.member c.index_mut.ensures.value) refl (ap (λ (k : Connection _ _ _). k.socket) c.drive_out.ensures.kept) c.drive_out.ensures.adds.trace opened
