use Rattle.std.proofs.Common.{ap, refl}
use Rattle.taps_group.specs.Receiving.{MayReceive}
use Rattle.taps_group.proofs.Members.{resound_by, same_numbers}
use Rattle.taps_group.proofs.Places.{holds_at, indexed}
use Rattle.taps_group.proofs.Soundness.{sound_changed}
use Rattle.taps_group.proofs.group.Group.receive.Goals as goal

pub receive-requires-clause-given : goal.receive-requires-clause-given
receive-requires-clause-given g c = let may : MayReceive c.index_mut.result.now = holds_at c.args.self.now.members.items c.args.member c.index_mut.result.now MayReceive (indexed c.args.self.now.members.items c.args.member c.index_mut.result.now c.requires.member c.index_mut.ensures.value) c.requires.may in may.given

pub receive-requires-clause-sound : goal.receive-requires-clause-sound
receive-requires-clause-sound g c = (c.requires.sound.each _ _ (indexed _ _ _ c.requires.member c.index_mut.ensures.value)).receiving

pub returns-clause-received : goal.returns-clause-received
returns-clause-received g c =
    let m = c.index_mut.result.now in
    let e = c.receive.ensures in
    record {
      was = m;
      becomes = record m { connection = c.receive.new.self };
      at = indexed _ _ _ c.requires.member c.index_mut.ensures.value;
      changed = refl;
      by = record {
        given_out = e.given_out;
        represents = e.represents;
        decodes = e.decodes;
        wanting = e.wanting;
        ended = e.ended;
        kept = ap (λ k. record m { connection = k }) e.kept;
      };
    }

pub returns-clause-sound : goal.returns-clause-sound
returns-clause-sound g c =
    let m = c.index_mut.result.now in
    let k = c.receive.new.self in
    let e = c.receive.ensures in
    sound_changed _ c.args.self.now _ c.args.member m (record m { connection = k })
    (indexed _ _ _ c.requires.member c.index_mut.ensures.value) refl refl refl
    (λ h. resound_by _ _ _ m k m.connection.sender k.receiver e.kept h.sending e.sound (same_numbers m.connection.sender h.numbers) h)
    c.requires.sound
