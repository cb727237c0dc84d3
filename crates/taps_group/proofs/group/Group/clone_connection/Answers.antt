use Rattle.std.proofs.Common.{subst, sym, ◌∙◌, ◌≡◌, ◌<◌, length, rules, refl, ap, arith}
use Rattle.taps_socket.specs.Net.{Net}
use Rattle.taps_socket.proofs.Added.{added_none, added_on}
use Rattle.taps_group.specs.Properties.{most_members}
use Rattle.taps_group.specs.declared.group.Group.{Group}
use Rattle.taps_group.proofs.Cloning.{cloned_by, cloned_sound}
use Rattle.taps_group.proofs.Opening.{cloned_open}
use Rattle.taps_group.specs.Closes.{MayClose, sockets_of}
use Rattle.taps_socket.specs.RaceSockets.{pending_sockets}
use Rattle.taps_group.proofs.Soundness.{sound_same}
use Rattle.taps_group.proofs.group.Group.clone_connection.Goals as goal

pub returns-then-len-limit-clause-becomes : goal.returns-then-len-limit-clause-becomes
returns-then-len-limit-clause-becomes g c = added_none g.N.Sockets.Becomes _ _ _ _ refl (g.met.N.Sockets.becomes_itself c.args.net.now)

pub returns-in-Ok-clause-cloned : goal.returns-in-Ok-clause-cloned
returns-in-Ok-clause-cloned g c =
    let count : c.len.result ≡ length c.args.self.now.members.items = search rules in
    let limit = c.limit-limit.ensures in
    let below : length c.args.self.now.members.items < most_members c.args.self.now.props = omega (arith, c.if-len-limit.false) in
    cloned_by _ c.args.leaf c.args.timeout (g.N.Sockets.net c.args.net.now) (g.N.Sockets.net c.reserve.new.net) (g.N.Sockets.net c.grow.new.net) c.args.self.now c.reserve.new.self c.grow.result c.grow.new.self below c.reserve.ensures.same c.reserve.ensures.not_raced c.grow.ensures.grown

pub returns-in-Ok-clause-becomes : goal.returns-in-Ok-clause-becomes
returns-in-Ok-clause-becomes g c = added_on g.N.Sockets.Becomes _ _ _ _ _ _ g.met.N.Sockets.becomes_on (added_none g.N.Sockets.Becomes _ _ _ _ (ap (λ (n : Net). n.trace) c.reserve.ensures.not_raced.same) c.reserve.ensures.becomes) c.grow.ensures.becomes

pub returns-in-Ok-clause-sound : goal.returns-in-Ok-clause-sound
returns-in-Ok-clause-sound g c = cloned_sound _ c.args.leaf c.args.timeout (g.N.Sockets.net c.args.net.now) (g.N.Sockets.net c.grow.new.net) c.args.self.now c.grow.result c.grow.new.self (returns-in-Ok-clause-cloned g c) c.requires.sound

pub returns-in-Err-clause-sound : goal.returns-in-Err-clause-sound
returns-in-Err-clause-sound g c = sound_same _ c.args.self.now c.reserve.new.self c.reserve.ensures.same.members (ap (λ (v : Group _ _). v.order.items) c.reserve.ensures.same.rest) (ap (λ (v : Group _ _). v.piece) c.reserve.ensures.same.rest) c.requires.sound

pub returns-in-Ok-clause-opened : goal.returns-in-Ok-clause-opened
returns-in-Ok-clause-opened g c = λ opened. cloned_open _ c.args.leaf c.args.timeout (g.N.Sockets.net c.args.net.now) (g.N.Sockets.net c.grow.new.net) c.args.self.now c.grow.result c.grow.new.self (returns-in-Ok-clause-cloned g c) opened

pub returns-in-Err-clause-opened : goal.returns-in-Err-clause-opened
returns-in-Err-clause-opened g c = λ opened. record {
  may_close = subst (λ (n : Net). MayClose n.trace (sockets_of c.reserve.new.self.members.items)) (sym c.reserve.ensures.not_raced.same) (subst (MayClose (g.N.Sockets.net c.args.net.now).trace) (sym (ap sockets_of c.reserve.ensures.same.members)) opened.may_close);
  idle = ap (λ (n : Net). pending_sockets n.trace) c.reserve.ensures.not_raced.same ∙ opened.idle;
}
