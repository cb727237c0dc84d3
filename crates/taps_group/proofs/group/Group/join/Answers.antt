use Rattle.std.proofs.Common.{◌≡◌, length, rules, refl, ap}
use Rattle.taps_socket.specs.Calls as call
use Rattle.taps_socket.proofs.Added.{added_none, added_one}
use Rattle.taps_group.proofs.group.Group.join.Goals as goal

pub returns-in-Ok-clause-joined : goal.returns-in-Ok-clause-joined
returns-in-Ok-clause-joined g c =
    let count : c.len-place.result ≡ length c.args.self.now.members.items = search rules in (
      record {
        member = c.in-Ok.member;
        clone = c.in-Ok.ensures;
        place_is = count;
        members = c.add.ensures.members;
        rest = c.add.ensures.rest;
      },
      refl,
    )

pub returns-in-Ok-clause-becomes : goal.returns-in-Ok-clause-becomes
returns-in-Ok-clause-becomes g c = added_none g.N.Sockets.Becomes _ _ _ _ refl (g.met.N.Sockets.becomes_itself c.args.net.now)

pub returns-in-Err-clause-becomes : goal.returns-in-Err-clause-becomes
returns-in-Err-clause-becomes g c = added_one g.N.Sockets.Becomes _ _ _ _ (call.closes c.args.socket) _ refl (ap (λ n. n.trace) c.close_again.ensures.net) c.close_again.ensures.becomes
