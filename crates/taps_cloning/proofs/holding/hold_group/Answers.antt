use Rattle.std.proofs.Common.{◌≡◌, [], refl, ap, arith}
use Rattle.taps_socket.specs.Net.{Net}
use Rattle.taps_cloning.specs.GroupRules.{terms_of}
use Rattle.taps_cloning.proofs.Holds.{seen}
use Rattle.taps_cloning.proofs.Recorders.{regroup, reopen, has_held_since, same_but_spare}
use Rattle.taps_cloning.proofs.Sessions.{held_none}
use Rattle.taps_cloning.proofs.holding.hold_group.Goals as goal

pub hold_founded-requires-clause-sound : goal.hold_founded-requires-clause-sound
hold_founded-requires-clause-sound g c = (c.in-Ok.ensures c.args.priorities.now c.args.messages.items).sound

pub hold_founded-requires-clause-opened : goal.hold_founded-requires-clause-opened
hold_founded-requires-clause-opened g c = reopen (seen g.N.Sockets.net c.found_group.new.net) (g.N.Sockets.net c.found_group.new.net.net) c.in-Ok.group.members.items refl (c.in-Ok.ensures c.args.priorities.now c.args.messages.items).opened

pub hold_founded-requires-clause-spare : goal.hold_founded-requires-clause-spare
hold_founded-requires-clause-spare g c =
    let same : c.found_group.new.net.spare ≡ c.args.net.now.spare = ap (λ (v : Net). v.spare) (c.in-Ok.ensures c.args.priorities.now c.args.messages.items).no_call in
    let spare = c.requires.spare in
    omega (arith, same, spare)

pub hold_founded-requires-clause-founded : goal.hold_founded-requires-clause-founded
hold_founded-requires-clause-founded g c = record {
  layers = _;
  first = c.args.socket;
  group = regroup _ (terms_of c.args.terms _ c.args.priorities.now c.args.messages.items) c.args.socket (seen g.N.Sockets.net c.found_group.new.net) (g.N.Sockets.net c.found_group.new.net.net) [] c.in-Ok.group refl refl (c.in-Ok.ensures c.args.priorities.now c.args.messages.items).group;
}

pub returns-in-Ok : goal.returns-in-Ok
returns-in-Ok g c =
    let founded = c.in-Ok.ensures c.args.priorities.now c.args.messages.items in
    let terms = terms_of c.args.terms _ c.args.priorities.now c.args.messages.items in
    has_held_since g.N.Sockets.Becomes c.args.net.now.net c.found_group.new.net.net c.hold_founded.new.net.net (g.N.Sockets.net c.args.net.now.net) (g.N.Sockets.net c.found_group.new.net.net) (g.N.Sockets.net c.hold_founded.new.net.net) terms c.args.socket c.hold_founded.result
    g.met.N.Sockets.becomes_on founded.becomes.becomes (same_but_spare (g.N.Sockets.net c.args.net.now.net) (g.N.Sockets.net c.found_group.new.net.net) c.args.net.now.spare c.found_group.new.net.spare founded.no_call)
    (c.hold_founded.ensures _ c.args.socket (regroup _ terms c.args.socket (seen g.N.Sockets.net c.found_group.new.net) (g.N.Sockets.net c.found_group.new.net.net) [] c.in-Ok.group refl refl founded.group))

pub returns-in-Err : goal.returns-in-Err
returns-in-Err g c = held_none g.N.Sockets.Becomes c.args.net.now.net c.found_group.new.net.net (g.N.Sockets.net c.args.net.now.net) (terms_of c.args.terms _ c.args.priorities.now c.args.messages.items) c.args.socket (c.in-Err.ensures c.args.priorities.now c.args.messages.items).becomes.becomes
