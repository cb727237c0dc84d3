use Rattle.std.proofs.Common.{◌≡◌, ◌≤◌, length, ap, sym, subst, arith}
use Rattle.std.proofs.lemmas.List.{length-map}
use Rattle.std.specs.Vec.Iter.{into_iter_items}
use Rattle.taps_group.specs.declared.member.Member.{Member}
use Rattle.taps_group.specs.Closes.{sockets_of}
use Rattle.taps_group.proofs.Closing.{closing_begins, closing_on, first_of, IsClosing}
use Rattle.taps_group.proofs.closes.close_all.Goals as goal

pub loop-member-init : goal.loop-member-init
loop-member-init g c =
    let size : length (sockets_of c.args.members.items) ≡ length c.args.members.items = length-map c.args.members.items (λ (m : Member _ _). m.connection.socket) in
    let spare = c.requires.spare in
    let fits : length (sockets_of c.args.members.items) ≤ (g.N.Sockets.net c.args.net.now).spare = omega arith in
    subst (IsClosing g.N.Sockets.Becomes c.args.net.now c.args.net.now (g.N.Sockets.net c.args.net.now) (g.N.Sockets.net c.args.net.now) (sockets_of c.args.members.items)) (ap sockets_of (sym c.into_iter-rest.ensures.rest))
    (closing_begins g.N.Sockets.Becomes c.args.net.now (g.N.Sockets.net c.args.net.now) (sockets_of c.args.members.items) (g.met.N.Sockets.becomes_itself c.args.net.now) c.requires.may fits)

pub close-requires-clause-live : goal.close-requires-clause-live
close-requires-clause-live g c = (first_of g.N.Sockets.Becomes c.args.net.now c.loop-member.net (g.N.Sockets.net c.args.net.now) (g.N.Sockets.net c.loop-member.net) (sockets_of c.args.members.items) _ _ c.in-Some.member.connection.socket (ap sockets_of c.in-Some.ensures.items) c.loop-member.invariant).0

pub close-requires-clause-spare : goal.close-requires-clause-spare
close-requires-clause-spare g c = (first_of g.N.Sockets.Becomes c.args.net.now c.loop-member.net (g.N.Sockets.net c.args.net.now) (g.N.Sockets.net c.loop-member.net) (sockets_of c.args.members.items) _ _ c.in-Some.member.connection.socket (ap sockets_of c.in-Some.ensures.items) c.loop-member.invariant).1

pub loop-member-preserved : goal.loop-member-preserved
loop-member-preserved g c =
    closing_on g.N.Sockets.Becomes c.args.net.now c.loop-member.net c.close.new.net (g.N.Sockets.net c.args.net.now) (g.N.Sockets.net c.loop-member.net) (g.N.Sockets.net c.close.new.net) (sockets_of c.args.members.items) (sockets_of (into_iter_items c.next.new.self)) c.in-Some.member.connection.socket
    g.met.N.Sockets.becomes_on c.close.ensures.net c.close.ensures.becomes
    (subst (IsClosing g.N.Sockets.Becomes c.args.net.now c.loop-member.net (g.N.Sockets.net c.args.net.now) (g.N.Sockets.net c.loop-member.net) (sockets_of c.args.members.items)) (ap sockets_of c.in-Some.ensures.items) c.loop-member.invariant)
