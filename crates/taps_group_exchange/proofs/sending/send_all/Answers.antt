use Rattle.std.proofs.Common.{ap, subst, ◌∙◌, arith, Ok}
use Rattle.taps_group.specs.Members.{standings}
use Rattle.taps_group.specs.Orders.{IsNextSender, NoneWaits}
use Rattle.taps_group_exchange.specs.GroupSendings.{IsToldBy}
use Rattle.taps_group_exchange.proofs.Counting.{count_few}
use Rattle.taps_group_exchange.proofs.SendLoop.{sent_all, same_size, named_within, may_send, waits_at, goes_sends, over_sends, cut_sends, goes_fewer, goes_talks, same_sockets, goes_spare, any_spare, over_not, cut_not}
use Rattle.taps_group_exchange.proofs.sending.send_all.Goals as goal

pub returns-in-None-clause-sent : goal.returns-in-None-clause-sent
returns-in-None-clause-sent g c =
    let i = c.sending.invariant in
    let none : NoneWaits (standings c.sending.group.members.items) = subst (IsNextSender c.sending.group.order.items (standings c.sending.group.members.items)) c.in-None.is c.next_sender.ensures in
    λ places untils standing. sent_all (λ vtable. (g.dyn-1.0.entry vtable).1) g.N.Sockets.Becomes c.args.net.now c.sending.net (g.N.Sockets.net c.args.net.now) (g.N.Sockets.net c.sending.net) places c.sending.group.members.items none (i.sends places untils standing)

pub returns-in-None-clause-spare : goal.returns-in-None-clause-spare
returns-in-None-clause-spare g c =
    let i = c.sending.invariant in
    let spare = i.spare in
    let few = count_few c.sending.group.members.items in
    let size = same_size c.args.group.now.members.items c.sending.group.members.items i.sockets in
    omega (arith, spare, few, size)

pub send_next-requires-clause-member : goal.send_next-requires-clause-member
send_next-requires-clause-member g c = named_within c.sending.group.members.items c.sending.group.order.items c.in-Some.place (subst (IsNextSender c.sending.group.order.items (standings c.sending.group.members.items)) c.in-Some.is c.next_sender.ensures)

pub send_next-requires-clause-may : goal.send_next-requires-clause-may
send_next-requires-clause-may g c =
    let i = c.sending.invariant in
    let spare = i.spare in
    let all = c.requires.spare in
    let few = count_few c.sending.group.members.items in
    let some = i.sound.some in
    let size = same_size c.args.group.now.members.items c.sending.group.members.items i.sockets in
    may_send (λ vtable. (g.dyn-1.0.entry vtable).1) (g.N.Sockets.net c.sending.net) c.args.until c.in-Some.place c.sending.group.members.items (named_within c.sending.group.members.items c.sending.group.order.items c.in-Some.place (subst (IsNextSender c.sending.group.order.items (standings c.sending.group.members.items)) c.in-Some.is c.next_sender.ensures)) c.requires.until (omega (arith, spare, all, few, some, size)) i.talk

pub send_next-requires-clause-waits : goal.send_next-requires-clause-waits
send_next-requires-clause-waits g c = waits_at c.sending.group.members.items c.sending.group.order.items c.in-Some.place (subst (IsNextSender c.sending.group.order.items (standings c.sending.group.members.items)) c.in-Some.is c.next_sender.ensures)

pub sending-smaller : goal.sending-smaller
sending-smaller g c =
    let d = c.send_next.ensures.driven in
    goes_fewer (λ vtable. (g.dyn-1.0.entry vtable).1) g.N.Sockets.Becomes c.args.net.now c.sending.net c.send_next.new.net (g.N.Sockets.net c.args.net.now) (g.N.Sockets.net c.sending.net) (g.N.Sockets.net c.send_next.new.net) c.sending.group c.send_next.new.group.members.items c.in-Some.place c.args.until g.met.N.Sockets.becomes_on (g.met.N.Sockets.shows c.sending.net c.send_next.new.net) c.sending.invariant.sound c.sending.invariant.opened (subst (IsNextSender c.sending.group.order.items (standings c.sending.group.members.items)) c.in-Some.is c.next_sender.ensures) c.sending.invariant.talk d.0 (subst (λ r. IsToldBy c.in-Some.place d.0 r) (c.in-Ok-Goes.is ∙ ap Ok c.in-Ok-Goes.field-0-is) d.1.0) d.1.1

pub sending-preserved : goal.sending-preserved
sending-preserved g c =
    let i = c.sending.invariant in
    let d = c.send_next.ensures.driven in
    let told = (subst (λ r. IsToldBy c.in-Some.place d.0 r) (c.in-Ok-Goes.is ∙ ap Ok c.in-Ok-Goes.field-0-is) d.1.0) in
    record {
      sound = c.send_next.ensures.sound;
      opened = c.send_next.ensures.opened i.opened;
      talk = goes_talks (λ vtable. (g.dyn-1.0.entry vtable).1) g.N.Sockets.Becomes c.args.net.now c.sending.net c.send_next.new.net (g.N.Sockets.net c.args.net.now) (g.N.Sockets.net c.sending.net) (g.N.Sockets.net c.send_next.new.net) c.sending.group c.send_next.new.group.members.items c.in-Some.place c.args.until g.met.N.Sockets.becomes_on (g.met.N.Sockets.shows c.sending.net c.send_next.new.net) c.sending.invariant.sound c.sending.invariant.opened (subst (IsNextSender c.sending.group.order.items (standings c.sending.group.members.items)) c.in-Some.is c.next_sender.ensures) c.sending.invariant.talk d.0 told d.1.1;
      sockets = same_sockets (λ vtable. (g.dyn-1.0.entry vtable).1) g.N.Sockets.Becomes c.args.net.now c.sending.net c.send_next.new.net (g.N.Sockets.net c.args.net.now) (g.N.Sockets.net c.sending.net) (g.N.Sockets.net c.send_next.new.net) c.sending.group c.send_next.new.group.members.items c.in-Some.place c.args.until g.met.N.Sockets.becomes_on (g.met.N.Sockets.shows c.sending.net c.send_next.new.net) c.sending.invariant.sound c.sending.invariant.opened (subst (IsNextSender c.sending.group.order.items (standings c.sending.group.members.items)) c.in-Some.is c.next_sender.ensures) c.sending.invariant.talk d.0 d.1.1 ∙ i.sockets;
      spare = goes_spare (λ vtable. (g.dyn-1.0.entry vtable).1) g.N.Sockets.Becomes c.args.net.now c.sending.net c.send_next.new.net (g.N.Sockets.net c.args.net.now) (g.N.Sockets.net c.sending.net) (g.N.Sockets.net c.send_next.new.net) c.sending.group c.send_next.new.group.members.items c.in-Some.place c.args.until g.met.N.Sockets.becomes_on (g.met.N.Sockets.shows c.sending.net c.send_next.new.net) c.sending.invariant.sound c.sending.invariant.opened (subst (IsNextSender c.sending.group.order.items (standings c.sending.group.members.items)) c.in-Some.is c.next_sender.ensures) c.sending.invariant.talk (g.N.Sockets.net c.args.net.now).spare d.0 told d.1.1 i.spare;
      sends = λ places untils standing. goes_sends (λ vtable. (g.dyn-1.0.entry vtable).1) g.N.Sockets.Becomes c.args.net.now c.sending.net c.send_next.new.net (g.N.Sockets.net c.args.net.now) (g.N.Sockets.net c.sending.net) (g.N.Sockets.net c.send_next.new.net) c.sending.group c.send_next.new.group.members.items c.in-Some.place c.args.until g.met.N.Sockets.becomes_on (g.met.N.Sockets.shows c.sending.net c.send_next.new.net) c.sending.invariant.sound c.sending.invariant.opened (subst (IsNextSender c.sending.group.order.items (standings c.sending.group.members.items)) c.in-Some.is c.next_sender.ensures) c.sending.invariant.talk places d.0 told untils d.1.1 (i.sends places untils standing);
    }

pub returns-in-Ok-Over-clause-sent : goal.returns-in-Ok-Over-clause-sent
returns-in-Ok-Over-clause-sent g c =
    let d = c.send_next.ensures.driven in
    λ places untils standing. over_sends (λ vtable. (g.dyn-1.0.entry vtable).1) g.N.Sockets.Becomes c.args.net.now c.sending.net c.send_next.new.net (g.N.Sockets.net c.args.net.now) (g.N.Sockets.net c.sending.net) (g.N.Sockets.net c.send_next.new.net) c.sending.group c.send_next.new.group.members.items c.in-Some.place c.args.until g.met.N.Sockets.becomes_on (g.met.N.Sockets.shows c.sending.net c.send_next.new.net) c.sending.invariant.sound c.sending.invariant.opened (subst (IsNextSender c.sending.group.order.items (standings c.sending.group.members.items)) c.in-Some.is c.next_sender.ensures) c.sending.invariant.talk places c.in-Ok-Over.outcome d.0 (subst (λ r. IsToldBy c.in-Some.place d.0 r) (c.in-Ok-Over.is ∙ ap Ok c.in-Ok-Over.field-0-is) d.1.0) untils d.1.1 (c.sending.invariant.sends places untils standing)

pub returns-in-Ok-Over-clause-sockets : goal.returns-in-Ok-Over-clause-sockets
returns-in-Ok-Over-clause-sockets g c =
    let d = c.send_next.ensures.driven in
    same_sockets (λ vtable. (g.dyn-1.0.entry vtable).1) g.N.Sockets.Becomes c.args.net.now c.sending.net c.send_next.new.net (g.N.Sockets.net c.args.net.now) (g.N.Sockets.net c.sending.net) (g.N.Sockets.net c.send_next.new.net) c.sending.group c.send_next.new.group.members.items c.in-Some.place c.args.until g.met.N.Sockets.becomes_on (g.met.N.Sockets.shows c.sending.net c.send_next.new.net) c.sending.invariant.sound c.sending.invariant.opened (subst (IsNextSender c.sending.group.order.items (standings c.sending.group.members.items)) c.in-Some.is c.next_sender.ensures) c.sending.invariant.talk d.0 d.1.1 ∙ c.sending.invariant.sockets

pub returns-in-Ok-Over-clause-spare : goal.returns-in-Ok-Over-clause-spare
returns-in-Ok-Over-clause-spare g c =
    let d = c.send_next.ensures.driven in
    let size = same_size c.args.group.now.members.items c.sending.group.members.items c.sending.invariant.sockets in
    let spare = any_spare (λ vtable. (g.dyn-1.0.entry vtable).1) g.N.Sockets.Becomes c.args.net.now c.sending.net c.send_next.new.net (g.N.Sockets.net c.args.net.now) (g.N.Sockets.net c.sending.net) (g.N.Sockets.net c.send_next.new.net) c.sending.group c.send_next.new.group.members.items c.in-Some.place c.args.until g.met.N.Sockets.becomes_on (g.met.N.Sockets.shows c.sending.net c.send_next.new.net) c.sending.invariant.sound c.sending.invariant.opened (subst (IsNextSender c.sending.group.order.items (standings c.sending.group.members.items)) c.in-Some.is c.next_sender.ensures) c.sending.invariant.talk (g.N.Sockets.net c.args.net.now).spare d.0 (over_not (λ vtable. (g.dyn-1.0.entry vtable).1) g.N.Sockets.Becomes c.args.net.now c.sending.net c.send_next.new.net (g.N.Sockets.net c.args.net.now) (g.N.Sockets.net c.sending.net) (g.N.Sockets.net c.send_next.new.net) c.sending.group c.send_next.new.group.members.items c.in-Some.place c.args.until g.met.N.Sockets.becomes_on (g.met.N.Sockets.shows c.sending.net c.send_next.new.net) c.sending.invariant.sound c.sending.invariant.opened (subst (IsNextSender c.sending.group.order.items (standings c.sending.group.members.items)) c.in-Some.is c.next_sender.ensures) c.sending.invariant.talk c.in-Ok-Over.outcome d.0 (subst (λ r. IsToldBy c.in-Some.place d.0 r) (c.in-Ok-Over.is ∙ ap Ok c.in-Ok-Over.field-0-is) d.1.0)) d.1.1 c.sending.invariant.spare in
    omega (arith, size, spare)

pub returns-in-Err-clause-sent : goal.returns-in-Err-clause-sent
returns-in-Err-clause-sent g c =
    let d = c.send_next.ensures.driven in
    λ places untils standing. cut_sends (λ vtable. (g.dyn-1.0.entry vtable).1) g.N.Sockets.Becomes c.args.net.now c.sending.net c.send_next.new.net (g.N.Sockets.net c.args.net.now) (g.N.Sockets.net c.sending.net) (g.N.Sockets.net c.send_next.new.net) c.sending.group c.send_next.new.group.members.items c.in-Some.place c.args.until g.met.N.Sockets.becomes_on (g.met.N.Sockets.shows c.sending.net c.send_next.new.net) c.sending.invariant.sound c.sending.invariant.opened (subst (IsNextSender c.sending.group.order.items (standings c.sending.group.members.items)) c.in-Some.is c.next_sender.ensures) c.sending.invariant.talk places c.in-Err.none d.0 (subst (λ r. IsToldBy c.in-Some.place d.0 r) c.in-Err.is d.1.0) untils d.1.1 (c.sending.invariant.sends places untils standing)

pub returns-in-Err-clause-sockets : goal.returns-in-Err-clause-sockets
returns-in-Err-clause-sockets g c =
    let d = c.send_next.ensures.driven in
    same_sockets (λ vtable. (g.dyn-1.0.entry vtable).1) g.N.Sockets.Becomes c.args.net.now c.sending.net c.send_next.new.net (g.N.Sockets.net c.args.net.now) (g.N.Sockets.net c.sending.net) (g.N.Sockets.net c.send_next.new.net) c.sending.group c.send_next.new.group.members.items c.in-Some.place c.args.until g.met.N.Sockets.becomes_on (g.met.N.Sockets.shows c.sending.net c.send_next.new.net) c.sending.invariant.sound c.sending.invariant.opened (subst (IsNextSender c.sending.group.order.items (standings c.sending.group.members.items)) c.in-Some.is c.next_sender.ensures) c.sending.invariant.talk d.0 d.1.1 ∙ c.sending.invariant.sockets

pub returns-in-Err-clause-spare : goal.returns-in-Err-clause-spare
returns-in-Err-clause-spare g c =
    let d = c.send_next.ensures.driven in
    let size = same_size c.args.group.now.members.items c.sending.group.members.items c.sending.invariant.sockets in
    let spare = any_spare (λ vtable. (g.dyn-1.0.entry vtable).1) g.N.Sockets.Becomes c.args.net.now c.sending.net c.send_next.new.net (g.N.Sockets.net c.args.net.now) (g.N.Sockets.net c.sending.net) (g.N.Sockets.net c.send_next.new.net) c.sending.group c.send_next.new.group.members.items c.in-Some.place c.args.until g.met.N.Sockets.becomes_on (g.met.N.Sockets.shows c.sending.net c.send_next.new.net) c.sending.invariant.sound c.sending.invariant.opened (subst (IsNextSender c.sending.group.order.items (standings c.sending.group.members.items)) c.in-Some.is c.next_sender.ensures) c.sending.invariant.talk (g.N.Sockets.net c.args.net.now).spare d.0 (cut_not (λ vtable. (g.dyn-1.0.entry vtable).1) g.N.Sockets.Becomes c.args.net.now c.sending.net c.send_next.new.net (g.N.Sockets.net c.args.net.now) (g.N.Sockets.net c.sending.net) (g.N.Sockets.net c.send_next.new.net) c.sending.group c.send_next.new.group.members.items c.in-Some.place c.args.until g.met.N.Sockets.becomes_on (g.met.N.Sockets.shows c.sending.net c.send_next.new.net) c.sending.invariant.sound c.sending.invariant.opened (subst (IsNextSender c.sending.group.order.items (standings c.sending.group.members.items)) c.in-Some.is c.next_sender.ensures) c.sending.invariant.talk c.in-Err.none d.0 (subst (λ r. IsToldBy c.in-Some.place d.0 r) c.in-Err.is d.1.0)) d.1.1 c.sending.invariant.spare in
    omega (arith, size, spare)
