use Rattle.std.proofs.Common.{◌≡◌, ◌<◌, true, length, reverse, sym, refl, subst, arith}
use Rattle.taps_socket.specs.RaceSockets.{has}
use Rattle.taps_socket.specs.LiveSockets.{named}
use Rattle.taps_real.specs.Channels.{with_room_of}
use Rattle.taps_real.specs.Tables.{Table}
use Rattle.taps_real.proofs.Channels.{some_channel, channels_set}
use Rattle.taps_real.proofs.Answered.{IsRoomMade, room_in}
use Rattle.taps_real.proofs.socket_table.SocketTable.make_room.Goals as goal

within : (c : goal.After-room_at) → c.args.socket < length c.self.inside.channels.items
within c =
    let s = c.self.inside in
    let there : has (named (reverse s.items.items)) c.args.socket ≡ true = subst (λ v. has (named v.trace) c.args.socket ≡ true) (sym c.self.view_is) c.requires.named in
    let below = c.self.invariant.0.named_below c.args.socket there in
    let count = c.self.invariant.1.count_is in
    omega arith

pub invariant_of-self : goal.invariant_of-self
invariant_of-self c =
    let s = c.self.inside in
    let (channel, at) = some_channel s.channels.items c.args.socket (within c) in
    let channels = channels_set (reverse s.items.items) _ c.args.socket s.channels.items _ channel (with_room_of channel c.args.bytes) c.self.invariant.1 at (c.room_at.ensures.set channel at) refl in
    let same = c.room_at.ensures.same in
    let room = c.self.invariant.4.room in
    (c.self.invariant.0, channels, c.self.invariant.2, c.self.invariant.3, record { room = omega (arith, same.same_len, same.same_capacity) }, c.self.invariant.5, c.self.invariant.6)

abbrev table : goal.After-room_at → Table
table c =
    let s = c.self.inside in
    record { trace = reverse s.items.items; told = s.told; spare = s.spare; faults = s.faults; channels = c.room_at.new.channels.items; timed = s.timed; last_timed = s.last_timed }

made : (c : goal.After-room_at) → IsRoomMade c.args.self.now (table c) c.args.socket c.args.bytes
made c =
    let s = c.self.inside in
    let (channel, at) = some_channel s.channels.items c.args.socket (within c) in
    room_in _ _ c.room_at.new.channels.items channel c.args.socket c.args.bytes c.self.view_is at (within c) (c.room_at.ensures.set channel at)

pub returns-clause-net : goal.returns-clause-net
returns-clause-net c = (made c).net

pub returns-clause-room : goal.returns-clause-room
returns-clause-room c = (made c).room

pub returns-clause-kept : goal.returns-clause-kept
returns-clause-kept c = (made c).kept
