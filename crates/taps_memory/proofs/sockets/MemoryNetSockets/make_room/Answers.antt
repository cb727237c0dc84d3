use Rattle.taps_memory.proofs.Answered.{made}
use Rattle.taps_memory.proofs.sockets.MemoryNetSockets.make_room.Goals as goal

pub returns-clause-net : goal.returns-clause-net
returns-clause-net c = (made c.args.self.now c.make_room_on.new.self c.args.socket c.args.bytes c.make_room_on.result c.make_room_on.ensures.ok c.make_room_on.ensures.err c.vouch_end.ensures.sound c.vouch_end.ensures.found).net

pub returns-clause-room : goal.returns-clause-room
returns-clause-room c = (made c.args.self.now c.make_room_on.new.self c.args.socket c.args.bytes c.make_room_on.result c.make_room_on.ensures.ok c.make_room_on.ensures.err c.vouch_end.ensures.sound c.vouch_end.ensures.found).room

pub returns-clause-kept : goal.returns-clause-kept
returns-clause-kept c = (made c.args.self.now c.make_room_on.new.self c.args.socket c.args.bytes c.make_room_on.result c.make_room_on.ensures.ok c.make_room_on.ensures.err c.vouch_end.ensures.sound c.vouch_end.ensures.found).kept

pub returns-clause-becomes : goal.returns-clause-becomes
returns-clause-becomes c = (made c.args.self.now c.make_room_on.new.self c.args.socket c.args.bytes c.make_room_on.result c.make_room_on.ensures.ok c.make_room_on.ensures.err c.vouch_end.ensures.sound c.vouch_end.ensures.found).stays
