use Rattle.taps_script.proofs.Named.{sender_named}
use Rattle.taps_script.proofs.Sends.{made}
use Rattle.taps_script.proofs.script_sockets.ScriptSocketsSockets.make_room.Goals as goal

pub find-requires : goal.find-requires
find-requires c = sender_named c.args.self.now.trace c.args.socket c.requires.may

pub make_room_at-requires : goal.make_room_at-requires
make_room_at-requires c = sender_named c.args.self.now.trace c.args.socket c.requires.may

pub returns-clause-net : goal.returns-clause-net
returns-clause-net c = (made c.args.self.now c.make_room_at.new.self c.args.socket c.args.bytes c.make_room_at.result c.find.ensures c.make_room_at.ensures.ok c.make_room_at.ensures.err).net

pub returns-clause-room : goal.returns-clause-room
returns-clause-room c = (made c.args.self.now c.make_room_at.new.self c.args.socket c.args.bytes c.make_room_at.result c.find.ensures c.make_room_at.ensures.ok c.make_room_at.ensures.err).room

pub returns-clause-kept : goal.returns-clause-kept
returns-clause-kept c = (made c.args.self.now c.make_room_at.new.self c.args.socket c.args.bytes c.make_room_at.result c.find.ensures c.make_room_at.ensures.ok c.make_room_at.ensures.err).kept

pub returns-clause-becomes : goal.returns-clause-becomes
returns-clause-becomes c = (made c.args.self.now c.make_room_at.new.self c.args.socket c.args.bytes c.make_room_at.result c.find.ensures c.make_room_at.ensures.ok c.make_room_at.ensures.err).becomes
