use Rattle.std.proofs.Common.{length}
use Rattle.taps_socket.specs.Shows.{IsLawfulSend}
use Rattle.taps_script.proofs.Named.{sender_named}
use Rattle.taps_script.proofs.Sends.{answered, sendable, sent}
use Rattle.taps_script.proofs.script_sockets.ScriptSocketsSockets.send.Goals as goal

pub find-requires : goal.find-requires
find-requires c = sender_named c.args.self.now.trace c.args.socket c.requires.may

pub send_step-step-requires-clause-named : goal.send_step-step-requires-clause-named
send_step-step-requires-clause-named c = sender_named c.args.self.now.trace c.args.socket c.requires.may

pub note_send-requires-clause-named : goal.note_send-requires-clause-named
note_send-requires-clause-named c = sender_named c.args.self.now.trace c.args.socket c.requires.may

pub note_send-requires-clause-sendable : goal.note_send-requires-clause-sendable
note_send-requires-clause-sendable c = sendable c.args.self.now c.args.socket (length c.args.bytes.now) c.find.ensures c.requires.room c.requires.some c.requires.datagram

pub returns-clause-net : goal.returns-clause-net
returns-clause-net c =
    let a = c.args.self.now in
    let x = c.send_step-step.result in
    let may = c.send_step-step.ensures.may in
    let lawful : IsLawfulSend c.args.socket c.args.bytes.now c.args.until x.answer a.trace a.told = record { may = c.requires.may; some = c.requires.some; datagram = c.requires.datagram; bounded = c.requires.until; answered = answered x.answer _ x.clock _ _ _ may.later may.fits may.answer } in
    (sent a c.note_send.new.self c.args.socket c.args.until c.args.bytes.now x c.find.ensures (c.note_send.ensures c.find.ensures.channel c.find.ensures.there) may c.send_step-step.ensures.answer lawful).net

pub returns-clause-becomes : goal.returns-clause-becomes
returns-clause-becomes c =
    let a = c.args.self.now in
    let x = c.send_step-step.result in
    let may = c.send_step-step.ensures.may in
    let lawful : IsLawfulSend c.args.socket c.args.bytes.now c.args.until x.answer a.trace a.told = record { may = c.requires.may; some = c.requires.some; datagram = c.requires.datagram; bounded = c.requires.until; answered = answered x.answer _ x.clock _ _ _ may.later may.fits may.answer } in
    (sent a c.note_send.new.self c.args.socket c.args.until c.args.bytes.now x c.find.ensures (c.note_send.ensures c.find.ensures.channel c.find.ensures.there) may c.send_step-step.ensures.answer lawful).becomes
