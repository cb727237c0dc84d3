use Rattle.std.proofs.Common.{length, take, refl, ap, sym, subst, arith, length-take}
use Rattle.taps_socket.specs.declared.answers.SendAnswer.TheVariants as answer
use Rattle.taps_socket.specs.Calls.{sends}
use Rattle.taps_socket.specs.Net.{IsSendAnswer}
use Rattle.taps_memory.specs.Pairs.{first_of, has_end}
use Rattle.taps_memory.specs.Memory.{state_of, after_sent}
use Rattle.taps_memory.proofs.Named.{sender_named}
use Rattle.taps_memory.proofs.Answered.{first_room, sent_time}
use Rattle.taps_memory.proofs.Going.{goes_calm, sent_net, sent_state}
use Rattle.taps_memory.proofs.sockets.MemoryNetSockets.send.Goals as goal

pub write-requires-clause-room : goal.write-requires-clause-room
write-requires-clause-room c = (let l = length-take c.in-Sent.count c.args.bytes.now in let h = c.requires.room in first_room c.args.self.now.links c.args.socket (length (take c.in-Sent.count c.args.bytes.now)) (omega arith))

pub note_failed-requires-clause-named : goal.note_failed-requires-clause-named
note_failed-requires-clause-named c = sender_named c.args.self.now.trace c.args.socket c.requires.may

pub returns-in-Sent-clause-net : goal.returns-in-Sent-clause-net
returns-in-Sent-clause-net c =
    let a = c.args.self.now in
    let count = c.in-Sent.ensures.may.0 in
    let time = sent_time (first_of (λ p. has_end p c.args.socket) (state_of a).pairs) c.args.socket (length c.args.bytes.now) a.told c.args.until c.in-Sent.count c.in-Sent.at (sym c.in-Sent.ensures.answer) in
    rw (c.write.ensures, time) (sent_net a c.args.socket c.in-Sent.count c.args.until c.args.bytes.now c.vouch_end.ensures.sound c.vouch_end.ensures.found c.vouch_end.ensures.stream count.some count.within)

pub returns-in-Sent-clause-becomes : goal.returns-in-Sent-clause-becomes
returns-in-Sent-clause-becomes c =
    let a = c.args.self.now in
    let s = c.args.socket in
    let n = c.in-Sent.count in
    let bytes = c.args.bytes.now in
    let count = c.in-Sent.ensures.may.0 in
    let time = sent_time (first_of (λ p. has_end p s) (state_of a).pairs) s (length bytes) a.told c.args.until n c.in-Sent.at (sym c.in-Sent.ensures.answer) in
    let is = c.in-Sent.ensures.answer in
    let may = subst (λ b. IsSendAnswer (answer.Sent n c.in-Sent.at) b (length bytes) c.args.until a.told) (sym c.vouch_end.ensures.stream) c.in-Sent.ensures.may in
    rw (c.write.ensures, time) (goes_calm a (after_sent a s (take n bytes)) (sends s bytes c.args.until (answer.Sent n a.told)) refl
    (sent_net a s n c.args.until bytes c.vouch_end.ensures.sound c.vouch_end.ensures.found c.vouch_end.ensures.stream count.some count.within) refl
    (record { may = c.requires.may; some = c.requires.some; datagram = c.requires.datagram; bounded = c.requires.until; answered = rw time at may }) refl
    (ap (sends s bytes c.args.until) (rw time at is)) (sent_state a s n c.args.until bytes))
