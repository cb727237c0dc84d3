use Rattle.std.proofs.Common.{◌≡◌, [], length, take, refl, ap, sym, ◌∙◌, subst, arith}
use Rattle.std.specs.Prelude.{max}
use Rattle.taps_socket.specs.declared.item.Item.TheVariants.{Ended}
use Rattle.taps_socket.specs.declared.answers.RecvAnswer.TheVariants as answer
use Rattle.taps_socket.specs.declared.timed_call.TimedKind.TheVariants as kind
use Rattle.taps_socket.specs.Calls.{receives}
use Rattle.taps_socket.specs.Net.{IsLater}
use Rattle.taps_memory.specs.MemorySteps.{received_call}
use Rattle.taps_memory.specs.Memory.{after_item, after_read, after_timed}
use Rattle.taps_memory.proofs.Named.{receiver_named}
use Rattle.taps_memory.proofs.Answered.{put, came_of, receive_is, receive_none}
use Rattle.taps_memory.proofs.Going.{goes_calm, read_net, read_state}
use Rattle.taps_memory.proofs.sockets.MemoryNetSockets.recv.Goals as goal

pub returns-then-held-gt0-clause-net : goal.returns-then-held-gt0-clause-net
returns-then-held-gt0-clause-net c =
    let a = c.args.self.now in
    let s = c.args.socket in
    let n = c.read-count.result in
    let p = put a s n c.held.result c.args.out.now c.read-count.new.out c.vouch_end.ensures.found c.requires.some c.if-held-gt0.true c.held.ensures c.read-count.ensures.count c.read-count.ensures.out in
    rw (c.read-count.ensures.net, c.time-at.ensures.told) (read_net a s n c.args.until (take n c.read-count.new.out) c.vouch_end.ensures.sound c.vouch_end.ensures.found c.vouch_end.ensures.stream (came_of a s n c.args.out.now c.read-count.new.out p))

pub returns-then-held-gt0-clause-answer : goal.returns-then-held-gt0-clause-answer
returns-then-held-gt0-clause-answer c =
    let p = put c.args.self.now c.args.socket c.read-count.result c.held.result c.args.out.now c.read-count.new.out c.vouch_end.ensures.found c.requires.some c.if-held-gt0.true c.held.ensures c.read-count.ensures.count c.read-count.ensures.out in
    let count = p.count_is in
    let some = p.some in
    (record { some = some; within = omega arith }, c.time-at.ensures.next)

pub returns-then-held-gt0-clause-becomes : goal.returns-then-held-gt0-clause-becomes
returns-then-held-gt0-clause-becomes c =
    let a = c.args.self.now in
    let s = c.args.socket in
    let n = c.read-count.result in
    let out = c.args.out.now in
    let came = take n c.read-count.new.out in
    let p = put a s n c.held.result out c.read-count.new.out c.vouch_end.ensures.found c.requires.some c.if-held-gt0.true c.held.ensures c.read-count.ensures.count c.read-count.ensures.out in
    let count = p.count_is in
    let some = p.some in
    let next : IsLater a.told a.told = subst (λ v. IsLater a.told v) c.time-at.ensures.told c.time-at.ensures.next in
    rw (c.read-count.ensures.net, c.time-at.ensures.told) (goes_calm a (after_read a s n) (receives s (length out) c.args.until came (answer.Got n a.told)) refl
    (read_net a s n c.args.until came c.vouch_end.ensures.sound c.vouch_end.ensures.found c.vouch_end.ensures.stream (came_of a s n out c.read-count.new.out p)) refl
    (record { may = c.requires.may; some = c.requires.some; datagram = c.requires.datagram; bounded = c.requires.until; answered = (record { some = some; within = omega arith }, next); got = p.size }) refl
    (receive_is a s n c.args.until out c.read-count.new.out p) (read_state a s (length out) n c.args.until came))

pub note-requires-clause-quiet : goal.note-requires-clause-quiet
note-requires-clause-quiet c = receiver_named c.args.self.now.trace c.args.socket c.requires.may

pub returns-then-is_over-clause-becomes : goal.returns-then-is_over-clause-becomes
returns-then-is_over-clause-becomes c =
    let a = c.args.self.now in
    let s = c.args.socket in
    let most = length c.args.out.now in
    let receipt = receive_none a s most c.held.result c.args.until c.is_over.result c.vouch_end.ensures.found (omega arith) c.held.ensures c.is_over.ensures in
    rw c.note.ensures (goes_calm a (after_item a (Ended s) a.told) (receives s most c.args.until [] answer.End) refl refl refl
    (record { may = c.requires.may; some = c.requires.some; datagram = c.requires.datagram; bounded = c.requires.until; answered = c.vouch_end.ensures.stream; got = refl }) refl
    (sym (ap (received_call s most c.args.until) (rw c.if-is_over.true at receipt))) refl)

pub returns-clause-becomes : goal.returns-clause-becomes
returns-clause-becomes c =
    let a = c.args.self.now in
    let s = c.args.socket in
    let most = length c.args.out.now in
    let until = c.args.until in
    let at = max a.told until in
    let e : c.max-at.result ≡ at = c.max-at.ensures ∙ ap (λ v. max v until) c.time-at.ensures.told in
    let next : IsLater a.told a.told = subst (λ v. IsLater a.told v) c.time-at.ensures.told c.time-at.ensures.next in
    let fits = next.fits in
    let bounded = c.requires.until in
    let receipt = receive_none a s most c.held.result until c.is_over.result c.vouch_end.ensures.found (omega arith) c.held.ensures c.is_over.ensures in
    rw (c.note_timed.ensures, e) (goes_calm a (after_timed a (record { kind = kind.Recv; socket = s; until = until; at = at })) (receives s most until [] (answer.Timed at)) refl refl refl
    (record { may = c.requires.may; some = c.requires.some; datagram = c.requires.datagram; bounded = bounded; answered = (omega arith, record { later = omega arith; fits = omega arith }); got = refl }) refl
    (sym (ap (received_call s most until) (rw c.if-is_over.false at receipt))) refl)
