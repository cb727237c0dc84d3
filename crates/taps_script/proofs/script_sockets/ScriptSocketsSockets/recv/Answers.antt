use Rattle.std.proofs.Common.{◌≡◌, ◌∷◌, [], length, ap, sym, ◌∙◌, subst}
use Rattle.std.specs.Prelude.{Some}
use Rattle.taps_socket.specs.Calls.{receives, came_in}
use Rattle.taps_script.specs.ScriptNet.{net_of, read_by, IsReadable, StaysScripted}
use Rattle.taps_script.proofs.Named.{receiver_named}
use Rattle.taps_script.proofs.ReceiveSteps.{may_receive_step, answer_may, receive_net, receive_goes}
use Rattle.taps_script.proofs.script_sockets.ScriptSocketsSockets.recv.Goals as goal

pub receive_step-clock-requires-clause-named : goal.receive_step-clock-requires-clause-named
receive_step-clock-requires-clause-named c = receiver_named c.args.self.now.trace c.args.socket c.requires.may

pub note_receive-requires-clause-named : goal.note_receive-requires-clause-named
note_receive-requires-clause-named c = receiver_named c.args.self.now.trace c.args.socket c.requires.may

pub note_receive-requires-clause-readable : goal.note_receive-requires-clause-readable
note_receive-requires-clause-readable c =
    let f = c.receive_step-clock.ensures.facts in
    λ channel at. (let same : f.channel ≡ channel = (let e : Some f.channel ≡ Some channel = sym f.there ∙ at in cc) in
    subst (λ d. IsReadable c.args.self.now.lines d (read_by d.stream c.receive_step-clock.result.1)) same f.readable)

pub note_receive-requires-clause-step : goal.note_receive-requires-clause-step
note_receive-requires-clause-step c =
    may_receive_step c.args.self.now c.args.socket (length c.args.out.now) c.args.until c.receive_step-clock.result.0 c.receive_step-clock.new.out c.receive_step-clock.result.1 c.receive_step-clock.ensures.facts

pub returns-clause-net : goal.returns-clause-net
returns-clause-net c =
    let f = c.receive_step-clock.ensures.facts in
    ap net_of (c.note_receive.ensures f.channel f.there) ∙ receive_net c.args.self.now c.args.socket (length c.args.out.now) c.args.until c.receive_step-clock.result.0 c.receive_step-clock.new.out c.receive_step-clock.result.1 f

pub returns-clause-answer : goal.returns-clause-answer
returns-clause-answer c =
    answer_may c.args.self.now c.args.socket (length c.args.out.now) c.args.until c.receive_step-clock.result.0 c.receive_step-clock.new.out c.receive_step-clock.result.1 c.receive_step-clock.ensures.length c.receive_step-clock.ensures.facts

pub returns-clause-becomes : goal.returns-clause-becomes
returns-clause-becomes c =
    let f = c.receive_step-clock.ensures.facts in
    let a = c.args.self.now in
    let most = length c.args.out.now in
    let out = c.receive_step-clock.new.out in
    let answer = c.receive_step-clock.result.1 in
    subst (λ n. StaysScripted a (receives c.args.socket most c.args.until (came_in out answer) answer ∷ []) n) (sym (c.note_receive.ensures f.channel f.there))
    (receive_goes a c.args.socket most c.args.until c.receive_step-clock.result.0 out answer f c.receive_step-clock.ensures.length c.receive_step-clock.ensures.answer c.requires.may c.requires.some c.requires.datagram c.requires.until)
