use Rattle.std.proofs.Common.{◌≡◌, reverse, ap, sym, ◌∙◌, subst, length}
use Rattle.taps_socket.specs.Sides.{carries_stream}
use Rattle.taps_script.specs.DataAnswers.{received, receive_step}
use Rattle.taps_script.specs.Channels.{link_of}
use Rattle.taps_script.specs.ScriptNet.{link_at}
use Rattle.taps_script.specs.ReceiveFacts.{IsReceived, ReceivesOn}
use Rattle.taps_script.proofs.Steps.{is_received}
use Rattle.taps_script.proofs.ReceiveSteps.{receives_on}
use Rattle.taps_script.proofs.Traffics.{linked}
use Rattle.taps_script.proofs.script_sockets.ScriptSockets.receive_step.Goals as goal

pub receive_step-requires-clause-done : goal.receive_step-requires-clause-done
receive_step-requires-clause-done c = (c.self.invariant.1.each c.args.socket c.channel_at-channel.result.now c.channel_at-channel.ensures).fits

pub receive_step-requires-clause-room : goal.receive_step-requires-clause-room
receive_step-requires-clause-room c =
    let is = c.self.invariant.1.each c.args.socket c.channel_at-channel.result.now c.channel_at-channel.ensures in
    λ e. c.requires.room (sym (ap (λ v. carries_stream v.trace c.args.socket) c.self.view_is) ∙ sym is.stream ∙ e)

pub returns-clause-answer : goal.returns-clause-answer
returns-clause-answer c =
    let s = c.self.inside in
    let channel = c.channel_at-channel.result.now in
    let is = c.self.invariant.1.each c.args.socket channel c.channel_at-channel.ensures in
    let most = length c.args.out.now in
    let until = c.args.until in
    let here = c.receive_step.ensures.answer
    ∙ ap (λ l. receive_step l (link_of l channel) s.clock most until) c.lines.ensures.lines
    ∙ ap (λ k. receive_step s.script k s.clock most until) (linked s.script (reverse s.items.items) s.channels.items c.args.socket channel c.channel_at-channel.ensures is) in
    subst (λ v. received c.receive_step.result.0 c.receive_step.new.out c.receive_step.result.1 ≡ receive_step v.lines (link_at v c.args.socket) v.clock most until) c.self.view_is here

pub returns-clause-facts : goal.returns-clause-facts
returns-clause-facts c =
    let s = c.self.inside in
    let channel = c.channel_at-channel.result.now in
    let there = c.channel_at-channel.ensures in
    let is = c.self.invariant.1.each c.args.socket channel there in
    let k = c.self.invariant.0 in
    let most = length c.args.out.now in
    let until = c.args.until in
    let step = received c.receive_step.result.0 c.receive_step.new.out c.receive_step.result.1 in
    let here : step ≡ receive_step s.script (link_of s.script channel) s.clock most until = c.receive_step.ensures.answer ∙ ap (λ l. receive_step l (link_of l channel) s.clock most until) c.lines.ensures.lines in
    let got : IsReceived s.script (link_of s.script channel) s.clock most until step = subst (IsReceived s.script (link_of s.script channel) s.clock most until) (sym here) (is_received s.script (link_of s.script channel) s.clock most until k.fits c.requires.until) in
    let readable = receives_on s.script channel most until s.clock step c.lines.ensures.fit c.lines.ensures.few c.read.ensures.few is.within got in
    subst (λ v. ReceivesOn v c.args.socket most until step) c.self.view_is (record {
      channel = channel;
      there = there;
      is_channel = is;
      told_before = k.told_before;
      received = subst (λ l. IsReceived s.script l s.clock most until step) (linked s.script (reverse s.items.items) s.channels.items c.args.socket channel there is) got;
      readable = readable;
    })
