use Rattle.std.proofs.Common.{◌≡◌, reverse, ap, sym, ◌∙◌, subst}
use Rattle.taps_script.specs.DataAnswers.{send_step}
use Rattle.taps_script.specs.Channels.{link_of}
use Rattle.taps_script.specs.ScriptNet.{link_at, IsSendStep}
use Rattle.taps_socket.specs.Sides.{carries_stream}
use Rattle.taps_script.specs.ScriptTexts.{LinesFit}
use Rattle.taps_script.proofs.Steps.{may_send_step}
use Rattle.taps_script.proofs.Traffics.{linked}
use Rattle.taps_script.proofs.script_sockets.ScriptSockets.send_step.Goals as goal

pub send_step-requires : goal.send_step-requires
send_step-requires c = (c.self.invariant.1.each c.args.socket c.channel_at-channel.result.now c.channel_at-channel.ensures).fits

pub returns-clause-answer : goal.returns-clause-answer
returns-clause-answer c =
    let s = c.self.inside in
    let channel = c.channel_at-channel.result.now in
    let is = c.self.invariant.1.each c.args.socket channel c.channel_at-channel.ensures in
    let here = c.send_step.ensures
    ∙ ap (λ l. send_step l (link_of l channel) s.clock c.args.count c.args.until) c.lines.ensures.lines
    ∙ ap (λ k. send_step s.script k s.clock c.args.count c.args.until) (linked s.script (reverse s.items.items) s.channels.items c.args.socket channel c.channel_at-channel.ensures is) in
    subst (λ v. c.send_step.result ≡ send_step v.lines (link_at v c.args.socket) v.clock c.args.count c.args.until) c.self.view_is here

pub returns-clause-may : goal.returns-clause-may
returns-clause-may c =
    let s = c.self.inside in
    let channel = c.channel_at-channel.result.now in
    let is = c.self.invariant.1.each c.args.socket channel c.channel_at-channel.ensures in
    let fit : LinesFit s.script = c.lines.ensures.fit in
    let k = c.self.invariant.0 in
    let step = may_send_step s.script (link_of s.script channel) s.clock c.args.count c.args.until s.told fit k.told_before k.fits c.requires.until c.requires.some in
    let here = c.send_step.ensures ∙ ap (λ l. send_step l (link_of l channel) s.clock c.args.count c.args.until) c.lines.ensures.lines in
    let streams : channel.stream ≡ carries_stream c.args.self.now.trace c.args.socket = is.stream ∙ ap (λ v. carries_stream v.trace c.args.socket) c.self.view_is in
    let told : s.told ≡ c.args.self.now.told = ap (λ v. v.told) c.self.view_is in
    subst (λ r. IsSendStep r (carries_stream c.args.self.now.trace c.args.socket) c.args.count c.args.until c.args.self.now.told) (sym here)
    (subst (λ b. IsSendStep (send_step s.script (link_of s.script channel) s.clock c.args.count c.args.until) b c.args.count c.args.until c.args.self.now.told) streams
    (subst (IsSendStep (send_step s.script (link_of s.script channel) s.clock c.args.count c.args.until) channel.stream c.args.count c.args.until) told step))
