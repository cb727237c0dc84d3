use Rattle.std.proofs.Common.{◌≡◌, ◌≤◌, ◌++◌, ◌∷◌, [], length, reverse, ap, sym, ◌∙◌, refl, subst, arith}
use Rattle.std.specs.Option.{option_to_list}
use Rattle.taps_socket.specs.declared.item.Item.TheVariants.{Started}
use Rattle.taps_socket.specs.RaceSockets.{started}
use Rattle.taps_script.specs.ScriptAnswers.{to_come, time_in}
use Rattle.taps_script.specs.ScriptLines.{fate_under}
use Rattle.taps_stack.specs.StackTable.{is_stream}
use Rattle.taps_script.specs.Channels.{fresh}
use Rattle.taps_script.proofs.Traffics.{started_view}
use Rattle.taps_script.proofs.ScriptKept.{kept_started, channels_started, newest}
use Rattle.taps_script.proofs.script_sockets.ScriptSockets.note_start.Goals as goal

pub returns : goal.returns
returns c =
    let s = c.self.inside in
    let moment : c.args.at ≡ s.clock = c.requires.moment ∙ sym (ap (λ v. v.clock) c.self.view_is) in
    let fated : c.to_come-event.result ≡ to_come (fate_under c.args.leaf s.script) c.args.socket s.clock = c.to_come-event.ensures ∙ ap (λ f. to_come f c.args.socket s.clock) c.fate.ensures in
    let time = c.time_in.ensures ∙ ap time_in fated ∙ ap (λ v. time_in (to_come (fate_under c.args.leaf s.script) c.args.socket v)) (sym moment) in
    let channel : c.new-channel.result ≡ fresh (is_stream c.args.target.stack) (time_in (to_come (fate_under c.args.leaf s.script) c.args.socket c.args.at)) = c.new-channel.ensures ∙ (ap (λ b. fresh b c.time_in.result) c.is_stream.ensures ∙ ap (fresh (is_stream c.args.target.stack)) time) in
    let more = c.add.ensures.items ∙ ap (λ d. s.channels.items ++ d ∷ []) channel in
    let first = newest s.items.items _ (Started c.args.leaf c.args.target c.args.socket c.args.at) c.add_copy.ensures.items in
    started_view _ s.script s.clock _ _ s.told s.spare s.faults s.channels.items _ s.timed s.last_timed c.args.leaf c.args.target c.args.socket c.args.at c.self.view_is moment first more

pub invariant_of-self : goal.invariant_of-self
invariant_of-self c =
    let s = c.self.inside in
    let t = reverse s.items.items in
    let number : c.args.socket ≡ s.started = c.requires.number ∙ sym (ap (λ v. length (started v.trace)) c.self.view_is) ∙ sym c.self.invariant.0.started_are in
    let moment : c.args.at ≡ s.clock = c.requires.moment ∙ sym (ap (λ v. v.clock) c.self.view_is) in
    let fated : c.to_come-event.result ≡ to_come (fate_under c.args.leaf s.script) c.args.socket s.clock = c.to_come-event.ensures ∙ ap (λ f. to_come f c.args.socket s.clock) c.fate.ensures in
    let event = c.add_event.ensures.events ∙ ap (λ o. s.events.items ++ option_to_list o) fated in
    let kept = kept_started s.script t s.clock s.told s.waits s.started _ c.args.leaf c.args.socket c.args.at c.args.target s.events.items _ c.self.invariant.0 number moment refl event in
    let time = c.time_in.ensures ∙ ap time_in fated ∙ ap (λ v. time_in (to_come (fate_under c.args.leaf s.script) c.args.socket v)) (sym moment) in
    let channels = channels_started s.script t s.started _ c.args.socket c.args.leaf c.args.at c.args.target s.channels.items _ _ _ _ c.self.invariant.1 number refl c.add.ensures.items c.new-channel.ensures c.is_stream.ensures time in
    let first = newest s.items.items _ (Started c.args.leaf c.args.target c.args.socket c.args.at) c.add_copy.ensures.items in
    let items = c.self.invariant.2.room in
    let events = c.self.invariant.3.room in
    let room = c.self.invariant.4.room in
    let spare : 1 ≤ s.spare = subst (λ v. 1 ≤ v.spare) (sym c.self.view_is) c.requires.room in
    (rw first kept, rw first channels, record { room = omega arith }, record { room = omega arith }, record { room = omega arith })
