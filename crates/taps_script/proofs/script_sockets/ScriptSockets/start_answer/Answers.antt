use Rattle.std.proofs.Common.{◌≡◌, ◌<◌, ℕ, true, length, ap, ◌∙◌, subst}
use Rattle.taps_socket.specs.RaceSockets.{has}
use Rattle.taps_socket.specs.LiveSockets.{named}
use Rattle.taps_script.proofs.Traffics.{new_socket}
use Rattle.taps_script.proofs.script_sockets.ScriptSockets.start_answer.Goals as goal

pub returns-in-Completes-clause-socket : goal.returns-in-Completes-clause-socket
returns-in-Completes-clause-socket c =
    let s = c.self.inside in
    let below : (x : ℕ) → has (named c.args.self.now.trace) x ≡ true → x < s.started = subst (λ v. (x : ℕ) → has (named v.trace) x ≡ true → x < s.started) c.self.view_is c.self.invariant.0.named_below in
    let count : s.started ≡ length c.args.self.now.channels = c.self.invariant.1.count ∙ ap (λ v. length v.channels) c.self.view_is in
    new_socket c.args.self.now s.started below count
