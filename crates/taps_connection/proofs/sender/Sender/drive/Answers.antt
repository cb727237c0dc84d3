use Rattle.std.proofs.Common.{◌∙◌, sym, ap, subst, ◌+◌, ◌++◌, ◌∷◌, [], ◌||◌}
use Rattle.std.specs.Prelude.{Some, None, Option}
use Rattle.taps_socket.specs.Sides.{carries_stream}
use Rattle.taps_socket.specs.Net.{Traffic}
use Rattle.taps_connection.specs.declared.sender.Begun.{Begun}
use Rattle.taps_connection.specs.declared.sender.Sender.{Sender}
use Rattle.taps_connection.specs.declared.sender.Pushed.TheVariants as pushed
use Rattle.taps_connection.specs.Senders.{IsDriven}
use Rattle.taps_connection.specs.Sound.{IsReady}
use Rattle.taps_connection.specs.Written.{Writes}
use Rattle.taps_connection.proofs.Driving.{timed, failed, sent}
use Rattle.taps_connection.proofs.Writings.{writes_whole, writes_more}
use Rattle.taps_connection.proofs.sender.Sender.drive.Goals as goal

pub returns-in-Whole-clause-driven : goal.returns-in-Whole-clause-driven
returns-in-Whole-clause-driven g c = λ e.
    let b = c.in-Some.begun in
    let p = rw (c.bytes.ensures, c.in-Whole.is) at c.push_rest-progress.ensures.pushed in
    let is = sym c.take.ensures.value ∙ c.in-Some.is in
    subst (λ (v : Sender). IsDriven g.N.Sockets.Becomes e c.args.net.now c.end_message.new.net c.args.socket c.args.until c.args.self.now (pushed.Sent b.number) v)
    (sym (c.end_message.ensures.sender ∙ ap (λ (o : Option Begun). record c.args.self.now { begun = o; sent = c.args.self.now.sent + 1; moment = c.push_rest-progress.result.moment; shut = c.args.self.now.shut || b.ends }) c.take.ensures.after))
    (sent g.N.Sockets.Becomes e _ _ _ c.args.socket c.args.until c.args.self.now b c.push_rest-progress.result.taken c.push_rest-progress.result.moment g.met.N.Sockets.becomes_on is p c.end_message.ensures.becomes)

pub returns-in-Timed-clause-driven : goal.returns-in-Timed-clause-driven
returns-in-Timed-clause-driven g c = λ e.
    let b = c.in-Some.begun in
    timed g.N.Sockets.Becomes e _ _ c.args.socket c.args.until c.args.self.now b c.at_place.result c.push_rest-progress.result.taken c.push_rest-progress.result.moment c.in-Timed.at (sym c.take.ensures.value ∙ c.in-Some.is) c.push_rest-progress.ensures.took.grew (rw (c.bytes.ensures, c.in-Timed.is) at c.push_rest-progress.ensures.pushed) c.at_place.ensures

pub returns-in-Failed-clause-driven : goal.returns-in-Failed-clause-driven
returns-in-Failed-clause-driven g c = λ e.
    let b = c.in-Some.begun in
    failed g.N.Sockets.Becomes e _ _ c.args.socket c.args.until c.args.self.now b c.at_place-in-Failed.result c.push_rest-progress.result.taken c.push_rest-progress.result.moment c.in-Failed.cause (sym c.take.ensures.value ∙ c.in-Some.is) c.push_rest-progress.ensures.took.grew (rw (c.bytes.ensures, c.in-Failed.is) at c.push_rest-progress.ensures.pushed) c.at_place-in-Failed.ensures

pub returns-in-Whole-clause-written : goal.returns-in-Whole-clause-written
returns-in-Whole-clause-written g c = λ e sent front w.
    let b = c.in-Some.begun in
    let net = g.N.Sockets.net in
    let stream = carries_stream (net c.args.net.now).trace c.args.socket in
    let is = sym c.take.ensures.value ∙ c.in-Some.is in
    let p = rw (c.bytes.ensures, c.in-Whole.is) at c.push_rest-progress.ensures.pushed in
    let all = p.ended.0 in
    let took = rw c.bytes.ensures at c.push_rest-progress.ensures.took in
    let ready : IsReady stream (Some b) = subst (IsReady stream) is c.requires.ready in
    let done = writes_whole e stream ((net c.args.net.now).traffic c.args.socket) ((net c.push_rest-progress.new.net).traffic c.args.socket) b c.push_rest-progress.result.taken c.args.self.now.sent all (λ q. (ready.1 q).1) took sent front
    (subst (λ (o : Option Begun). Writes e stream ((net c.args.net.now).traffic c.args.socket).written sent front c.args.self.now.sent o) is w) in
    subst (λ (v : Sender). Writes e stream ((net c.end_message.new.net).traffic c.args.socket).written (sent ++ front ∷ []) front v.sent v.begun) (sym c.end_message.ensures.sender)
    (subst (λ (o : Option Begun). Writes e stream ((net c.end_message.new.net).traffic c.args.socket).written (sent ++ front ∷ []) front (c.args.self.now.sent + 1) o) (sym c.take.ensures.after)
    (subst (λ (x : Traffic). Writes e stream x.written (sent ++ front ∷ []) front (c.args.self.now.sent + 1) None) (sym c.end_message.ensures.traffic) done))

pub returns-in-Timed-clause-written : goal.returns-in-Timed-clause-written
returns-in-Timed-clause-written g c = λ e sent front w.
    let b = c.in-Some.begun in
    let net = g.N.Sockets.net in
    let stream = carries_stream (net c.args.net.now).trace c.args.socket in
    let is = sym c.take.ensures.value ∙ c.in-Some.is in
    let took = rw c.bytes.ensures at c.push_rest-progress.ensures.took in
    writes_more e stream ((net c.args.net.now).traffic c.args.socket) ((net c.push_rest-progress.new.net).traffic c.args.socket) b c.at_place.result c.push_rest-progress.result.taken c.args.self.now.sent c.at_place.ensures took sent front
    (subst (λ (o : Option Begun). Writes e stream ((net c.args.net.now).traffic c.args.socket).written sent front c.args.self.now.sent o) is w)

pub returns-in-Failed-clause-written : goal.returns-in-Failed-clause-written
returns-in-Failed-clause-written g c = λ e sent front w.
    let b = c.in-Some.begun in
    let net = g.N.Sockets.net in
    let stream = carries_stream (net c.args.net.now).trace c.args.socket in
    let is = sym c.take.ensures.value ∙ c.in-Some.is in
    let took = rw c.bytes.ensures at c.push_rest-progress.ensures.took in
    writes_more e stream ((net c.args.net.now).traffic c.args.socket) ((net c.push_rest-progress.new.net).traffic c.args.socket) b c.at_place-in-Failed.result c.push_rest-progress.result.taken c.args.self.now.sent c.at_place-in-Failed.ensures took sent front
    (subst (λ (o : Option Begun). Writes e stream ((net c.args.net.now).traffic c.args.socket).written sent front c.args.self.now.sent o) is w)
