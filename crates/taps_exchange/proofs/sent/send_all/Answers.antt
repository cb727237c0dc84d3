use Rattle.std.proofs.Common.{◌≡◌, ◌≤◌, refl, sym, ap, subst, ◌∙◌, arith}
use Rattle.taps_stack.specs.StackTable.{is_stream}
use Rattle.taps_chain.specs.Layers.{layers_of}
use Rattle.taps_connection.specs.declared.sender.Pushed.TheVariants as pushed
use Rattle.taps_connection.specs.Conditions.{IsHeld}
use Rattle.taps_connection.specs.Encodings.{encoding_of}
use Rattle.taps_connection.specs.Senders.{rest_of}
use Rattle.taps_connection.specs.Sound.{IsSound}
use Rattle.taps_exchange.proofs.Behind.{unchanged}
use Rattle.taps_exchange.proofs.SendingAll.{sends_none, sent_more, expired_more, empty_ends, timed_ends, failed_ends, refused_ends, memory_ends, sent_open, stopped_open, sent_fewer, expired_fewer, turned, kept_on, open_changes, quiet_changes, same_spare, none_sent}
use Rattle.taps_exchange.proofs.sent.send_all.Goals as goal

pub sending-init : goal.sending-init
sending-init g c =
    let r = c.requires in
    let b = c.args.connection.now in
    record {
      sends = sends_none g.N.Sockets.Becomes (encoding_of (is_stream b.stack) (layers_of (λ vtable. (g.dyn-1.0.entry vtable).1) b.chain)) c.args.net.now b.socket c.args.until b.sender (g.met.N.Sockets.becomes_itself c.args.net.now);
      changes = unchanged b.socket 1 (g.N.Sockets.net c.args.net.now);
      still_open = λ e. refl;
      sound = r.sound;
      held = r.held;
      room = r.room;
      kept = refl;
    }

pub drive_out-requires-clause-sound : goal.drive_out-requires-clause-sound
drive_out-requires-clause-sound g c = (let i = c.sending.invariant in subst (λ x. IsSound (is_stream x.stack) (layers_of (λ vtable. (g.dyn-1.0.entry vtable).1) x.chain) x.sender) (sym i.kept) i.sound)

pub drive_out-requires-clause-held : goal.drive_out-requires-clause-held
drive_out-requires-clause-held g c = (let i = c.sending.invariant in subst (λ x. IsHeld (g.N.Sockets.net c.sending.net).trace x.socket (is_stream x.stack) x.sender.shut x.receiver.ended) (sym i.kept) i.held)

pub drive_out-requires-clause-room : goal.drive_out-requires-clause-room
drive_out-requires-clause-room g c = (let i = c.sending.invariant in subst (λ x. rest_of x.sender ≤ ((g.N.Sockets.net c.sending.net).traffic x.socket).room) (sym i.kept) i.room)

pub drive_out-requires-clause-spare : goal.drive_out-requires-clause-spare
drive_out-requires-clause-spare g c = (let k = c.sending.invariant.changes in let few = k.few in let spare = k.spare in let all = c.requires.spare in omega (arith, few, spare, all))

pub drive_out-requires-clause-until : goal.drive_out-requires-clause-until
drive_out-requires-clause-until g c = c.requires.until

pub sending-smaller-in-Sent : goal.sending-smaller-in-Sent
sending-smaller-in-Sent g c = (let d = c.in-Sent.ensures.driven in sent_fewer (encoding_of (is_stream c.sending.connection.stack) (layers_of (λ vtable. (g.dyn-1.0.entry vtable).1) c.sending.connection.chain)) c.sending.connection.socket c.args.until c.sending.connection.sender c.in-Sent.field-0 d.calls c.drive_out.new.self.sender d.pushed_by)

pub sending-smaller : goal.sending-smaller
sending-smaller g c = (let d = c.in-Expired.ensures.driven in expired_fewer (encoding_of (is_stream c.sending.connection.stack) (layers_of (λ vtable. (g.dyn-1.0.entry vtable).1) c.sending.connection.chain)) c.sending.connection.socket c.args.until c.sending.connection.sender c.in-Expired.field-0 d.calls c.drive_out.new.self.sender d.pushed_by)

pub sending-preserved-in-Sent : goal.sending-preserved-in-Sent
sending-preserved-in-Sent g c =
    let i = c.sending.invariant in
    let e = c.in-Sent.ensures in
    let b = c.args.connection.now in
    let k = turned g.N.Sockets.Becomes (λ vtable. (g.dyn-1.0.entry vtable).1) c.sending.net c.drive_out.new.net (g.N.Sockets.net c.sending.net) (g.N.Sockets.net c.drive_out.new.net) c.args.until b c.sending.connection (pushed.Sent c.in-Sent.field-0) c.drive_out.new.self.sender i.kept e.driven e.adds e.room e.sound e.held in
    let first = sent_open (is_stream b.stack) (layers_of (λ vtable. (g.dyn-1.0.entry vtable).1) b.chain) b.socket c.args.until c.sending.connection.sender c.in-Sent.field-0 k.driven.calls c.drive_out.new.self.sender k.driven.pushed_by i.sound in
    record {
      sends = sent_more g.N.Sockets.Becomes (encoding_of (is_stream b.stack) (layers_of (λ vtable. (g.dyn-1.0.entry vtable).1) b.chain)) c.args.net.now c.sending.net c.drive_out.new.net b.socket c.args.until b.sender c.sending.connection.sender c.drive_out.new.self.sender c.in-Sent.field-0 g.met.N.Sockets.becomes_on i.sends k.driven;
      changes = open_changes b.socket c.args.until c.drive_out.new.self.sender.shut (pushed.Sent c.in-Sent.field-0) (g.N.Sockets.net c.args.net.now) (g.N.Sockets.net c.sending.net) (g.N.Sockets.net c.drive_out.new.net) (i.still_open first) i.changes k.adds;
      still_open = λ x. same_spare b.socket c.args.until c.drive_out.new.self.sender.shut (pushed.Sent c.in-Sent.field-0) (g.N.Sockets.net c.sending.net) (g.N.Sockets.net c.drive_out.new.net) (none_sent b.socket c.in-Sent.field-0 c.drive_out.new.self.sender.shut x) k.adds ∙ i.still_open first;
      sound = k.sound;
      held = k.held;
      room = k.room;
      kept = kept_on b c.sending.connection c.drive_out.new.self i.kept e.kept;
    }

pub sending-preserved : goal.sending-preserved
sending-preserved g c =
    let i = c.sending.invariant in
    let e = c.in-Expired.ensures in
    let b = c.args.connection.now in
    let k = turned g.N.Sockets.Becomes (λ vtable. (g.dyn-1.0.entry vtable).1) c.sending.net c.drive_out.new.net (g.N.Sockets.net c.sending.net) (g.N.Sockets.net c.drive_out.new.net) c.args.until b c.sending.connection (pushed.Expired c.in-Expired.field-0) c.drive_out.new.self.sender i.kept e.driven e.adds e.room e.sound e.held in
    let shut : c.drive_out.new.self.sender.shut ≡ c.sending.connection.sender.shut = ap (λ v. v.shut) k.driven.pushed_by.3.kept in
    record {
      sends = expired_more g.N.Sockets.Becomes (encoding_of (is_stream b.stack) (layers_of (λ vtable. (g.dyn-1.0.entry vtable).1) b.chain)) c.args.net.now c.sending.net c.drive_out.new.net b.socket c.args.until b.sender c.sending.connection.sender c.drive_out.new.self.sender c.in-Expired.field-0 g.met.N.Sockets.becomes_on i.sends k.driven;
      changes = quiet_changes b.socket c.args.until c.drive_out.new.self.sender.shut (pushed.Expired c.in-Expired.field-0) (g.N.Sockets.net c.args.net.now) (g.N.Sockets.net c.sending.net) (g.N.Sockets.net c.drive_out.new.net) refl i.changes k.adds;
      still_open = λ x. same_spare b.socket c.args.until c.drive_out.new.self.sender.shut (pushed.Expired c.in-Expired.field-0) (g.N.Sockets.net c.sending.net) (g.N.Sockets.net c.drive_out.new.net) refl k.adds ∙ i.still_open (sym shut ∙ x);
      sound = k.sound;
      held = k.held;
      room = k.room;
      kept = kept_on b c.sending.connection c.drive_out.new.self i.kept e.kept;
    }

pub returns-in-Empty-clause-sent : goal.returns-in-Empty-clause-sent
returns-in-Empty-clause-sent g c =
    let i = c.sending.invariant in
    let e = c.in-Empty.ensures in
    let b = c.args.connection.now in
    let k = turned g.N.Sockets.Becomes (λ vtable. (g.dyn-1.0.entry vtable).1) c.sending.net c.drive_out.new.net (g.N.Sockets.net c.sending.net) (g.N.Sockets.net c.drive_out.new.net) c.args.until b c.sending.connection pushed.Empty c.drive_out.new.self.sender i.kept e.driven e.adds e.room e.sound e.held in
    empty_ends g.N.Sockets.Becomes (encoding_of (is_stream b.stack) (layers_of (λ vtable. (g.dyn-1.0.entry vtable).1) b.chain)) c.args.net.now c.sending.net c.drive_out.new.net b.socket c.args.until c.args.place b.sender c.sending.connection.sender c.drive_out.new.self.sender g.met.N.Sockets.becomes_on i.sends k.driven

pub returns-in-Empty-clause-changes : goal.returns-in-Empty-clause-changes
returns-in-Empty-clause-changes g c =
    let i = c.sending.invariant in
    let e = c.in-Empty.ensures in
    let b = c.args.connection.now in
    let k = turned g.N.Sockets.Becomes (λ vtable. (g.dyn-1.0.entry vtable).1) c.sending.net c.drive_out.new.net (g.N.Sockets.net c.sending.net) (g.N.Sockets.net c.drive_out.new.net) c.args.until b c.sending.connection pushed.Empty c.drive_out.new.self.sender i.kept e.driven e.adds e.room e.sound e.held in
    quiet_changes b.socket c.args.until c.drive_out.new.self.sender.shut pushed.Empty (g.N.Sockets.net c.args.net.now) (g.N.Sockets.net c.sending.net) (g.N.Sockets.net c.drive_out.new.net) refl i.changes k.adds

pub returns-in-Empty-clause-sound : goal.returns-in-Empty-clause-sound
returns-in-Empty-clause-sound g c =
    let i = c.sending.invariant in
    let e = c.in-Empty.ensures in
    let b = c.args.connection.now in
    let k = turned g.N.Sockets.Becomes (λ vtable. (g.dyn-1.0.entry vtable).1) c.sending.net c.drive_out.new.net (g.N.Sockets.net c.sending.net) (g.N.Sockets.net c.drive_out.new.net) c.args.until b c.sending.connection pushed.Empty c.drive_out.new.self.sender i.kept e.driven e.adds e.room e.sound e.held in
    k.sound

pub returns-in-Empty-clause-room : goal.returns-in-Empty-clause-room
returns-in-Empty-clause-room g c =
    let i = c.sending.invariant in
    let e = c.in-Empty.ensures in
    let b = c.args.connection.now in
    let k = turned g.N.Sockets.Becomes (λ vtable. (g.dyn-1.0.entry vtable).1) c.sending.net c.drive_out.new.net (g.N.Sockets.net c.sending.net) (g.N.Sockets.net c.drive_out.new.net) c.args.until b c.sending.connection pushed.Empty c.drive_out.new.self.sender i.kept e.driven e.adds e.room e.sound e.held in
    k.room

pub returns-in-Empty-clause-kept : goal.returns-in-Empty-clause-kept
returns-in-Empty-clause-kept g c = kept_on c.args.connection.now c.sending.connection c.drive_out.new.self c.sending.invariant.kept c.in-Empty.ensures.kept

pub returns-in-Empty-clause-held : goal.returns-in-Empty-clause-held
returns-in-Empty-clause-held g c =
    let i = c.sending.invariant in
    let e = c.in-Empty.ensures in
    let b = c.args.connection.now in
    let k = turned g.N.Sockets.Becomes (λ vtable. (g.dyn-1.0.entry vtable).1) c.sending.net c.drive_out.new.net (g.N.Sockets.net c.sending.net) (g.N.Sockets.net c.drive_out.new.net) c.args.until b c.sending.connection pushed.Empty c.drive_out.new.self.sender i.kept e.driven e.adds e.room e.sound e.held in
    k.held

pub returns-in-Timed-clause-sent : goal.returns-in-Timed-clause-sent
returns-in-Timed-clause-sent g c =
    let i = c.sending.invariant in
    let e = c.in-Timed.ensures in
    let b = c.args.connection.now in
    let k = turned g.N.Sockets.Becomes (λ vtable. (g.dyn-1.0.entry vtable).1) c.sending.net c.drive_out.new.net (g.N.Sockets.net c.sending.net) (g.N.Sockets.net c.drive_out.new.net) c.args.until b c.sending.connection (pushed.Timed c.in-Timed.field-0) c.drive_out.new.self.sender i.kept e.driven e.adds e.room e.sound e.held in
    timed_ends g.N.Sockets.Becomes (encoding_of (is_stream b.stack) (layers_of (λ vtable. (g.dyn-1.0.entry vtable).1) b.chain)) c.args.net.now c.sending.net c.drive_out.new.net b.socket c.args.until c.args.place b.sender c.sending.connection.sender c.drive_out.new.self.sender c.in-Timed.field-0 g.met.N.Sockets.becomes_on i.sends k.driven

pub returns-in-Timed-clause-changes : goal.returns-in-Timed-clause-changes
returns-in-Timed-clause-changes g c =
    let i = c.sending.invariant in
    let e = c.in-Timed.ensures in
    let b = c.args.connection.now in
    let k = turned g.N.Sockets.Becomes (λ vtable. (g.dyn-1.0.entry vtable).1) c.sending.net c.drive_out.new.net (g.N.Sockets.net c.sending.net) (g.N.Sockets.net c.drive_out.new.net) c.args.until b c.sending.connection (pushed.Timed c.in-Timed.field-0) c.drive_out.new.self.sender i.kept e.driven e.adds e.room e.sound e.held in
    quiet_changes b.socket c.args.until c.drive_out.new.self.sender.shut (pushed.Timed c.in-Timed.field-0) (g.N.Sockets.net c.args.net.now) (g.N.Sockets.net c.sending.net) (g.N.Sockets.net c.drive_out.new.net) refl i.changes k.adds

pub returns-in-Timed-clause-sound : goal.returns-in-Timed-clause-sound
returns-in-Timed-clause-sound g c =
    let i = c.sending.invariant in
    let e = c.in-Timed.ensures in
    let b = c.args.connection.now in
    let k = turned g.N.Sockets.Becomes (λ vtable. (g.dyn-1.0.entry vtable).1) c.sending.net c.drive_out.new.net (g.N.Sockets.net c.sending.net) (g.N.Sockets.net c.drive_out.new.net) c.args.until b c.sending.connection (pushed.Timed c.in-Timed.field-0) c.drive_out.new.self.sender i.kept e.driven e.adds e.room e.sound e.held in
    k.sound

pub returns-in-Timed-clause-room : goal.returns-in-Timed-clause-room
returns-in-Timed-clause-room g c =
    let i = c.sending.invariant in
    let e = c.in-Timed.ensures in
    let b = c.args.connection.now in
    let k = turned g.N.Sockets.Becomes (λ vtable. (g.dyn-1.0.entry vtable).1) c.sending.net c.drive_out.new.net (g.N.Sockets.net c.sending.net) (g.N.Sockets.net c.drive_out.new.net) c.args.until b c.sending.connection (pushed.Timed c.in-Timed.field-0) c.drive_out.new.self.sender i.kept e.driven e.adds e.room e.sound e.held in
    k.room

pub returns-in-Timed-clause-kept : goal.returns-in-Timed-clause-kept
returns-in-Timed-clause-kept g c = kept_on c.args.connection.now c.sending.connection c.drive_out.new.self c.sending.invariant.kept c.in-Timed.ensures.kept

pub returns-in-Failed-clause-sent : goal.returns-in-Failed-clause-sent
returns-in-Failed-clause-sent g c =
    let i = c.sending.invariant in
    let e = c.in-Failed.ensures in
    let b = c.args.connection.now in
    let k = turned g.N.Sockets.Becomes (λ vtable. (g.dyn-1.0.entry vtable).1) c.sending.net c.drive_out.new.net (g.N.Sockets.net c.sending.net) (g.N.Sockets.net c.drive_out.new.net) c.args.until b c.sending.connection (pushed.Failed c.in-Failed.cause) c.drive_out.new.self.sender i.kept e.driven e.adds e.room e.sound e.held in
    failed_ends g.N.Sockets.Becomes (encoding_of (is_stream b.stack) (layers_of (λ vtable. (g.dyn-1.0.entry vtable).1) b.chain)) c.args.net.now c.sending.net c.drive_out.new.net b.socket c.args.until c.args.place b.sender c.sending.connection.sender c.drive_out.new.self.sender c.in-Failed.cause g.met.N.Sockets.becomes_on i.sends k.driven

pub returns-in-Failed-clause-changes : goal.returns-in-Failed-clause-changes
returns-in-Failed-clause-changes g c =
    let i = c.sending.invariant in
    let e = c.in-Failed.ensures in
    let b = c.args.connection.now in
    let k = turned g.N.Sockets.Becomes (λ vtable. (g.dyn-1.0.entry vtable).1) c.sending.net c.drive_out.new.net (g.N.Sockets.net c.sending.net) (g.N.Sockets.net c.drive_out.new.net) c.args.until b c.sending.connection (pushed.Failed c.in-Failed.cause) c.drive_out.new.self.sender i.kept e.driven e.adds e.room e.sound e.held in
    open_changes b.socket c.args.until c.drive_out.new.self.sender.shut (pushed.Failed c.in-Failed.cause) (g.N.Sockets.net c.args.net.now) (g.N.Sockets.net c.sending.net) (g.N.Sockets.net c.drive_out.new.net) (i.still_open (stopped_open (is_stream b.stack) (layers_of (λ vtable. (g.dyn-1.0.entry vtable).1) b.chain) b.socket c.args.until c.sending.connection.sender _ k.driven.calls c.drive_out.new.self.sender k.driven.pushed_by.1 i.sound)) i.changes k.adds

pub returns-in-Failed-clause-sound : goal.returns-in-Failed-clause-sound
returns-in-Failed-clause-sound g c =
    let i = c.sending.invariant in
    let e = c.in-Failed.ensures in
    let b = c.args.connection.now in
    let k = turned g.N.Sockets.Becomes (λ vtable. (g.dyn-1.0.entry vtable).1) c.sending.net c.drive_out.new.net (g.N.Sockets.net c.sending.net) (g.N.Sockets.net c.drive_out.new.net) c.args.until b c.sending.connection (pushed.Failed c.in-Failed.cause) c.drive_out.new.self.sender i.kept e.driven e.adds e.room e.sound e.held in
    k.sound

pub returns-in-Failed-clause-room : goal.returns-in-Failed-clause-room
returns-in-Failed-clause-room g c =
    let i = c.sending.invariant in
    let e = c.in-Failed.ensures in
    let b = c.args.connection.now in
    let k = turned g.N.Sockets.Becomes (λ vtable. (g.dyn-1.0.entry vtable).1) c.sending.net c.drive_out.new.net (g.N.Sockets.net c.sending.net) (g.N.Sockets.net c.drive_out.new.net) c.args.until b c.sending.connection (pushed.Failed c.in-Failed.cause) c.drive_out.new.self.sender i.kept e.driven e.adds e.room e.sound e.held in
    k.room

pub returns-in-Failed-clause-kept : goal.returns-in-Failed-clause-kept
returns-in-Failed-clause-kept g c = kept_on c.args.connection.now c.sending.connection c.drive_out.new.self c.sending.invariant.kept c.in-Failed.ensures.kept

pub returns-in-NotSpeakable-clause-sent : goal.returns-in-NotSpeakable-clause-sent
returns-in-NotSpeakable-clause-sent g c =
    let i = c.sending.invariant in
    let e = c.in-NotSpeakable.ensures in
    let b = c.args.connection.now in
    let k = turned g.N.Sockets.Becomes (λ vtable. (g.dyn-1.0.entry vtable).1) c.sending.net c.drive_out.new.net (g.N.Sockets.net c.sending.net) (g.N.Sockets.net c.drive_out.new.net) c.args.until b c.sending.connection (pushed.NotSpeakable c.in-NotSpeakable.number c.in-NotSpeakable.layer) c.drive_out.new.self.sender i.kept e.driven e.adds e.room e.sound e.held in
    refused_ends g.N.Sockets.Becomes (encoding_of (is_stream b.stack) (layers_of (λ vtable. (g.dyn-1.0.entry vtable).1) b.chain)) c.args.net.now c.sending.net c.drive_out.new.net b.socket c.args.until c.args.place b.sender c.sending.connection.sender c.drive_out.new.self.sender c.in-NotSpeakable.number c.in-NotSpeakable.layer g.met.N.Sockets.becomes_on i.sends k.driven

pub returns-in-NotSpeakable-clause-changes : goal.returns-in-NotSpeakable-clause-changes
returns-in-NotSpeakable-clause-changes g c =
    let i = c.sending.invariant in
    let e = c.in-NotSpeakable.ensures in
    let b = c.args.connection.now in
    let k = turned g.N.Sockets.Becomes (λ vtable. (g.dyn-1.0.entry vtable).1) c.sending.net c.drive_out.new.net (g.N.Sockets.net c.sending.net) (g.N.Sockets.net c.drive_out.new.net) c.args.until b c.sending.connection (pushed.NotSpeakable c.in-NotSpeakable.number c.in-NotSpeakable.layer) c.drive_out.new.self.sender i.kept e.driven e.adds e.room e.sound e.held in
    quiet_changes b.socket c.args.until c.drive_out.new.self.sender.shut (pushed.NotSpeakable c.in-NotSpeakable.number c.in-NotSpeakable.layer) (g.N.Sockets.net c.args.net.now) (g.N.Sockets.net c.sending.net) (g.N.Sockets.net c.drive_out.new.net) refl i.changes k.adds

pub returns-in-NotSpeakable-clause-sound : goal.returns-in-NotSpeakable-clause-sound
returns-in-NotSpeakable-clause-sound g c =
    let i = c.sending.invariant in
    let e = c.in-NotSpeakable.ensures in
    let b = c.args.connection.now in
    let k = turned g.N.Sockets.Becomes (λ vtable. (g.dyn-1.0.entry vtable).1) c.sending.net c.drive_out.new.net (g.N.Sockets.net c.sending.net) (g.N.Sockets.net c.drive_out.new.net) c.args.until b c.sending.connection (pushed.NotSpeakable c.in-NotSpeakable.number c.in-NotSpeakable.layer) c.drive_out.new.self.sender i.kept e.driven e.adds e.room e.sound e.held in
    k.sound

pub returns-in-NotSpeakable-clause-room : goal.returns-in-NotSpeakable-clause-room
returns-in-NotSpeakable-clause-room g c =
    let i = c.sending.invariant in
    let e = c.in-NotSpeakable.ensures in
    let b = c.args.connection.now in
    let k = turned g.N.Sockets.Becomes (λ vtable. (g.dyn-1.0.entry vtable).1) c.sending.net c.drive_out.new.net (g.N.Sockets.net c.sending.net) (g.N.Sockets.net c.drive_out.new.net) c.args.until b c.sending.connection (pushed.NotSpeakable c.in-NotSpeakable.number c.in-NotSpeakable.layer) c.drive_out.new.self.sender i.kept e.driven e.adds e.room e.sound e.held in
    k.room

pub returns-in-NotSpeakable-clause-kept : goal.returns-in-NotSpeakable-clause-kept
returns-in-NotSpeakable-clause-kept g c = kept_on c.args.connection.now c.sending.connection c.drive_out.new.self c.sending.invariant.kept c.in-NotSpeakable.ensures.kept

pub returns-in-NoMemory-clause-sent : goal.returns-in-NoMemory-clause-sent
returns-in-NoMemory-clause-sent g c =
    let i = c.sending.invariant in
    let e = c.in-NoMemory.ensures in
    let b = c.args.connection.now in
    let k = turned g.N.Sockets.Becomes (λ vtable. (g.dyn-1.0.entry vtable).1) c.sending.net c.drive_out.new.net (g.N.Sockets.net c.sending.net) (g.N.Sockets.net c.drive_out.new.net) c.args.until b c.sending.connection pushed.NoMemory c.drive_out.new.self.sender i.kept e.driven e.adds e.room e.sound e.held in
    memory_ends g.N.Sockets.Becomes (encoding_of (is_stream b.stack) (layers_of (λ vtable. (g.dyn-1.0.entry vtable).1) b.chain)) c.args.net.now c.sending.net c.drive_out.new.net b.socket c.args.until c.args.place b.sender c.sending.connection.sender c.drive_out.new.self.sender _ g.met.N.Sockets.becomes_on i.sends k.driven

pub returns-in-NoMemory-clause-changes : goal.returns-in-NoMemory-clause-changes
returns-in-NoMemory-clause-changes g c =
    let i = c.sending.invariant in
    let e = c.in-NoMemory.ensures in
    let b = c.args.connection.now in
    let k = turned g.N.Sockets.Becomes (λ vtable. (g.dyn-1.0.entry vtable).1) c.sending.net c.drive_out.new.net (g.N.Sockets.net c.sending.net) (g.N.Sockets.net c.drive_out.new.net) c.args.until b c.sending.connection pushed.NoMemory c.drive_out.new.self.sender i.kept e.driven e.adds e.room e.sound e.held in
    quiet_changes b.socket c.args.until c.drive_out.new.self.sender.shut pushed.NoMemory (g.N.Sockets.net c.args.net.now) (g.N.Sockets.net c.sending.net) (g.N.Sockets.net c.drive_out.new.net) refl i.changes k.adds

pub returns-in-NoMemory-clause-sound : goal.returns-in-NoMemory-clause-sound
returns-in-NoMemory-clause-sound g c =
    let i = c.sending.invariant in
    let e = c.in-NoMemory.ensures in
    let b = c.args.connection.now in
    let k = turned g.N.Sockets.Becomes (λ vtable. (g.dyn-1.0.entry vtable).1) c.sending.net c.drive_out.new.net (g.N.Sockets.net c.sending.net) (g.N.Sockets.net c.drive_out.new.net) c.args.until b c.sending.connection pushed.NoMemory c.drive_out.new.self.sender i.kept e.driven e.adds e.room e.sound e.held in
    k.sound

pub returns-in-NoMemory-clause-room : goal.returns-in-NoMemory-clause-room
returns-in-NoMemory-clause-room g c =
    let i = c.sending.invariant in
    let e = c.in-NoMemory.ensures in
    let b = c.args.connection.now in
    let k = turned g.N.Sockets.Becomes (λ vtable. (g.dyn-1.0.entry vtable).1) c.sending.net c.drive_out.new.net (g.N.Sockets.net c.sending.net) (g.N.Sockets.net c.drive_out.new.net) c.args.until b c.sending.connection pushed.NoMemory c.drive_out.new.self.sender i.kept e.driven e.adds e.room e.sound e.held in
    k.room

pub returns-in-NoMemory-clause-kept : goal.returns-in-NoMemory-clause-kept
returns-in-NoMemory-clause-kept g c = kept_on c.args.connection.now c.sending.connection c.drive_out.new.self c.sending.invariant.kept c.in-NoMemory.ensures.kept
