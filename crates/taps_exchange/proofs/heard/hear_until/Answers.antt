use Rattle.std.proofs.Common.{◌≡◌, ◌<◌, ◌++◌, ◌∷◌, [], refl, sym, ap, subst, ◌∙◌, arith, append_assoc}
use Rattle.std.specs.Prelude.{Ok, Err, Some}
use Rattle.taps_chain.specs.ChainLaws.{AreFramers}
use Rattle.taps_chain.specs.Layers.{layers_of}
use Rattle.taps_stack.specs.StackTable.{is_stream}
use Rattle.taps_connection.specs.Conditions.{IsHeld}
use Rattle.taps_connection.specs.Inboxes.{IsSoundReceiver}
use Rattle.taps_connection.specs.Sources.{unread_of}
use Rattle.taps_connection.specs.Unread.{count_given}
use Rattle.taps_exchange.specs.Decodings.{decoding_of}
use Rattle.taps_exchange.specs.declared.heard.Step.TheVariants as step
use Rattle.taps_exchange.specs.Hearings.{one_unless, to_come}
use Rattle.taps_exchange.specs.Members.{pieces_read}
use Rattle.taps_exchange.proofs.Behind.{unchanged, changes_within}
use Rattle.taps_exchange.proofs.HearingOn.{HearsOn, hears_none, message_on, asked_on, over_on, short_on, cut_on, enough_on, kept_both, sender_both, Stepped, stepped_at, come_few, less_left, less_come, fewer_than, less_than_one}
use Rattle.taps_exchange.proofs.heard.hear_until.Goals as goal

pub hearing-init : goal.hearing-init
hearing-init g c =
    let r = c.requires in
    record {
      hears = λ piece read before fits h. hears_none g.N.Sockets.Becomes (decoding_of (is_stream c.args.connection.now.stack) (layers_of (λ vtable. (g.dyn-1.0.entry vtable).1) c.args.connection.now.chain)) (layers_of (λ vtable. (g.dyn-1.0.entry vtable).1) c.args.connection.now.chain) c.args.net.now c.args.connection.now.socket piece c.args.until c.args.needs read c.args.connection.now.receiver.ended (unread_of c.args.connection.now.receiver.source) (before ++ c.args.heard.now.items) (g.met.N.Sockets.becomes_itself c.args.net.now) h;
      fits = λ piece h. h;
      sound = r.sound;
      held = r.held;
      few = r.few;
      changes = unchanged c.args.connection.now.socket 1 (g.N.Sockets.net c.args.net.now);
      spare = omega arith;
      kept = refl;
      sender = refl;
      moment = λ h. h;
    }

pub hear_next-requires-clause-framers : goal.hear_next-requires-clause-framers
hear_next-requires-clause-framers g c =
    subst (λ x. AreFramers (layers_of (λ vtable. (g.dyn-1.0.entry vtable).1) x.chain)) (sym c.hearing.invariant.kept) c.requires.framers

pub hear_next-requires-clause-sound : goal.hear_next-requires-clause-sound
hear_next-requires-clause-sound g c =
    subst (λ x. IsSoundReceiver (λ vtable. (g.dyn-1.0.entry vtable).1) x.stack (layers_of (λ vtable. (g.dyn-1.0.entry vtable).1) x.chain) c.hearing.connection.receiver) (sym c.hearing.invariant.kept) c.hearing.invariant.sound

pub hear_next-requires-clause-held : goal.hear_next-requires-clause-held
hear_next-requires-clause-held g c =
    let shut : c.hearing.connection.sender.shut ≡ c.args.connection.now.sender.shut = ap (λ v. v.shut) c.hearing.invariant.sender in
    subst (λ x. IsHeld (g.N.Sockets.net c.hearing.net).trace x.socket (is_stream x.stack) x.sender.shut c.hearing.connection.receiver.ended) (sym c.hearing.invariant.kept) (subst (λ b. IsHeld (g.N.Sockets.net c.hearing.net).trace c.args.connection.now.socket (is_stream c.args.connection.now.stack) b c.hearing.connection.receiver.ended) (sym shut) c.hearing.invariant.held)

pub hear_next-requires-clause-given : goal.hear_next-requires-clause-given
hear_next-requires-clause-given g c =
    let test = c.hearing-test.true in let given = c.given.ensures in let fits = c.ranges.needs.fits in omega (arith, test, given, fits)

pub hear_next-requires-clause-spare : goal.hear_next-requires-clause-spare
hear_next-requires-clause-spare g c =
    let k = c.hearing.invariant.spare in let one = c.requires.spare in omega (arith, k, one)

pub hear_next-requires-clause-until : goal.hear_next-requires-clause-until
hear_next-requires-clause-until g c =
    c.requires.until

pub hearing-smaller-in-Ok : goal.hearing-smaller-in-Ok
hearing-smaller-in-Ok g c =
    let i = c.hearing.invariant in
    let e = c.in-Ok-Message.ensures in
    let k0 = stepped_at g.N.Sockets.Becomes (λ vtable. (g.dyn-1.0.entry vtable).1) c.hearing.net c.hear_next.new.net (g.N.Sockets.net c.hearing.net) (g.N.Sockets.net c.hear_next.new.net) c.args.until c.args.connection.now c.hearing.connection (Ok c.in-Ok-Message.field-0) c.hear_next.new.connection.receiver i.kept i.sender (record { stepped = e.stepped; fits = e.fits; closer = e.closer; changes = e.changes; spare = e.spare; held = e.held }) in
    let k : Stepped g.N.Sockets.Becomes (g.N.Sockets.net c.hearing.net) (g.N.Sockets.net c.hear_next.new.net) c.args.connection.now.socket (is_stream c.args.connection.now.stack) (layers_of (λ vtable. (g.dyn-1.0.entry vtable).1) c.args.connection.now.chain) c.args.connection.now.sender.shut c.hearing.net c.hear_next.new.net c.args.until c.hearing.connection.receiver.ended (unread_of c.hearing.connection.receiver.source) (Ok (step.Message c.in-Ok-Message.body)) c.hear_next.new.connection.receiver.ended (unread_of c.hear_next.new.connection.receiver.source) = subst (λ v. Stepped g.N.Sockets.Becomes (g.N.Sockets.net c.hearing.net) (g.N.Sockets.net c.hear_next.new.net) c.args.connection.now.socket (is_stream c.args.connection.now.stack) (layers_of (λ vtable. (g.dyn-1.0.entry vtable).1) c.args.connection.now.chain) c.args.connection.now.sender.shut c.hearing.net c.hear_next.new.net c.args.until c.hearing.connection.receiver.ended (unread_of c.hearing.connection.receiver.source) (Ok v) c.hear_next.new.connection.receiver.ended (unread_of c.hear_next.new.connection.receiver.source)) c.in-Ok-Message.field-0-is k0 in
    let less : count_given (unread_of c.hearing.connection.receiver.source) < c.args.needs = (let test = c.hearing-test.true in let given = c.given.ensures in omega (arith, test, given)) in
    let closer = k.closer in
    less_left c.args.needs (count_given (unread_of c.hearing.connection.receiver.source)) (count_given (unread_of c.hear_next.new.connection.receiver.source)) (to_come c.hearing.connection.receiver.ended (unread_of c.hearing.connection.receiver.source)) (to_come c.hear_next.new.connection.receiver.ended (unread_of c.hear_next.new.connection.receiver.source)) less closer (come_few c.hear_next.new.connection.receiver.ended (unread_of c.hear_next.new.connection.receiver.source))

pub hearing-preserved-in-Ok : goal.hearing-preserved-in-Ok
hearing-preserved-in-Ok g c =
    let i = c.hearing.invariant in
    let e = c.in-Ok-Message.ensures in
    let k0 = stepped_at g.N.Sockets.Becomes (λ vtable. (g.dyn-1.0.entry vtable).1) c.hearing.net c.hear_next.new.net (g.N.Sockets.net c.hearing.net) (g.N.Sockets.net c.hear_next.new.net) c.args.until c.args.connection.now c.hearing.connection (Ok c.in-Ok-Message.field-0) c.hear_next.new.connection.receiver i.kept i.sender (record { stepped = e.stepped; fits = e.fits; closer = e.closer; changes = e.changes; spare = e.spare; held = e.held }) in
    let k : Stepped g.N.Sockets.Becomes (g.N.Sockets.net c.hearing.net) (g.N.Sockets.net c.hear_next.new.net) c.args.connection.now.socket (is_stream c.args.connection.now.stack) (layers_of (λ vtable. (g.dyn-1.0.entry vtable).1) c.args.connection.now.chain) c.args.connection.now.sender.shut c.hearing.net c.hear_next.new.net c.args.until c.hearing.connection.receiver.ended (unread_of c.hearing.connection.receiver.source) (Ok (step.Message c.in-Ok-Message.body)) c.hear_next.new.connection.receiver.ended (unread_of c.hear_next.new.connection.receiver.source) = subst (λ v. Stepped g.N.Sockets.Becomes (g.N.Sockets.net c.hearing.net) (g.N.Sockets.net c.hear_next.new.net) c.args.connection.now.socket (is_stream c.args.connection.now.stack) (layers_of (λ vtable. (g.dyn-1.0.entry vtable).1) c.args.connection.now.chain) c.args.connection.now.sender.shut c.hearing.net c.hear_next.new.net c.args.until c.hearing.connection.receiver.ended (unread_of c.hearing.connection.receiver.source) (Ok v) c.hear_next.new.connection.receiver.ended (unread_of c.hear_next.new.connection.receiver.source)) c.in-Ok-Message.field-0-is k0 in
    let less : count_given (unread_of c.hearing.connection.receiver.source) < c.args.needs = (let test = c.hearing-test.true in let given = c.given.ensures in omega (arith, test, given)) in
    record {
      hears = λ piece read before fits h.
          let o = i.hears piece read before fits h in
          let st = k.stepped piece c.args.needs (read ++ pieces_read o.calls) (before ++ c.hearing.heard.items) (i.fits piece fits) (fewer_than (layers_of (λ vtable. (g.dyn-1.0.entry vtable).1) c.args.connection.now.chain) c.hearing.connection.receiver.ended (unread_of c.hearing.connection.receiver.source) (read ++ pieces_read o.calls) (before ++ c.hearing.heard.items) c.args.needs o.represents less) o.represents in
          let all : (before ++ c.hearing.heard.items) ++ c.in-Ok-Message.body ∷ [] ≡ before ++ c.push.new.self.items = append_assoc before c.hearing.heard.items (c.in-Ok-Message.body ∷ []) ∙ ap (λ v. before ++ v) (sym c.in-Ok.ensures.items) in
          subst (λ v. HearsOn g.N.Sockets.Becomes (decoding_of (is_stream c.args.connection.now.stack) (layers_of (λ vtable. (g.dyn-1.0.entry vtable).1) c.args.connection.now.chain)) (layers_of (λ vtable. (g.dyn-1.0.entry vtable).1) c.args.connection.now.chain) c.args.net.now c.hear_next.new.net c.args.connection.now.socket piece c.args.until c.args.needs read c.args.connection.now.receiver.ended c.hear_next.new.connection.receiver.ended (unread_of c.hear_next.new.connection.receiver.source) v) all
          (message_on g.N.Sockets.Becomes (decoding_of (is_stream c.args.connection.now.stack) (layers_of (λ vtable. (g.dyn-1.0.entry vtable).1) c.args.connection.now.chain)) (layers_of (λ vtable. (g.dyn-1.0.entry vtable).1) c.args.connection.now.chain) c.args.net.now c.hearing.net c.hear_next.new.net c.args.connection.now.socket piece c.args.until c.args.needs read c.args.connection.now.receiver.ended c.hearing.connection.receiver.ended (unread_of c.hearing.connection.receiver.source) (before ++ c.hearing.heard.items) g.met.N.Sockets.becomes_on o c.in-Ok-Message.body c.hear_next.new.connection.receiver.ended (unread_of c.hear_next.new.connection.receiver.source) st.0 st.1 st.2);
      fits = λ piece h. k.fits piece (i.fits piece h);
      sound = subst (λ x. IsSoundReceiver (λ vtable. (g.dyn-1.0.entry vtable).1) x.stack (layers_of (λ vtable. (g.dyn-1.0.entry vtable).1) x.chain) c.hear_next.new.connection.receiver) i.kept e.sound;
      held = k.held;
      few = (let closer = k.closer in omega (arith, closer, less));
      changes = changes_within c.args.connection.now.socket 1 (one_unless c.hearing.connection.receiver.ended) 1 (g.N.Sockets.net c.args.net.now) (g.N.Sockets.net c.hearing.net) (g.N.Sockets.net c.hear_next.new.net) (let s = i.spare in let one = less_than_one c.args.connection.now.receiver.ended in omega (arith, s, one)) i.changes k.changes;
      spare = (let s = i.spare in let t = k.spare in omega (arith, s, t));
      kept = kept_both c.args.connection.now c.hearing.connection c.hear_next.new.connection i.kept e.kept;
      sender = sender_both c.args.connection.now.sender c.hearing.connection.sender c.hear_next.new.connection.sender i.sender e.sender;
      moment = λ h. e.moment (i.moment h);
    }

pub hearing-smaller : goal.hearing-smaller
hearing-smaller g c =
    let i = c.hearing.invariant in
    let e = c.in-Ok-More.ensures in
    let k0 = stepped_at g.N.Sockets.Becomes (λ vtable. (g.dyn-1.0.entry vtable).1) c.hearing.net c.hear_next.new.net (g.N.Sockets.net c.hearing.net) (g.N.Sockets.net c.hear_next.new.net) c.args.until c.args.connection.now c.hearing.connection (Ok c.in-Ok-More.field-0) c.hear_next.new.connection.receiver i.kept i.sender (record { stepped = e.stepped; fits = e.fits; closer = e.closer; changes = e.changes; spare = e.spare; held = e.held }) in
    let k : Stepped g.N.Sockets.Becomes (g.N.Sockets.net c.hearing.net) (g.N.Sockets.net c.hear_next.new.net) c.args.connection.now.socket (is_stream c.args.connection.now.stack) (layers_of (λ vtable. (g.dyn-1.0.entry vtable).1) c.args.connection.now.chain) c.args.connection.now.sender.shut c.hearing.net c.hear_next.new.net c.args.until c.hearing.connection.receiver.ended (unread_of c.hearing.connection.receiver.source) (Ok step.More) c.hear_next.new.connection.receiver.ended (unread_of c.hear_next.new.connection.receiver.source) = subst (λ v. Stepped g.N.Sockets.Becomes (g.N.Sockets.net c.hearing.net) (g.N.Sockets.net c.hear_next.new.net) c.args.connection.now.socket (is_stream c.args.connection.now.stack) (layers_of (λ vtable. (g.dyn-1.0.entry vtable).1) c.args.connection.now.chain) c.args.connection.now.sender.shut c.hearing.net c.hear_next.new.net c.args.until c.hearing.connection.receiver.ended (unread_of c.hearing.connection.receiver.source) (Ok v) c.hear_next.new.connection.receiver.ended (unread_of c.hear_next.new.connection.receiver.source)) c.in-Ok-More.field-0-is k0 in
    let less : count_given (unread_of c.hearing.connection.receiver.source) < c.args.needs = (let test = c.hearing-test.true in let given = c.given.ensures in omega (arith, test, given)) in
    let closer = k.closer in
    less_come c.args.needs (count_given (unread_of c.hearing.connection.receiver.source)) (count_given (unread_of c.hear_next.new.connection.receiver.source)) (to_come c.hearing.connection.receiver.ended (unread_of c.hearing.connection.receiver.source)) (to_come c.hear_next.new.connection.receiver.ended (unread_of c.hear_next.new.connection.receiver.source)) closer.0 closer.1

pub hearing-preserved : goal.hearing-preserved
hearing-preserved g c =
    let i = c.hearing.invariant in
    let e = c.in-Ok-More.ensures in
    let k0 = stepped_at g.N.Sockets.Becomes (λ vtable. (g.dyn-1.0.entry vtable).1) c.hearing.net c.hear_next.new.net (g.N.Sockets.net c.hearing.net) (g.N.Sockets.net c.hear_next.new.net) c.args.until c.args.connection.now c.hearing.connection (Ok c.in-Ok-More.field-0) c.hear_next.new.connection.receiver i.kept i.sender (record { stepped = e.stepped; fits = e.fits; closer = e.closer; changes = e.changes; spare = e.spare; held = e.held }) in
    let k : Stepped g.N.Sockets.Becomes (g.N.Sockets.net c.hearing.net) (g.N.Sockets.net c.hear_next.new.net) c.args.connection.now.socket (is_stream c.args.connection.now.stack) (layers_of (λ vtable. (g.dyn-1.0.entry vtable).1) c.args.connection.now.chain) c.args.connection.now.sender.shut c.hearing.net c.hear_next.new.net c.args.until c.hearing.connection.receiver.ended (unread_of c.hearing.connection.receiver.source) (Ok step.More) c.hear_next.new.connection.receiver.ended (unread_of c.hear_next.new.connection.receiver.source) = subst (λ v. Stepped g.N.Sockets.Becomes (g.N.Sockets.net c.hearing.net) (g.N.Sockets.net c.hear_next.new.net) c.args.connection.now.socket (is_stream c.args.connection.now.stack) (layers_of (λ vtable. (g.dyn-1.0.entry vtable).1) c.args.connection.now.chain) c.args.connection.now.sender.shut c.hearing.net c.hear_next.new.net c.args.until c.hearing.connection.receiver.ended (unread_of c.hearing.connection.receiver.source) (Ok v) c.hear_next.new.connection.receiver.ended (unread_of c.hear_next.new.connection.receiver.source)) c.in-Ok-More.field-0-is k0 in
    let less : count_given (unread_of c.hearing.connection.receiver.source) < c.args.needs = (let test = c.hearing-test.true in let given = c.given.ensures in omega (arith, test, given)) in
    record {
      hears = λ piece read before fits h.
          let o = i.hears piece read before fits h in
          let st = k.stepped piece c.args.needs (read ++ pieces_read o.calls) (before ++ c.hearing.heard.items) (i.fits piece fits) (fewer_than (layers_of (λ vtable. (g.dyn-1.0.entry vtable).1) c.args.connection.now.chain) c.hearing.connection.receiver.ended (unread_of c.hearing.connection.receiver.source) (read ++ pieces_read o.calls) (before ++ c.hearing.heard.items) c.args.needs o.represents less) o.represents in
          asked_on g.N.Sockets.Becomes (decoding_of (is_stream c.args.connection.now.stack) (layers_of (λ vtable. (g.dyn-1.0.entry vtable).1) c.args.connection.now.chain)) (layers_of (λ vtable. (g.dyn-1.0.entry vtable).1) c.args.connection.now.chain) c.args.net.now c.hearing.net c.hear_next.new.net c.args.connection.now.socket piece c.args.until c.args.needs read c.args.connection.now.receiver.ended c.hearing.connection.receiver.ended (unread_of c.hearing.connection.receiver.source) (before ++ c.hearing.heard.items) g.met.N.Sockets.becomes_on o c.hear_next.new.connection.receiver.ended (unread_of c.hear_next.new.connection.receiver.source) st;
      fits = λ piece h. k.fits piece (i.fits piece h);
      sound = subst (λ x. IsSoundReceiver (λ vtable. (g.dyn-1.0.entry vtable).1) x.stack (layers_of (λ vtable. (g.dyn-1.0.entry vtable).1) x.chain) c.hear_next.new.connection.receiver) i.kept e.sound;
      held = k.held;
      few = (let closer = k.closer.0 in let few = i.few in omega (arith, closer, few));
      changes = changes_within c.args.connection.now.socket 1 (one_unless c.hearing.connection.receiver.ended) 1 (g.N.Sockets.net c.args.net.now) (g.N.Sockets.net c.hearing.net) (g.N.Sockets.net c.hear_next.new.net) (let s = i.spare in let one = less_than_one c.args.connection.now.receiver.ended in omega (arith, s, one)) i.changes k.changes;
      spare = (let s = i.spare in let t = k.spare in omega (arith, s, t));
      kept = kept_both c.args.connection.now c.hearing.connection c.hear_next.new.connection i.kept e.kept;
      sender = sender_both c.args.connection.now.sender c.hearing.connection.sender c.hear_next.new.connection.sender i.sender e.sender;
      moment = λ h. e.moment (i.moment h);
    }

pub returns-in-Err-push-clause-heard : goal.returns-in-Err-push-clause-heard
returns-in-Err-push-clause-heard g c =
    let i = c.hearing.invariant in
    let e = c.in-Ok-Message.ensures in
    let k0 = stepped_at g.N.Sockets.Becomes (λ vtable. (g.dyn-1.0.entry vtable).1) c.hearing.net c.hear_next.new.net (g.N.Sockets.net c.hearing.net) (g.N.Sockets.net c.hear_next.new.net) c.args.until c.args.connection.now c.hearing.connection (Ok c.in-Ok-Message.field-0) c.hear_next.new.connection.receiver i.kept i.sender (record { stepped = e.stepped; fits = e.fits; closer = e.closer; changes = e.changes; spare = e.spare; held = e.held }) in
    let k : Stepped g.N.Sockets.Becomes (g.N.Sockets.net c.hearing.net) (g.N.Sockets.net c.hear_next.new.net) c.args.connection.now.socket (is_stream c.args.connection.now.stack) (layers_of (λ vtable. (g.dyn-1.0.entry vtable).1) c.args.connection.now.chain) c.args.connection.now.sender.shut c.hearing.net c.hear_next.new.net c.args.until c.hearing.connection.receiver.ended (unread_of c.hearing.connection.receiver.source) (Ok (step.Message c.in-Ok-Message.body)) c.hear_next.new.connection.receiver.ended (unread_of c.hear_next.new.connection.receiver.source) = subst (λ v. Stepped g.N.Sockets.Becomes (g.N.Sockets.net c.hearing.net) (g.N.Sockets.net c.hear_next.new.net) c.args.connection.now.socket (is_stream c.args.connection.now.stack) (layers_of (λ vtable. (g.dyn-1.0.entry vtable).1) c.args.connection.now.chain) c.args.connection.now.sender.shut c.hearing.net c.hear_next.new.net c.args.until c.hearing.connection.receiver.ended (unread_of c.hearing.connection.receiver.source) (Ok v) c.hear_next.new.connection.receiver.ended (unread_of c.hear_next.new.connection.receiver.source)) c.in-Ok-Message.field-0-is k0 in
    let less : count_given (unread_of c.hearing.connection.receiver.source) < c.args.needs = (let test = c.hearing-test.true in let given = c.given.ensures in omega (arith, test, given)) in
    λ piece read before fits h.
    let o = i.hears piece read before fits h in
    let st = k.stepped piece c.args.needs (read ++ pieces_read o.calls) (before ++ c.hearing.heard.items) (i.fits piece fits) (fewer_than (layers_of (λ vtable. (g.dyn-1.0.entry vtable).1) c.args.connection.now.chain) c.hearing.connection.receiver.ended (unread_of c.hearing.connection.receiver.source) (read ++ pieces_read o.calls) (before ++ c.hearing.heard.items) c.args.needs o.represents less) o.represents in
    cut_on g.N.Sockets.Becomes (decoding_of (is_stream c.args.connection.now.stack) (layers_of (λ vtable. (g.dyn-1.0.entry vtable).1) c.args.connection.now.chain)) (layers_of (λ vtable. (g.dyn-1.0.entry vtable).1) c.args.connection.now.chain) c.args.net.now c.hear_next.new.net c.args.connection.now.socket piece c.args.until c.args.needs read c.args.connection.now.receiver.ended c.hear_next.new.connection.receiver.ended (unread_of c.hear_next.new.connection.receiver.source) ((before ++ c.hearing.heard.items) ++ c.in-Ok-Message.body ∷ []) _ _ (message_on g.N.Sockets.Becomes (decoding_of (is_stream c.args.connection.now.stack) (layers_of (λ vtable. (g.dyn-1.0.entry vtable).1) c.args.connection.now.chain)) (layers_of (λ vtable. (g.dyn-1.0.entry vtable).1) c.args.connection.now.chain) c.args.net.now c.hearing.net c.hear_next.new.net c.args.connection.now.socket piece c.args.until c.args.needs read c.args.connection.now.receiver.ended c.hearing.connection.receiver.ended (unread_of c.hearing.connection.receiver.source) (before ++ c.hearing.heard.items) g.met.N.Sockets.becomes_on o c.in-Ok-Message.body c.hear_next.new.connection.receiver.ended (unread_of c.hear_next.new.connection.receiver.source) st.0 st.1 st.2)

pub returns-in-Err-push-clause-changes : goal.returns-in-Err-push-clause-changes
returns-in-Err-push-clause-changes g c =
    let i = c.hearing.invariant in
    let e = c.in-Ok-Message.ensures in
    let k0 = stepped_at g.N.Sockets.Becomes (λ vtable. (g.dyn-1.0.entry vtable).1) c.hearing.net c.hear_next.new.net (g.N.Sockets.net c.hearing.net) (g.N.Sockets.net c.hear_next.new.net) c.args.until c.args.connection.now c.hearing.connection (Ok c.in-Ok-Message.field-0) c.hear_next.new.connection.receiver i.kept i.sender (record { stepped = e.stepped; fits = e.fits; closer = e.closer; changes = e.changes; spare = e.spare; held = e.held }) in
    let k : Stepped g.N.Sockets.Becomes (g.N.Sockets.net c.hearing.net) (g.N.Sockets.net c.hear_next.new.net) c.args.connection.now.socket (is_stream c.args.connection.now.stack) (layers_of (λ vtable. (g.dyn-1.0.entry vtable).1) c.args.connection.now.chain) c.args.connection.now.sender.shut c.hearing.net c.hear_next.new.net c.args.until c.hearing.connection.receiver.ended (unread_of c.hearing.connection.receiver.source) (Ok (step.Message c.in-Ok-Message.body)) c.hear_next.new.connection.receiver.ended (unread_of c.hear_next.new.connection.receiver.source) = subst (λ v. Stepped g.N.Sockets.Becomes (g.N.Sockets.net c.hearing.net) (g.N.Sockets.net c.hear_next.new.net) c.args.connection.now.socket (is_stream c.args.connection.now.stack) (layers_of (λ vtable. (g.dyn-1.0.entry vtable).1) c.args.connection.now.chain) c.args.connection.now.sender.shut c.hearing.net c.hear_next.new.net c.args.until c.hearing.connection.receiver.ended (unread_of c.hearing.connection.receiver.source) (Ok v) c.hear_next.new.connection.receiver.ended (unread_of c.hear_next.new.connection.receiver.source)) c.in-Ok-Message.field-0-is k0 in
    let less : count_given (unread_of c.hearing.connection.receiver.source) < c.args.needs = (let test = c.hearing-test.true in let given = c.given.ensures in omega (arith, test, given)) in
    changes_within c.args.connection.now.socket 1 (one_unless c.hearing.connection.receiver.ended) 1 (g.N.Sockets.net c.args.net.now) (g.N.Sockets.net c.hearing.net) (g.N.Sockets.net c.hear_next.new.net) (let s = i.spare in let one = less_than_one c.args.connection.now.receiver.ended in omega (arith, s, one)) i.changes k.changes

pub returns-in-Err-push-clause-kept : goal.returns-in-Err-push-clause-kept
returns-in-Err-push-clause-kept g c =
    kept_both c.args.connection.now c.hearing.connection c.hear_next.new.connection c.hearing.invariant.kept c.in-Ok-Message.ensures.kept

pub returns-in-Err-push-clause-sender : goal.returns-in-Err-push-clause-sender
returns-in-Err-push-clause-sender g c =
    sender_both c.args.connection.now.sender c.hearing.connection.sender c.hear_next.new.connection.sender c.hearing.invariant.sender c.in-Ok-Message.ensures.sender

pub returns-in-Ok-Over-clause-heard : goal.returns-in-Ok-Over-clause-heard
returns-in-Ok-Over-clause-heard g c =
    let i = c.hearing.invariant in
    let e = c.in-Ok-Over.ensures in
    let k0 = stepped_at g.N.Sockets.Becomes (λ vtable. (g.dyn-1.0.entry vtable).1) c.hearing.net c.hear_next.new.net (g.N.Sockets.net c.hearing.net) (g.N.Sockets.net c.hear_next.new.net) c.args.until c.args.connection.now c.hearing.connection (Ok c.in-Ok-Over.field-0) c.hear_next.new.connection.receiver i.kept i.sender (record { stepped = e.stepped; fits = e.fits; closer = e.closer; changes = e.changes; spare = e.spare; held = e.held }) in
    let k : Stepped g.N.Sockets.Becomes (g.N.Sockets.net c.hearing.net) (g.N.Sockets.net c.hear_next.new.net) c.args.connection.now.socket (is_stream c.args.connection.now.stack) (layers_of (λ vtable. (g.dyn-1.0.entry vtable).1) c.args.connection.now.chain) c.args.connection.now.sender.shut c.hearing.net c.hear_next.new.net c.args.until c.hearing.connection.receiver.ended (unread_of c.hearing.connection.receiver.source) (Ok (step.Over c.in-Ok-Over.outcome)) c.hear_next.new.connection.receiver.ended (unread_of c.hear_next.new.connection.receiver.source) = subst (λ v. Stepped g.N.Sockets.Becomes (g.N.Sockets.net c.hearing.net) (g.N.Sockets.net c.hear_next.new.net) c.args.connection.now.socket (is_stream c.args.connection.now.stack) (layers_of (λ vtable. (g.dyn-1.0.entry vtable).1) c.args.connection.now.chain) c.args.connection.now.sender.shut c.hearing.net c.hear_next.new.net c.args.until c.hearing.connection.receiver.ended (unread_of c.hearing.connection.receiver.source) (Ok v) c.hear_next.new.connection.receiver.ended (unread_of c.hear_next.new.connection.receiver.source)) c.in-Ok-Over.field-0-is k0 in
    let less : count_given (unread_of c.hearing.connection.receiver.source) < c.args.needs = (let test = c.hearing-test.true in let given = c.given.ensures in omega (arith, test, given)) in
    λ piece read before fits h.
    let o = i.hears piece read before fits h in
    let st = k.stepped piece c.args.needs (read ++ pieces_read o.calls) (before ++ c.hearing.heard.items) (i.fits piece fits) (fewer_than (layers_of (λ vtable. (g.dyn-1.0.entry vtable).1) c.args.connection.now.chain) c.hearing.connection.receiver.ended (unread_of c.hearing.connection.receiver.source) (read ++ pieces_read o.calls) (before ++ c.hearing.heard.items) c.args.needs o.represents less) o.represents in
    over_on g.N.Sockets.Becomes (decoding_of (is_stream c.args.connection.now.stack) (layers_of (λ vtable. (g.dyn-1.0.entry vtable).1) c.args.connection.now.chain)) (layers_of (λ vtable. (g.dyn-1.0.entry vtable).1) c.args.connection.now.chain) c.args.net.now c.hearing.net c.hear_next.new.net c.args.connection.now.socket piece c.args.until c.args.needs read c.args.connection.now.receiver.ended c.hearing.connection.receiver.ended (unread_of c.hearing.connection.receiver.source) (before ++ c.hearing.heard.items) g.met.N.Sockets.becomes_on o (Some c.in-Ok-Over.outcome) st

pub returns-in-Ok-Over-clause-changes : goal.returns-in-Ok-Over-clause-changes
returns-in-Ok-Over-clause-changes g c =
    let i = c.hearing.invariant in
    let e = c.in-Ok-Over.ensures in
    let k0 = stepped_at g.N.Sockets.Becomes (λ vtable. (g.dyn-1.0.entry vtable).1) c.hearing.net c.hear_next.new.net (g.N.Sockets.net c.hearing.net) (g.N.Sockets.net c.hear_next.new.net) c.args.until c.args.connection.now c.hearing.connection (Ok c.in-Ok-Over.field-0) c.hear_next.new.connection.receiver i.kept i.sender (record { stepped = e.stepped; fits = e.fits; closer = e.closer; changes = e.changes; spare = e.spare; held = e.held }) in
    let k : Stepped g.N.Sockets.Becomes (g.N.Sockets.net c.hearing.net) (g.N.Sockets.net c.hear_next.new.net) c.args.connection.now.socket (is_stream c.args.connection.now.stack) (layers_of (λ vtable. (g.dyn-1.0.entry vtable).1) c.args.connection.now.chain) c.args.connection.now.sender.shut c.hearing.net c.hear_next.new.net c.args.until c.hearing.connection.receiver.ended (unread_of c.hearing.connection.receiver.source) (Ok (step.Over c.in-Ok-Over.outcome)) c.hear_next.new.connection.receiver.ended (unread_of c.hear_next.new.connection.receiver.source) = subst (λ v. Stepped g.N.Sockets.Becomes (g.N.Sockets.net c.hearing.net) (g.N.Sockets.net c.hear_next.new.net) c.args.connection.now.socket (is_stream c.args.connection.now.stack) (layers_of (λ vtable. (g.dyn-1.0.entry vtable).1) c.args.connection.now.chain) c.args.connection.now.sender.shut c.hearing.net c.hear_next.new.net c.args.until c.hearing.connection.receiver.ended (unread_of c.hearing.connection.receiver.source) (Ok v) c.hear_next.new.connection.receiver.ended (unread_of c.hear_next.new.connection.receiver.source)) c.in-Ok-Over.field-0-is k0 in
    let less : count_given (unread_of c.hearing.connection.receiver.source) < c.args.needs = (let test = c.hearing-test.true in let given = c.given.ensures in omega (arith, test, given)) in
    changes_within c.args.connection.now.socket 1 (one_unless c.hearing.connection.receiver.ended) 1 (g.N.Sockets.net c.args.net.now) (g.N.Sockets.net c.hearing.net) (g.N.Sockets.net c.hear_next.new.net) (let s = i.spare in let one = less_than_one c.args.connection.now.receiver.ended in omega (arith, s, one)) i.changes k.changes

pub returns-in-Ok-Over-clause-kept : goal.returns-in-Ok-Over-clause-kept
returns-in-Ok-Over-clause-kept g c =
    kept_both c.args.connection.now c.hearing.connection c.hear_next.new.connection c.hearing.invariant.kept c.in-Ok-Over.ensures.kept

pub returns-in-Ok-Over-clause-sender : goal.returns-in-Ok-Over-clause-sender
returns-in-Ok-Over-clause-sender g c =
    sender_both c.args.connection.now.sender c.hearing.connection.sender c.hear_next.new.connection.sender c.hearing.invariant.sender c.in-Ok-Over.ensures.sender

pub returns-in-Err-clause-heard : goal.returns-in-Err-clause-heard
returns-in-Err-clause-heard g c =
    let i = c.hearing.invariant in
    let e = c.in-Err.ensures in
    let k = stepped_at g.N.Sockets.Becomes (λ vtable. (g.dyn-1.0.entry vtable).1) c.hearing.net c.hear_next.new.net (g.N.Sockets.net c.hearing.net) (g.N.Sockets.net c.hear_next.new.net) c.args.until c.args.connection.now c.hearing.connection (Err c.in-Err.none) c.hear_next.new.connection.receiver i.kept i.sender (record { stepped = e.stepped; fits = e.fits; closer = e.closer; changes = e.changes; spare = e.spare; held = e.held }) in
    let less : count_given (unread_of c.hearing.connection.receiver.source) < c.args.needs = (let test = c.hearing-test.true in let given = c.given.ensures in omega (arith, test, given)) in
    λ piece read before fits h.
    let o = i.hears piece read before fits h in
    let st = k.stepped piece c.args.needs (read ++ pieces_read o.calls) (before ++ c.hearing.heard.items) (i.fits piece fits) (fewer_than (layers_of (λ vtable. (g.dyn-1.0.entry vtable).1) c.args.connection.now.chain) c.hearing.connection.receiver.ended (unread_of c.hearing.connection.receiver.source) (read ++ pieces_read o.calls) (before ++ c.hearing.heard.items) c.args.needs o.represents less) o.represents in
    short_on g.N.Sockets.Becomes (decoding_of (is_stream c.args.connection.now.stack) (layers_of (λ vtable. (g.dyn-1.0.entry vtable).1) c.args.connection.now.chain)) (layers_of (λ vtable. (g.dyn-1.0.entry vtable).1) c.args.connection.now.chain) c.args.net.now c.hearing.net c.hear_next.new.net c.args.connection.now.socket piece c.args.until c.args.needs read c.args.connection.now.receiver.ended c.hearing.connection.receiver.ended (unread_of c.hearing.connection.receiver.source) (before ++ c.hearing.heard.items) g.met.N.Sockets.becomes_on o _ st

pub returns-in-Err-clause-changes : goal.returns-in-Err-clause-changes
returns-in-Err-clause-changes g c =
    let i = c.hearing.invariant in
    let e = c.in-Err.ensures in
    let k = stepped_at g.N.Sockets.Becomes (λ vtable. (g.dyn-1.0.entry vtable).1) c.hearing.net c.hear_next.new.net (g.N.Sockets.net c.hearing.net) (g.N.Sockets.net c.hear_next.new.net) c.args.until c.args.connection.now c.hearing.connection (Err c.in-Err.none) c.hear_next.new.connection.receiver i.kept i.sender (record { stepped = e.stepped; fits = e.fits; closer = e.closer; changes = e.changes; spare = e.spare; held = e.held }) in
    let less : count_given (unread_of c.hearing.connection.receiver.source) < c.args.needs = (let test = c.hearing-test.true in let given = c.given.ensures in omega (arith, test, given)) in
    changes_within c.args.connection.now.socket 1 (one_unless c.hearing.connection.receiver.ended) 1 (g.N.Sockets.net c.args.net.now) (g.N.Sockets.net c.hearing.net) (g.N.Sockets.net c.hear_next.new.net) (let s = i.spare in let one = less_than_one c.args.connection.now.receiver.ended in omega (arith, s, one)) i.changes k.changes

pub returns-in-Err-clause-kept : goal.returns-in-Err-clause-kept
returns-in-Err-clause-kept g c =
    kept_both c.args.connection.now c.hearing.connection c.hear_next.new.connection c.hearing.invariant.kept c.in-Err.ensures.kept

pub returns-in-Err-clause-sender : goal.returns-in-Err-clause-sender
returns-in-Err-clause-sender g c =
    sender_both c.args.connection.now.sender c.hearing.connection.sender c.hear_next.new.connection.sender c.hearing.invariant.sender c.in-Err.ensures.sender

pub returns-clause-heard : goal.returns-clause-heard
returns-clause-heard g c =
    let i = c.hearing.invariant in
    let all : count_given (unread_of c.hearing.connection.receiver.source) ≡ c.args.needs = (let test = c.hearing-test.false in let given = c.given.ensures in let few = i.few in omega (arith, test, given, few)) in
    λ piece read before fits h. enough_on g.N.Sockets.Becomes (is_stream c.args.connection.now.stack) (layers_of (λ vtable. (g.dyn-1.0.entry vtable).1) c.args.connection.now.chain) c.args.net.now c.hearing.net c.args.connection.now.socket piece c.args.until c.args.needs read c.args.connection.now.receiver.ended c.hearing.connection.receiver.ended (unread_of c.hearing.connection.receiver.source) (before ++ c.hearing.heard.items) c.requires.framers (let fits = c.ranges.needs.fits in omega (arith, fits)) (i.fits piece fits) all (i.hears piece read before fits h)

pub returns-clause-changes : goal.returns-clause-changes
returns-clause-changes g c =
    c.hearing.invariant.changes

pub returns-clause-kept : goal.returns-clause-kept
returns-clause-kept g c =
    c.hearing.invariant.kept

pub returns-clause-sender : goal.returns-clause-sender
returns-clause-sender g c =
    c.hearing.invariant.sender

pub returns-in-Err-push-clause-moment : goal.returns-in-Err-push-clause-moment
returns-in-Err-push-clause-moment g c =
    λ h. c.in-Ok-Message.ensures.moment (c.hearing.invariant.moment h)

pub returns-in-Ok-Over-clause-moment : goal.returns-in-Ok-Over-clause-moment
returns-in-Ok-Over-clause-moment g c =
    λ h. c.in-Ok-Over.ensures.moment (c.hearing.invariant.moment h)

pub returns-in-Err-clause-moment : goal.returns-in-Err-clause-moment
returns-in-Err-clause-moment g c =
    λ h. c.in-Err.ensures.moment (c.hearing.invariant.moment h)

pub returns-clause-moment : goal.returns-clause-moment
returns-clause-moment g c =
    c.hearing.invariant.moment

pub returns-clause-held : goal.returns-clause-held
returns-clause-held g c =
    c.hearing.invariant.held
