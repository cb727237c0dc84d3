use Rattle.std.proofs.Common.{◌≡◌, true, false, refl, sym, ap, subst, ◌∙◌, arith}
use Rattle.taps_chain.specs.Layers.{layers_of}
use Rattle.taps_connection.specs.declared.pulled.Pulled.TheVariants as pulled
use Rattle.taps_connection.specs.Inboxes.{inbox_of, pulled_items}
use Rattle.taps_connection.specs.Sources.{unread_of}
use Rattle.taps_exchange.specs.Hearings.{Fits, one_unless}
use Rattle.taps_exchange.proofs.Behind.{unchanged, changes_by, pulled_own}
use Rattle.taps_exchange.proofs.Kept.{fits_more}
use Rattle.taps_exchange.proofs.HearingOn.{peer_ends, timed_ends, failed_ends, none_asked, got_more, end_more, got_closer, end_closer}
use Rattle.taps_exchange.proofs.Moments.{moment_pulled}
use Rattle.taps_exchange.proofs.heard.ask_next.Goals as goal

pub returns-then-has_ended-clause-stepped : goal.returns-then-has_ended-clause-stepped
returns-then-has_ended-clause-stepped g c =
    let e : c.args.connection.now.receiver.ended ≡ true = sym c.has_ended.ensures ∙ c.if-has_ended.true in
    λ d piece needs read heard l h. peer_ends g.N.Sockets.Becomes c.args.net.now c.args.net.now d c.args.connection.now.socket piece c.args.until needs read c.args.connection.now.receiver.ended heard (unread_of c.args.connection.now.receiver.source) (g.met.N.Sockets.becomes_itself c.args.net.now) e l

pub returns-then-has_ended-clause-fits : goal.returns-then-has_ended-clause-fits
returns-then-has_ended-clause-fits g c =
    λ stream fs piece h. h

pub returns-then-has_ended-clause-changes : goal.returns-then-has_ended-clause-changes
returns-then-has_ended-clause-changes g c =
    unchanged c.args.connection.now.socket (one_unless c.args.connection.now.receiver.ended) (g.N.Sockets.net c.args.net.now)

pub returns-then-has_ended-clause-sound : goal.returns-then-has_ended-clause-sound
returns-then-has_ended-clause-sound g c =
    c.requires.sound

pub returns-then-has_ended-clause-kept : goal.returns-then-has_ended-clause-kept
returns-then-has_ended-clause-kept g c =
    refl

pub returns-then-has_ended-clause-sender : goal.returns-then-has_ended-clause-sender
returns-then-has_ended-clause-sender g c =
    refl

pub ask_once-requires-clause-wanting : goal.ask_once-requires-clause-wanting
ask_once-requires-clause-wanting g c =
    c.requires.wanting

pub ask_once-requires-clause-goes_on : goal.ask_once-requires-clause-goes_on
ask_once-requires-clause-goes_on g c =
    let e : c.args.connection.now.receiver.ended ≡ false = sym c.has_ended.ensures ∙ c.if-has_ended.false in
    e

pub ask_once-requires-clause-sound : goal.ask_once-requires-clause-sound
ask_once-requires-clause-sound g c =
    c.requires.sound

pub ask_once-requires-clause-held : goal.ask_once-requires-clause-held
ask_once-requires-clause-held g c =
    c.requires.held

pub ask_once-requires-clause-until : goal.ask_once-requires-clause-until
ask_once-requires-clause-until g c =
    c.requires.until

pub ask_once-requires-clause-spare : goal.ask_once-requires-clause-spare
ask_once-requires-clause-spare g c =
    let e : c.args.connection.now.receiver.ended ≡ false = sym c.has_ended.ensures ∙ c.if-has_ended.false in
    let one : one_unless c.args.connection.now.receiver.ended ≡ 1 = ap one_unless e in let s = c.requires.spare in omega (arith, one, s)

pub returns-in-Got-clause-stepped : goal.returns-in-Got-clause-stepped
returns-in-Got-clause-stepped g c =
    let e : c.args.connection.now.receiver.ended ≡ false = sym c.has_ended.ensures ∙ c.if-has_ended.false in
    λ d piece needs read heard l h. got_more g.N.Sockets.Becomes c.args.net.now c.ask_once.new.net d c.args.connection.now.socket piece c.args.until needs read c.args.connection.now.receiver.ended heard (layers_of (λ vtable. (g.dyn-1.0.entry vtable).1) c.args.connection.now.chain) (g.N.Sockets.net c.args.net.now) (g.N.Sockets.net c.ask_once.new.net) (inbox_of c.args.connection.now.receiver c.args.connection.now.sender.moment) (inbox_of c.ask_once.new.connection.receiver c.ask_once.new.connection.sender.moment) e refl c.requires.wanting l h c.in-Got.ensures.pulled

pub returns-in-Got-clause-fits : goal.returns-in-Got-clause-fits
returns-in-Got-clause-fits g c =
    λ stream fs piece h. subst (Fits stream fs piece) (sym (ap (λ v. v.unread) c.in-Got.ensures.pulled.pulled.2.1)) (fits_more stream fs piece (unread_of c.args.connection.now.receiver.source) c.in-Got.ensures.pulled.came h)

pub returns-in-Got-clause-changes : goal.returns-in-Got-clause-changes
returns-in-Got-clause-changes g c =
    let e : c.args.connection.now.receiver.ended ≡ false = sym c.has_ended.ensures ∙ c.if-has_ended.false in
    let one : one_unless c.args.connection.now.receiver.ended ≡ 1 = ap one_unless e in
    changes_by c.args.connection.now.socket (one_unless c.args.connection.now.receiver.ended) (pulled_items c.args.connection.now.socket pulled.Got) _ (g.N.Sockets.net c.args.net.now) (g.N.Sockets.net c.ask_once.new.net) (omega (arith, one)) (pulled_own c.args.connection.now.socket pulled.Got) c.in-Got.ensures.adds

pub returns-in-Got-clause-sound : goal.returns-in-Got-clause-sound
returns-in-Got-clause-sound g c =
    c.in-Got.ensures.sound

pub returns-in-Got-clause-kept : goal.returns-in-Got-clause-kept
returns-in-Got-clause-kept g c =
    c.in-Got.ensures.kept

pub returns-in-Got-clause-sender : goal.returns-in-Got-clause-sender
returns-in-Got-clause-sender g c =
    c.in-Got.ensures.sender

pub returns-in-Got-clause-held : goal.returns-in-Got-clause-held
returns-in-Got-clause-held g c =
    c.in-Got.ensures.held

pub returns-in-Got-clause-closer : goal.returns-in-Got-clause-closer
returns-in-Got-clause-closer g c =
    got_closer g.N.Sockets.Becomes c.args.net.now c.ask_once.new.net (g.N.Sockets.net c.args.net.now) (g.N.Sockets.net c.ask_once.new.net) c.args.connection.now.socket c.args.until (inbox_of c.args.connection.now.receiver c.args.connection.now.sender.moment) (inbox_of c.ask_once.new.connection.receiver c.ask_once.new.connection.sender.moment) c.requires.wanting c.in-Got.ensures.pulled

pub returns-in-Got-clause-spare : goal.returns-in-Got-clause-spare
returns-in-Got-clause-spare g c =
    let same : one_unless c.ask_once.new.connection.receiver.ended ≡ one_unless c.args.connection.now.receiver.ended = ap (λ v. one_unless v.ended) c.in-Got.ensures.pulled.pulled.2.1 in let s = c.in-Got.ensures.adds.spare in omega (arith, same, s)

pub returns-in-Ended-clause-stepped : goal.returns-in-Ended-clause-stepped
returns-in-Ended-clause-stepped g c =
    let e : c.args.connection.now.receiver.ended ≡ false = sym c.has_ended.ensures ∙ c.if-has_ended.false in
    λ d piece needs read heard l h. end_more g.N.Sockets.Becomes c.args.net.now c.ask_once.new.net d c.args.connection.now.socket piece c.args.until needs read c.args.connection.now.receiver.ended heard (layers_of (λ vtable. (g.dyn-1.0.entry vtable).1) c.args.connection.now.chain) (g.N.Sockets.net c.args.net.now) (g.N.Sockets.net c.ask_once.new.net) (inbox_of c.args.connection.now.receiver c.args.connection.now.sender.moment) (inbox_of c.ask_once.new.connection.receiver c.ask_once.new.connection.sender.moment) e l h c.in-Ended.ensures.pulled

pub returns-in-Ended-clause-fits : goal.returns-in-Ended-clause-fits
returns-in-Ended-clause-fits g c =
    λ stream fs piece h. subst (Fits stream fs piece) (sym (ap (λ v. v.unread) c.in-Ended.ensures.pulled.pulled.1)) h

pub returns-in-Ended-clause-changes : goal.returns-in-Ended-clause-changes
returns-in-Ended-clause-changes g c =
    let e : c.args.connection.now.receiver.ended ≡ false = sym c.has_ended.ensures ∙ c.if-has_ended.false in
    let one : one_unless c.args.connection.now.receiver.ended ≡ 1 = ap one_unless e in
    changes_by c.args.connection.now.socket (one_unless c.args.connection.now.receiver.ended) (pulled_items c.args.connection.now.socket pulled.Ended) _ (g.N.Sockets.net c.args.net.now) (g.N.Sockets.net c.ask_once.new.net) (omega (arith, one)) (pulled_own c.args.connection.now.socket pulled.Ended) c.in-Ended.ensures.adds

pub returns-in-Ended-clause-sound : goal.returns-in-Ended-clause-sound
returns-in-Ended-clause-sound g c =
    c.in-Ended.ensures.sound

pub returns-in-Ended-clause-kept : goal.returns-in-Ended-clause-kept
returns-in-Ended-clause-kept g c =
    c.in-Ended.ensures.kept

pub returns-in-Ended-clause-sender : goal.returns-in-Ended-clause-sender
returns-in-Ended-clause-sender g c =
    c.in-Ended.ensures.sender

pub returns-in-Ended-clause-held : goal.returns-in-Ended-clause-held
returns-in-Ended-clause-held g c =
    c.in-Ended.ensures.held

pub returns-in-Ended-clause-closer : goal.returns-in-Ended-clause-closer
returns-in-Ended-clause-closer g c =
    let e : c.args.connection.now.receiver.ended ≡ false = sym c.has_ended.ensures ∙ c.if-has_ended.false in
    end_closer g.N.Sockets.Becomes c.args.net.now c.ask_once.new.net (g.N.Sockets.net c.args.net.now) (g.N.Sockets.net c.ask_once.new.net) c.args.connection.now.socket c.args.until (inbox_of c.args.connection.now.receiver c.args.connection.now.sender.moment) (inbox_of c.ask_once.new.connection.receiver c.ask_once.new.connection.sender.moment) e c.in-Ended.ensures.pulled

pub returns-in-Ended-clause-spare : goal.returns-in-Ended-clause-spare
returns-in-Ended-clause-spare g c =
    let e : c.args.connection.now.receiver.ended ≡ false = sym c.has_ended.ensures ∙ c.if-has_ended.false in
    let one : one_unless c.args.connection.now.receiver.ended ≡ 1 = ap one_unless e in let none : one_unless c.ask_once.new.connection.receiver.ended ≡ 0 = ap (λ v. one_unless v.ended) c.in-Ended.ensures.pulled.pulled.1 in let s = c.in-Ended.ensures.adds.spare in omega (arith, one, none, s)

pub returns-in-Timed-clause-stepped : goal.returns-in-Timed-clause-stepped
returns-in-Timed-clause-stepped g c =
    let e : c.args.connection.now.receiver.ended ≡ false = sym c.has_ended.ensures ∙ c.if-has_ended.false in
    λ d piece needs read heard l h. timed_ends g.N.Sockets.Becomes c.args.net.now c.ask_once.new.net d c.args.connection.now.socket piece c.args.until needs read c.args.connection.now.receiver.ended heard (g.N.Sockets.net c.args.net.now) (g.N.Sockets.net c.ask_once.new.net) (inbox_of c.args.connection.now.receiver c.args.connection.now.sender.moment) (inbox_of c.ask_once.new.connection.receiver c.ask_once.new.connection.sender.moment) c.in-Timed.field-0 e l c.in-Timed.ensures.pulled

pub returns-in-Timed-clause-fits : goal.returns-in-Timed-clause-fits
returns-in-Timed-clause-fits g c =
    λ stream fs piece h. subst (Fits stream fs piece) (sym (ap (λ v. v.unread) c.in-Timed.ensures.pulled.pulled.1)) h

pub returns-in-Timed-clause-changes : goal.returns-in-Timed-clause-changes
returns-in-Timed-clause-changes g c =
    let e : c.args.connection.now.receiver.ended ≡ false = sym c.has_ended.ensures ∙ c.if-has_ended.false in
    let one : one_unless c.args.connection.now.receiver.ended ≡ 1 = ap one_unless e in
    changes_by c.args.connection.now.socket (one_unless c.args.connection.now.receiver.ended) (pulled_items c.args.connection.now.socket (pulled.Timed c.in-Timed.field-0)) _ (g.N.Sockets.net c.args.net.now) (g.N.Sockets.net c.ask_once.new.net) (omega (arith, one)) (pulled_own c.args.connection.now.socket (pulled.Timed c.in-Timed.field-0)) c.in-Timed.ensures.adds

pub returns-in-Timed-clause-sound : goal.returns-in-Timed-clause-sound
returns-in-Timed-clause-sound g c =
    c.in-Timed.ensures.sound

pub returns-in-Timed-clause-kept : goal.returns-in-Timed-clause-kept
returns-in-Timed-clause-kept g c =
    c.in-Timed.ensures.kept

pub returns-in-Timed-clause-sender : goal.returns-in-Timed-clause-sender
returns-in-Timed-clause-sender g c =
    c.in-Timed.ensures.sender

pub returns-in-Failed-clause-stepped : goal.returns-in-Failed-clause-stepped
returns-in-Failed-clause-stepped g c =
    let e : c.args.connection.now.receiver.ended ≡ false = sym c.has_ended.ensures ∙ c.if-has_ended.false in
    λ d piece needs read heard l h. failed_ends g.N.Sockets.Becomes c.args.net.now c.ask_once.new.net d c.args.connection.now.socket piece c.args.until needs read c.args.connection.now.receiver.ended heard (g.N.Sockets.net c.args.net.now) (g.N.Sockets.net c.ask_once.new.net) (inbox_of c.args.connection.now.receiver c.args.connection.now.sender.moment) (inbox_of c.ask_once.new.connection.receiver c.ask_once.new.connection.sender.moment) c.in-Failed.cause e l c.in-Failed.ensures.pulled

pub returns-in-Failed-clause-fits : goal.returns-in-Failed-clause-fits
returns-in-Failed-clause-fits g c =
    λ stream fs piece h. subst (Fits stream fs piece) (sym (ap (λ v. v.unread) c.in-Failed.ensures.pulled.pulled.1)) h

pub returns-in-Failed-clause-changes : goal.returns-in-Failed-clause-changes
returns-in-Failed-clause-changes g c =
    let e : c.args.connection.now.receiver.ended ≡ false = sym c.has_ended.ensures ∙ c.if-has_ended.false in
    let one : one_unless c.args.connection.now.receiver.ended ≡ 1 = ap one_unless e in
    changes_by c.args.connection.now.socket (one_unless c.args.connection.now.receiver.ended) (pulled_items c.args.connection.now.socket (pulled.Failed c.in-Failed.cause)) _ (g.N.Sockets.net c.args.net.now) (g.N.Sockets.net c.ask_once.new.net) (omega (arith, one)) (pulled_own c.args.connection.now.socket (pulled.Failed c.in-Failed.cause)) c.in-Failed.ensures.adds

pub returns-in-Failed-clause-sound : goal.returns-in-Failed-clause-sound
returns-in-Failed-clause-sound g c =
    c.in-Failed.ensures.sound

pub returns-in-Failed-clause-kept : goal.returns-in-Failed-clause-kept
returns-in-Failed-clause-kept g c =
    c.in-Failed.ensures.kept

pub returns-in-Failed-clause-sender : goal.returns-in-Failed-clause-sender
returns-in-Failed-clause-sender g c =
    c.in-Failed.ensures.sender

pub returns-in-NoMemory-clause-stepped : goal.returns-in-NoMemory-clause-stepped
returns-in-NoMemory-clause-stepped g c =
    let e : c.args.connection.now.receiver.ended ≡ false = sym c.has_ended.ensures ∙ c.if-has_ended.false in
    λ d piece needs read heard l h. none_asked g.N.Sockets.Becomes c.args.net.now c.ask_once.new.net d c.args.connection.now.socket piece c.args.until needs read c.args.connection.now.receiver.ended heard (g.N.Sockets.net c.args.net.now) (g.N.Sockets.net c.ask_once.new.net) (inbox_of c.args.connection.now.receiver c.args.connection.now.sender.moment) (inbox_of c.ask_once.new.connection.receiver c.ask_once.new.connection.sender.moment) _ c.in-NoMemory.ensures.pulled

pub returns-in-NoMemory-clause-fits : goal.returns-in-NoMemory-clause-fits
returns-in-NoMemory-clause-fits g c =
    λ stream fs piece h. subst (Fits stream fs piece) (sym (ap (λ v. v.unread) c.in-NoMemory.ensures.pulled.pulled.1)) h

pub returns-in-NoMemory-clause-changes : goal.returns-in-NoMemory-clause-changes
returns-in-NoMemory-clause-changes g c =
    let e : c.args.connection.now.receiver.ended ≡ false = sym c.has_ended.ensures ∙ c.if-has_ended.false in
    let one : one_unless c.args.connection.now.receiver.ended ≡ 1 = ap one_unless e in
    changes_by c.args.connection.now.socket (one_unless c.args.connection.now.receiver.ended) (pulled_items c.args.connection.now.socket pulled.NoMemory) _ (g.N.Sockets.net c.args.net.now) (g.N.Sockets.net c.ask_once.new.net) (omega (arith, one)) (pulled_own c.args.connection.now.socket pulled.NoMemory) c.in-NoMemory.ensures.adds

pub returns-in-NoMemory-clause-sound : goal.returns-in-NoMemory-clause-sound
returns-in-NoMemory-clause-sound g c =
    c.in-NoMemory.ensures.sound

pub returns-in-NoMemory-clause-kept : goal.returns-in-NoMemory-clause-kept
returns-in-NoMemory-clause-kept g c =
    c.in-NoMemory.ensures.kept

pub returns-in-NoMemory-clause-sender : goal.returns-in-NoMemory-clause-sender
returns-in-NoMemory-clause-sender g c =
    c.in-NoMemory.ensures.sender

pub returns-then-has_ended-clause-moment : goal.returns-then-has_ended-clause-moment
returns-then-has_ended-clause-moment g c =
    λ h. h

pub returns-in-Got-clause-moment : goal.returns-in-Got-clause-moment
returns-in-Got-clause-moment g c =
    moment_pulled g.N.Sockets.Becomes c.args.net.now c.ask_once.new.net (g.N.Sockets.net c.args.net.now) (g.N.Sockets.net c.ask_once.new.net) c.args.connection.now.socket c.args.until (inbox_of c.args.connection.now.receiver c.args.connection.now.sender.moment) (inbox_of c.ask_once.new.connection.receiver c.ask_once.new.connection.sender.moment) pulled.Got c.in-Got.ensures.pulled

pub returns-in-Ended-clause-moment : goal.returns-in-Ended-clause-moment
returns-in-Ended-clause-moment g c =
    moment_pulled g.N.Sockets.Becomes c.args.net.now c.ask_once.new.net (g.N.Sockets.net c.args.net.now) (g.N.Sockets.net c.ask_once.new.net) c.args.connection.now.socket c.args.until (inbox_of c.args.connection.now.receiver c.args.connection.now.sender.moment) (inbox_of c.ask_once.new.connection.receiver c.ask_once.new.connection.sender.moment) pulled.Ended c.in-Ended.ensures.pulled

pub returns-in-Timed-clause-moment : goal.returns-in-Timed-clause-moment
returns-in-Timed-clause-moment g c =
    moment_pulled g.N.Sockets.Becomes c.args.net.now c.ask_once.new.net (g.N.Sockets.net c.args.net.now) (g.N.Sockets.net c.ask_once.new.net) c.args.connection.now.socket c.args.until (inbox_of c.args.connection.now.receiver c.args.connection.now.sender.moment) (inbox_of c.ask_once.new.connection.receiver c.ask_once.new.connection.sender.moment) (pulled.Timed c.in-Timed.field-0) c.in-Timed.ensures.pulled

pub returns-in-Failed-clause-moment : goal.returns-in-Failed-clause-moment
returns-in-Failed-clause-moment g c =
    moment_pulled g.N.Sockets.Becomes c.args.net.now c.ask_once.new.net (g.N.Sockets.net c.args.net.now) (g.N.Sockets.net c.ask_once.new.net) c.args.connection.now.socket c.args.until (inbox_of c.args.connection.now.receiver c.args.connection.now.sender.moment) (inbox_of c.ask_once.new.connection.receiver c.ask_once.new.connection.sender.moment) (pulled.Failed c.in-Failed.cause) c.in-Failed.ensures.pulled

pub returns-in-NoMemory-clause-moment : goal.returns-in-NoMemory-clause-moment
returns-in-NoMemory-clause-moment g c =
    moment_pulled g.N.Sockets.Becomes c.args.net.now c.ask_once.new.net (g.N.Sockets.net c.args.net.now) (g.N.Sockets.net c.ask_once.new.net) c.args.connection.now.socket c.args.until (inbox_of c.args.connection.now.receiver c.args.connection.now.sender.moment) (inbox_of c.ask_once.new.connection.receiver c.ask_once.new.connection.sender.moment) pulled.NoMemory c.in-NoMemory.ensures.pulled
