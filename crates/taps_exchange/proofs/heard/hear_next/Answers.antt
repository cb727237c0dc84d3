use Rattle.std.proofs.Common.{◌≡◌, ◌≤◌, ◌<◌, ◌+◌, ◌^◌, length, Some, refl, sym, ap, subst, arith}
use Rattle.std.specs.Prelude.{map}
use Rattle.std.proofs.lemmas.List.{append-nil}
use Rattle.taps_chain.specs.Layers.{layers_of}
use Rattle.taps_chain.specs.declared.heard.Heard.TheVariants as heard
use Rattle.taps_stack.specs.StackTable.{is_stream}
use Rattle.taps_connection.specs.Conditions.{IsHeld}
use Rattle.taps_connection.specs.Histories.{message, Represents}
use Rattle.taps_connection.specs.Inboxes.{IsSoundReceiver}
use Rattle.taps_connection.specs.Sources.{unread_of}
use Rattle.taps_exchange.specs.Changes.{Changes}
use Rattle.taps_exchange.specs.Decodings.{decoding_of}
use Rattle.taps_exchange.specs.Hearings.{IsLacking, HasStepped, IfGoesOn, IsCloser, one_unless}
use Rattle.taps_exchange.proofs.Behind.{unchanged}
use Rattle.taps_exchange.proofs.Kept.{lacking, broken, counted, fits_given, one_counted, need_same}
use Rattle.taps_exchange.proofs.HearingOn.{frame_ends, memory_ends, kept_receive, same_sender, sender_receive, kept_then, sender_then, messages_more}
use Rattle.taps_exchange.proofs.heard.hear_next.Goals as goal

pub receive-requires-clause-given : goal.receive-requires-clause-given
receive-requires-clause-given g c =
    c.requires.given

pub receive-requires-clause-sound : goal.receive-requires-clause-sound
receive-requires-clause-sound g c =
    c.requires.sound

pub ask_next-requires-clause-wanting : goal.ask_next-requires-clause-wanting
ask_next-requires-clause-wanting g c =
    c.in-Need.ensures.wanting refl

pub ask_next-requires-clause-sound : goal.ask_next-requires-clause-sound
ask_next-requires-clause-sound g c =
    subst (λ x. IsSoundReceiver (λ vtable. (g.dyn-1.0.entry vtable).1) x.stack (layers_of (λ vtable. (g.dyn-1.0.entry vtable).1) x.chain) c.receive.new.self.receiver) (sym c.receive.ensures.kept) c.receive.ensures.sound

pub ask_next-requires-clause-held : goal.ask_next-requires-clause-held
ask_next-requires-clause-held g c =
    subst (λ x. IsHeld (g.N.Sockets.net c.args.net.now).trace x.socket (is_stream x.stack) x.sender.shut c.receive.new.self.receiver.ended) (sym c.receive.ensures.kept) (subst (λ b. IsHeld (g.N.Sockets.net c.args.net.now).trace c.args.connection.now.socket (is_stream c.args.connection.now.stack) c.args.connection.now.sender.shut b) (sym c.receive.ensures.ended) c.requires.held)

pub ask_next-requires-clause-spare : goal.ask_next-requires-clause-spare
ask_next-requires-clause-spare g c =
    subst (λ b. one_unless b ≤ (g.N.Sockets.net c.args.net.now).spare) (sym c.receive.ensures.ended) c.requires.spare

pub ask_next-requires-clause-until : goal.ask_next-requires-clause-until
ask_next-requires-clause-until g c =
    c.requires.until

pub returns-in-Message-clause-stepped : goal.returns-in-Message-clause-stepped
returns-in-Message-clause-stepped g c =
    λ piece needs read heard fits less h. (g.met.N.Sockets.becomes_itself c.args.net.now, c.in-Message.ensures.ended, subst (Represents (layers_of (λ vtable. (g.dyn-1.0.entry vtable).1) c.args.connection.now.chain) c.args.connection.now.receiver.ended (unread_of c.receive.new.self.receiver.source) read) (messages_more heard c.in-Message.body) (c.in-Message.ensures.represents (Some read) (map message heard) h))

pub returns-in-Message-clause-fits : goal.returns-in-Message-clause-fits
returns-in-Message-clause-fits g c =
    λ piece h. fits_given (is_stream c.args.connection.now.stack) (layers_of (λ vtable. (g.dyn-1.0.entry vtable).1) c.args.connection.now.chain) (layers_of (λ vtable. (g.dyn-1.0.entry vtable).1) c.args.connection.now.chain) c.args.connection.now.receiver.ended piece (unread_of c.args.connection.now.receiver.source) (unread_of c.receive.new.self.receiver.source) (heard.Message c.in-Message.body) c.in-Message.ensures.given_out h

pub returns-in-Message-clause-changes : goal.returns-in-Message-clause-changes
returns-in-Message-clause-changes g c =
    unchanged c.args.connection.now.socket (one_unless c.args.connection.now.receiver.ended) (g.N.Sockets.net c.args.net.now)

pub returns-in-Message-clause-sound : goal.returns-in-Message-clause-sound
returns-in-Message-clause-sound g c =
    c.in-Message.ensures.sound

pub returns-in-Message-clause-kept : goal.returns-in-Message-clause-kept
returns-in-Message-clause-kept g c =
    kept_receive c.args.connection.now c.receive.new.self c.in-Message.ensures.kept

pub returns-in-Message-clause-sender : goal.returns-in-Message-clause-sender
returns-in-Message-clause-sender g c =
    same_sender c.args.connection.now.sender c.receive.new.self.sender (sender_receive c.args.connection.now c.receive.new.self c.in-Message.ensures.kept)

pub returns-in-Message-clause-closer : goal.returns-in-Message-clause-closer
returns-in-Message-clause-closer g c =
    one_counted (layers_of (λ vtable. (g.dyn-1.0.entry vtable).1) c.args.connection.now.chain) c.args.connection.now.receiver.ended (unread_of c.args.connection.now.receiver.source) (unread_of c.receive.new.self.receiver.source) c.in-Message.body c.in-Message.ensures.given_out

pub returns-in-Message-clause-spare : goal.returns-in-Message-clause-spare
returns-in-Message-clause-spare g c =
    let same : one_unless c.receive.new.self.receiver.ended ≡ one_unless c.args.connection.now.receiver.ended = ap one_unless c.in-Message.ensures.ended in omega (arith, same)

pub returns-in-Message-clause-held : goal.returns-in-Message-clause-held
returns-in-Message-clause-held g c =
    subst (λ b. IsHeld (g.N.Sockets.net c.args.net.now).trace c.args.connection.now.socket (is_stream c.args.connection.now.stack) c.args.connection.now.sender.shut b) (sym c.in-Message.ensures.ended) c.requires.held

pub returns-in-Bad-clause-stepped : goal.returns-in-Bad-clause-stepped
returns-in-Bad-clause-stepped g c =
    λ piece needs read heard fits less h.
    let small : length heard < 2 ^ 64 = (let n = counted (layers_of (λ vtable. (g.dyn-1.0.entry vtable).1) c.args.connection.now.chain) c.args.connection.now.receiver.ended (unread_of c.args.connection.now.receiver.source) read heard h in let q = c.requires.given in omega (arith, n, q)) in
    frame_ends g.N.Sockets.Becomes c.args.net.now c.args.net.now (decoding_of (is_stream c.args.connection.now.stack) (layers_of (λ vtable. (g.dyn-1.0.entry vtable).1) c.args.connection.now.chain)) c.args.connection.now.socket piece c.args.until needs read c.args.connection.now.receiver.ended heard c.in-Bad.bad (g.met.N.Sockets.becomes_itself c.args.net.now) (broken (is_stream c.args.connection.now.stack) (layers_of (λ vtable. (g.dyn-1.0.entry vtable).1) c.args.connection.now.chain) c.args.connection.now.receiver.ended piece needs read heard (unread_of c.args.connection.now.receiver.source) (unread_of c.receive.new.self.receiver.source) c.in-Bad.bad c.requires.framers small less fits c.in-Bad.ensures.given_out h)

pub returns-in-Bad-clause-fits : goal.returns-in-Bad-clause-fits
returns-in-Bad-clause-fits g c =
    λ piece h. fits_given (is_stream c.args.connection.now.stack) (layers_of (λ vtable. (g.dyn-1.0.entry vtable).1) c.args.connection.now.chain) (layers_of (λ vtable. (g.dyn-1.0.entry vtable).1) c.args.connection.now.chain) c.args.connection.now.receiver.ended piece (unread_of c.args.connection.now.receiver.source) (unread_of c.receive.new.self.receiver.source) (heard.Bad c.in-Bad.bad) c.in-Bad.ensures.given_out h

pub returns-in-Bad-clause-changes : goal.returns-in-Bad-clause-changes
returns-in-Bad-clause-changes g c =
    unchanged c.args.connection.now.socket (one_unless c.args.connection.now.receiver.ended) (g.N.Sockets.net c.args.net.now)

pub returns-in-Bad-clause-sound : goal.returns-in-Bad-clause-sound
returns-in-Bad-clause-sound g c =
    c.in-Bad.ensures.sound

pub returns-in-Bad-clause-kept : goal.returns-in-Bad-clause-kept
returns-in-Bad-clause-kept g c =
    kept_receive c.args.connection.now c.receive.new.self c.in-Bad.ensures.kept

pub returns-in-Bad-clause-sender : goal.returns-in-Bad-clause-sender
returns-in-Bad-clause-sender g c =
    same_sender c.args.connection.now.sender c.receive.new.self.sender (sender_receive c.args.connection.now c.receive.new.self c.in-Bad.ensures.kept)

pub returns-in-NoMemory-clause-stepped : goal.returns-in-NoMemory-clause-stepped
returns-in-NoMemory-clause-stepped g c =
    λ piece needs read heard fits less h. memory_ends g.N.Sockets.Becomes c.args.net.now c.args.net.now (decoding_of (is_stream c.args.connection.now.stack) (layers_of (λ vtable. (g.dyn-1.0.entry vtable).1) c.args.connection.now.chain)) c.args.connection.now.socket piece c.args.until needs read c.args.connection.now.receiver.ended heard _ (g.met.N.Sockets.becomes_itself c.args.net.now)

pub returns-in-NoMemory-clause-fits : goal.returns-in-NoMemory-clause-fits
returns-in-NoMemory-clause-fits g c =
    λ piece h. fits_given (is_stream c.args.connection.now.stack) (layers_of (λ vtable. (g.dyn-1.0.entry vtable).1) c.args.connection.now.chain) (layers_of (λ vtable. (g.dyn-1.0.entry vtable).1) c.args.connection.now.chain) c.args.connection.now.receiver.ended piece (unread_of c.args.connection.now.receiver.source) (unread_of c.receive.new.self.receiver.source) heard.NoMemory c.in-NoMemory.ensures.given_out h

pub returns-in-NoMemory-clause-changes : goal.returns-in-NoMemory-clause-changes
returns-in-NoMemory-clause-changes g c =
    unchanged c.args.connection.now.socket (one_unless c.args.connection.now.receiver.ended) (g.N.Sockets.net c.args.net.now)

pub returns-in-NoMemory-clause-sound : goal.returns-in-NoMemory-clause-sound
returns-in-NoMemory-clause-sound g c =
    c.in-NoMemory.ensures.sound

pub returns-in-NoMemory-clause-kept : goal.returns-in-NoMemory-clause-kept
returns-in-NoMemory-clause-kept g c =
    kept_receive c.args.connection.now c.receive.new.self c.in-NoMemory.ensures.kept

pub returns-in-NoMemory-clause-sender : goal.returns-in-NoMemory-clause-sender
returns-in-NoMemory-clause-sender g c =
    same_sender c.args.connection.now.sender c.receive.new.self.sender (sender_receive c.args.connection.now c.receive.new.self c.in-NoMemory.ensures.kept)

pub returns-in-Need-clause-stepped : goal.returns-in-Need-clause-stepped
returns-in-Need-clause-stepped g c =
    λ piece needs read heard fits less h.
    let small : length heard < 2 ^ 64 = (let n = counted (layers_of (λ vtable. (g.dyn-1.0.entry vtable).1) c.args.connection.now.chain) c.args.connection.now.receiver.ended (unread_of c.args.connection.now.receiver.source) read heard h in let q = c.requires.given in omega (arith, n, q)) in
    let lacks : IsLacking (decoding_of (is_stream c.args.connection.now.stack) (layers_of (λ vtable. (g.dyn-1.0.entry vtable).1) c.args.connection.now.chain)) piece needs read c.receive.new.self.receiver.ended (unread_of c.receive.new.self.receiver.source) heard =
    subst (λ b. IsLacking (decoding_of (is_stream c.args.connection.now.stack) (layers_of (λ vtable. (g.dyn-1.0.entry vtable).1) c.args.connection.now.chain)) piece needs read b (unread_of c.receive.new.self.receiver.source) heard) (sym c.receive.ensures.ended) (lacking (is_stream c.args.connection.now.stack) (layers_of (λ vtable. (g.dyn-1.0.entry vtable).1) c.args.connection.now.chain) c.args.connection.now.receiver.ended piece needs read heard (unread_of c.args.connection.now.receiver.source) (unread_of c.receive.new.self.receiver.source) c.requires.framers small less fits c.in-Need.ensures.given_out h) in
    let kept : Represents (layers_of (λ vtable. (g.dyn-1.0.entry vtable).1) c.args.connection.now.chain) c.receive.new.self.receiver.ended (unread_of c.receive.new.self.receiver.source) read (map message heard) =
    subst (λ b. Represents (layers_of (λ vtable. (g.dyn-1.0.entry vtable).1) c.args.connection.now.chain) b (unread_of c.receive.new.self.receiver.source) read (map message heard)) (sym c.receive.ensures.ended) (subst (Represents (layers_of (λ vtable. (g.dyn-1.0.entry vtable).1) c.args.connection.now.chain) c.args.connection.now.receiver.ended (unread_of c.receive.new.self.receiver.source) read) (append-nil (map message heard)) (c.in-Need.ensures.represents (Some read) (map message heard) h)) in
    let now : Represents (layers_of (λ vtable. (g.dyn-1.0.entry vtable).1) c.receive.new.self.chain) c.receive.new.self.receiver.ended (unread_of c.receive.new.self.receiver.source) read (map message heard) =
    subst (λ x. Represents (layers_of (λ vtable. (g.dyn-1.0.entry vtable).1) x.chain) c.receive.new.self.receiver.ended (unread_of c.receive.new.self.receiver.source) read (map message heard)) (sym c.receive.ensures.kept) kept in
    subst (λ b. HasStepped g.N.Sockets.Becomes (decoding_of (is_stream c.args.connection.now.stack) (layers_of (λ vtable. (g.dyn-1.0.entry vtable).1) c.args.connection.now.chain)) (layers_of (λ vtable. (g.dyn-1.0.entry vtable).1) c.args.connection.now.chain) c.args.net.now c.ask_next.new.net c.args.connection.now.socket piece c.args.until needs read b c.ask_next.new.connection.receiver.ended (unread_of c.ask_next.new.connection.receiver.source) c.ask_next.result heard) c.receive.ensures.ended
    (subst (λ x. HasStepped g.N.Sockets.Becomes (decoding_of (is_stream c.args.connection.now.stack) (layers_of (λ vtable. (g.dyn-1.0.entry vtable).1) c.args.connection.now.chain)) (layers_of (λ vtable. (g.dyn-1.0.entry vtable).1) x.chain) c.args.net.now c.ask_next.new.net x.socket piece c.args.until needs read c.receive.new.self.receiver.ended c.ask_next.new.connection.receiver.ended (unread_of c.ask_next.new.connection.receiver.source) c.ask_next.result heard) c.receive.ensures.kept
    (c.ask_next.ensures.stepped (decoding_of (is_stream c.args.connection.now.stack) (layers_of (λ vtable. (g.dyn-1.0.entry vtable).1) c.args.connection.now.chain)) piece needs read heard lacks now))

pub returns-in-Need-clause-fits : goal.returns-in-Need-clause-fits
returns-in-Need-clause-fits g c =
    λ piece h. c.ask_next.ensures.fits (is_stream c.args.connection.now.stack) (layers_of (λ vtable. (g.dyn-1.0.entry vtable).1) c.args.connection.now.chain) piece (fits_given (is_stream c.args.connection.now.stack) (layers_of (λ vtable. (g.dyn-1.0.entry vtable).1) c.args.connection.now.chain) (layers_of (λ vtable. (g.dyn-1.0.entry vtable).1) c.args.connection.now.chain) c.args.connection.now.receiver.ended piece (unread_of c.args.connection.now.receiver.source) (unread_of c.receive.new.self.receiver.source) heard.Need c.in-Need.ensures.given_out h)

pub returns-in-Need-clause-closer : goal.returns-in-Need-clause-closer
returns-in-Need-clause-closer g c =
    subst (λ v. IsCloser c.args.connection.now.receiver.ended v c.ask_next.result c.ask_next.new.connection.receiver.ended (unread_of c.ask_next.new.connection.receiver.source)) (need_same (layers_of (λ vtable. (g.dyn-1.0.entry vtable).1) c.args.connection.now.chain) c.args.connection.now.receiver.ended (unread_of c.args.connection.now.receiver.source) (unread_of c.receive.new.self.receiver.source) c.in-Need.ensures.given_out) (subst (λ b. IsCloser b (unread_of c.receive.new.self.receiver.source) c.ask_next.result c.ask_next.new.connection.receiver.ended (unread_of c.ask_next.new.connection.receiver.source)) c.receive.ensures.ended c.ask_next.ensures.closer)

pub returns-in-Need-clause-changes : goal.returns-in-Need-clause-changes
returns-in-Need-clause-changes g c =
    subst (λ b. Changes c.args.connection.now.socket (one_unless b) (g.N.Sockets.net c.args.net.now) (g.N.Sockets.net c.ask_next.new.net)) c.receive.ensures.ended (subst (λ x. Changes x.socket (one_unless c.receive.new.self.receiver.ended) (g.N.Sockets.net c.args.net.now) (g.N.Sockets.net c.ask_next.new.net)) c.receive.ensures.kept c.ask_next.ensures.changes)

pub returns-in-Need-clause-spare : goal.returns-in-Need-clause-spare
returns-in-Need-clause-spare g c =
    subst (λ b. IfGoesOn c.ask_next.result ((g.N.Sockets.net c.args.net.now).spare + one_unless c.ask_next.new.connection.receiver.ended ≤ (g.N.Sockets.net c.ask_next.new.net).spare + one_unless b)) c.receive.ensures.ended c.ask_next.ensures.spare

pub returns-in-Need-clause-sound : goal.returns-in-Need-clause-sound
returns-in-Need-clause-sound g c =
    subst (λ x. IsSoundReceiver (λ vtable. (g.dyn-1.0.entry vtable).1) x.stack (layers_of (λ vtable. (g.dyn-1.0.entry vtable).1) x.chain) c.ask_next.new.connection.receiver) c.receive.ensures.kept c.ask_next.ensures.sound

pub returns-in-Need-clause-held : goal.returns-in-Need-clause-held
returns-in-Need-clause-held g c =
    subst (λ x. IfGoesOn c.ask_next.result (IsHeld (g.N.Sockets.net c.ask_next.new.net).trace x.socket (is_stream x.stack) x.sender.shut c.ask_next.new.connection.receiver.ended)) c.receive.ensures.kept c.ask_next.ensures.held

pub returns-in-Need-clause-kept : goal.returns-in-Need-clause-kept
returns-in-Need-clause-kept g c =
    kept_then c.args.connection.now c.receive.new.self c.ask_next.new.connection c.receive.ensures.kept c.ask_next.ensures.kept

pub returns-in-Need-clause-sender : goal.returns-in-Need-clause-sender
returns-in-Need-clause-sender g c =
    sender_then c.args.connection.now.sender c.receive.new.self.sender c.ask_next.new.connection.sender (sender_receive c.args.connection.now c.receive.new.self c.receive.ensures.kept) c.ask_next.ensures.sender

pub returns-in-Message-clause-moment : goal.returns-in-Message-clause-moment
returns-in-Message-clause-moment g c =
    λ h. subst (λ v. v.moment ≤ (g.N.Sockets.net c.args.net.now).told) (sym (sender_receive c.args.connection.now c.receive.new.self c.in-Message.ensures.kept)) h

pub returns-in-Bad-clause-moment : goal.returns-in-Bad-clause-moment
returns-in-Bad-clause-moment g c =
    λ h. subst (λ v. v.moment ≤ (g.N.Sockets.net c.args.net.now).told) (sym (sender_receive c.args.connection.now c.receive.new.self c.in-Bad.ensures.kept)) h

pub returns-in-NoMemory-clause-moment : goal.returns-in-NoMemory-clause-moment
returns-in-NoMemory-clause-moment g c =
    λ h. subst (λ v. v.moment ≤ (g.N.Sockets.net c.args.net.now).told) (sym (sender_receive c.args.connection.now c.receive.new.self c.in-NoMemory.ensures.kept)) h

pub returns-in-Need-clause-moment : goal.returns-in-Need-clause-moment
returns-in-Need-clause-moment g c =
    λ h. c.ask_next.ensures.moment (subst (λ v. v.moment ≤ (g.N.Sockets.net c.args.net.now).told) (sym (sender_receive c.args.connection.now c.receive.new.self c.receive.ensures.kept)) h)
