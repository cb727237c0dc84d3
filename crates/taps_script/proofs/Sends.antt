-- More room on a channel, and a send: what contracts see, and the step.
use Rattle.std.proofs.Common.{◌≡◌, ℕ, ◌-◌, ◌<◌, ◌≤◌, ◌^◌, Bool, true, false, List, [], ◌∷◌, ◌++◌, length, take, refl, ap, sym, ◌∙◌, subst, arith, if◌then◌else◌}
use Rattle.std.specs.Prelude.{◌==◌, max, slice_get, slice_set, Some, Result, Ok, Err, OnOk, OnErr}
use Rattle.std.specs.List.{concat}
use Rattle.std.specs.Option.{option_map}
use Rattle.std.proofs.Math.Path.{fun_ext}
use Rattle.std.proofs.lemmas.Bool.{eqb-true, eq-eqb}
use Rattle.std.proofs.lemmas.List.{append-nil, take-append-le}
use Rattle.std.proofs.lemmas.Option.{slice_get_within}
use Rattle.taps_base.specs.declared.no_memory.NoMemory.{NoMemory}
use Rattle.taps_socket.specs.declared.answers.SendAnswer.{SendAnswer}
use Rattle.taps_socket.specs.declared.answers.SendAnswer.TheVariants as send
use Rattle.taps_socket.specs.Sides.{carries_stream}
use Rattle.taps_socket.specs.Calls.{sends}
use Rattle.taps_socket.specs.Net.{Net, Traffic, with_room, with_piece, after_send, IsSendAnswer}
use Rattle.taps_socket.specs.Shows.{Shows, IsLawfulSend}
use Rattle.taps_socket.specs.Shown.{shows_room}
use Rattle.taps_script.specs.declared.line.Line.{Line}
use Rattle.taps_script.specs.declared.sending.SendStep.{SendStep}
use Rattle.taps_script.specs.ScriptLines.{is_echoing}
use Rattle.taps_script.specs.PeerTimes.{sent_pieces}
use Rattle.taps_script.specs.DataAnswers.{send_step}
use Rattle.taps_script.specs.ScriptSteps.{Step}
use Rattle.taps_script.specs.Channels.{Channel, as_piece, read_pieces, most_read, source, traffic_of, traffic_at, IsWithin}
use Rattle.taps_script.specs.ScriptNet.{Scripted, net_of, with_channel, sent_in, link_at, after_send_by, HasChannel, IsSendable, IsSendStep, IsSendAnswerAt, StaysScripted}
use Rattle.taps_script.specs.Goings.{goes_none, goes_room, goes}
use Rattle.taps_script.proofs.Traffics.{traffic_found, traffic_set}

-- a channel that was found has a place
placed : (a : Scripted) (socket : ℕ) (h : HasChannel a socket) → socket < length a.channels
placed a socket h = slice_get_within a.channels socket h.channel h.there

-- the traffic with another channel
set_traffic : (a : Scripted) (socket : ℕ) (c : Channel) → HasChannel a socket → traffic_at a.lines (slice_set a.channels socket c) ≡ (λ s. if socket == s then traffic_of a.lines c else traffic_at a.lines a.channels s)
set_traffic a socket c h = traffic_set a.lines a.channels socket c (placed a socket h)

own_traffic : (a : Scripted) (socket : ℕ) (c : Channel) → HasChannel a socket → traffic_at a.lines (slice_set a.channels socket c) socket ≡ traffic_of a.lines c
own_traffic a socket c h = ap (λ f. f socket) (set_traffic a socket c h) ∙ rw (eq-eqb socket socket refl) refl

found : (a : Scripted) (socket : ℕ) (h : HasChannel a socket) → traffic_at a.lines a.channels socket ≡ traffic_of a.lines h.channel
found a socket h = traffic_found a.lines a.channels socket h.channel h.there

-- more room
pub record IsMade (a b : Scripted) (socket bytes : ℕ) (r : Result (Unit {0}) NoMemory) : Type 0 where
  pub net : net_of b ≡ with_room (net_of a) socket (traffic_at b.lines b.channels socket).room
  pub room : OnOk r (bytes ≤ (traffic_at b.lines b.channels socket).room)
  pub kept : (traffic_at a.lines a.channels socket).room ≤ (traffic_at b.lines b.channels socket).room
  pub becomes : StaysScripted a [] b

one_room : (q : Bool) (x y : Traffic) → (q ≡ true → x ≡ y) → (if q then record x { room = x.room } else y) ≡ y
one_room true x y same = same refl
one_room false x y same = refl

same_room : (f : ℕ → Traffic) (socket : ℕ) → f ≡ (λ s. if socket == s then record (f socket) { room = (f socket).room } else f s)
same_room f socket = fun_ext (λ s. sym (one_room (socket == s) (f socket) (f s) (λ e. ap f (eqb-true socket s e))))

made_none : (a : Scripted) (socket bytes : ℕ) (e : NoMemory) → IsMade a a socket bytes (Err e)
made_none a socket bytes e =
    record {
      net = ap (λ t. (let n : Net = record (net_of a) { traffic = t } in n)) (same_room (traffic_at a.lines a.channels) socket);
      room = tt;
      kept = omega arith;
      becomes = goes_none a;
    }

-- each traffic but for its room
but_room : (q : Bool) (x y : Traffic) (room : ℕ) → (q ≡ true → x ≡ y) → (if q then record x { room = room } else y) ≡ record y { room = (if q then record x { room = room } else y).room }
but_room true x y room same = ap (λ v. (let t : Traffic = record v { room = room } in t)) (same refl)
but_room false x y room same = refl

no_less : (q : Bool) (x y : Traffic) (room : ℕ) → (q ≡ true → x ≡ y) → x.room ≤ room → y.room ≤ (if q then record x { room = room } else y).room
no_less true x y room same more = subst (λ v. v.room ≤ room) (same refl) more
no_less false x y room same more = omega arith

-- the traffic with that of one socket, with this room
abbrev with_own : (ℕ → Traffic) → ℕ → ℕ → Traffic → ℕ → Traffic
with_own f socket room t = λ s. if socket == s then record t { room = room } else f s

made_some : (a : Scripted) (socket bytes : ℕ) (h : HasChannel a socket) → IsMade a (with_channel a socket (record h.channel { room = max h.channel.room bytes })) socket bytes (Ok tt)
made_some a socket bytes h =
    let room = max h.channel.room bytes in
    let c : Channel = record h.channel { room = room } in
    let b = with_channel a socket c in
    let f = traffic_at a.lines a.channels in
    let was = found a socket h in
    let own : traffic_at a.lines (slice_set a.channels socket c) socket ≡ traffic_of a.lines c = own_traffic a socket c h in
    let its : (traffic_at a.lines (slice_set a.channels socket c) socket).room ≡ room = ap (λ t. t.room) own in
    let old : (f socket).room ≡ h.channel.room = ap (λ t. t.room) was in
    let all : traffic_at a.lines (slice_set a.channels socket c) ≡ (λ s. if socket == s then record (f socket) { room = room } else f s) =
    set_traffic a socket c h ∙ ap (with_own f socket room) (sym was) in
    let same : (s : ℕ) → (socket == s) ≡ true → f socket ≡ f s = λ s e. ap f (eqb-true socket s e) in
    let at : (s : ℕ) → traffic_at a.lines (slice_set a.channels socket c) s ≡ (if socket == s then record (f socket) { room = room } else f s) = λ s. ap (λ g. g s) all in
    let shows : Shows (net_of a) [] (net_of b) = shows_room (net_of a) (net_of b) refl (omega arith)
    (λ s. subst (λ t. t ≡ record (f s) { room = t.room }) (sym (at s)) (but_room (socket == s) (f socket) (f s) room (same s)))
    (λ s. subst (λ t. (f s).room ≤ t.room) (sym (at s)) (no_less (socket == s) (f socket) (f s) room (same s) (omega arith))) in
    record {
      net = ap (λ t. (let n : Net = record (net_of a) { traffic = t } in n)) all ∙ ap (λ r. with_room (net_of a) socket r) (sym its);
      room = omega arith;
      kept = omega arith;
      becomes = goes_room a b refl refl shows;
    }

pub made : (a b : Scripted) (socket bytes : ℕ) (r : Result (Unit {0}) NoMemory) → HasChannel a socket → OnOk r ((c : Channel) → slice_get a.channels socket ≡ Some c → b ≡ with_channel a socket (record c { room = max c.room bytes })) → OnErr r (b ≡ a) → IsMade a b socket bytes r
made a b socket bytes (Ok x) h ok err = subst (λ v. IsMade a v socket bytes (Ok x)) (sym (ok h.channel h.there)) (made_some a socket bytes h)
made a b socket bytes (Err e) h ok err = subst (λ v. IsMade a v socket bytes (Err e)) (sym err) (made_none a socket bytes e)

-- what was read stays so as more is written
stays_read : (echo stream : Bool) (n : ℕ) (piece : List ℕ) (written other : List (List ℕ)) → n ≤ most_read stream (if echo then written else other) →
    read_pieces stream n (if echo then with_piece stream piece written else other) ≡ read_pieces stream n (if echo then written else other)
stays_read false stream n piece written other h = refl
stays_read true true n piece written other h =
    ap as_piece (ap (take n) (append-nil (concat written ++ piece)) ∙ take-append-le n (concat written) piece h)
stays_read true false n piece written other h = take-append-le n written (piece ∷ []) h

-- a send
pub record IsSent (a b : Scripted) (socket until : ℕ) (bytes : List ℕ) (answer : SendAnswer) : Type 0 where
  pub net : net_of b ≡ after_send socket bytes until answer (net_of a)
  pub becomes : StaysScripted a (sends socket bytes until answer ∷ []) b

sent_traffic : (lines : List Line) (c : Channel) (stream : Bool) (piece : List ℕ) (at : ℕ) → c.stream ≡ stream → IsWithin lines c →
    traffic_of lines (sent_in c piece at) ≡ record (traffic_of lines c) { room = c.room - length piece; last_sent = Some at; written = Some (with_piece stream piece c.written) }
sent_traffic lines c stream piece at same within =
    ap (λ r. (let t : Traffic = record { room = c.room - length piece; last_sent = Some at; written = Some (with_piece c.stream piece c.written); read = Some r } in t)) (stays_read (is_echoing lines) c.stream c.read piece c.written (sent_pieces lines) within)
    ∙ ap (λ s. (let t : Traffic = record { room = c.room - length piece; last_sent = Some at; written = Some (with_piece s piece c.written); read = Some (read_pieces c.stream c.read (source lines c.written)) } in t)) same

sent_net : (a : Scripted) (socket until clock count at : ℕ) (bytes : List ℕ) (h : HasChannel a socket) → net_of (after_send_by a socket h.channel bytes until clock (send.Sent count at)) ≡ after_send socket bytes until (send.Sent count at) (net_of a)
sent_net a socket until clock count at bytes h =
    let piece = take count bytes in
    let stream = carries_stream a.trace socket in
    let f = traffic_at a.lines a.channels in
    let grown : Traffic → Traffic = λ t. record t { room = t.room - length piece; last_sent = Some at; written = option_map (with_piece stream piece) t.written } in
    let all : traffic_at a.lines (slice_set a.channels socket (sent_in h.channel piece at)) ≡ (λ s. if socket == s then grown (f socket) else f s) =
    set_traffic a socket (sent_in h.channel piece at) h
    ∙ (ap (λ t. (let g : ℕ → Traffic = λ s. if socket == s then t else f s in g)) (sent_traffic a.lines h.channel stream piece at h.its.stream h.its.within)
    ∙ ap (λ t. (let g : ℕ → Traffic = λ s. if socket == s then grown t else f s in g)) (sym (found a socket h))) in
    ap (λ t. (let n : Net = record (net_of a) { traffic = t; told = at } in n)) all

pub answered : (answer : SendAnswer) (stream : Bool) (clock n until told : ℕ) → told ≤ clock → clock < 2 ^ 63 → IsSendAnswerAt answer clock stream n until → IsSendAnswer answer stream n until told
answered (send.Sent count at) stream clock n until told later fits h = let same = h.2 in (h.0, h.1, record { later = omega arith; fits = omega arith })
answered (send.Timed at) stream clock n until told later fits h = let same = h.1 in (h.0, record { later = omega arith; fits = omega arith })
answered (send.Failed cause) stream clock n until told later fits h = tt

step_is : (a : Scripted) (socket until clock other : ℕ) (bytes : List ℕ) (answer : SendAnswer) → other ≡ clock → (let x : SendStep = record { clock = clock; answer = answer } in x) ≡ send_step a.lines (link_at a socket) a.clock (length bytes) until →
    (let s : Step = record { clock = other; call = sends socket bytes until answer } in s) ≡ (let s : Step = record { clock = (send_step a.lines (link_at a socket) a.clock (length bytes) until).clock; call = sends socket bytes until (send_step a.lines (link_at a socket) a.clock (length bytes) until).answer } in s)
step_is a socket until clock other bytes answer same is =
    ap (λ n. (let s : Step = record { clock = n; call = sends socket bytes until answer } in s)) same ∙ ap (λ x. (let s : Step = record { clock = x.clock; call = sends socket bytes until x.answer } in s)) is

sent_by : (a : Scripted) (socket until clock : ℕ) (bytes : List ℕ) (answer : SendAnswer) (h : HasChannel a socket) → IsSendAnswerAt answer clock (carries_stream a.trace socket) (length bytes) until →
    (let x : SendStep = record { clock = clock; answer = answer } in x) ≡ send_step a.lines (link_at a socket) a.clock (length bytes) until →
    IsLawfulSend socket bytes until answer a.trace a.told → IsSent a (after_send_by a socket h.channel bytes until clock answer) socket until bytes answer
sent_by a socket until clock bytes (send.Sent count at) h may is lawful =
    let b = after_send_by a socket h.channel bytes until clock (send.Sent count at) in
    let net = sent_net a socket until clock count at bytes h in
    record { net = net; becomes = goes a b (sends socket bytes until (send.Sent count at)) refl net lawful (omega arith) (λ e. (let z : false ≡ true = e in absurd cc)) (step_is a socket until clock at bytes (send.Sent count at) may.2 is) }
sent_by a socket until clock bytes (send.Timed at) h may is lawful =
    let b = after_send_by a socket h.channel bytes until clock (send.Timed at) in
    record { net = refl; becomes = goes a b (sends socket bytes until (send.Timed at)) refl refl lawful (omega arith) (λ e. (let z : false ≡ true = e in absurd cc)) (step_is a socket until clock at bytes (send.Timed at) may.1 is) }
sent_by a socket until clock bytes (send.Failed cause) h may is lawful =
    let b = after_send_by a socket h.channel bytes until clock (send.Failed cause) in
    record { net = refl; becomes = goes a b (sends socket bytes until (send.Failed cause)) refl refl lawful (omega arith) (λ e. (let z : false ≡ true = e in absurd cc)) (step_is a socket until clock clock bytes (send.Failed cause) refl is) }

pub sent : (a b : Scripted) (socket until : ℕ) (bytes : List ℕ) (x : SendStep) (h : HasChannel a socket) → b ≡ after_send_by a socket h.channel bytes until x.clock x.answer → IsSendStep x (carries_stream a.trace socket) (length bytes) until a.told →
    x ≡ send_step a.lines (link_at a socket) a.clock (length bytes) until → IsLawfulSend socket bytes until x.answer a.trace a.told → IsSent a b socket until bytes x.answer
sent a b socket until bytes x h after may is lawful = subst (λ v. IsSent a v socket until bytes x.answer) (sym after) (sent_by a socket until x.clock bytes x.answer h may.answer is lawful)

-- so many bytes may be sent on the channel
pub sendable : (a : Scripted) (socket count : ℕ) → HasChannel a socket → count ≤ (traffic_at a.lines a.channels socket).room → 1 ≤ count → (carries_stream a.trace socket ≡ false → count ≤ 65507) → (c : Channel) → slice_get a.channels socket ≡ Some c → IsSendable c count
sendable a socket count h room some datagram c there =
    let same : h.channel ≡ c = (let e : Some h.channel ≡ Some c = sym h.there ∙ there in cc) in
    let its : (traffic_at a.lines a.channels socket).room ≡ h.channel.room = ap (λ t. t.room) (found a socket h) in
    subst (λ d. IsSendable d count) same (record { room = omega arith; some = some; datagram = λ e. datagram (sym h.its.stream ∙ e) })
