-- The turn of a message that was taken out of the queue.
use Rattle.std.proofs.Common.{◌≡◌, ℕ, ◌+◌, ◌<◌, ◌≤◌, Bool, true, false, List, [], ◌∷◌, length, refl, sym, ap, ◌∙◌, subst, arith, if◌then◌else◌}
use Rattle.std.specs.Prelude.{Option, Some, None}
use Rattle.std.specs.List.{All}
use Rattle.std.proofs.lemmas.Bool.{le-leb}
use Rattle.std.proofs.lemmas.List.Elements.{All-tail}
use Rattle.taps_framer.specs.Layers.{Layer}
use Rattle.taps_message.specs.declared.message.Message.{Message}
use Rattle.taps_message.specs.declared.accepted.Accepted.{Accepted}
use Rattle.taps_message.specs.Expiry.{has_expired}
use Rattle.taps_message.specs.Queues.{Queue, SendQueueState, with_front, GivesMessage}
use Rattle.taps_connection.specs.declared.sender.Begun.{Begun}
use Rattle.taps_connection.specs.declared.sender.Sender.{Sender}
use Rattle.taps_connection.specs.declared.sender.Pushed.{Pushed}
use Rattle.taps_connection.specs.declared.sender.Pushed.TheVariants as pushed
use Rattle.taps_connection.specs.Encodings.{Encoding, encoding_of, refusal_of, ends_of}
use Rattle.taps_connection.specs.Outboxes.{Outbox, refused, take_turn, turn_by, with_rest}
use Rattle.taps_connection.specs.Senders as senders
use Rattle.taps_connection.specs.Senders.{settled, settled_by, queued, idle, turn_of, turn_in, turn_if, begun_of, goes, expires, refuses, behind_by, tail_of, queue_behind, IsBegun, IsTakenOut, IsSame, IsTried, IsTaken, IsOpened, IsPushed}
use Rattle.taps_connection.specs.Sound as sound
use Rattle.taps_connection.specs.Sound.{IsSound, IsOver, one_message, final_sent, IsReady, IsReadyIf, HasFinalLast, IsShort}

-- the queue is what it was but for its front
rest_is : (s : Sender) (m : Accepted) (q : Queue) → s.begun ≡ None → s.queue.queue ≡ with_front m q → q ≡ queue_behind s
rest_is s m q none front = sym (ap (λ (o : Option Begun). record s.queue.queue { queued = behind_by o (queued s) }) none ∙ ap (λ (v : Queue). record v { queued = tail_of v.queued }) front)

queued_is : (s : Sender) (m : Accepted) (q : Queue) → s.queue.queue ≡ with_front m q → queued s ≡ m ∷ q.queued
queued_is s m q front = ap (λ (v : Queue). v.queued) front

settled_is : (e : Encoding) (s : Sender) (m : Accepted) (q : Queue) → s.begun ≡ None → s.queue.queue ≡ with_front m q → settled e s ≡ take_turn e s.moment s.sent s.expired (m ∷ q.queued)
settled_is e s m q none front = ap (settled_by e s) none ∙ ap (take_turn e s.moment s.sent s.expired) (queued_is s m q front)

turn_is : (e : Encoding) (s : Sender) (m : Accepted) (q : Queue) → s.begun ≡ None → s.queue.queue ≡ with_front m q → turn_of e s ≡ turn_in e s.moment s.sent (m ∷ q.queued)
turn_is e s m q none front = ap (senders.turn_by e s) none ∙ ap (turn_in e s.moment s.sent) (queued_is s m q front)

-- it has not expired
abbrev opened : Encoding → Sender → Accepted → List Accepted → Outbox
opened e s m behind = with_rest (take_turn e s.moment (s.sent + 1) s.expired behind) (idle s) m.number (e.ends m.message.props.is_final) (e.bytes s.sent m.message.body) behind

settled_lasts : (e : Encoding) (s : Sender) (m : Accepted) (behind : List Accepted) → has_expired m s.moment ≡ false → take_turn e s.moment s.sent s.expired (m ∷ behind) ≡ turn_by (e.refusal s.sent m.message.body) (idle s) m.number behind (opened e s m behind)
settled_lasts e s m behind lasts = rw lasts refl

turn_lasts : (e : Encoding) (s : Sender) (m : Accepted) (behind : List Accepted) → has_expired m s.moment ≡ false → turn_in e s.moment s.sent (m ∷ behind) ≡ turn_if (e.refusal s.sent m.message.body) m.number (begun_of e s.sent m)
turn_lasts e s m behind lasts = rw lasts refl

-- it is begun
begins : (e : Encoding) (s t : Sender) (m : Accepted) (q : Queue) → s.begun ≡ None → s.queue.queue ≡ with_front m q → has_expired m s.moment ≡ false → e.refusal s.sent m.message.body ≡ None →
    t.queue.queue ≡ q → t ≡ record s { queue = t.queue; begun = Some (begun_of e s.sent m) } → IsBegun e s t
begins e s t m q none front lasts spoken queue kept =
    record {
      message = begun_of e s.sent m;
      none = none;
      turn = turn_is e s m q none front ∙ (turn_lasts e s m q.queued lasts ∙ ap (λ o. turn_if o m.number (begun_of e s.sent m)) spoken);
      kept = kept;
      queue = queue ∙ rest_is s m q none front;
      represents =
          ap (settled e) kept
          ∙ (ap (λ (v : Queue). opened e s m v.queued) queue
          ∙ sym (settled_is e s m q none front ∙ (settled_lasts e s m q.queued lasts ∙ ap (λ o. turn_by o (idle s) m.number q.queued (opened e s m q.queued)) spoken)));
    }

refused_is : (e : Encoding) (socket until : ℕ) (s t : Sender) (m : Accepted) (q : Queue) (layer : ℕ) → s.begun ≡ None → s.queue.queue ≡ with_front m q → has_expired m s.moment ≡ false → e.refusal s.sent m.message.body ≡ Some layer →
    t.queue.queue ≡ q → t ≡ record s { queue = t.queue } → IsPushed e socket until s (pushed.NotSpeakable m.number layer) [] t
refused_is e socket until s t m q layer none front lasts refusal queue kept = (
  ap (λ v. v.stand) (settled_is e s m q none front ∙ (settled_lasts e s m q.queued lasts ∙ ap (λ o. turn_by o (idle s) m.number q.queued (opened e s m q.queued)) refusal))
      ∙ ap (λ (v : Queue). refused m.number layer v.queued) (sym queue),
  turn_is e s m q none front ∙ (turn_lasts e s m q.queued lasts ∙ ap (λ o. turn_if o m.number (begun_of e s.sent m)) refusal),
  ap (λ (v : Sender). v.expired) kept,
  record {
    begun = none;
    nothing_called = refl;
    kept = kept ∙ ap (λ o. record s { queue = t.queue; expired = o }) (sym (ap (λ (v : Sender). v.expired) kept));
    queue = queue ∙ rest_is s m q none front;
  },
)

-- what is kept but for the queue is what was kept
moved : (s t : Sender) (q : SendQueueState) → t ≡ record s { queue = q } → t ≡ record s { queue = t.queue }
moved s t q e = e ∙ ap (λ (v : SendQueueState). record s { queue = v }) (sym (ap (λ (x : Sender). x.queue) e))

-- of a message that has not expired the bytes are made
tried : (o : Option ℕ) (number : ℕ) (b : Begun) → IsTried (turn_if o number b)
tried None number b = tt
tried (Some layer) number b = tt

pub taken_by : (e : Encoding) (socket until : ℕ) (s : Sender) (q : SendQueueState) (number : ℕ) (message : Message) (o : Option Pushed) (t : Sender) → s.begun ≡ None →
    GivesMessage s.queue.queue s.moment number message q → IsOpened e (record s { queue = q }) number message o t → IsTaken e socket until s o t
taken_by e socket until s q number message None t none given (spoken, kept) =
    let m : Accepted = record { number = number; at = given.at; message = message } in
    begins e s t m q.queue none given.front given.lasts spoken (ap (λ (x : Sender). x.queue.queue) kept)
    (kept ∙ ap (λ (v : SendQueueState). record s { queue = v; begun = Some (begun_of e s.sent m) }) (sym (ap (λ (x : Sender). x.queue) kept)))
taken_by e socket until s q number message (Some (pushed.NotSpeakable n layer)) t none given h =
    let m : Accepted = record { number = number; at = given.at; message = message } in
    let p = refused_is e socket until s t m q.queue layer none given.front given.lasts h.1 (ap (λ (x : Sender). x.queue.queue) h.2) (moved s t q h.2) in
    (subst (λ i. IsPushed e socket until s (pushed.NotSpeakable i layer) [] t) (sym h.0) p, tt)
taken_by e socket until s q number message (Some pushed.NoMemory) t none given (kept, back) =
    let m : Accepted = record { number = number; at = given.at; message = message } in
    let turn = turn_is e s m q.queue none given.front ∙ turn_lasts e s m q.queue.queued given.lasts in (
      (
        subst IsTried (sym turn) (tried (e.refusal s.sent message.body) number (begun_of e s.sent m)),
        record { begun = none; nothing_called = refl; kept = kept; queue = back given.at given.taken ∙ sym given.front },
      ),
      tt,
    )
taken_by e socket until s q number message (Some (pushed.Sent n)) t none given h = absurd h
taken_by e socket until s q number message (Some pushed.Empty) t none given h = absurd h
taken_by e socket until s q number message (Some (pushed.Expired n)) t none given h = absurd h
taken_by e socket until s q number message (Some (pushed.Timed at)) t none given h = absurd h
taken_by e socket until s q number message (Some (pushed.Failed cause)) t none given h = absurd h

-- what holds of the rest of a queue that has a front
over_is : (stream : Bool) (fs : List Layer) (sent : ℕ) (m : Accepted) (q p : Queue) → p ≡ with_front m q → IsOver stream fs sent p → (stream ≡ true) × (fs ≡ []) × (1 ≤ sent)
over_is stream fs sent m q p front (one_message a b c) = (a, b, c)
over_is stream fs sent m q p front (final_sent a b) = (let z : m ∷ q.queued ≡ [] = sym (ap (λ (v : Queue). v.queued) front) ∙ a in cc)

refuses_more : (sent : ℕ) (body : List ℕ) → 1 ≤ sent → refusal_of true [] sent body ≡ None → ⊥
refuses_more sent body h e =
    let none : Option ℕ = None in
    let z : Some 0 ≡ none = subst (λ (q : Bool). (if q then Some 0 else None) ≡ none) (le-leb 1 sent h) e in
    cc

pub none_behind : (stream : Bool) (fs : List Layer) (sent : ℕ) (m : Accepted) (q p : Queue) → p ≡ with_front m q → IsOver stream fs sent p → refusal_of stream fs sent m.message.body ≡ None → ⊥
none_behind stream fs sent m q p front over spoken =
    let (a, b, c) = over_is stream fs sent m q p front over in
    refuses_more sent m.message.body c (subst (λ (v : List Layer). refusal_of true v sent m.message.body ≡ None) b (subst (λ v. refusal_of v fs sent m.message.body ≡ None) a spoken))

-- it goes out of what is kept, and no other message is begun
pub sound_without : (stream : Bool) (fs : List Layer) (s t : Sender) (m : Accepted) (q : Queue) → s.begun ≡ None → s.queue.queue ≡ with_front m q → t.queue.queue ≡ q → t.begun ≡ None → t.sent ≡ s.sent → t.shut ≡ s.shut →
    IsSound stream fs s → IsSound stream fs t
sound_without stream fs s t m q none front queue none' sent is_shut h =
    let all : All IsShort (m ∷ q.queued) = subst (λ (v : Queue). All IsShort v.queued) front h.short in
    let last : HasFinalLast q.ended (m ∷ q.queued) = subst (λ (v : Queue). HasFinalLast v.ended v.queued) front h.final_last in
    let few : s.sent + (0 + length (m ∷ q.queued)) ≤ q.accepted = subst (λ (v : Queue). s.sent + (0 + length v.queued) ≤ v.accepted) front (subst (λ (o : Option Begun). s.sent + (sound.count_begun o + length (queued s)) ≤ s.queue.queue.accepted) none h.few) in
    let bounded : q.accepted ≤ 256 = subst (λ (v : Queue). v.accepted ≤ 256) front h.bounded in
    rw (none', sent, is_shut, queue)
    (record {
      few = omega arith;
      bounded = bounded;
      short = All-tail IsShort m q.queued all;
      final_last = last.1;
      ready = tt;
      left = tt;
      ending = tt;
      still_open = λ x. absurd (omega (arith, x));
      over = λ x. (let (a, b, c) = over_is stream fs s.sent m q s.queue.queue front (h.over x) in one_message a b c);
    })

-- nothing changed but what may be put back
pub sound_same : (stream : Bool) (fs : List Layer) (s t : Sender) → t.queue.queue ≡ s.queue.queue → t ≡ record s { queue = t.queue } → IsSound stream fs s → IsSound stream fs t
sound_same stream fs s t queue kept h =
    let begun : t.begun ≡ s.begun = ap (λ (v : Sender). v.begun) kept in
    let sent : t.sent ≡ s.sent = ap (λ (v : Sender). v.sent) kept in
    let is_shut : t.shut ≡ s.shut = ap (λ (v : Sender). v.shut) kept in
    rw (begun, sent, is_shut, queue)
    (record { few = h.few; bounded = h.bounded; short = h.short; final_last = h.final_last; ready = h.ready; left = h.left; ending = h.ending; still_open = h.still_open; over = h.over })

-- a message is begun behind which the stream is ended, or not
ends_over : (stream : Bool) (fs : List Layer) (sent : ℕ) (q : Queue) (final : Bool) → (final ≡ true → (q.queued ≡ []) × (q.ended ≡ true)) → ends_of stream fs final ≡ true → (stream ≡ true) × IsOver stream fs (sent + 1) q
ends_over true [] sent q final last ends = (refl, one_message refl refl (omega arith))
ends_over true (f ∷ fs) sent q final last ends = let (a, b) = last ends in (refl, final_sent a b)
ends_over false fs sent q final last ends = (let z : false ≡ true = ends in cc)

not_shut : (b : Bool) → (b ≡ true → ⊥) → b ≡ false
not_shut true h = absurd (h refl)
not_shut false h = refl

pub sound_begun : (stream : Bool) (fs : List Layer) (s t : Sender) (m : Accepted) (q : Queue) (b : Begun) → s.begun ≡ None → s.queue.queue ≡ with_front m q → t.queue.queue ≡ q → t.begun ≡ Some b → b.ends ≡ ends_of stream fs m.message.props.is_final →
    refusal_of stream fs s.sent m.message.body ≡ None → t.sent ≡ s.sent → t.shut ≡ s.shut → IsReadyIf stream t.begun → b.taken ≡ 0 → IsSound stream fs s → IsSound stream fs t
sound_begun stream fs s t m q b none front queue begun ends spoken sent is_shut ready fresh h =
    let all : All IsShort (m ∷ q.queued) = subst (λ (v : Queue). All IsShort v.queued) front h.short in
    let last : HasFinalLast q.ended (m ∷ q.queued) = subst (λ (v : Queue). HasFinalLast v.ended v.queued) front h.final_last in
    let few : s.sent + (0 + length (m ∷ q.queued)) ≤ q.accepted = subst (λ (v : Queue). s.sent + (0 + length v.queued) ≤ v.accepted) front (subst (λ (o : Option Begun). s.sent + (sound.count_begun o + length (queued s)) ≤ s.queue.queue.accepted) none h.few) in
    let bounded : q.accepted ≤ 256 = subst (λ (v : Queue). v.accepted ≤ 256) front h.bounded in
    let closed : s.shut ≡ true → ⊥ = λ x. none_behind stream fs s.sent m q s.queue.queue front (h.over x) spoken in
    let left' : 1 ≤ length b.bytes → b.taken < length b.bytes = λ n. omega (arith, n, fresh) in
    let ready' : IsReadyIf stream (Some b) = subst (IsReadyIf stream) begun ready in
    rw (begun, sent, is_shut, queue)
    (record {
      few = omega arith;
      bounded = bounded;
      short = All-tail IsShort m q.queued all;
      final_last = last.1;
      ready = ready';
      left = left';
      ending = λ x. ends_over stream fs s.sent q m.message.props.is_final last.0 (sym ends ∙ x);
      still_open = λ x. not_shut s.shut closed;
      over = λ x. absurd (closed x);
    })

pub sound_by : (stream : Bool) (fs : List Layer) (s : Sender) (q : SendQueueState) (number : ℕ) (message : Message) (o : Option Pushed) (t : Sender) → s.begun ≡ None →
    GivesMessage s.queue.queue s.moment number message q → IsOpened (encoding_of stream fs) (record s { queue = q }) number message o t → IsReadyIf stream t.begun → IsSound stream fs s → IsSound stream fs t
sound_by stream fs s q number message None t none given (spoken, kept) ready h =
    sound_begun stream fs s t (record { number = number; at = given.at; message = message }) q.queue _ none given.front (ap (λ (x : Sender). x.queue.queue) kept) (ap (λ (x : Sender). x.begun) kept) refl spoken (ap (λ (x : Sender). x.sent) kept) (ap (λ (x : Sender). x.shut) kept) ready refl h
sound_by stream fs s q number message (Some (pushed.NotSpeakable n layer)) t none given k ready h =
    sound_without stream fs s t (record { number = number; at = given.at; message = message }) q.queue none given.front (ap (λ (x : Sender). x.queue.queue) k.2) (ap (λ (x : Sender). x.begun) k.2 ∙ none) (ap (λ (x : Sender). x.sent) k.2) (ap (λ (x : Sender). x.shut) k.2) h
sound_by stream fs s q number message (Some pushed.NoMemory) t none given (kept, back) ready h = sound_same stream fs s t (back given.at given.taken ∙ sym given.front) kept h
sound_by stream fs s q number message (Some (pushed.Sent n)) t none given k ready h = absurd k
sound_by stream fs s q number message (Some pushed.Empty) t none given k ready h = absurd k
sound_by stream fs s q number message (Some (pushed.Expired n)) t none given k ready h = absurd k
sound_by stream fs s q number message (Some (pushed.Timed at)) t none given k ready h = absurd k
sound_by stream fs s q number message (Some (pushed.Failed cause)) t none given k ready h = absurd k
