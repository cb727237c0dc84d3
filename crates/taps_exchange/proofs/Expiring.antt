-- A message expires by the time of a Sent.
use Rattle.std.proofs.Common.{◌≡◌, ℕ, ◌+◌, ◌≤◌, ◌⊎◌, inl, inr, Bool, true, false, List, [], ◌∷◌, ◌++◌, Option, Some, None, refl, ◌∙◌, arith}
use Rattle.std.specs.Prelude.{max, ◌==◌, if◌then◌else◌}
use Rattle.std.proofs.lemmas.Bool.{leb-true, leb-false, eq-eqb}
use Rattle.taps_socket.specs.declared.item.Item.{Item}
use Rattle.taps_socket.specs.declared.answers.SendAnswer.TheVariants as send
use Rattle.taps_socket.specs.declared.answers.RecvAnswer.TheVariants as recv
use Rattle.taps_socket.specs.Calls.{Call, sends, receives, shuts, closes, begins, starts, waits, listens, accepts, request_of, items_of}
use Rattle.taps_socket.specs.Shows.{told_by, told_after, last_sent_after, IsLawful, AreLawful}
use Rattle.taps_message.specs.declared.accepted.Accepted.{Accepted}
use Rattle.taps_message.specs.Expiry.{has_passed}
use Rattle.taps_exchange.specs.Expiries.{TimesRise, HasPassedBySent, ExpireInTime}
use Rattle.taps_exchange.specs.Members.{Member, outbox_after}
use Rattle.taps_exchange.specs.Turns.{asks, turn_alone, IsInTurn, stop}
use Rattle.taps_exchange.specs.Written.{Turned, was_sent, was_expired}
use Rattle.taps_exchange.proofs.Asked.{send_asks}
use Rattle.taps_exchange.proofs.Writing.{HavePassed}
use Rattle.taps_exchange.proofs.WritingCalls.{sent_by, sent_after}

-- the last Sent, by which the greatest time of a Sent was told where times rise
record IsLast (socket accepted late : ℕ) (calls : List Call) : Type 0 where
  sent : ℕ
  last : last_sent_after calls socket None ≡ Some sent
  least : TimesRise calls → (late ≤ max accepted sent) × (sent ≤ told_after calls 0)

abbrev HasLast : ℕ → ℕ → ℕ → List Call → Type 0
HasLast socket accepted late calls = (late ≡ accepted) ⊎ IsLast socket accepted late calls

-- a call by which no bytes were taken
keeps : (socket accepted late : ℕ) (call : Call) (calls : List Call) → last_sent_after (call ∷ calls) socket None ≡ last_sent_after calls socket None → HasLast socket accepted late calls → HasLast socket accepted late (call ∷ calls)
keeps socket accepted late call calls e (inl none) = inl none
keeps socket accepted late call calls e (inr h) =
    inr (record {
      sent = h.sent;
      last = e ∙ h.last;
      least = λ r. (let rise = r.0 in let l = h.least r.1 in let a = l.0 in let b = l.1 in (a, omega (arith, rise, b)));
    })

-- bytes were taken
takes_sent : (socket accepted late : ℕ) (s : ℕ) (bytes : List ℕ) (u count at : ℕ) (calls : List Call) → s ≡ socket → HasLast socket accepted late calls → HasLast socket accepted (max late at) (sends s bytes u (send.Sent count at) ∷ calls)
takes_sent socket accepted late s bytes u count at calls own (inl none) =
    inr (record { sent = at; last = rw (eq-eqb s socket own) refl; least = λ r. (omega (arith, none), omega arith) })
takes_sent socket accepted late s bytes u count at calls own (inr h) =
    inr (record {
      sent = at;
      last = rw (eq-eqb s socket own) refl;
      least = λ r. (let rise = r.0 in let l = h.least r.1 in let a = l.0 in let b = l.1 in (omega (arith, rise, a, b), omega arith));
    })

same_if : (b : Bool) (x : Option ℕ) → (if b then x else x) ≡ x
same_if true x = refl
same_if false x = refl

last_step : (m : Member) (late : ℕ) (call : Call) (calls : List Call) → turn_alone m calls ≡ asks (request_of call) → HasLast m.socket m.accepted late calls → HasLast m.socket m.accepted (sent_by call late) (call ∷ calls)
last_step m late (sends s b u (send.Sent count at)) calls t h =
    takes_sent m.socket m.accepted late s b u count at calls (send_asks m (stop calls) (outbox_after m calls).stand _ _ _ s b u t).own h
last_step m late (sends s b u (send.Timed at)) calls t h = keeps m.socket m.accepted late (sends s b u (send.Timed at)) calls (same_if (s == m.socket) (last_sent_after calls m.socket None)) h
last_step m late (sends s b u (send.Failed cause)) calls t h = keeps m.socket m.accepted late (sends s b u (send.Failed cause)) calls (same_if (s == m.socket) (last_sent_after calls m.socket None)) h
last_step m late (receives s most u came a) calls t h = keeps m.socket m.accepted late (receives s most u came a) calls refl h
last_step m late (shuts s) calls t h = keeps m.socket m.accepted late (shuts s) calls refl h
last_step m late (closes s) calls t h = keeps m.socket m.accepted late (closes s) calls refl h
last_step m late (begins at) calls t h = keeps m.socket m.accepted late (begins at) calls refl h
last_step m late (starts l g a) calls t h = keeps m.socket m.accepted late (starts l g a) calls refl h
last_step m late (waits u a) calls t h = keeps m.socket m.accepted late (waits u a) calls refl h
last_step m late (listens g a) calls t h = keeps m.socket m.accepted late (listens g a) calls refl h
last_step m late (accepts l u a) calls t h = keeps m.socket m.accepted late (accepts l u a) calls refl h

last_is : (m : Member) (calls : List Call) → IsInTurn (turn_alone m) calls → HasLast m.socket m.accepted (sent_after m.accepted calls) calls
last_is m [] t = inl refl
last_is m (call ∷ calls) t = last_step m (sent_after m.accepted calls) call calls t.0 (last_is m calls t.1)

passed_by : (life : Option ℕ) (m : Accepted) (socket accepted late : ℕ) (calls : List Call) → m.message.props.msg_lifetime ≡ life → HasLast socket accepted late calls → has_passed life m.at late ≡ true → has_passed life m.at accepted ≡ false → HasPassedBySent socket calls m
passed_by None m socket accepted late calls e h p n = cc
passed_by (Some life) m socket accepted late calls e (inl none) p n =
    absurd (let a = leb-true (m.at + life) late p in let b = leb-false (m.at + life) accepted n in omega (arith, none, a, b))
passed_by (Some life) m socket accepted late calls e (inr h) p n =
    let a = leb-true (m.at + life) late p in
    let b = leb-false (m.at + life) accepted n in
    record {
      lifetime = life;
      limited = e;
      sent = h.sent;
      last = h.last;
      passed = λ r. (let l = (h.least r).0 in omega (arith, a, b, l));
    }

turned_in_time : (m : Member) (late : ℕ) (calls : List Call) (turned : List Turned) → HasLast m.socket m.accepted late calls → HavePassed late turned → ExpireInTime m calls turned
turned_in_time m late calls [] h p = tt
turned_in_time m late calls (was_sent a ∷ turned) h p = turned_in_time m late calls turned h p
turned_in_time m late calls (was_expired a ∷ turned) h p =
    (λ n. passed_by a.message.props.msg_lifetime a m.socket m.accepted late calls refl h p.0 n, turned_in_time m late calls turned h p.1)

pub in_time : (m : Member) (calls : List Call) (turned : List Turned) → IsInTurn (turn_alone m) calls → HavePassed (sent_after m.accepted calls) turned → ExpireInTime m calls turned
in_time m calls turned t p = turned_in_time m (sent_after m.accepted calls) calls turned (last_is m calls t) p

-- times rise where calls are lawful: one call tells no time before what was told
told_step : (call : Call) (trace : List Item) (told low : ℕ) → IsLawful call trace told → low ≤ told → (low ≤ told_by call low) × (told_by call low ≤ told_by call told)
told_step (sends s b u (send.Sent count at)) trace told low h l = (let k = h.answered.2.later in omega (arith, k, l), omega arith)
told_step (sends s b u (send.Timed at)) trace told low h l = (let k = h.answered.1.later in omega (arith, k, l), omega arith)
told_step (sends s b u (send.Failed cause)) trace told low h l = (omega arith, l)
told_step (receives s most u came (recv.Got count at)) trace told low h l = (let k = h.answered.1.later in omega (arith, k, l), omega arith)
told_step (receives s most u came recv.End) trace told low h l = (omega arith, l)
told_step (receives s most u came (recv.Timed at)) trace told low h l = (let k = h.answered.1.later in omega (arith, k, l), omega arith)
told_step (receives s most u came (recv.Failed cause)) trace told low h l = (omega arith, l)
told_step (shuts s) trace told low h l = (omega arith, l)
told_step (closes s) trace told low h l = (omega arith, l)
told_step (begins at) trace told low h l = (let k = h.later in omega (arith, k, l), omega arith)
told_step (starts leaf g a) trace told low h l = (let k = h.0.later in omega (arith, k, l), omega arith)
told_step (waits u a) trace told low h l = (let k = h.0.later in omega (arith, k, l), omega arith)
told_step (listens g a) trace told low h l = (let k = h.1.later in omega (arith, k, l), omega arith)
told_step (accepts s u a) trace told low h l = (let k = h.2.later in omega (arith, k, l), omega arith)

pub times_rise : (trace : List Item) (told : ℕ) (calls : List Call) → AreLawful trace told calls → (told_after calls 0 ≤ told_after calls told) × TimesRise calls
times_rise trace told [] h = (omega arith, tt)
times_rise trace told (call ∷ calls) h =
    let r = times_rise trace told calls h.1 in
    let s = told_step call (items_of calls ++ trace) (told_after calls told) (told_after calls 0) h.0 r.0 in
    (s.1, (s.0, r.1))
