-- One member's turn goes on from the calls of all members before it.
use Rattle.std.proofs.Common.{◌≡◌, inl, inr, ℕ, ◌+◌, Bool, true, false, if◌then◌else◌, List, [], ◌∷◌, ◌++◌, Option, Some, None, refl, sym, ap, ◌∙◌, subst, cond}
use Rattle.std.specs.Prelude.{◌==◌}
use Rattle.std.proofs.lemmas.Bool.{eq-eqb, eqb-true}
use Rattle.taps_message.specs.declared.accepted.Accepted.{Accepted}
use Rattle.taps_message.specs.Expiry.{has_expired}
use Rattle.taps_socket.specs.Calls.{Call, sends, receives, shuts, closes, begins, starts, waits, listens, accepts, Request, request_of}
use Rattle.taps_connection.specs.declared.sender.Begun.{Begun}
use Rattle.taps_connection.specs.declared.sender.Sender.{Sender}
use Rattle.taps_connection.specs.Encodings.{Encoding}
use Rattle.taps_connection.specs.Outboxes.{Stand, begun, ending, refused, all_out, Outbox, or_else, take_turn, turn_by, with_rest, after_calls, asks_out}
use Rattle.taps_connection.specs.Runs.{AllAsked, AllGo}
use Rattle.taps_connection.specs.Senders as senders
use Rattle.taps_connection.specs.Senders.{settled, settled_by, idle, queued, behind_by, tail_of, turn_of, turn_in, turn_if, begun_of, goes, expires, refuses}
use Rattle.taps_exchange.specs.Members.{is_on, calls_on, outbox_after}
use Rattle.taps_exchange.specs.Sendings.{OthersGo}
use Rattle.taps_exchange.specs.Turns.{Turn, asks, over, Place, stand_of, waiting_by, turn_of_group, next_sender, turn_sending, turns_in, outcome_by, stop, unless, IsInTurn, order_before}
use Rattle.taps_exchange.specs.Turns as turns
use Rattle.taps_exchange.proofs.Behind.{after_behind, go_behind, others_of, no_stop}
use Rattle.taps_group_exchange.specs.Standing.{IsAlike}
use Rattle.taps_group_exchange.specs.Turning.{IsOfMessage, AllOfMessage}
use Rattle.taps_group_exchange.proofs.Nexts.{OnlyOn, Leads, leads_turn}
use Rattle.taps_group_exchange.proofs.OneMessage.{Phase, first, closing, fresh}

-- calls that an outbox asks are on its socket
asked_own : (socket until : ℕ) (stand : Stand) (c : Call) → asks_out socket until stand ≡ Some (request_of c) → is_on socket c ≡ true
asked_own socket until (begun number ends rest behind) (sends s b u a) h = (let e : socket ≡ s = cc in eq-eqb s socket (sym e))
asked_own socket until (begun number ends rest behind) (receives s most u came a) h = cc
asked_own socket until (begun number ends rest behind) (shuts s) h = cc
asked_own socket until (begun number ends rest behind) (closes s) h = cc
asked_own socket until (begun number ends rest behind) (begins at) h = cc
asked_own socket until (begun number ends rest behind) (starts l g a) h = cc
asked_own socket until (begun number ends rest behind) (waits u a) h = cc
asked_own socket until (begun number ends rest behind) (listens g a) h = cc
asked_own socket until (begun number ends rest behind) (accepts l u a) h = cc
asked_own socket until (ending behind) (shuts s) h = (let e : socket ≡ s = cc in eq-eqb s socket (sym e))
asked_own socket until (ending behind) (sends s b u a) h = cc
asked_own socket until (ending behind) (receives s most u came a) h = cc
asked_own socket until (ending behind) (closes s) h = cc
asked_own socket until (ending behind) (begins at) h = cc
asked_own socket until (ending behind) (starts l g a) h = cc
asked_own socket until (ending behind) (waits u a) h = cc
asked_own socket until (ending behind) (listens g a) h = cc
asked_own socket until (ending behind) (accepts l u a) h = cc
asked_own socket until (refused number layer behind) c h = cc
asked_own socket until all_out c h = cc

-- a call on a socket is on no other
pub not_on : (s t : ℕ) (c : Call) → is_on s c ≡ true → (s == t) ≡ false → is_on t c ≡ false
not_on s t (sends x b u a) on other = ap (λ (v : ℕ). v == t) (eqb-true x s on) ∙ other
not_on s t (receives x most u came a) on other = ap (λ (v : ℕ). v == t) (eqb-true x s on) ∙ other
not_on s t (shuts x) on other = ap (λ (v : ℕ). v == t) (eqb-true x s on) ∙ other
not_on s t (closes x) on other = ap (λ (v : ℕ). v == t) (eqb-true x s on) ∙ other
not_on s t (begins at) on other = refl
not_on s t (starts l g a) on other = refl
not_on s t (waits u a) on other = refl
not_on s t (listens g a) on other = refl
not_on s t (accepts l u a) on other = refl

abbrev pub AllOn : ℕ → List Call → Type 0
AllOn s [] = Unit {0}
AllOn s (c ∷ calls) = (is_on s c ≡ true) × AllOn s calls

pub asked_all_own : (e : Encoding) (socket until : ℕ) (box : Outbox) (calls : List Call) → AllAsked e socket until box calls → AllOn socket calls
asked_all_own e socket until box [] a = tt
asked_all_own e socket until box (c ∷ calls) a = (asked_own socket until (after_calls e box calls).stand c a.0, asked_all_own e socket until box calls a.1)

pub own_calls : (s : ℕ) (more calls : List Call) → AllOn s more → calls_on s (more ++ calls) ≡ more ++ calls_on s calls
own_calls s [] calls h = refl
own_calls s (c ∷ more) calls h = ap (λ b. cond b (c ∷ calls_on s (more ++ calls)) (calls_on s (more ++ calls))) h.0 ∙ ap (λ v. c ∷ v) (own_calls s more calls h.1)

pub other_calls : (s t : ℕ) (more calls : List Call) → (s == t) ≡ false → AllOn s more → calls_on t (more ++ calls) ≡ calls_on t calls
other_calls s t [] calls other h = refl
other_calls s t (c ∷ more) calls other h = ap (λ b. cond b (c ∷ calls_on t (more ++ calls)) (calls_on t (more ++ calls))) (not_on s t c h.0 other) ∙ other_calls s t more calls other h.1

pub only_on : (s : ℕ) (more calls : List Call) → AllOn s more → OnlyOn s calls (more ++ calls)
only_on s more calls h = record { others = λ t other. other_calls s t more calls other h }

-- from outboxes that are alike the same calls lead to such
none_asked : (e : Encoding) (socket until : ℕ) (box : Outbox) (calls : List Call) → box.stand ≡ all_out → AllAsked e socket until box calls → calls ≡ []
none_asked e socket until box [] out a = refl
none_asked e socket until box (c ∷ calls) out a =
    let none = none_asked e socket until box calls out a.1 in
    let z : asks_out socket until box.stand ≡ Some (request_of c) = subst (λ v. asks_out socket until (after_calls e box v).stand ≡ Some (request_of c)) none a.0 in
    let q : Option Request = None in
    let w : q ≡ Some (request_of c) = ap (asks_out socket until) (sym out) ∙ z in
    cc

pub record RunsAlike (e : Encoding) (socket until : ℕ) (behind : List Accepted) (a b : Outbox) (calls : List Call) : Type 0 where
  pub asked : AllAsked e socket until a calls
  pub of_message : AllOfMessage e behind b calls → AllOfMessage e behind a calls
  pub reaches : IsAlike (after_calls e a calls) (after_calls e b calls)

pub runs_alike : (e : Encoding) (socket until : ℕ) (behind : List Accepted) (a b : Outbox) (calls : List Call) → IsAlike a b → AllAsked e socket until b calls → RunsAlike e socket until behind a b calls
runs_alike e socket until behind a b calls (inl is) asked = record {
  asked = subst (λ v. AllAsked e socket until v calls) (sym is) asked;
  of_message = subst (λ v. AllOfMessage e behind v calls) (sym is);
  reaches = inl (ap (λ v. after_calls e v calls) is);
}
runs_alike e socket until behind a b calls (inr h) asked =
    let none = none_asked e socket until b calls h.other asked in
    record {
      asked = subst (AllAsked e socket until a) (sym none) tt;
      of_message = λ o. subst (AllOfMessage e behind a) (sym none) tt;
      reaches = subst (λ v. IsAlike (after_calls e a v) (after_calls e b v)) (sym none) (inr h);
    }

-- The calls of a leading member's turn are in turn.
module _ (places : List Place) (calls : List Call) (w : turns.Waiting) (k : ℕ) (behind : List Accepted) (go : AllGo calls) (leads : Leads calls w 0 k places) (ordered : order_before w.place behind ≡ w.order) where
  abbrev box : Outbox
  box = outbox_after w.place.member (calls_on w.place.member.socket calls)

  stand_now : (more : List Call) → AllOn w.place.member.socket more → stand_of (more ++ calls) w.place ≡ (after_calls w.place.member.encoding box more).stand
  stand_now more own =
      ap (λ v. (outbox_after w.place.member v).stand) (own_calls w.place.member.socket more calls own)
      ∙ ap (λ (v : Outbox). v.stand) (after_behind w.place.member.encoding (take_turn w.place.member.encoding w.place.member.accepted 0 None w.place.member.messages) more (calls_on w.place.member.socket calls))

  turn_now : (c : Call) (more : List Call) → AllGo more → AllOn w.place.member.socket more → IsOfMessage behind (after_calls w.place.member.encoding box more).stand → asks_out w.place.member.socket w.place.member.until (after_calls w.place.member.encoding box more).stand ≡ Some (request_of c) → turn_of_group places (more ++ calls) ≡ asks (request_of c)
  turn_now c more going own of asked =
      let st = stand_now more own in
      ap (λ o. unless o (turn_sending (next_sender (more ++ calls) 0 places) (turns_in (more ++ calls) places (over (outcome_by (more ++ calls) 0 places))))) (no_stop (more ++ calls) (go_behind more calls going go))
      ∙ leads_turn calls (more ++ calls) w 0 k behind places (turns_in (more ++ calls) places (over (outcome_by (more ++ calls) 0 places))) (request_of c) ordered (only_on w.place.member.socket more calls own) leads
      (subst (IsOfMessage behind) (sym st) of) (ap (asks_out w.place.member.socket w.place.member.until) st ∙ asked)

  pub lift : (more : List Call) → AllAsked w.place.member.encoding w.place.member.socket w.place.member.until box more → AllOfMessage w.place.member.encoding behind box more → OthersGo more → IsInTurn (turn_of_group places) calls → IsInTurn (turn_of_group places) (more ++ calls)
  lift [] asked of going t = t
  lift (c ∷ more) asked of going t = (
    turn_now c more going (asked_all_own w.place.member.encoding w.place.member.socket w.place.member.until box more asked.1) of.0 asked.0,
    lift more asked.1 of.1 (others_of more going) t,
  )

-- the message whose turn it is begins its phase
phase_with : (e : Encoding) (s : Sender) (m : ℕ) (number : ℕ) (ends : Bool) (rest : List ℕ) (behind : List Accepted) → Phase e s.sent number behind (with_rest (take_turn e m (s.sent + 1) s.expired behind) (record (idle s) { moment = m }) number ends rest behind)
phase_with e s m number true [] behind = closing refl refl
phase_with e s m number false [] behind = fresh m s.expired refl
phase_with e s m number ends (b ∷ rest) behind = first ends (b ∷ rest) refl refl

phase_if : (e : Encoding) (s : Sender) (m : Accepted) (behind : List Accepted) (o : Option ℕ) (b : Begun) (opened : Outbox) → turn_if o m.number (begun_of e s.sent m) ≡ goes b → Phase e s.sent b.number behind opened → Phase e s.sent b.number behind (turn_by o (idle s) m.number behind opened)
phase_if e s m behind (Some layer) b opened h p = cc
phase_if e s m behind None b opened h p = p

if_number : (e : Encoding) (s : Sender) (m : Accepted) (o : Option ℕ) (b : Begun) → turn_if o m.number (begun_of e s.sent m) ≡ goes b → m.number ≡ b.number
if_number e s m (Some layer) b h = cc
if_number e s m None b h = (let same : begun_of e s.sent m ≡ b = cc in ap (λ (v : Begun). v.number) same)

phase_by : (q : Bool) (e : Encoding) (s : Sender) (m : Accepted) (behind : List Accepted) (b : Begun) (passed opened : Outbox) → (if q then expires m.number else turn_if (e.refusal s.sent m.message.body) m.number (begun_of e s.sent m)) ≡ goes b → (m.number ≡ b.number → Phase e s.sent b.number behind opened) →
    Phase e s.sent b.number behind (if q then passed else turn_by (e.refusal s.sent m.message.body) (idle s) m.number behind opened)
phase_by true e s m behind b passed opened h p = cc
phase_by false e s m behind b passed opened h p = phase_if e s m behind (e.refusal s.sent m.message.body) b opened h (p (if_number e s m (e.refusal s.sent m.message.body) b h))

phase_in : (e : Encoding) (s : Sender) (xs : List Accepted) (b : Begun) → turn_in e s.moment s.sent xs ≡ goes b → Phase e s.sent b.number (tail_of xs) (take_turn e s.moment s.sent s.expired xs)
phase_in e s [] b h = cc
phase_in e s (m ∷ xs) b h =
    phase_by (has_expired m s.moment) e s m xs b (take_turn e s.moment s.sent (Some (or_else s.expired m.number)) xs)
    (with_rest (take_turn e s.moment (s.sent + 1) s.expired xs) (idle s) m.number (e.ends m.message.props.is_final) (e.bytes s.sent m.message.body) xs) h
    (λ same. subst (λ v. Phase e s.sent v xs (with_rest (take_turn e s.moment (s.sent + 1) s.expired xs) (idle s) m.number (e.ends m.message.props.is_final) (e.bytes s.sent m.message.body) xs)) same (phase_with e s s.moment m.number (e.ends m.message.props.is_final) (e.bytes s.sent m.message.body) xs))

pub phase_of : (e : Encoding) (s : Sender) (b : Begun) → s.begun ≡ None → turn_of e s ≡ goes b → Phase e s.sent b.number (tail_of (queued s)) (settled e s)
phase_of e s b none h = subst (λ o. Phase e s.sent b.number (tail_of (queued s)) (settled_by e s o)) (sym none) (phase_in e s (queued s) b (sym (ap (senders.turn_by e s) none) ∙ h))
