-- Call by call, what is written is the messages sent and the front of the begun one.
use Rattle.std.proofs.Common.{◌≡◌, ℕ, ◌+◌, ◌-◌, ◌≤◌, ◌⊎◌, inl, inr, Bool, true, false, cond, List, [], ◌∷◌, ◌++◌, length, take, drop, Option, Some, None, refl, sym, ap, ◌∙◌, subst, arith, append_assoc, length-drop}
use Rattle.std.specs.Prelude.{map, max}
use Rattle.std.specs.List.{concat}
use Rattle.std.proofs.lemmas.List.{append-nil, take-append-drop}
use Rattle.std.proofs.lemmas.List.Folds.{concat-append}
use Rattle.std.proofs.Math.Seq.{take-length}
use Rattle.taps_socket.specs.declared.answers.SendAnswer.{SendAnswer}
use Rattle.taps_socket.specs.declared.answers.SendAnswer.TheVariants as send
use Rattle.taps_socket.specs.declared.answers.RecvAnswer.TheVariants as recv
use Rattle.taps_socket.specs.Calls.{Call, sends, receives, shuts, closes, begins, starts, waits, listens, accepts, Request, request_of}
use Rattle.taps_message.specs.declared.accepted.Accepted.{Accepted}
use Rattle.taps_message.specs.Expiry.{has_expired}
use Rattle.taps_connection.specs.Encodings.{Encoding}
use Rattle.taps_connection.specs.Outboxes.{Stand, begun, ending, refused, all_out, Outbox, or_else, with_rest, turn_by, take_turn, after_taken, after_shut, after_send, after_call}
use Rattle.taps_connection.specs.Written.{pieces_of}
use Rattle.taps_exchange.specs.declared.outcome.Outcome.{Outcome}
use Rattle.taps_exchange.specs.Decodings.{Hearing}
use Rattle.taps_exchange.specs.Members.{Member, outbox_after}
use Rattle.taps_exchange.specs.Turns.{Turn, asks, over, unless, turn_in, turn_out, turn_alone, IsInTurn, stop, stop_by}
use Rattle.taps_exchange.specs.Written.{message_of, bodies_of, AreLeft, IsBegun, taken_by, pieces_written, TookAll, AllTookAll, HasSomeBytes, IsWritten}
use Rattle.taps_exchange.proofs.Asked.{send_asks, shut_asks, receive_out}
use Rattle.taps_exchange.proofs.Writing.{HavePassed, IsPassed, IsBetween, IsTaken, HadTurn, have_passed, rest_written, turn_written}

-- nothing more was taken
same_written : (t late : ℕ) (e : Encoding) (messages : List Accepted) (box now : Outbox) (pieces : List (List ℕ)) (Apart Apart' : Type 0) → now.stand ≡ box.stand → now.sent ≡ box.sent → now.expired ≡ box.expired → (Apart' → Apart) → t ≤ late →
    IsPassed t e messages box pieces Apart → IsPassed late e messages now pieces Apart'
same_written t late e messages box now pieces Apart Apart' stand sent expired less later k =
    let h = k.written in
    record {
      written = record {
        turned = h.turned;
        left = h.left;
        front = h.front;
        split = h.split;
        are_left = subst (λ v. AreLeft e v now.stand h.front h.left) (sym sent) (subst (λ v. AreLeft e box.sent v h.front h.left) (sym stand) h.are_left);
        bytes = h.bytes;
        apart = λ a. h.apart (less a);
        encoded = h.encoded;
        count = sent ∙ h.count;
        first = expired ∙ h.first;
      };
      passed = have_passed t late h.turned later k.passed;
    }

all_of : (count : ℕ) (bytes : List ℕ) → count ≡ length bytes → take count bytes ≡ bytes
all_of count bytes e = ap (λ n. take n bytes) e ∙ take-length bytes

-- bytes of the begun message were taken
module _ (t late : ℕ) (e : Encoding) (messages : List Accepted) (box : Outbox) (number : ℕ) (ends : Bool) (bytes : List ℕ) (behind : List Accepted)
    (pieces : List (List ℕ)) (Apart Apart' : Type 0) (count at : ℕ) (less : Apart' → Apart) (all : Apart' → count ≡ length bytes) (some : Apart' → HasSomeBytes e) (later : t ≤ late) (soon : at ≤ late)
    (h : IsWritten e messages box pieces Apart) (passed : HavePassed t h.turned) (m : Accepted) (is : h.left ≡ m ∷ behind) (b : IsBegun e box.sent number h.front bytes m) where
  abbrev pub now : List (List ℕ)
  now = pieces ++ take count bytes ∷ []

  of_it : IsTaken e box.sent m h.turned now (h.front ++ take count bytes) (drop count bytes) Apart'
  of_it = record {
    encoded = b.encoded;
    whole = append_assoc h.front (take count bytes) (drop count bytes) ∙ (ap (λ v. h.front ++ v) (take-append-drop count bytes) ∙ b.bytes);
    bytes = concat-append pieces (take count bytes ∷ []) ∙ (ap (λ v. concat pieces ++ v) (append-nil (take count bytes))
        ∙ (ap (λ v. v ++ take count bytes) h.bytes ∙ append_assoc (concat (pieces_of e 0 (bodies_of h.turned))) h.front (take count bytes)));
    all = λ a r. (let p = h.apart (less a) in
        ap (λ (v : List (List ℕ)). v ++ take count bytes ∷ []) p.0
        ∙ ap (λ (v : List ℕ). pieces_of e 0 (bodies_of h.turned) ++ v ∷ []) (all_of count bytes (all a) ∙ (ap (λ v. v ++ bytes) (sym p.1) ∙ b.bytes)));
    none = λ a s. absurd (let l : length (drop count bytes) ≡ length bytes - count = length-drop count bytes in let c = all a in omega arith);
  }

  before : HadTurn late e messages box.sent box.expired m behind h.turned
  before = record {
    split = h.split ∙ ap (λ v. map message_of h.turned ++ v) is;
    encoded = h.encoded;
    count = h.count;
    first = h.first;
    passed = have_passed t late h.turned later passed;
  }

  pub after_bytes : IsPassed late e messages (after_taken e box count at (begun m.number ends bytes behind)) now Apart'
  after_bytes = rest_written late e messages box.sent box.expired at (take_turn e at (box.sent + 1) box.expired behind) m ends (drop count bytes) (h.front ++ take count bytes) behind h.turned now Apart' box.stand
      before of_it (turn_written late e messages at (box.sent + 1) box.expired behind now Apart' soon some)

sent_step : (t late : ℕ) (e : Encoding) (messages : List Accepted) (box : Outbox) (number : ℕ) (ends : Bool) (bytes : List ℕ) (behind : List Accepted) (pieces : List (List ℕ)) (Apart Apart' : Type 0) (count at : ℕ) → (Apart' → Apart) → (Apart' → count ≡ length bytes) → (Apart' → HasSomeBytes e) → t ≤ late → at ≤ late →
    box.stand ≡ begun number ends bytes behind → IsPassed t e messages box pieces Apart → IsPassed late e messages (after_taken e box count at box.stand) (pieces ++ take count bytes ∷ []) Apart'
sent_step t late e messages box number ends bytes behind pieces Apart Apart' count at less all some later soon stand k =
    let h = k.written in
    let l : AreLeft e box.sent (begun number ends bytes behind) h.front h.left = subst (λ v. AreLeft e box.sent v h.front h.left) stand h.are_left in
    let same : begun l.0.number ends bytes behind ≡ box.stand = ap (λ n. begun n ends bytes behind) l.1.1.named ∙ sym stand in
    subst (λ v. IsPassed late e messages (after_taken e box count at v) (pieces ++ take count bytes ∷ []) Apart') same
    (after_bytes t late e messages box number ends bytes behind pieces Apart Apart' count at less all some later soon h k.passed l.0 l.1.0 l.1.1)

-- bytes are taken no later than at a time
abbrev IsSoon : ℕ → ℕ → SendAnswer → Type 0
IsSoon late moment (send.Sent count at) = max moment at ≤ late
IsSoon late moment (send.Timed at) = Unit {0}
IsSoon late moment (send.Failed cause) = Unit {0}

-- a send
send_step : (t late : ℕ) (e : Encoding) (messages : List Accepted) (box : Outbox) (number : ℕ) (ends : Bool) (bytes : List ℕ) (behind : List Accepted) (pieces : List (List ℕ)) (Apart Apart' : Type 0) (a : SendAnswer) → (Apart' → Apart) → (Apart' → TookAll bytes a) → (Apart' → HasSomeBytes e) → t ≤ late → IsSoon late box.moment a →
    box.stand ≡ begun number ends bytes behind → IsPassed t e messages box pieces Apart → IsPassed late e messages (after_send e box a) (pieces ++ taken_by bytes a) Apart'
send_step t late e messages box number ends bytes behind pieces Apart Apart' (send.Sent count at) less all some later soon stand h =
    sent_step t late e messages box number ends bytes behind pieces Apart Apart' count (max box.moment at) less all some later soon stand h
send_step t late e messages box number ends bytes behind pieces Apart Apart' (send.Timed at) less all some later soon stand h =
    rw (append-nil pieces) (same_written t late e messages box (record box { moment = max box.moment at }) pieces Apart Apart' refl refl refl less later h)
send_step t late e messages box number ends bytes behind pieces Apart Apart' (send.Failed cause) less all some later soon stand h =
    rw (append-nil pieces) (same_written t late e messages box box pieces Apart Apart' refl refl refl less later h)

-- the end of the sending side
shut_step : (t late : ℕ) (e : Encoding) (messages : List Accepted) (box : Outbox) (behind : List Accepted) (pieces : List (List ℕ)) (Apart : Type 0) → (Apart → HasSomeBytes e) → t ≤ late → box.moment ≤ late → box.stand ≡ ending behind →
    IsPassed t e messages box pieces Apart → IsPassed late e messages (after_shut e box box.stand) pieces Apart
shut_step t late e messages box behind pieces Apart some later soon stand k =
    let h = k.written in
    let l : AreLeft e box.sent (ending behind) h.front h.left = subst (λ v. AreLeft e box.sent v h.front h.left) stand h.are_left in
    let between : IsBetween late e messages box.sent box.expired behind pieces Apart = record {
      turned = h.turned;
      split = h.split ∙ ap (λ v. map message_of h.turned ++ v) l.1;
      bytes = h.bytes ∙ (ap (λ v. concat (pieces_of e 0 (bodies_of h.turned)) ++ v) l.0 ∙ append-nil (concat (pieces_of e 0 (bodies_of h.turned))));
      apart = λ a. (h.apart a).0;
      encoded = h.encoded;
      count = h.count;
      first = h.first;
      passed = have_passed t late h.turned later k.passed;
    } in
    subst (λ v. IsPassed late e messages (after_shut e box v) pieces Apart) (sym stand) (turn_written late e messages box.moment box.sent box.expired behind pieces Apart soon some between)

-- the greatest time of a Sent, and no less than another
abbrev pub sent_by : Call → ℕ → ℕ
sent_by (sends s bytes u (send.Sent count at)) t = max t at
sent_by _ t = t

abbrev pub sent_after : ℕ → List Call → ℕ
sent_after t [] = t
sent_after t (call ∷ earlier) = sent_by call (sent_after t earlier)

later_by : (call : Call) (t : ℕ) → t ≤ sent_by call t
later_by (sends s bytes u (send.Sent count at)) t = omega arith
later_by (sends s bytes u (send.Timed at)) t = omega arith
later_by (sends s bytes u (send.Failed cause)) t = omega arith
later_by (receives s most u came a) t = omega arith
later_by (shuts s) t = omega arith
later_by (closes s) t = omega arith
later_by (begins at) t = omega arith
later_by (starts leaf target a) t = omega arith
later_by (waits u a) t = omega arith
later_by (listens target a) t = omega arith
later_by (accepts l u a) t = omega arith

-- while a message is left, nothing but a Sent told a time
abbrev pub IsLow : ℕ → Outbox → Type 0
IsLow t box = (box.stand ≡ all_out) ⊎ (box.moment ≤ t)

is_low : (t : ℕ) (box : Outbox) (stand : Stand) → box.stand ≡ stand → (stand ≡ all_out → ⊥) → IsLow t box → box.moment ≤ t
is_low t box stand e left (inl out) = absurd (left (sym e ∙ out))
is_low t box stand e left (inr low) = low

not_begun : (number : ℕ) (ends : Bool) (rest : List ℕ) (behind : List Accepted) → begun number ends rest behind ≡ all_out → ⊥
not_begun number ends rest behind e = cc

not_ending : (behind : List Accepted) → ending behind ≡ all_out → ⊥
not_ending behind e = cc

soon_by : (t : ℕ) (moment : ℕ) (s : ℕ) (bytes : List ℕ) (u : ℕ) (a : SendAnswer) → moment ≤ t → IsSoon (sent_by (sends s bytes u a) t) moment a
soon_by t moment s bytes u (send.Sent count at) low = omega arith
soon_by t moment s bytes u (send.Timed at) low = tt
soon_by t moment s bytes u (send.Failed cause) low = tt

-- any call that comes next
call_step : (t : ℕ) (m : Member) (o : Option Outcome) (box : Outbox) (b : Bool) (g : Hearing) (p : Outcome) (call : Call) (earlier : List Call) → unless o (turn_out m 0 box.stand (turn_in m b g (over p))) ≡ asks (request_of call) →
    IsLow t box → IsPassed t m.encoding m.messages box (pieces_written earlier) (AllTookAll earlier × HasSomeBytes m.encoding) →
    IsPassed (sent_by call t) m.encoding m.messages (after_call m.encoding box call) (pieces_written (call ∷ earlier)) (AllTookAll (call ∷ earlier) × HasSomeBytes m.encoding)
call_step t m o box b g p (sends s bytes u a) earlier q low h =
    let r = send_asks m o box.stand b g p s bytes u q in
    send_step t (sent_by (sends s bytes u a) t) m.encoding m.messages box r.number r.ends bytes r.behind (pieces_written earlier) (AllTookAll earlier × HasSomeBytes m.encoding) (AllTookAll (sends s bytes u a ∷ earlier) × HasSomeBytes m.encoding) a
    (λ k. (k.0.1, k.1)) (λ k. k.0.0) (λ k. k.1) (later_by (sends s bytes u a) t)
    (soon_by t box.moment s bytes u a (is_low t box _ r.stands (not_begun r.number r.ends bytes r.behind) low)) r.stands h
call_step t m o box b g p (receives s most u came (recv.Got count at)) earlier q low h =
    same_written t t m.encoding m.messages box (record box { moment = max box.moment at }) (pieces_written earlier) _ _ refl refl refl (λ k. k) (omega arith) h
call_step t m o box b g p (receives s most u came recv.End) earlier q low h = h
call_step t m o box b g p (receives s most u came (recv.Timed at)) earlier q low h =
    same_written t t m.encoding m.messages box (record box { moment = max box.moment at }) (pieces_written earlier) _ _ refl refl refl (λ k. k) (omega arith) h
call_step t m o box b g p (receives s most u came (recv.Failed cause)) earlier q low h = h
call_step t m o box b g p (shuts s) earlier q low h =
    let r = shut_asks m o box.stand b g p s q in
    shut_step t t m.encoding m.messages box r.behind (pieces_written earlier) (AllTookAll earlier × HasSomeBytes m.encoding) (λ k. k.1) (omega arith) (is_low t box _ r.stands (not_ending r.behind) low) r.stands h
call_step t m o box b g p (closes s) earlier q low h = h
call_step t m o box b g p (begins at) earlier q low h = h
call_step t m o box b g p (starts leaf target a) earlier q low h = h
call_step t m o box b g p (waits u a) earlier q low h = h
call_step t m o box b g p (listens target a) earlier q low h = h
call_step t m o box b g p (accepts l u a) earlier q low h = h

-- the time of the last turn
by_test : (b : Bool) (p q : Outbox) (at : ℕ) → p.moment ≡ at → q.moment ≡ at → (cond b p q).moment ≡ at
by_test true p q at h g = h
by_test false p q at h g = g

rest_moment : (next box : Outbox) (number : ℕ) (ends : Bool) (rest : List ℕ) (behind : List Accepted) (at : ℕ) → next.moment ≡ at → box.moment ≡ at → (with_rest next box number ends rest behind).moment ≡ at
rest_moment next box number true [] behind at h g = g
rest_moment next box number false [] behind at h g = h
rest_moment next box number true (b ∷ rest) behind at h g = g
rest_moment next box number false (b ∷ rest) behind at h g = g

opened_moment : (r : Option ℕ) (box opened : Outbox) (number : ℕ) (behind : List Accepted) (at : ℕ) → box.moment ≡ at → opened.moment ≡ at → (turn_by r box number behind opened).moment ≡ at
opened_moment (Some layer) box opened number behind at h g = h
opened_moment None box opened number behind at h g = g

turn_moment : (e : Encoding) (at sent : ℕ) (expired : Option ℕ) (messages : List Accepted) → (take_turn e at sent expired messages).moment ≡ at
turn_moment e at sent expired [] = refl
turn_moment e at sent expired (m ∷ behind) =
    by_test (has_expired m at) _ _ at (turn_moment e at sent (Some (or_else expired m.number)) behind)
    (opened_moment (e.refusal sent m.message.body) (record { stand = all_out; sent = sent; expired = expired; moment = at }) _ m.number behind at refl
    (rest_moment (take_turn e at (sent + 1) expired behind) (record { stand = all_out; sent = sent; expired = expired; moment = at }) m.number (e.ends m.message.props.is_final) (e.bytes sent m.message.body) behind at (turn_moment e at (sent + 1) expired behind) refl))

taken_moment : (e : Encoding) (box : Outbox) (count at : ℕ) (stand : Stand) → (after_taken e box count at stand).moment ≡ at
taken_moment e box count at (begun number ends rest behind) =
    rest_moment (take_turn e at (box.sent + 1) box.expired behind) (record box { moment = at }) number ends (drop count rest) behind at (turn_moment e at (box.sent + 1) box.expired behind) refl
taken_moment e box count at (ending behind) = refl
taken_moment e box count at (refused number layer behind) = refl
taken_moment e box count at all_out = refl

-- what comes next after calls, none of which stopped the exchange, leaves it so
abbrev GoesOn : ℕ → List Call → Outbox → Type 0
GoesOn t calls box = stop calls ≡ None → IsLow t box

asks_go : (o : Option Outcome) (t : Turn) (r : Request) → unless o t ≡ asks r → o ≡ None
asks_go None t r e = refl
asks_go (Some o) t r e = cc

low_step : (t : ℕ) (m : Member) (o : Option Outcome) (box : Outbox) (b : Bool) (g : Hearing) (p : Outcome) (call : Call) (earlier : List Call) → unless o (turn_out m 0 box.stand (turn_in m b g (over p))) ≡ asks (request_of call) →
    IsLow t box → stop_by call ≡ None → IsLow (sent_by call t) (after_call m.encoding box call)
low_step t m o box b g p (sends s bytes u (send.Sent count at)) earlier q low go =
    let r = send_asks m o box.stand b g p s bytes u q in
    let l = is_low t box _ r.stands (not_begun r.number r.ends bytes r.behind) low in
    let e = taken_moment m.encoding box count (max box.moment at) box.stand in
    inr (omega (arith, l, e))
low_step t m o box b g p (sends s bytes u (send.Timed at)) earlier q low go = cc
low_step t m o box b g p (sends s bytes u (send.Failed cause)) earlier q low go = cc
low_step t m o box b g p (receives s most u came (recv.Got count at)) earlier q low go = inl (receive_out m o box.stand b g p s most u q)
low_step t m o box b g p (receives s most u came recv.End) earlier q low go = low
low_step t m o box b g p (receives s most u came (recv.Timed at)) earlier q low go = cc
low_step t m o box b g p (receives s most u came (recv.Failed cause)) earlier q low go = cc
low_step t m o box b g p (shuts s) earlier q low go =
    let r = shut_asks m o box.stand b g p s q in
    let l = is_low t box _ r.stands (not_ending r.behind) low in
    let e : (after_shut m.encoding box box.stand).moment ≡ box.moment = ap (λ v. (after_shut m.encoding box v).moment) r.stands ∙ turn_moment m.encoding box.moment box.sent box.expired r.behind in
    inr (omega (arith, l, e))
low_step t m o box b g p (closes s) earlier q low go = low
low_step t m o box b g p (begins at) earlier q low go = low
low_step t m o box b g p (starts leaf target a) earlier q low go = low
low_step t m o box b g p (waits u a) earlier q low go = low
low_step t m o box b g p (listens target a) earlier q low go = low
low_step t m o box b g p (accepts l u a) earlier q low go = low

low_after : (m : Member) (calls : List Call) → IsInTurn (turn_alone m) calls → GoesOn (sent_after m.accepted calls) calls (outbox_after m calls)
low_after m [] t go = inr (let e = turn_moment m.encoding m.accepted 0 None m.messages in omega (arith, e))
low_after m (call ∷ calls) t go =
    low_step (sent_after m.accepted calls) m (stop calls) (outbox_after m calls) _ _ _ call calls t.0 (low_after m calls t.1 (asks_go (stop calls) _ _ t.0)) go

pub written : (m : Member) (calls : List Call) → IsInTurn (turn_alone m) calls →
    IsPassed (sent_after m.accepted calls) m.encoding m.messages (outbox_after m calls) (pieces_written calls) (AllTookAll calls × HasSomeBytes m.encoding)
written m [] t =
    turn_written m.accepted m.encoding m.messages m.accepted 0 None m.messages [] (AllTookAll [] × HasSomeBytes m.encoding) (omega arith) (λ k. k.1)
    (record { turned = []; split = refl; bytes = refl; apart = λ k. refl; encoded = tt; count = refl; first = refl; passed = tt })
written m (call ∷ calls) t =
    call_step (sent_after m.accepted calls) m (stop calls) (outbox_after m calls) _ _ _ call calls t.0 (low_after m calls t.1 (asks_go (stop calls) _ _ t.0)) (written m calls t.1)
