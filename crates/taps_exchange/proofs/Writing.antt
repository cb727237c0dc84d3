-- The bytes that the calls of an outbox write are the messages sent and the front of the begun one.
use Rattle.std.proofs.Common.{◌≡◌, ℕ, ◌+◌, ◌≤◌, Bool, true, false, cond, List, [], ◌∷◌, ◌++◌, length, Option, Some, None, refl, sym, ap, ◌∙◌, subst, arith, length-append, append_assoc}
use Rattle.std.specs.Prelude.{map}
use Rattle.std.specs.List.{concat}
use Rattle.std.proofs.lemmas.Bool.{leb-true, le-leb}
use Rattle.std.proofs.lemmas.List.{append-nil, map-append}
use Rattle.std.proofs.lemmas.List.Folds.{concat-append}
use Rattle.taps_message.specs.declared.accepted.Accepted.{Accepted}
use Rattle.taps_message.specs.Expiry.{has_passed, has_expired}
use Rattle.taps_connection.specs.Encodings.{Encoding}
use Rattle.taps_connection.specs.Outboxes.{Stand, begun, ending, refused, all_out, Outbox, or_else, with_rest, turn_by, take_turn}
use Rattle.taps_connection.specs.Written.{pieces_of, AreEncoded}
use Rattle.taps_connection.proofs.Writings.{pieces_snoc, encoded_snoc}
use Rattle.taps_exchange.specs.Written.{Turned, was_sent, was_expired, message_of, bodies_of, first_expired, AreLeft, HasSomeBytes, IsWritten}

-- the lifetime of each that expired had passed at a time
abbrev pub HavePassed : ℕ → List Turned → Type 0
HavePassed t [] = Unit {0}
HavePassed t (was_sent m ∷ turned) = HavePassed t turned
HavePassed t (was_expired m ∷ turned) = (has_expired m t ≡ true) × HavePassed t turned

-- what was written, and the lifetime of each that expired had passed at a time
pub record IsPassed (late : ℕ) (e : Encoding) (messages : List Accepted) (box : Outbox) (pieces : List (List ℕ)) (Apart : Type 0) : Type 0 where
  pub written : IsWritten e messages box pieces Apart
  pub passed : HavePassed late written.turned

passed_sent : (t : ℕ) (turned : List Turned) (m : Accepted) → HavePassed t turned → HavePassed t (turned ++ was_sent m ∷ [])
passed_sent t [] m h = tt
passed_sent t (was_sent n ∷ turned) m h = passed_sent t turned m h
passed_sent t (was_expired n ∷ turned) m h = (h.0, passed_sent t turned m h.1)

passed_expired : (t : ℕ) (turned : List Turned) (m : Accepted) → has_expired m t ≡ true → HavePassed t turned → HavePassed t (turned ++ was_expired m ∷ [])
passed_expired t [] m p h = (p, tt)
passed_expired t (was_sent n ∷ turned) m p h = passed_expired t turned m p h
passed_expired t (was_expired n ∷ turned) m p h = (h.0, passed_expired t turned m p h.1)

-- it has then passed at every later time
passes : (life : Option ℕ) (accepted t u : ℕ) → t ≤ u → has_passed life accepted t ≡ true → has_passed life accepted u ≡ true
passes None accepted t u l h = h
passes (Some life) accepted t u l h = (let p = leb-true (accepted + life) t h in le-leb (accepted + life) u (omega arith))

expires : (m : Accepted) (t u : ℕ) → t ≤ u → has_expired m t ≡ true → has_expired m u ≡ true
expires m t u l h = passes m.message.props.msg_lifetime m.at t u l h

pub have_passed : (t u : ℕ) (turned : List Turned) → t ≤ u → HavePassed t turned → HavePassed u turned
have_passed t u [] l h = tt
have_passed t u (was_sent m ∷ turned) l h = have_passed t u turned l h
have_passed t u (was_expired m ∷ turned) l h = (expires m t u l h.0, have_passed t u turned l h.1)

bodies_sent : (turned : List Turned) (m : Accepted) → bodies_of (turned ++ was_sent m ∷ []) ≡ bodies_of turned ++ m.message.body ∷ []
bodies_sent [] m = refl
bodies_sent (was_sent n ∷ turned) m = ap (λ (v : List (List ℕ)). n.message.body ∷ v) (bodies_sent turned m)
bodies_sent (was_expired n ∷ turned) m = bodies_sent turned m

bodies_expired : (turned : List Turned) (m : Accepted) → bodies_of (turned ++ was_expired m ∷ []) ≡ bodies_of turned
bodies_expired [] m = refl
bodies_expired (was_sent n ∷ turned) m = ap (λ (v : List (List ℕ)). n.message.body ∷ v) (bodies_expired turned m)
bodies_expired (was_expired n ∷ turned) m = bodies_expired turned m

first_sent : (turned : List Turned) (m : Accepted) → first_expired (turned ++ was_sent m ∷ []) ≡ first_expired turned
first_sent [] m = refl
first_sent (was_sent n ∷ turned) m = first_sent turned m
first_sent (was_expired n ∷ turned) m = refl

first_more : (turned : List Turned) (m : Accepted) → first_expired (turned ++ was_expired m ∷ []) ≡ Some (or_else (first_expired turned) m.number)
first_more [] m = refl
first_more (was_sent n ∷ turned) m = first_more turned m
first_more (was_expired n ∷ turned) m = refl

-- so many messages had their turn, and nothing is begun
pub record IsBetween (late : ℕ) (e : Encoding) (messages : List Accepted) (sent : ℕ) (expired : Option ℕ) (left : List Accepted) (pieces : List (List ℕ)) (Apart : Type 0) : Type 0 where
  pub turned : List Turned
  pub split : messages ≡ map message_of turned ++ left
  pub bytes : concat pieces ≡ concat (pieces_of e 0 (bodies_of turned))
  pub apart : Apart → pieces ≡ pieces_of e 0 (bodies_of turned)
  pub encoded : AreEncoded e 0 (bodies_of turned)
  pub count : sent ≡ length (bodies_of turned)
  pub first : expired ≡ first_expired turned
  pub passed : HavePassed late turned

split_more : (messages : List Accepted) (turned : List Turned) (t : Turned) (left : List Accepted) → messages ≡ map message_of turned ++ message_of t ∷ left → messages ≡ map message_of (turned ++ t ∷ []) ++ left
split_more messages turned t left e =
    e ∙ (sym (append_assoc (map message_of turned) (message_of t ∷ []) left) ∙ ap (λ v. v ++ left) (sym (map-append message_of turned (t ∷ []))))

-- a message expired
after_expired : (late : ℕ) (e : Encoding) (messages : List Accepted) (sent : ℕ) (expired : Option ℕ) (m : Accepted) (left : List Accepted) (pieces : List (List ℕ)) (Apart : Type 0) → has_expired m late ≡ true → IsBetween late e messages sent expired (m ∷ left) pieces Apart → IsBetween late e messages sent (Some (or_else expired m.number)) left pieces Apart
after_expired late e messages sent expired m left pieces Apart p b =
    let same = sym (bodies_expired b.turned m) in
    record {
      turned = b.turned ++ was_expired m ∷ [];
      split = split_more messages b.turned (was_expired m) left b.split;
      bytes = subst (λ v. concat pieces ≡ concat (pieces_of e 0 v)) same b.bytes;
      apart = λ h. subst (λ v. pieces ≡ pieces_of e 0 v) same (b.apart h);
      encoded = subst (AreEncoded e 0) same b.encoded;
      count = subst (λ v. sent ≡ length v) same b.count;
      first = ap (λ v. Some (or_else v m.number)) b.first ∙ sym (first_more b.turned m);
      passed = passed_expired late b.turned m p b.passed;
    }

-- the bytes of a message were taken, behind those that were written before
pub record IsTaken (e : Encoding) (sent : ℕ) (m : Accepted) (turned : List Turned) (pieces : List (List ℕ)) (front rest : List ℕ) (Apart : Type 0) : Type 0 where
  pub encoded : e.refusal sent m.message.body ≡ None
  pub whole : front ++ rest ≡ e.bytes sent m.message.body
  pub bytes : concat pieces ≡ concat (pieces_of e 0 (bodies_of turned)) ++ front
  pub all : Apart → rest ≡ [] → pieces ≡ pieces_of e 0 (bodies_of turned) ++ e.bytes sent m.message.body ∷ []
  pub none : Apart → 1 ≤ length rest → (pieces ≡ pieces_of e 0 (bodies_of turned)) × (front ≡ [])

-- what stays the same while a message is sent: those before it had their turn
pub record HadTurn (late : ℕ) (e : Encoding) (messages : List Accepted) (sent : ℕ) (expired : Option ℕ) (m : Accepted) (behind : List Accepted) (turned : List Turned) : Type 0 where
  pub split : messages ≡ map message_of turned ++ m ∷ behind
  pub encoded : AreEncoded e 0 (bodies_of turned)
  pub count : sent ≡ length (bodies_of turned)
  pub first : expired ≡ first_expired turned
  pub passed : HavePassed late turned

-- it was sent whole
pub after_sent : (late : ℕ) (e : Encoding) (messages : List Accepted) (sent : ℕ) (expired : Option ℕ) (m : Accepted) (behind : List Accepted) (turned : List Turned) (pieces : List (List ℕ)) (front : List ℕ) (Apart : Type 0) →
    HadTurn late e messages sent expired m behind turned → IsTaken e sent m turned pieces front [] Apart → IsBetween late e messages (sent + 1) expired behind pieces Apart
after_sent late e messages sent expired m behind turned pieces front Apart h t =
    let same = sym (bodies_sent turned m) in
    let place : sent ≡ 0 + length (bodies_of turned) = (let c = h.count in omega arith) in
    let more : pieces_of e 0 (bodies_of turned) ++ e.bytes sent m.message.body ∷ [] ≡ pieces_of e 0 (bodies_of turned ++ m.message.body ∷ []) =
    ap (λ i. pieces_of e 0 (bodies_of turned) ++ e.bytes i m.message.body ∷ []) place ∙ sym (pieces_snoc e 0 (bodies_of turned) m.message.body) in
    let all : front ≡ e.bytes sent m.message.body = sym (append-nil front) ∙ t.whole in
    record {
      turned = turned ++ was_sent m ∷ [];
      split = split_more messages turned (was_sent m) behind h.split;
      bytes = t.bytes ∙ (ap (λ v. concat (pieces_of e 0 (bodies_of turned)) ++ v) (all ∙ sym (append-nil (e.bytes sent m.message.body)))
          ∙ (sym (concat-append (pieces_of e 0 (bodies_of turned)) (e.bytes sent m.message.body ∷ [])) ∙ ap concat (more ∙ ap (pieces_of e 0) same)));
      apart = λ a. t.all a refl ∙ (more ∙ ap (pieces_of e 0) same);
      encoded = subst (AreEncoded e 0) same (encoded_snoc e 0 (bodies_of turned) m.message.body h.encoded (subst (λ i. e.refusal i m.message.body ≡ None) place t.encoded));
      count = ap (λ n. n + 1) h.count ∙ (sym (length-append (bodies_of turned) (m.message.body ∷ [])) ∙ ap (λ (v : List (List ℕ)). length v) same);
      first = h.first ∙ sym (first_sent turned m);
      passed = passed_sent late turned m h.passed;
    }

by_test : (late : ℕ) (e : Encoding) (messages : List Accepted) (pieces : List (List ℕ)) (Apart : Type 0) (b : Bool) (x y : Outbox) → (b ≡ true → IsPassed late e messages x pieces Apart) → IsPassed late e messages y pieces Apart → IsPassed late e messages (cond b x y) pieces Apart
by_test late e messages pieces Apart true x y h g = h refl
by_test late e messages pieces Apart false x y h g = g

-- a message is begun, and this rest of it is left
still_begun : (late : ℕ) (e : Encoding) (messages : List Accepted) (sent : ℕ) (expired : Option ℕ) (moment : ℕ) (m : Accepted) (ends : Bool) (r : ℕ) (rest front : List ℕ) (behind : List Accepted) (turned : List Turned) (pieces : List (List ℕ)) (Apart : Type 0) →
    HadTurn late e messages sent expired m behind turned → IsTaken e sent m turned pieces front (r ∷ rest) Apart →
    IsPassed late e messages (record { stand = begun m.number ends (r ∷ rest) behind; sent = sent; expired = expired; moment = moment }) pieces Apart
still_begun late e messages sent expired moment m ends r rest front behind turned pieces Apart h t =
    record {
      written = record {
        turned = turned;
        left = m ∷ behind;
        front = front;
        split = h.split;
        are_left = (m, (refl, record { named = refl; encoded = t.encoded; bytes = t.whole }));
        bytes = t.bytes;
        apart = λ a. t.none a (omega arith);
        encoded = h.encoded;
        count = h.count;
        first = h.first;
      };
      passed = h.passed;
    }

-- between messages the sending side is to be ended, or a message is refused, or all is out
is_between : (late : ℕ) (e : Encoding) (messages : List Accepted) (box : Outbox) (left : List Accepted) (pieces : List (List ℕ)) (Apart : Type 0) (b : IsBetween late e messages box.sent box.expired left pieces Apart) →
    ((front : List ℕ) → front ≡ [] → (l : List Accepted) → l ≡ left → AreLeft e box.sent box.stand front l) → IsPassed late e messages box pieces Apart
is_between late e messages box left pieces Apart b l =
    record {
      written = record {
        turned = b.turned;
        left = left;
        front = [];
        split = b.split;
        are_left = l [] refl left refl;
        bytes = b.bytes ∙ sym (append-nil (concat (pieces_of e 0 (bodies_of b.turned))));
        apart = λ a. (b.apart a, refl);
        encoded = b.encoded;
        count = b.count;
        first = b.first;
      };
      passed = b.passed;
    }

-- what is left of a message whose bytes were taken in part, or whole
pub rest_written : (late : ℕ) (e : Encoding) (messages : List Accepted) (sent : ℕ) (expired : Option ℕ) (moment : ℕ) (next : Outbox) (m : Accepted) (ends : Bool) (rest front : List ℕ) (behind : List Accepted) (turned : List Turned) (pieces : List (List ℕ)) (Apart : Type 0) (stand : Stand) →
    HadTurn late e messages sent expired m behind turned → IsTaken e sent m turned pieces front rest Apart →
    (IsBetween late e messages (sent + 1) expired behind pieces Apart → IsPassed late e messages next pieces Apart) →
    IsPassed late e messages (with_rest next (record { stand = stand; sent = sent; expired = expired; moment = moment }) m.number ends rest behind) pieces Apart
rest_written late e messages sent expired moment next m true [] front behind turned pieces Apart stand h t go =
    is_between late e messages (record { stand = ending behind; sent = sent + 1; expired = expired; moment = moment }) behind pieces Apart
    (after_sent late e messages sent expired m behind turned pieces front Apart h t) (λ f e l k. (e, k))
rest_written late e messages sent expired moment next m false [] front behind turned pieces Apart stand h t go =
    go (after_sent late e messages sent expired m behind turned pieces front Apart h t)
rest_written late e messages sent expired moment next m true (r ∷ rest) front behind turned pieces Apart stand h t go =
    still_begun late e messages sent expired moment m true r rest front behind turned pieces Apart h t
rest_written late e messages sent expired moment next m false (r ∷ rest) front behind turned pieces Apart stand h t go =
    still_begun late e messages sent expired moment m false r rest front behind turned pieces Apart h t

-- nothing of a message was taken yet
not_taken : (late : ℕ) (e : Encoding) (messages : List Accepted) (sent : ℕ) (expired : Option ℕ) (m : Accepted) (behind : List Accepted) (pieces : List (List ℕ)) (Apart : Type 0) → (Apart → HasSomeBytes e) → e.refusal sent m.message.body ≡ None →
    (b : IsBetween late e messages sent expired (m ∷ behind) pieces Apart) → IsTaken e sent m b.turned pieces [] (e.bytes sent m.message.body) Apart
not_taken late e messages sent expired m behind pieces Apart some encoded b =
    record {
      encoded = encoded;
      whole = refl;
      bytes = b.bytes ∙ sym (append-nil (concat (pieces_of e 0 (bodies_of b.turned))));
      all = λ a r. absurd (let s = some a sent m.message.body encoded in let l : length (e.bytes sent m.message.body) ≡ 0 = ap (λ (v : List ℕ). length v) r in omega arith);
      none = λ a s. (b.apart a, refl);
    }

had_turn : (late : ℕ) (e : Encoding) (messages : List Accepted) (sent : ℕ) (expired : Option ℕ) (m : Accepted) (behind : List Accepted) (pieces : List (List ℕ)) (Apart : Type 0) →
    (b : IsBetween late e messages sent expired (m ∷ behind) pieces Apart) → HadTurn late e messages sent expired m behind b.turned
had_turn late e messages sent expired m behind pieces Apart b =
    record { split = b.split; encoded = b.encoded; count = b.count; first = b.first; passed = b.passed }

-- a message that has not expired is refused, or begun
opened_written : (late : ℕ) (e : Encoding) (messages : List Accepted) (at sent : ℕ) (expired : Option ℕ) (m : Accepted) (behind : List Accepted) (pieces : List (List ℕ)) (Apart : Type 0) (r : Option ℕ) → e.refusal sent m.message.body ≡ r → (Apart → HasSomeBytes e) →
    IsBetween late e messages sent expired (m ∷ behind) pieces Apart →
    (IsBetween late e messages (sent + 1) expired behind pieces Apart → IsPassed late e messages (take_turn e at (sent + 1) expired behind) pieces Apart) →
    IsPassed late e messages (turn_by r (record { stand = all_out; sent = sent; expired = expired; moment = at }) m.number behind
    (with_rest (take_turn e at (sent + 1) expired behind) (record { stand = all_out; sent = sent; expired = expired; moment = at })
    m.number (e.ends m.message.props.is_final) (e.bytes sent m.message.body) behind)) pieces Apart
opened_written late e messages at sent expired m behind pieces Apart (Some layer) r some b go =
    is_between late e messages (record { stand = refused m.number layer behind; sent = sent; expired = expired; moment = at }) (m ∷ behind) pieces Apart b
    (λ f n l k. (n, (m, (k, record { named = refl; refused = r }))))
opened_written late e messages at sent expired m behind pieces Apart None r some b go =
    rest_written late e messages sent expired at (take_turn e at (sent + 1) expired behind) m (e.ends m.message.props.is_final) (e.bytes sent m.message.body) [] behind b.turned pieces Apart all_out
    (had_turn late e messages sent expired m behind pieces Apart b) (not_taken late e messages sent expired m behind pieces Apart some r b) go

-- the next messages have their turn
pub turn_written : (late : ℕ) (e : Encoding) (messages : List Accepted) (at sent : ℕ) (expired : Option ℕ) (left : List Accepted) (pieces : List (List ℕ)) (Apart : Type 0) → at ≤ late → (Apart → HasSomeBytes e) →
    IsBetween late e messages sent expired left pieces Apart → IsPassed late e messages (take_turn e at sent expired left) pieces Apart
turn_written late e messages at sent expired [] pieces Apart soon some b =
    is_between late e messages (take_turn e at sent expired []) [] pieces Apart b (λ f n l k. (n, k))
turn_written late e messages at sent expired (m ∷ behind) pieces Apart soon some b =
    by_test late e messages pieces Apart (has_expired m at) _ _
    (λ p. turn_written late e messages at sent (Some (or_else expired m.number)) behind pieces Apart soon some (after_expired late e messages sent expired m behind pieces Apart (expires m at late soon p) b))
    (opened_written late e messages at sent expired m behind pieces Apart (e.refusal sent m.message.body) refl some b (turn_written late e messages at (sent + 1) expired behind pieces Apart soon some))
