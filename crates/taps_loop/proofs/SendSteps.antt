-- One call more of a sending end, by its answer.
use Rattle.std.proofs.Common.{◌≡◌, ℕ, ◌≤◌, Bool, List, [], ◌∷◌, ◌++◌, length, take, refl, sym, ap, ◌∙◌, subst}
use Rattle.std.specs.Prelude.{map, max}
use Rattle.std.specs.List.{concat}
use Rattle.std.proofs.lemmas.List.{append-nil}
use Rattle.taps_socket.specs.declared.answers.SendAnswer.{SendAnswer}
use Rattle.taps_socket.specs.declared.answers.SendAnswer.TheVariants as send
use Rattle.taps_message.specs.declared.accepted.Accepted.{Accepted}
use Rattle.taps_connection.specs.Encodings.{Encoding}
use Rattle.taps_connection.specs.Outboxes.{begun, ending, Outbox, after_taken, after_shut, after_send}
use Rattle.taps_connection.specs.Written.{pieces_of}
use Rattle.taps_exchange.specs.Written.{message_of, bodies_of, AreLeft, taken_by, TookAll, HasSomeBytes}
use Rattle.taps_exchange.proofs.Writing.{IsPassed, IsBetween, have_passed, turn_written}
use Rattle.taps_exchange.proofs.WritingCalls.{after_bytes}

-- nothing more was taken
same_written : (t late : ℕ) (e : Encoding) (messages : List Accepted) (box now : Outbox) (pieces : List (List ℕ)) (Apart Apart' : Type 0) → now.stand ≡ box.stand → now.sent ≡ box.sent → now.expired ≡ box.expired → (Apart' → Apart) → t ≤ late →
    IsPassed t e messages box pieces Apart → IsPassed late e messages now pieces Apart'
same_written t late e messages box now pieces Apart Apart' stand sent expired less later k =
    let h = k.written in
    record {
      written = record {
        turned = h.turned;
        left = h.left;
        front = h.front;
        split = h.split;
        are_left = subst (λ v. AreLeft e v now.stand h.front h.left) (sym sent) (subst (λ v. AreLeft e box.sent v h.front h.left) (sym stand) h.are_left);
        bytes = h.bytes;
        apart = λ a. h.apart (less a);
        encoded = h.encoded;
        count = sent ∙ h.count;
        first = expired ∙ h.first;
      };
      passed = have_passed t late h.turned later k.passed;
    }

sent_step : (t late : ℕ) (e : Encoding) (messages : List Accepted) (box : Outbox) (number : ℕ) (ends : Bool) (bytes : List ℕ) (behind : List Accepted) (pieces : List (List ℕ)) (Apart Apart' : Type 0) (count at : ℕ) → (Apart' → Apart) → (Apart' → count ≡ length bytes) → (Apart' → HasSomeBytes e) → t ≤ late → at ≤ late →
    box.stand ≡ begun number ends bytes behind → IsPassed t e messages box pieces Apart → IsPassed late e messages (after_taken e box count at box.stand) (pieces ++ take count bytes ∷ []) Apart'
sent_step t late e messages box number ends bytes behind pieces Apart Apart' count at less all some later soon stand k =
    let h = k.written in
    let l : AreLeft e box.sent (begun number ends bytes behind) h.front h.left = subst (λ v. AreLeft e box.sent v h.front h.left) stand h.are_left in
    let same : begun l.0.number ends bytes behind ≡ box.stand = ap (λ n. begun n ends bytes behind) l.1.1.named ∙ sym stand in
    subst (λ v. IsPassed late e messages (after_taken e box count at v) (pieces ++ take count bytes ∷ []) Apart') same
    (after_bytes t late e messages box number ends bytes behind pieces Apart Apart' count at less all some later soon h k.passed l.0 l.1.0 l.1.1)

-- bytes are taken no later than at a time
abbrev pub IsSoon : ℕ → ℕ → SendAnswer → Type 0
IsSoon late moment (send.Sent count at) = max moment at ≤ late
IsSoon late moment (send.Timed at) = Unit {0}
IsSoon late moment (send.Failed cause) = Unit {0}

-- a send
pub send_step : (t late : ℕ) (e : Encoding) (messages : List Accepted) (box : Outbox) (number : ℕ) (ends : Bool) (bytes : List ℕ) (behind : List Accepted) (pieces : List (List ℕ)) (Apart Apart' : Type 0) (a : SendAnswer) → (Apart' → Apart) → (Apart' → TookAll bytes a) → (Apart' → HasSomeBytes e) → t ≤ late → IsSoon late box.moment a →
    box.stand ≡ begun number ends bytes behind → IsPassed t e messages box pieces Apart → IsPassed late e messages (after_send e box a) (pieces ++ taken_by bytes a) Apart'
send_step t late e messages box number ends bytes behind pieces Apart Apart' (send.Sent count at) less all some later soon stand h =
    sent_step t late e messages box number ends bytes behind pieces Apart Apart' count (max box.moment at) less all some later soon stand h
send_step t late e messages box number ends bytes behind pieces Apart Apart' (send.Timed at) less all some later soon stand h =
    rw (append-nil pieces) (same_written t late e messages box (record box { moment = max box.moment at }) pieces Apart Apart' refl refl refl less later h)
send_step t late e messages box number ends bytes behind pieces Apart Apart' (send.Failed cause) less all some later soon stand h =
    rw (append-nil pieces) (same_written t late e messages box box pieces Apart Apart' refl refl refl less later h)

-- the end of the sending side
pub shut_step : (t late : ℕ) (e : Encoding) (messages : List Accepted) (box : Outbox) (behind : List Accepted) (pieces : List (List ℕ)) (Apart : Type 0) → (Apart → HasSomeBytes e) → t ≤ late → box.moment ≤ late → box.stand ≡ ending behind →
    IsPassed t e messages box pieces Apart → IsPassed late e messages (after_shut e box box.stand) pieces Apart
shut_step t late e messages box behind pieces Apart some later soon stand k =
    let h = k.written in
    let l : AreLeft e box.sent (ending behind) h.front h.left = subst (λ v. AreLeft e box.sent v h.front h.left) stand h.are_left in
    let between : IsBetween late e messages box.sent box.expired behind pieces Apart = record {
      turned = h.turned;
      split = h.split ∙ ap (λ v. map message_of h.turned ++ v) l.1;
      bytes = h.bytes ∙ (ap (λ v. concat (pieces_of e 0 (bodies_of h.turned)) ++ v) l.0 ∙ append-nil (concat (pieces_of e 0 (bodies_of h.turned))));
      apart = λ a. (h.apart a).0;
      encoded = h.encoded;
      count = h.count;
      first = h.first;
      passed = have_passed t late h.turned later k.passed;
    } in
    subst (λ v. IsPassed late e messages (after_shut e box v) pieces Apart) (sym stand) (turn_written late e messages box.moment box.sent box.expired behind pieces Apart soon some between)
