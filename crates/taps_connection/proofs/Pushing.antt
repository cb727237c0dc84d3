-- What one send adds to the calls by which bytes are pushed out.
use Rattle.std.proofs.Common.{◌≡◌, ℕ, ◌+◌, ◌-◌, ◌<◌, Bool, true, false, List, [], ◌∷◌, ◌++◌, length, take, drop, refl, ap, ◌∙◌, arith, length-drop, Some}
use Rattle.std.specs.Prelude.{max}
use Rattle.std.proofs.lemmas.List.{take_rest, drop-drop}
use Rattle.taps_message.specs.declared.accepted.Accepted.{Accepted}
use Rattle.taps_socket.specs.declared.item.Item.TheVariants as item
use Rattle.taps_socket.specs.declared.cause.Cause.{Cause}
use Rattle.taps_socket.specs.declared.answers.SendAnswer.{SendAnswer}
use Rattle.taps_socket.specs.declared.answers.SendAnswer.TheVariants.{Sent, Timed, Failed}
use Rattle.taps_socket.specs.Calls.{Call, sends, to_send}
use Rattle.taps_connection.specs.declared.sending.Pause.TheVariants as pause
use Rattle.taps_connection.specs.Encodings.{Encoding}
use Rattle.taps_connection.specs.Outboxes.{Stand, begun, Outbox, with_rest, after_call, asks_out}
use Rattle.taps_connection.specs.Runs.{AllAsked}
use Rattle.taps_connection.specs.Pushes.{left_at, IsPush, IsPushing, HasPushed}

pub starts : {N : Type 0} (Becomes : N → List Call → N → Type 0) (net : N) (socket until : ℕ) (bytes : List ℕ) (from at : ℕ) → Becomes net [] net → IsPushing Becomes net net socket until bytes from at from at
starts Becomes net socket until bytes from at b =
    record {
      calls = [];
      becomes = b;
      push = λ e box number ends behind. record { asked = tt; reaches = refl };
      goes = tt;
      quiet = refl;
    }

-- a rest that is not empty is asked for
asks_rest : (e : Encoding) (socket until : ℕ) (box : Outbox) (at number : ℕ) (ends : Bool) (rest : List ℕ) (behind : List Accepted) → 0 < length rest → asks_out socket until (left_at e box at number ends rest behind).stand ≡ Some (to_send socket rest until)
asks_rest e socket until box at number ends [] behind h = absurd (omega (arith, h))
asks_rest e socket until box at number ends (b ∷ rest) behind h = refl

-- how it stood before does not count
same_rest : (next box : Outbox) (stand : Stand) (at number : ℕ) (ends : Bool) (rest : List ℕ) (behind : List Accepted) → with_rest next (record box { stand = stand; moment = at }) number ends rest behind ≡ with_rest next (record box { moment = at }) number ends rest behind
same_rest next box stand at number true [] behind = refl
same_rest next box stand at number false [] behind = refl
same_rest next box stand at number ends (b ∷ rest) behind = refl

sent_rest : (e : Encoding) (box : Outbox) (at number : ℕ) (ends : Bool) (rest : List ℕ) (behind : List Accepted) (socket until count t : ℕ) (b : List ℕ) → 0 < length rest →
    after_call e (left_at e box at number ends rest behind) (sends socket b until (Sent count t)) ≡ left_at e box (max at t) number ends (drop count rest) behind
sent_rest e box at number ends [] behind socket until count t b h = absurd (omega (arith, h))
sent_rest e box at number ends (x ∷ rest) behind socket until count t b h = same_rest _ box (begun number ends (x ∷ rest) behind) (max at t) number ends (drop count (x ∷ rest)) behind

some_left : (bytes : List ℕ) (t : ℕ) → t < length bytes → 0 < length (drop t bytes)
some_left bytes t h = rw (length-drop t bytes) (omega arith)

-- one more call, which asks for the rest
one_more_asked : (socket until : ℕ) (bytes : List ℕ) (from at : ℕ) (calls : List Call) (taken m : ℕ) (a : SendAnswer) → taken < length bytes → IsPush socket until bytes from at calls taken m →
    (e : Encoding) (box : Outbox) (number : ℕ) (ends : Bool) (behind : List Accepted) →
    AllAsked e socket until (left_at e box at number ends (drop from bytes) behind) (sends socket (drop taken bytes) until a ∷ calls)
one_more_asked socket until bytes from at calls taken m a h p e box number ends behind =
    let r = p e box number ends behind in
    (ap (λ v. asks_out socket until v.stand) r.reaches ∙ asks_rest e socket until box m number ends (drop taken bytes) behind (some_left bytes taken h), r.asked)

push_more : (socket until : ℕ) (bytes : List ℕ) (from at : ℕ) (calls : List Call) (taken m count t : ℕ) → taken < length bytes → IsPush socket until bytes from at calls taken m →
    IsPush socket until bytes from at (sends socket (drop taken bytes) until (Sent count t) ∷ calls) (taken + count) (max m t)
push_more socket until bytes from at calls taken m count t h p = λ e box number ends behind.
    record {
      asked = one_more_asked socket until bytes from at calls taken m (Sent count t) h p e box number ends behind;
      reaches =
          ap (λ v. after_call e v (sends socket (drop taken bytes) until (Sent count t))) (p e box number ends behind).reaches
          ∙ (sent_rest e box m number ends (drop taken bytes) behind socket until count t (drop taken bytes) (some_left bytes taken h)
          ∙ ap (λ v. left_at e box (max m t) number ends v behind) (drop-drop count taken bytes));
    }

pub pushing_more : {N : Type 0} (Becomes : N → List Call → N → Type 0) (before net after : N) (socket until : ℕ) (bytes : List ℕ) (from at taken m count t : ℕ) →
    ((a b c : N) (first then : List Call) → Becomes a first b → Becomes b then c → Becomes a (then ++ first) c) →
    taken < length bytes → IsPushing Becomes before net socket until bytes from at taken m →
    Becomes net (sends socket (take (length bytes - taken) (drop taken bytes)) until (Sent count t) ∷ []) after →
    IsPushing Becomes before after socket until bytes from at (taken + count) (max m t)
pushing_more Becomes before net after socket until bytes from at taken m count t on h p b =
    let b' : Becomes net (sends socket (drop taken bytes) until (Sent count t) ∷ []) after = rw (take_rest bytes taken) at b in
    record {
      calls = sends socket (drop taken bytes) until (Sent count t) ∷ p.calls;
      becomes = on before net after p.calls (sends socket (drop taken bytes) until (Sent count t) ∷ []) p.becomes b';
      push = push_more socket until bytes from at p.calls taken m count t h p.push;
      goes = (refl, p.goes);
      quiet = p.quiet;
    }

timed_rest : (e : Encoding) (box : Outbox) (at number : ℕ) (ends : Bool) (rest : List ℕ) (behind : List Accepted) (socket until t : ℕ) (b : List ℕ) → 0 < length rest →
    after_call e (left_at e box at number ends rest behind) (sends socket b until (Timed t)) ≡ left_at e box (max at t) number ends rest behind
timed_rest e box at number ends [] behind socket until t b h = absurd (omega (arith, h))
timed_rest e box at number ends (x ∷ rest) behind socket until t b h = refl

pub pushed_timed : {N : Type 0} (Becomes : N → List Call → N → Type 0) (before net after : N) (socket until : ℕ) (bytes : List ℕ) (from at taken m t : ℕ) →
    ((a b c : N) (first then : List Call) → Becomes a first b → Becomes b then c → Becomes a (then ++ first) c) →
    taken < length bytes → IsPushing Becomes before net socket until bytes from at taken m →
    Becomes net (sends socket (take (length bytes - taken) (drop taken bytes)) until (Timed t) ∷ []) after →
    HasPushed Becomes before after socket until bytes from at taken (max m t) (pause.Timed t)
pushed_timed Becomes before net after socket until bytes from at taken m t on h p b =
    let b' : Becomes net (sends socket (drop taken bytes) until (Timed t) ∷ []) after = rw (take_rest bytes taken) at b in
    record {
      calls = sends socket (drop taken bytes) until (Timed t) ∷ p.calls;
      becomes = on before net after p.calls (sends socket (drop taken bytes) until (Timed t) ∷ []) p.becomes b';
      push = λ e box number ends behind.
          record {
            asked = one_more_asked socket until bytes from at p.calls taken m (Timed t) h p.push e box number ends behind;
            reaches =
                ap (λ v. after_call e v (sends socket (drop taken bytes) until (Timed t))) (p.push e box number ends behind).reaches
                ∙ timed_rest e box m number ends (drop taken bytes) behind socket until t (drop taken bytes) (some_left bytes taken h);
          };
      ended = (h, record { earlier = p.calls; newest = refl; others_go = p.goes }, p.quiet);
    }

pub pushed_failed : {N : Type 0} (Becomes : N → List Call → N → Type 0) (before net after : N) (socket until : ℕ) (bytes : List ℕ) (from at taken m : ℕ) (cause : Cause) →
    ((a b c : N) (first then : List Call) → Becomes a first b → Becomes b then c → Becomes a (then ++ first) c) →
    taken < length bytes → IsPushing Becomes before net socket until bytes from at taken m →
    Becomes net (sends socket (take (length bytes - taken) (drop taken bytes)) until (Failed cause) ∷ []) after →
    HasPushed Becomes before after socket until bytes from at taken m (pause.Failed cause)
pushed_failed Becomes before net after socket until bytes from at taken m cause on h p b =
    let b' : Becomes net (sends socket (drop taken bytes) until (Failed cause) ∷ []) after = rw (take_rest bytes taken) at b in
    record {
      calls = sends socket (drop taken bytes) until (Failed cause) ∷ p.calls;
      becomes = on before net after p.calls (sends socket (drop taken bytes) until (Failed cause) ∷ []) p.becomes b';
      push = λ e box number ends behind.
          record {
            asked = one_more_asked socket until bytes from at p.calls taken m (Failed cause) h p.push e box number ends behind;
            reaches = (p.push e box number ends behind).reaches;
          };
      ended = (h, record { earlier = p.calls; newest = refl; others_go = p.goes }, ap (λ v. item.DataFailed socket true cause ∷ v) p.quiet);
    }

pub pushed_whole : {N : Type 0} (Becomes : N → List Call → N → Type 0) (before after : N) (socket until : ℕ) (bytes : List ℕ) (from at taken m : ℕ) →
    taken ≡ length bytes → IsPushing Becomes before after socket until bytes from at taken m → HasPushed Becomes before after socket until bytes from at taken m pause.Whole
pushed_whole Becomes before after socket until bytes from at taken m e p = record { calls = p.calls; becomes = p.becomes; push = p.push; ended = (e, p.goes, p.quiet) }
