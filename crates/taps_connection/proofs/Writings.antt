-- What is written after a turn.
use Rattle.std.proofs.Common.{◌≡◌, ℕ, ◌+◌, ◌≤◌, Bool, true, false, List, [], ◌∷◌, ◌++◌, length, take, refl, sym, ap, ◌∙◌, subst, arith, length-append}
use Rattle.std.specs.Prelude.{Option, Some, None}
use Rattle.std.specs.List.{concat}
use Rattle.std.proofs.lemmas.List.{append-nil}
use Rattle.std.proofs.lemmas.List.Folds.{concat-append}
use Rattle.std.proofs.Math.Seq.{take-length}
use Rattle.taps_socket.specs.Net.{Traffic}
use Rattle.taps_connection.specs.declared.sender.Begun.{Begun}
use Rattle.taps_connection.specs.Encodings.{Encoding}
use Rattle.taps_connection.specs.Pushes.{none, whole, HasFront, Took}
use Rattle.taps_connection.specs.Written.{pieces_of, AreEncoded, HasWhole, Writes}

pub pieces_snoc : (e : Encoding) (k : ℕ) (ms : List (List ℕ)) (m : List ℕ) → pieces_of e k (ms ++ m ∷ []) ≡ pieces_of e k ms ++ e.bytes (k + length ms) m ∷ []
pieces_snoc e k [] m = ap (λ n. e.bytes n m ∷ []) (omega arith)
pieces_snoc e k (n ∷ ms) m = ap (λ (v : List (List ℕ)). e.bytes k n ∷ v) (pieces_snoc e (k + 1) ms m ∙ ap (λ i. pieces_of e (k + 1) ms ++ e.bytes i m ∷ []) (omega arith))

pub encoded_snoc : (e : Encoding) (k : ℕ) (ms : List (List ℕ)) (m : List ℕ) → AreEncoded e k ms → e.refusal (k + length ms) m ≡ None → AreEncoded e k (ms ++ m ∷ [])
encoded_snoc e k [] m h r = (subst (λ i. e.refusal i m ≡ None) (omega arith) r, tt)
encoded_snoc e k (n ∷ ms) m h r = (h.0, encoded_snoc e (k + 1) ms m h.1 (subst (λ i. e.refusal i m ≡ None) (omega arith) r))

-- all was taken
front_whole : (stream : Bool) (base : List (List ℕ)) (bytes : List ℕ) (t : ℕ) (written : Option (List (List ℕ))) → t ≡ length bytes → (stream ≡ false → 1 ≤ length bytes) → HasFront stream base bytes t written → HasWhole stream (base ++ bytes ∷ []) written
front_whole stream base bytes t None all some f = tt
front_whole true base bytes t (Some pieces) all some f = f ∙ (ap (λ (v : List ℕ). concat base ++ v) (ap (λ n. take n bytes) all ∙ (take-length bytes ∙ sym (append-nil bytes))) ∙ sym (concat-append base (bytes ∷ [])))
front_whole false base bytes t (Some pieces) all some (none e same) = let n = some refl in absurd (omega arith)
front_whole false base bytes t (Some pieces) all some (whole e same) = same

-- the rest was taken: one message more is sent
pub writes_whole : (e : Encoding) (stream : Bool) (before now : Traffic) (b : Begun) (to number : ℕ) → to ≡ length b.bytes → (stream ≡ false → 1 ≤ length b.bytes) → Took stream before now b.bytes b.taken to →
    (sent : List (List ℕ)) (front : List ℕ) → Writes e stream before.written sent front number (Some b) → Writes e stream now.written (sent ++ front ∷ []) front (number + 1) None
writes_whole e stream before now b to number all some took sent front w =
    let count : number ≡ length sent = w.count in
    let at : number ≡ 0 + length sent = omega arith in
    let base : pieces_of e 0 sent ++ b.bytes ∷ [] ≡ pieces_of e 0 (sent ++ front ∷ []) =
    ap (λ (v : List ℕ). pieces_of e 0 sent ++ v ∷ []) (w.begun.1 ∙ ap (λ i. e.bytes i front) at) ∙ sym (pieces_snoc e 0 sent front) in
    record {
      pieces = subst (λ (v : List (List ℕ)). HasWhole stream v now.written) base (front_whole stream (pieces_of e 0 sent) b.bytes to now.written all some (took.written (pieces_of e 0 sent) w.pieces));
      encoded = encoded_snoc e 0 sent front w.encoded (subst (λ i. e.refusal i front ≡ None) at w.begun.0);
      count = ap (λ n. n + 1) w.count ∙ sym (length-append sent (front ∷ []));
      begun = tt;
    }

-- some of it was taken
pub writes_more : (e : Encoding) (stream : Bool) (before now : Traffic) (b c : Begun) (to number : ℕ) → c ≡ record b { taken = to } → Took stream before now b.bytes b.taken to →
    (sent : List (List ℕ)) (front : List ℕ) → Writes e stream before.written sent front number (Some b) → Writes e stream now.written sent front number (Some c)
writes_more e stream before now b c to number same took sent front w =
    subst (λ (v : Begun). Writes e stream now.written sent front number (Some v)) (sym same)
    (record { pieces = took.written (pieces_of e 0 sent) w.pieces; encoded = w.encoded; count = w.count; begun = w.begun })
