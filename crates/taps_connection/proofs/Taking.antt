-- What a send changes of the record of the sockets, and what the changes of several calls come to.
use Rattle.std.proofs.Common.{◌≡◌, ℕ, ◌+◌, ◌-◌, ◌<◌, ◌≤◌, Bool, true, false, List, [], ◌∷◌, ◌++◌, length, take, drop, refl, sym, ap, ◌∙◌, subst, arith, length-drop, append_assoc, if◌then◌else◌}
use Rattle.std.specs.Prelude.{◌==◌, Option, Some, None}
use Rattle.std.specs.List.{concat}
use Rattle.std.proofs.lemmas.List.{take_rest, append-nil, length-take-le}
use Rattle.std.proofs.lemmas.Bool.{eqb-true, eq-eqb}
use Rattle.std.proofs.Math.Seq.{take-add, take-length}
use Rattle.taps_socket.specs.declared.item.Item.{Item}
use Rattle.taps_socket.specs.declared.item.Item.TheVariants as item
use Rattle.taps_socket.specs.declared.cause.Cause.{Cause}
use Rattle.taps_socket.specs.declared.timed_call.TimedCall.{TimedCall}
use Rattle.taps_socket.specs.declared.timed_call.TimedKind.TheVariants as kind
use Rattle.taps_socket.specs.declared.answers.SendAnswer.TheVariants.{Sent, Timed, Failed}
use Rattle.taps_socket.specs.Sides.{carries_stream}
use Rattle.taps_socket.specs.Net.{Net, Traffic, IsCount, after_send, sent_on, with_piece}
use Rattle.taps_connection.specs.Adds.{Adds}
use Rattle.taps_connection.specs.Pushes.{none, whole, IsFront, HasFront, Took}

-- nothing was done
pub adds_nothing : (socket : ℕ) (a : Net) → Adds socket [] None a a
adds_nothing socket a = record { trace = refl; spare = omega arith; timed = refl; last_timed = refl; faults = refl; others = λ s h. refl }

-- what was done behind calls that added nothing
pub adds_on : (socket : ℕ) (items : List Item) (call : Option TimedCall) (a b c : Net) → Adds socket [] None a b → Adds socket items call b c → Adds socket items call a c
adds_on socket items call a b c h k =
    let s = h.spare in
    let t = k.spare in
    record {
      trace = k.trace ∙ ap (λ v. items ++ v) h.trace;
      spare = omega arith;
      timed = k.timed ∙ rw h.timed refl;
      last_timed = k.last_timed ∙ rw h.last_timed refl;
      faults = k.faults ∙ h.faults;
      others = λ s n. k.others s n ∙ h.others s n;
    }

count_within : (bytes : List ℕ) (t count : ℕ) → t < length bytes → IsCount count (length (take (length bytes - t) (drop t bytes))) → t + count ≤ length bytes
count_within bytes t count h k =
    let n : count ≤ length bytes - t = rw (take_rest bytes t, length-drop t bytes) at k.within in
    omega arith

-- a part more of the bytes
part_more : (w bytes : List ℕ) (t count : ℕ) → (w ++ take t bytes) ++ take count (take (length bytes - t) (drop t bytes)) ≡ w ++ take (t + count) bytes
part_more w bytes t count = rw (take_rest bytes t, take-add t count bytes) (append_assoc w (take t bytes) (take count (drop t bytes)))

front_more : (stream : Bool) (base : List (List ℕ)) (bytes : List ℕ) (t count : ℕ) (pieces : List (List ℕ)) → t < length bytes →
    (stream ≡ false → count ≡ length (take (length bytes - t) (drop t bytes))) →
    IsFront stream base bytes t pieces → IsFront stream base bytes (t + count) (with_piece stream (take count (take (length bytes - t) (drop t bytes))) pieces)
front_more true base bytes t count pieces h all f =
    append-nil (concat pieces ++ take count (take (length bytes - t) (drop t bytes))) ∙ (ap (λ (v : List ℕ). v ++ take count (take (length bytes - t) (drop t bytes))) f ∙ part_more (concat base) bytes t count)
front_more false base bytes t count pieces h all (whole e same) = absurd (omega (arith, h, e))
front_more false base bytes t count pieces h all (none e same) =
    let rest = take_rest bytes t in
    let n : count ≡ length (drop t bytes) = all refl ∙ ap (λ (v : List ℕ). length v) rest in
    let size : length (drop t bytes) ≡ length bytes - t = length-drop t bytes in
    let here : drop t bytes ≡ bytes = ap (λ i. drop i bytes) e in
    let piece : take count (take (length bytes - t) (drop t bytes)) ≡ bytes = ap (λ (v : List ℕ). take count v) rest ∙ (ap (λ i. take i (drop t bytes)) n ∙ (take-length (drop t bytes) ∙ here)) in
    whole (omega arith) (ap (λ (v : List ℕ). pieces ++ v ∷ []) piece ∙ ap (λ (v : List (List ℕ)). v ++ bytes ∷ []) same)

fronts_more : (stream : Bool) (base : List (List ℕ)) (bytes : List ℕ) (t count at : ℕ) (x : Traffic) (pieces : Option (List (List ℕ))) → t < length bytes →
    (stream ≡ false → count ≡ length (take (length bytes - t) (drop t bytes))) →
    HasFront stream base bytes t pieces → HasFront stream base bytes (t + count) (sent_on stream (take count (take (length bytes - t) (drop t bytes))) at (record x { written = pieces })).written
fronts_more stream base bytes t count at x None h all f = tt
fronts_more stream base bytes t count at x (Some pieces) h all f = front_more stream base bytes t count pieces h all f

pub took_nothing : (stream : Bool) (x : Traffic) (bytes : List ℕ) (from : ℕ) → from ≤ length bytes → Took stream x x bytes from from
took_nothing stream x bytes from h = record { grew = omega arith; within = h; room = omega arith; all = λ q less. refl; read = refl; written = λ base f. f }

took_more : (stream : Bool) (x y z : Traffic) (bytes : List ℕ) (from t count at : ℕ) → Took stream x y bytes from t → t < length bytes →
    IsCount count (length (take (length bytes - t) (drop t bytes))) → (stream ≡ false → count ≡ length (take (length bytes - t) (drop t bytes))) →
    z ≡ sent_on stream (take count (take (length bytes - t) (drop t bytes))) at y → length (take count (take (length bytes - t) (drop t bytes))) ≡ count → Took stream x z bytes from (t + count)
took_more stream x y z bytes from t count at took h k all e size =
    let within : t + count ≤ length bytes = count_within bytes t count h k in
    let grew : from ≤ t = took.grew in
    let room : x.room + from ≤ y.room + t = took.room in
    let now : z.room ≡ y.room - length (take count (take (length bytes - t) (drop t bytes))) = ap (λ (v : Traffic). v.room) e in
    record {
      grew = omega arith;
      within = within;
      room = omega arith;
      all = λ q less. (let whole : count ≡ length bytes - t = all q ∙ (ap (λ (v : List ℕ). length v) (take_rest bytes t) ∙ length-drop t bytes) in absurd (omega arith));
      read = ap (λ (v : Traffic). v.read) e ∙ took.read;
      written = λ base f. subst (λ (v : Traffic). HasFront stream base bytes (t + count) v.written) (sym e) (fronts_more stream base bytes t count at y y.written h all (took.written base f));
    }

other_traffic : (q : Bool) (x y : Traffic) → (q ≡ true → ⊥) → (if q then x else y) ≡ y
other_traffic true x y h = absurd (h refl)
other_traffic false x y h = refl

own_traffic : (socket : ℕ) (x y : Traffic) → (if socket == socket then x else y) ≡ x
own_traffic socket x y = rw (eq-eqb socket socket refl) refl

-- some bytes were taken
pub adds_sent : (socket until : ℕ) (bytes : List ℕ) (count at : ℕ) (a b : Net) → b ≡ after_send socket bytes until (Sent count at) a → Adds socket [] None a b
adds_sent socket until bytes count at a b e =
    record {
      trace = ap (λ n. n.trace) e;
      spare = (let s : b.spare ≡ a.spare = ap (λ n. n.spare) e in omega arith);
      timed = ap (λ n. n.timed) e;
      last_timed = ap (λ n. n.last_timed) e;
      faults = ap (λ n. n.faults) e;
      others = λ s n. ap (λ (v : Net). v.traffic s) e ∙ other_traffic (socket == s) (sent_on (carries_stream a.trace socket) (take count bytes) at (a.traffic socket)) (a.traffic s) (λ h. n (sym (eqb-true socket s h)));
    }

-- a send was timed, and it failed
pub adds_timed : (socket until : ℕ) (bytes : List ℕ) (at : ℕ) (a b : Net) → b ≡ after_send socket bytes until (Timed at) a → Adds socket [] (Some (record { kind = kind.Send; socket = socket; until = until; at = at })) a b
adds_timed socket until bytes at a b e =
    record {
      trace = ap (λ n. n.trace) e;
      spare = (let s : b.spare ≡ a.spare = ap (λ n. n.spare) e in omega arith);
      timed = ap (λ n. n.timed) e;
      last_timed = ap (λ n. n.last_timed) e;
      faults = ap (λ n. n.faults) e;
      others = λ s n. ap (λ (v : Net). v.traffic s) e;
    }

pub adds_failed : (socket until : ℕ) (bytes : List ℕ) (cause : Cause) (a b : Net) → 1 ≤ a.spare → b ≡ after_send socket bytes until (Failed cause) a → Adds socket (item.DataFailed socket true cause ∷ []) None a b
adds_failed socket until bytes cause a b one e =
    record {
      trace = ap (λ n. n.trace) e;
      spare = (let s : b.spare ≡ a.spare - 1 = ap (λ n. n.spare) e in omega arith);
      timed = ap (λ n. n.timed) e;
      last_timed = ap (λ n. n.last_timed) e;
      faults = ap (λ n. n.faults) e;
      others = λ s n. ap (λ (v : Net). v.traffic s) e;
    }

-- the socket's own traffic after some bytes were taken, and after none were
pub took_sent : (stream : Bool) (socket until : ℕ) (a b c : Net) (bytes : List ℕ) (from t count at : ℕ) → carries_stream b.trace socket ≡ stream →
    Took stream (a.traffic socket) (b.traffic socket) bytes from t → t < length bytes →
    IsCount count (length (take (length bytes - t) (drop t bytes))) → (carries_stream b.trace socket ≡ false → count ≡ length (take (length bytes - t) (drop t bytes))) →
    c ≡ after_send socket (take (length bytes - t) (drop t bytes)) until (Sent count at) b → length (take count (take (length bytes - t) (drop t bytes))) ≡ count →
    Took stream (a.traffic socket) (c.traffic socket) bytes from (t + count)
took_sent stream socket until a b c bytes from t count at s took h k all e size =
    let piece : List ℕ = take count (take (length bytes - t) (drop t bytes)) in
    let own : c.traffic socket ≡ sent_on (carries_stream b.trace socket) piece at (b.traffic socket) = ap (λ (v : Net). v.traffic socket) e ∙ own_traffic socket _ (b.traffic socket) in
    took_more stream (a.traffic socket) (b.traffic socket) (c.traffic socket) bytes from t count at took h k (λ q. all (s ∙ q)) (own ∙ ap (λ (v : Bool). sent_on v piece at (b.traffic socket)) s) size

pub took_none : (stream : Bool) (x y z : Traffic) (bytes : List ℕ) (from t : ℕ) → z ≡ y → Took stream x y bytes from t → Took stream x z bytes from t
took_none stream x y z bytes from t e took = subst (λ (v : Traffic). Took stream x v bytes from t) (sym e) took

pub rest_length : (bytes : List ℕ) (t : ℕ) → length (take (length bytes - t) (drop t bytes)) ≡ length bytes - t
rest_length bytes t = ap (λ (v : List ℕ). length v) (take_rest bytes t) ∙ length-drop t bytes

pub count_taken : (bytes : List ℕ) (count : ℕ) → IsCount count (length bytes) → length (take count bytes) ≡ count
count_taken bytes count k = length-take-le count bytes k.within
