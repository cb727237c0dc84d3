-- Where the bytes read at one end are a prefix of those written at the other, the messages heard are the first ones sent.
use Rattle.std.proofs.Common.{◌≡◌, ℕ, ◌+◌, ◌<◌, ◌≤◌, ◌^◌, Bool, true, List, [], ◌∷◌, ◌++◌, length, take, drop, Option, Some, None, refl, sym, ap, ◌∙◌, subst, append_assoc, arith, length-append}
use Rattle.std.proofs.lemmas.List.{append-nil, take-append-drop, length-take-le}
use Rattle.std.specs.List.{concat}
use Rattle.taps_framer.specs.Layers.{Layer}
use Rattle.taps_framer.specs.declared.framer.Framer as framer
use Rattle.taps_chain.specs.Chained.{chained, chain_refusal, IsSpoken, spelling, AreSpoken}
use Rattle.taps_chain.specs.ChainLaws.{AreFramers}
use Rattle.taps_chain.specs.Heard.{needs, fails, IsEnding}
use Rattle.taps_chain.specs.declared.heard.BadAt.{BadAt}
use Rattle.taps_chain.specs.declared.heard.Heard.TheVariants as heard
use Rattle.taps_chain.proofs.Delimits.{chained_apart, takes_some}
use Rattle.taps_chain.proofs.Once.{not_ending, same_ending}
use Rattle.taps_chain.proofs.Cuts.{bad_stays, none_needs}
use Rattle.taps_connection.specs.declared.sender.Begun.{Begun}
use Rattle.taps_connection.specs.declared.receiver.Source.{Source}
use Rattle.taps_connection.specs.declared.receiver.Source.TheVariants.{Framed, Plain, Datagrams}
use Rattle.taps_connection.specs.Encodings.{encoding_of, carrier_refusal, or_carrier}
use Rattle.taps_connection.specs.Written.{pieces_of, AreEncoded, HasPieces, IsBegunAs}
use Rattle.taps_connection.specs.Unread.{framed, is_stream_of, count_given}
use Rattle.taps_connection.specs.Sources.{unread_of, IsSoundSource}
use Rattle.taps_connection.specs.Sound.{HasLeft}
use Rattle.taps_connection.specs.Histories.{IsBrokenOff}
use Rattle.taps_connection.specs.Joined.{HearsNoBad, IsHeardAsSent}

-- the bytes of sent messages are their spelling
pieces_spell : (fs : List Layer) (k : ℕ) (ms : List (List ℕ)) → concat (pieces_of (encoding_of true fs) k ms) ≡ spelling fs k ms
pieces_spell fs k [] = refl
pieces_spell fs k (m ∷ ms) = ap (λ v. chained fs k m ++ v) (pieces_spell fs (k + 1) ms)

spoken_of : (chain carrier : Option ℕ) → or_carrier chain carrier ≡ None → chain ≡ None
spoken_of None carrier e = refl
spoken_of (Some l) carrier e = absurd (cc)

spoken_here : (fs : List Layer) (k : ℕ) (m : List ℕ) → (encoding_of true fs).refusal k m ≡ None → IsSpoken fs k m
spoken_here fs k m e = spoken_of (chain_refusal fs k m) (carrier_refusal true fs k (chained fs k m)) e

are_spoken : (fs : List Layer) (k : ℕ) (ms : List (List ℕ)) → AreEncoded (encoding_of true fs) k ms → AreSpoken fs k ms
are_spoken fs k [] h = tt
are_spoken fs k (m ∷ ms) h = (spoken_here fs k m h.0, are_spoken fs (k + 1) ms h.1)

-- some bytes of a message, and not all
record IsPart (fs : List Layer) (k : ℕ) (m front : List ℕ) : Type 0 where
  spoken : IsSpoken fs k m
  rest : List ℕ
  whole : chained fs k m ≡ front ++ rest
  fewer : 1 ≤ length rest

-- no bytes, or a part of a message
data Part (fs : List Layer) (k : ℕ) : List ℕ → Type 0 where
  none : Part fs k []
  some : (m front : List ℕ) → IsPart fs k m front → Part fs k front

-- messages that were heard are the first ones sent, and the bytes behind them begin the others
record IsBeginning (fs : List Layer) (k : ℕ) (ms sent : List (List ℕ)) (x p : List ℕ) : Type 0 where
  more : List (List ℕ)
  messages : sent ≡ ms ++ more
  spoken : AreSpoken fs (k + length ms) more
  bytes : x ≡ spelling fs (k + length ms) more ++ p

abbrev the_none : List (List ℕ)
the_none = []

-- a part of a message begins with no message
part_holds_none : (fs : List Layer) (k : ℕ) → 0 < length fs → AreFramers fs → k < 2 ^ 64 → (p : List ℕ) → Part fs k p → (m y : List ℕ) → IsSpoken fs k m → chained fs k m ++ y ≡ p → ⊥
part_holds_none fs k n w h p none m y s e = (let t = takes_some fs n w k p m y h s (sym e) in absurd (omega arith))
part_holds_none fs k n w h p (some b front a) m y s e =
    let whole : chained fs k m ++ (y ++ a.rest) ≡ chained fs k b ++ [] = sym (append_assoc (chained fs k m) y a.rest) ∙ (ap (λ (z : List ℕ). z ++ a.rest) e ∙ (sym a.whole ∙ sym (append-nil (chained fs k b)))) in
    let o = chained_apart fs n w k h m b (y ++ a.rest) [] s a.spoken whole in
    let f = a.fewer in
    let l : length y + length a.rest ≡ 0 = sym (length-append y a.rest) ∙ ap (λ (z : List ℕ). length z) o.1 in
    absurd (omega arith)

begins : (fs : List Layer) → 0 < length fs → AreFramers fs → (p : List ℕ) (k j : ℕ) (ms sent : List (List ℕ)) (x : List ℕ) → j ≡ k + length sent → j < 2 ^ 64 → AreSpoken fs k ms → AreSpoken fs k sent → Part fs j p →
    spelling fs k ms ++ x ≡ spelling fs k sent ++ p → IsBeginning fs k ms sent x p
begins fs n w p k j [] sent x i h a b q e =
    let z : k ≡ k + length the_none = omega arith in
    record {
      more = sent;
      messages = refl;
      spoken = subst (λ v. AreSpoken fs v sent) z b;
      bytes = e ∙ ap (λ v. spelling fs v sent ++ p) z;
    }
begins fs n w p k j (m ∷ ms) [] x i h a b q e =
    let z : j ≡ k = omega arith in
    absurd (part_holds_none fs k n w (omega arith) p (subst (λ v. Part fs v p) z q) m (spelling fs (k + 1) ms ++ x) a.0 (sym (append_assoc (chained fs k m) (spelling fs (k + 1) ms) x) ∙ e))
begins fs n w p k j (m ∷ ms) (s ∷ sent) x i h a b q e =
    let split : chained fs k m ++ (spelling fs (k + 1) ms ++ x) ≡ chained fs k s ++ (spelling fs (k + 1) sent ++ p) =
    sym (append_assoc (chained fs k m) (spelling fs (k + 1) ms) x) ∙ (e ∙ append_assoc (chained fs k s) (spelling fs (k + 1) sent) p) in
    let o = chained_apart fs n w k (omega arith) m s (spelling fs (k + 1) ms ++ x) (spelling fs (k + 1) sent ++ p) a.0 b.0 split in
    let tail = begins fs n w p (k + 1) j ms sent x (omega arith) h a.1 b.1 q o.1 in
    let z : k + 1 + length ms ≡ k + length (m ∷ ms) = omega arith in
    record {
      more = tail.more;
      messages = ap (λ (l : List (List ℕ)). s ∷ l) tail.messages ∙ ap (λ (v : List ℕ). v ∷ (ms ++ tail.more)) (sym o.0);
      spoken = subst (λ v. AreSpoken fs v tail.more) z tail.spoken;
      bytes = tail.bytes ∙ ap (λ v. spelling fs v tail.more ++ p) z;
    }

-- bytes that begin a spelling, or end in a part of a message, are not bad
none_is_bad : (fs : List Layer) → 0 < length fs → AreFramers fs → (k : ℕ) → k < 2 ^ 64 → (more : List (List ℕ)) (p y z : List ℕ) → AreSpoken fs k more → (more ≡ [] → Part fs k p) → y ++ z ≡ spelling fs k more ++ p → (l q : ℕ) → IsEnding fs k y (fails l q) → ⊥
none_is_bad fs n w k h (m ∷ more) p y z s a e l q bad =
    let split : y ++ z ≡ chained fs k m ++ (spelling fs (k + 1) more ++ p) = e ∙ append_assoc (chained fs k m) (spelling fs (k + 1) more) p in
    not_ending fs k w h m (spelling fs (k + 1) more ++ p) s.0 (y ++ z) split (fails l q) (bad_stays fs w k h y z l q bad)
none_is_bad fs n w k h [] p y z s a e l q bad = by_part p (a refl) e
  where
    no_bytes : (a b : List ℕ) → a ++ b ≡ [] → a ≡ []
    no_bytes [] b e = refl
    no_bytes (c ∷ a) b e = absurd (cc)

    by_part : (p : List ℕ) → Part fs k p → y ++ z ≡ p → ⊥
    by_part p none e =
        let d : needs ≡ fails l q = same_ending fs k w h [] needs (fails l q) (none_needs fs n w k h) (subst (λ v. IsEnding fs k v (fails l q)) (no_bytes y z e) bad) in cc
    by_part p (some m front a) e =
        let split : y ++ (z ++ a.rest) ≡ chained fs k m ++ [] = sym (append_assoc y z a.rest) ∙ (ap (λ (v : List ℕ). v ++ a.rest) e ∙ (sym a.whole ∙ sym (append-nil (chained fs k m)))) in
        not_ending fs k w h m [] a.spoken (y ++ (z ++ a.rest)) split (fails l q) (bad_stays fs w k h y (z ++ a.rest) l q bad)

-- the bytes of the begun message that were taken
abbrev taken_by : Option Begun → List ℕ
taken_by None = []
taken_by (Some b) = take b.taken b.bytes

part_of : (fs : List Layer) → 0 < length fs → AreFramers fs → (number : ℕ) → number < 2 ^ 64 → (b : Option Begun) (front : List ℕ) → HasLeft b → IsBegunAs (encoding_of true fs) number front b → Part fs number (taken_by b)
part_of fs n w number h None front l i = none
part_of fs n w number h (Some b) front l i =
    let spoken : IsSpoken fs number front = spoken_here fs number front i.0 in
    let long : 0 < length (chained fs number front) = takes_some fs n w number (chained fs number front) front [] h spoken (sym (append-nil (chained fs number front))) in
    let size : length b.bytes ≡ length (chained fs number front) = ap (λ (z : List ℕ). length z) i.1 in
    let less : b.taken < length b.bytes = l (omega arith) in
    let cut : length (take b.taken b.bytes) ≡ b.taken = length-take-le b.taken b.bytes (omega arith) in
    let both : length (take b.taken b.bytes) + length (drop b.taken b.bytes) ≡ length b.bytes =
    sym (length-append (take b.taken b.bytes) (drop b.taken b.bytes)) ∙ ap (λ (z : List ℕ). length z) (take-append-drop b.taken b.bytes) in
    some front (take b.taken b.bytes) (record { spoken = spoken; rest = drop b.taken b.bytes; whole = sym i.1 ∙ sym (take-append-drop b.taken b.bytes); fewer = omega arith })

written_is : (fs : List Layer) (written sent : List (List ℕ)) (b : Option Begun) → HasPieces true (pieces_of (encoding_of true fs) 0 sent) b (Some written) → concat written ≡ spelling fs 0 sent ++ taken_by b
written_is fs written sent None h = h ∙ (pieces_spell fs 0 sent ∙ sym (append-nil (spelling fs 0 sent)))
written_is fs written sent (Some b) h = h ∙ ap (λ v. v ++ take b.taken b.bytes) (pieces_spell fs 0 sent)

no_bad : (fs : List Layer) (ended : Bool) (piece : ℕ) (x : List ℕ) (k : ℕ) (bad : Option BadAt) → ((l q : ℕ) → IsEnding fs k x (fails l q) → ⊥) → IsBrokenOff fs k x bad → HearsNoBad fs ended (framed piece x k bad)
no_bad fs ended piece x k None f b (heard.Message m) v g = tt
no_bad fs ended piece x k None f b heard.Need v g = tt
no_bad fs ended piece x k None f b (heard.Bad c) v g = f c.layer c.place g.0
no_bad fs ended piece x k None f b heard.NoMemory v g = tt
no_bad fs ended piece x k (Some c) f b answer v g = absurd (f c.layer c.place b.0)

heard_framed : (fs : List Layer) → 0 < length fs → AreFramers fs → (number : ℕ) → number < 2 ^ 64 → (b : Option Begun) → HasLeft b → (ended : Bool) (piece : ℕ) (x : List ℕ) (k : ℕ) (bad : Option BadAt) → k < 2 ^ 64 → IsHeardAsSent fs number b ended (framed piece x k bad)
heard_framed fs n w number h b left ended piece x k bad kh None read sent front given j wr r = absurd j
heard_framed fs n w number h b left ended piece x k bad kh (Some written) None sent front given j wr r = absurd j
heard_framed fs n w number h b left ended piece x k bad kh (Some written) (Some read) sent front given j wr r =
    let p : List ℕ = taken_by b in
    let part : Part fs number p = part_of fs n w number h b front left wr.begun in
    let count : number ≡ length sent = wr.count in
    let index : k ≡ length r.messages = r.count in
    let z : number ≡ 0 + length sent = omega arith in
    let i : 0 + length r.messages ≡ k = omega arith in
    let spelled : spelling fs 0 r.messages ++ (x ++ j.0) ≡ spelling fs 0 sent ++ p =
    sym (append_assoc (spelling fs 0 r.messages) x j.0) ∙ (ap (λ (v : List ℕ). v ++ j.0) (sym r.begun.split) ∙ (sym j.1 ∙ written_is fs written sent b wr.pieces)) in
    let o = begins fs n w p 0 number r.messages sent (x ++ j.0) z h r.begun.spoken (are_spoken fs 0 sent wr.encoded) part spelled in
    let all : length sent ≡ length r.messages + length o.more = ap (λ (v : List (List ℕ)). length v) o.messages ∙ length-append r.messages o.more in
    let last : o.more ≡ [] → Part fs k p = λ e. (let none_left : length o.more ≡ 0 = ap (λ (v : List (List ℕ)). length v) e in let m : number ≡ k = omega arith in subst (λ v. Part fs v p) m part) in
    let split : x ++ j.0 ≡ spelling fs k o.more ++ p = o.bytes ∙ ap (λ v. spelling fs v o.more ++ p) i in (
      record { heard = r.messages; more = o.more; given_out = r.given_out; prefix = o.messages },
      no_bad fs ended piece x k bad (none_is_bad fs n w k kh o.more p x j.0 (subst (λ v. AreSpoken fs v o.more) i o.spoken) last split) r.broken,
    )

pub heard_of_source : {X : Type 0} {F : X → Type 0} (boxed : (x : X) → framer.Ghosts (F x)) (fs gs : List Layer) → gs ≡ fs → 0 < length fs → AreFramers fs → (number : ℕ) → number < 2 ^ 64 → (b : Option Begun) → HasLeft b → (ended : Bool) (src : Source X F) → IsSoundSource boxed gs src →
    is_stream_of (unread_of src) ≡ true → count_given (unread_of src) < 2 ^ 64 → IsHeardAsSent fs number b ended (unread_of src)
heard_of_source boxed fs gs same n w number h b left ended (Framed f) s t few = heard_framed fs n w number h b left ended _ _ _ _ few
heard_of_source boxed fs gs same n w number h b left ended (Plain p) s t few = absurd (let e : length fs ≡ 0 = ap (λ (v : List Layer). length v) (sym same ∙ s) in omega arith)
heard_of_source boxed fs gs same n w number h b left ended (Datagrams d) s t few = absurd (cc)
