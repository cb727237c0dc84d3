-- Lists of messages, one behind the other, and what is heard behind what was heard.
use Rattle.std.proofs.Common.{◌≡◌, ℕ, suc, ◌+◌, List, [], ◌∷◌, ◌++◌, length, refl, ap, sym, subst, ◌∙◌, arith, append_assoc, length-append}
use Rattle.taps_framer.specs.Layers.{Layer}
use Rattle.taps_framer.proofs.Prefixes.{append-nil}
use Rattle.taps_chain.specs.Chained.{chained, IsSpoken, spelling, AreSpoken}
use Rattle.taps_chain.specs.Heard.{Ending, IsEnding, IsBegun, IsHeard}

pub spelling-append : (fs : List Layer) (k : ℕ) (ms ns : List (List ℕ)) → spelling fs k (ms ++ ns) ≡ spelling fs k ms ++ spelling fs (k + length ms) ns
spelling-append fs k [] ns = let e : k ≡ k + 0 = omega arith in ap (λ (v : ℕ). spelling fs v ns) e
spelling-append fs k (m ∷ ms) ns =
    let e : (k + 1) + length ms ≡ k + suc (length ms) = omega arith in
    ap (λ (v : List ℕ). chained fs k m ++ v) (spelling-append fs (k + 1) ms ns ∙ ap (λ (v : ℕ). spelling fs (k + 1) ms ++ spelling fs v ns) e)
    ∙ sym (append_assoc (chained fs k m) (spelling fs (k + 1) ms) (spelling fs (k + suc (length ms)) ns))

pub AreSpoken-append : (fs : List Layer) (k : ℕ) (ms ns : List (List ℕ)) → AreSpoken fs k ms → AreSpoken fs (k + length ms) ns → AreSpoken fs k (ms ++ ns)
AreSpoken-append fs k [] ns h j = let e : k + 0 ≡ k = omega arith in subst (λ (v : ℕ). AreSpoken fs v ns) e j
AreSpoken-append fs k (m ∷ ms) ns h j =
    let e : k + suc (length ms) ≡ (k + 1) + length ms = omega arith in
    (h.0, AreSpoken-append fs (k + 1) ms ns h.1 (subst (λ (v : ℕ). AreSpoken fs v ns) e j))

pub begun_none : (fs : List Layer) (k : ℕ) (x : List ℕ) → IsBegun fs k x [] x
begun_none fs k x = record { split = refl; spoken = tt }

-- one message more
pub begun_more : (fs : List Layer) (k j : ℕ) (x : List ℕ) (ms : List (List ℕ)) (y m z : List ℕ) → j ≡ k + length ms → IsBegun fs k x ms y → IsSpoken fs j m → y ≡ chained fs j m ++ z →
    IsBegun fs k x (ms ++ m ∷ []) z
begun_more fs k j x ms y m z a h u e =
    let u' : IsSpoken fs (k + length ms) m = subst (λ (v : ℕ). IsSpoken fs v m) a u in
    let e' : y ≡ chained fs (k + length ms) m ++ z = subst (λ (v : ℕ). y ≡ chained fs v m ++ z) a e in
    record {
      split = h.split ∙ ap (λ (v : List ℕ). spelling fs k ms ++ v) e' ∙ sym (append_assoc (spelling fs k ms) (chained fs (k + length ms) m) z)
          ∙ ap (λ (v : List ℕ). (spelling fs k ms ++ v) ++ z) (sym (append-nil (chained fs (k + length ms) m)))
          ∙ ap (λ (v : List ℕ). v ++ z) (sym (spelling-append fs k ms (m ∷ [])));
      spoken = AreSpoken-append fs k ms (m ∷ []) h.spoken (u', tt);
    }

-- more bytes come
pub begun_fed : (fs : List Layer) (k : ℕ) (x : List ℕ) (ms : List (List ℕ)) (y p : List ℕ) → IsBegun fs k x ms y → IsBegun fs k (x ++ p) ms (y ++ p)
begun_fed fs k x ms y p h = record { split = ap (λ (v : List ℕ). v ++ p) h.split ∙ append_assoc (spelling fs k ms) y p; spoken = h.spoken }

-- messages behind messages
pub begun_on : (fs : List Layer) (k : ℕ) (x : List ℕ) (ms ns : List (List ℕ)) (y z : List ℕ) → IsBegun fs k x ms y → IsBegun fs (k + length ms) y ns z → IsBegun fs k x (ms ++ ns) z
begun_on fs k x ms ns y z h g = record {
  split = h.split ∙ ap (λ (v : List ℕ). spelling fs k ms ++ v) g.split ∙ sym (append_assoc (spelling fs k ms) (spelling fs (k + length ms) ns) z)
      ∙ ap (λ (v : List ℕ). v ++ z) (sym (spelling-append fs k ms ns));
  spoken = AreSpoken-append fs k ms ns h.spoken g.spoken;
}

-- what begins the bytes, and then ends them, is heard
pub begun_ends : (fs : List Layer) (k j : ℕ) (x : List ℕ) (ms : List (List ℕ)) (y : List ℕ) (e : Ending) → j ≡ k + length ms → IsBegun fs k x ms y → IsEnding fs j y e → IsHeard fs k x ms e y
begun_ends fs k j x ms y e a h i = record { split = h.split; spoken = h.spoken; ends = subst (λ (v : ℕ). IsEnding fs v y e) a i }

pub heard_begun : (fs : List Layer) (k : ℕ) (x : List ℕ) (ms : List (List ℕ)) (y : List ℕ) (e : Ending) → IsHeard fs k x ms e y → IsBegun fs k x ms y
heard_begun fs k x ms y e h = record { split = h.split; spoken = h.spoken }

-- what begins the bytes, and then what is heard of the others, is heard of all
pub begun_heard : (fs : List Layer) (k j : ℕ) (x : List ℕ) (ms ns : List (List ℕ)) (y : List ℕ) (e : Ending) (r : List ℕ) → j ≡ k + length ms → IsBegun fs k x ms y → IsHeard fs j y ns e r → IsHeard fs k x (ms ++ ns) e r
begun_heard fs k j x ms ns y e r a h g =
    let g' : IsHeard fs (k + length ms) y ns e r = subst (λ (v : ℕ). IsHeard fs v y ns e r) a g in
    let i : (k + length ms) + length ns ≡ k + length (ms ++ ns) = omega (arith, length-append ms ns) in
    begun_ends fs k ((k + length ms) + length ns) x (ms ++ ns) r e i (begun_on fs k x ms ns y r h (heard_begun fs (k + length ms) y ns r e g')) g'.ends

-- what is heard of the first bytes, and then of the rest with more bytes, is heard of all of them
pub heard_on : (fs : List Layer) (k j : ℕ) (x y : List ℕ) (ms ns : List (List ℕ)) (d e : Ending) (r s : List ℕ) → j ≡ k + length ms → IsHeard fs k x ms d r → IsHeard fs j (r ++ y) ns e s → IsHeard fs k (x ++ y) (ms ++ ns) e s
heard_on fs k j x y ms ns d e r s a h g = begun_heard fs k j (x ++ y) ms ns (r ++ y) e s a (begun_fed fs k x ms r y (heard_begun fs k x ms r d h)) g
