-- What is heard of bytes that begin a spelling, and of more bytes behind them.
use Rattle.std.proofs.Common.{◌≡◌, ℕ, zero, suc, ◌+◌, ◌<◌, ◌≤◌, ◌^◌, true, false, List, [], ◌∷◌, ◌++◌, length, take, drop, refl, ap, sym, subst, ◌∙◌, arith, append_assoc, length-append, ◌⊎◌, inl, inr}
use Rattle.std.proofs.lemmas.List.{take-append-le}
use Rattle.taps_framer.specs.Layers.{Layer, IsLawful, holds_whole_frame, is_viable, lives, first_frame}
use Rattle.taps_framer.proofs.Bytes.{and-left, and-right}
use Rattle.taps_framer.proofs.Laws.{same_rest, holds_frame, held, Held, holds_more}
use Rattle.taps_framer.proofs.Prefixes.{append-nil, append-cancel, compared, is_prefix-split}
use Rattle.taps_framer.proofs.Sights.{holds_none, dead_more}
use Rattle.taps_chain.specs.Chained.{chained, IsSpoken, spelling, AreSpoken}
use Rattle.taps_chain.specs.Faults.{IsBadIn}
use Rattle.taps_chain.specs.Heard.{needs, fails, IsEnding}
use Rattle.taps_chain.specs.ChainLaws.{AreFramers, IsCutOff, HearsPrefixes, NeedsFew}
use Rattle.taps_chain.proofs.Delimits.{spoken_apart, takes_some}

-- the first bytes of a frame, not all of them
cut_frame : (f : Layer) (k : ℕ) → IsLawful f k → (b x t : List ℕ) → f.speaks b ≡ true → 0 < length t → f.frame k b ≡ x ++ t → (holds_whole_frame f k x ≡ false) × (is_viable f k x ≡ true)
cut_frame f k l b x t s n e = (
  holds_none f k x (λ d y u g.
      let h : f.frame k b ++ [] ≡ f.frame k d ++ (y ++ t) = append-nil (f.frame k b) ∙ e ∙ ap (λ (v : List ℕ). v ++ t) g ∙ append_assoc (f.frame k d) y t in
      let r : [] ≡ y ++ t = same_rest f k l b d [] (y ++ t) s u h in
      let c : 0 ≡ length y + length t = ap length r ∙ length-append y t in
      omega arith),
  l.completes b x t s e,
)

cut_chained : (fs : List Layer) → 0 < length fs → AreFramers fs → (k : ℕ) → k < 2 ^ 64 → (m x t : List ℕ) → IsSpoken fs k m → 0 < length t → chained fs k m ≡ x ++ t → IsEnding fs k x needs
cut_chained [] n w k b m x t u c e = absurd (omega arith)
cut_chained (f ∷ fs) n w k b m x t u c e = cut_frame f k (w.0.at k b) (chained fs k m) x t (spoken_apart f fs k m u).0 c e

no_frame : (f : Layer) (k : ℕ) → IsLawful f k → holds_whole_frame f k [] ≡ false
no_frame f k l = holds_none f k [] (λ b y s e. let o : 1 ≤ length (f.frame k b) = l.some b s in let n : 0 ≡ length (f.frame k b) + length y = ap length e ∙ length-append (f.frame k b) y in omega arith)

-- of no bytes nothing is heard, and more are needed
pub none_needs : (fs : List Layer) → 0 < length fs → AreFramers fs → (k : ℕ) → k < 2 ^ 64 → IsEnding fs k [] needs
none_needs [] n w k b = absurd (omega arith)
none_needs (f ∷ fs) n w k b = (no_frame f k (w.0.at k b), (w.0.at k b).begins)

no_bytes : (x y : List ℕ) → [] ≡ x ++ y → x ≡ []
no_bytes [] y e = refl
no_bytes (a ∷ x) y e = absurd (cc e)

none_or_some : (t : List ℕ) → (t ≡ []) ⊎ (0 < length t)
none_or_some [] = inl refl
none_or_some (a ∷ t) = inr (omega arith)

module _ (fs : List Layer) (n : 0 < length fs) (w : AreFramers fs) where
  cut_here : (k : ℕ) (x y : List ℕ) (ms : List (List ℕ)) → x ++ y ≡ spelling fs k ms → IsEnding fs k x needs → IsCutOff fs k x y ms
  cut_here k x y ms e h =
      let z : k ≡ k + 0 = omega arith in
      record {
        first = [];
        left = ms;
        rest = x;
        messages = refl;
        heard = record { split = refl; spoken = tt; ends = subst (λ (v : ℕ). IsEnding fs v x needs) z h };
        goes_on = subst (λ (v : ℕ). x ++ y ≡ spelling fs v ms) z e;
      }

  cut_later : (k : ℕ) (x t y m : List ℕ) (ms : List (List ℕ)) → IsSpoken fs k m → x ≡ chained fs k m ++ t → IsCutOff fs (k + 1) t y ms → IsCutOff fs k x y (m ∷ ms)
  cut_later k x t y m ms u e c =
      let i : (k + 1) + length c.first ≡ k + suc (length c.first) = omega arith in
      record {
        first = m ∷ c.first;
        left = c.left;
        rest = c.rest;
        messages = ap (λ (v : List (List ℕ)). m ∷ v) c.messages;
        heard = record {
          split = e ∙ ap (λ (v : List ℕ). chained fs k m ++ v) c.heard.split ∙ sym (append_assoc (chained fs k m) (spelling fs (k + 1) c.first) c.rest);
          spoken = (u, c.heard.spoken);
          ends = subst (λ (v : ℕ). IsEnding fs v c.rest needs) i c.heard.ends;
        };
        goes_on = subst (λ (v : ℕ). c.rest ++ y ≡ spelling fs v c.left) i c.goes_on;
      }

  cut_off : (ms : List (List ℕ)) (k : ℕ) (x y : List ℕ) → k + length x < 2 ^ 64 → AreSpoken fs k ms → spelling fs k ms ≡ x ++ y → IsCutOff fs k x y ms
  cut_off [] k x y b s e = cut_here k x y [] (sym e) (subst (λ (v : List ℕ). IsEnding fs k v needs) (sym (no_bytes x y e)) (none_needs fs n w k (omega arith)))
  cut_off (m ∷ ms) k x y b s e = elim (compared (chained fs k m) (spelling fs (k + 1) ms) x y e) [
    | inr v ↦ (
        let lt : length v.0 < length x = takes_some fs n w k x m v.0 (omega arith) s.0 v.1 in
        let g : spelling fs (k + 1) ms ≡ v.0 ++ y = append-cancel (chained fs k m) (spelling fs (k + 1) ms) (v.0 ++ y) (e ∙ ap (λ (u : List ℕ). u ++ y) v.1 ∙ append_assoc (chained fs k m) v.0 y) in
        cut_later k x v.0 y m ms s.0 v.1 (cut_off ms (k + 1) v.0 y (omega arith) s.1 g))
    | inl v ↦ elim (none_or_some v.0) [
      | inr lt ↦ cut_here k x y (m ∷ ms) (sym e) (cut_chained fs n w k (omega arith) m x v.0 s.0 lt v.1)
      | inl z ↦ (
          let no : List ℕ = [] in
          let a : x ≡ chained fs k m = sym (v.1 ∙ ap (λ (u : List ℕ). x ++ u) z ∙ append-nil x) in
          let a' : x ≡ chained fs k m ++ no = a ∙ sym (append-nil (chained fs k m)) in
          let lt : length no < length x = takes_some fs n w k x m no (omega arith) s.0 a' in
          let g : spelling fs (k + 1) ms ≡ no ++ y = append-cancel (chained fs k m) (spelling fs (k + 1) ms) y (e ∙ ap (λ (u : List ℕ). u ++ y) a) in
          cut_later k x no y m ms s.0 a' (cut_off ms (k + 1) no y (omega arith) s.1 g))
    ]
  ]

  pub hears_prefixes : HearsPrefixes fs
  hears_prefixes k x y ms b s e = cut_off ms k x y b s e

take_more : (q : ℕ) (r y : List ℕ) → q < length r → take (q + 1) (r ++ y) ≡ take (q + 1) r
take_more q r y h = let k : q + 1 ≤ length r = omega arith in rw take-append-le refl

-- what is bad stays bad, at the same place
pub bad_stays : (fs : List Layer) → AreFramers fs → (k : ℕ) → k < 2 ^ 64 → (r y : List ℕ) (l p : ℕ) → IsEnding fs k r (fails l p) → IsEnding fs k (r ++ y) (fails l p)
bad_stays [] w k b r y l p h = absurd h
bad_stays (f ∷ fs) w k b r y zero p h =
    let i : p < length r = h.1.inside in (
      dead_more f k (w.0.at k b) r y h.0,
      record {
        inside = omega (arith, length-append r y);
        dies = subst (λ (v : List ℕ). lives f k v ≡ false) (sym (take_more p r y i)) h.1.dies;
        before = λ q lt. subst (λ (v : List ℕ). lives f k v ≡ true) (sym (take_more q r y (omega arith))) (h.1.before q lt);
      },
    )
bad_stays (f ∷ fs) w k b r y (suc l) p h =
    let a : Held f k r = held f k r h.0 in
    let s : r ++ y ≡ f.frame k (f.front k r) ++ (drop (length (first_frame f k r)) r ++ y) = ap (λ (v : List ℕ). v ++ y) a.split ∙ append_assoc (first_frame f k r) (drop (length (first_frame f k r)) r) y in
    let e : f.front k (r ++ y) ≡ f.front k r = ap (λ (v : List ℕ). f.front k v) s ∙ (w.0.at k b).fronts (f.front k r) (drop (length (first_frame f k r)) r ++ y) a.spoken in
    (holds_more f k (w.0.at k b) r y h.0, subst (λ (v : List ℕ). IsBadIn fs k v l p) (sym e) h.1)

-- bytes that begin a frame and hold none are fewer than it has
few_viable : (f : Layer) (k : ℕ) → IsLawful f k → (x : List ℕ) → holds_whole_frame f k x ≡ false → is_viable f k x ≡ true → length x < 4194304
unfolding is_viable
few_viable f k l x h v =
    let b : List ℕ = f.completion k x in
    let s : f.speaks (f.completion k x) ≡ true = and-left _ _ v in
    let e : f.frame k (f.completion k x) ≡ x ++ drop (length x) (f.frame k (f.completion k x)) = is_prefix-split _ _ (and-right (f.speaks (f.completion k x)) _ v) in
    elim (none_or_some (drop (length x) (f.frame k (f.completion k x)))) [
      | inl z ↦ (
          let a : f.frame k (f.completion k x) ++ [] ≡ x = append-nil (f.frame k (f.completion k x)) ∙ e ∙ ap (λ (u : List ℕ). x ++ u) z ∙ append-nil x in
          let t : holds_whole_frame f k x ≡ true = subst (λ (u : List ℕ). holds_whole_frame f k u ≡ true) a (holds_frame f k l (f.completion k x) [] s) in
          absurd (cc (t, h)))
      | inr lt ↦ (
          let n : length (f.frame k (f.completion k x)) ≤ 4194304 = l.bounded (f.completion k x) s in
          let c : length (f.frame k (f.completion k x)) ≡ length x + length (drop (length x) (f.frame k (f.completion k x))) = ap length e ∙ length-append x (drop (length x) (f.frame k (f.completion k x))) in
          omega arith)
    ]

pub needs_few : (fs : List Layer) → AreFramers fs → NeedsFew fs
needs_few [] w k x b h = absurd h
needs_few (f ∷ fs) w k x b h = few_viable f k (w.0.at k b) x h.0 h.1
