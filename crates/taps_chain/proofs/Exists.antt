-- Something is heard of any bytes.
use Rattle.std.proofs.Common.{◌≡◌, ℕ, zero, suc, ◌+◌, ◌<◌, ◌≤◌, ◌^◌, Bool, true, false, List, [], ◌∷◌, ◌++◌, length, take, drop, refl, ap, sym, subst, ◌∙◌, arith, append_assoc, ◌⊎◌, inl, inr}
use Rattle.std.proofs.lemmas.Grind.{common_steps}
use Rattle.taps_framer.specs.Layers.{Layer, IsLawful, IsWholeFrame, holds_whole_frame, is_viable, lives, first_frame}
use Rattle.taps_framer.specs.Sights.{IsBadPlace}
use Rattle.taps_framer.proofs.Laws.{held, Held, first_within, first_alone}
use Rattle.taps_framer.proofs.Sights.{lives_none, lives_viable}
use Rattle.taps_chain.specs.Chained.{chained, IsSpoken, spelling}
use Rattle.taps_chain.specs.Faults.{broken, unfinished, left_over, IsBadIn}
use Rattle.taps_chain.specs.Heard.{Ending, needs, fails, IsEnding, IsHeard}
use Rattle.taps_chain.specs.ChainLaws.{AreFramers, IsHeardOnce}
use Rattle.taps_chain.proofs.Delimits.{spoken_together, takes_some}
use Rattle.taps_chain.proofs.Once.{heard_once}
use Rattle.taps_chain.proofs.Opening.{whole_used}

pub decided : (b : Bool) → (b ≡ true) ⊎ (b ≡ false)
decided true = inl refl
decided false = inr refl

pub ordered : (a b : ℕ) → (a < b) ⊎ (b ≤ a)
ordered zero zero = inr (omega arith)
ordered zero (suc b) = inl (omega arith)
ordered (suc a) zero = inr (omega arith)
ordered (suc a) (suc b) = elim (ordered a b) [ inl h ↦ inl (omega arith) | inr h ↦ inr (omega arith) ]

-- the least number below n at which a test fails
record Least (test : ℕ → Bool) (n p : ℕ) : Type 0 where
  inside : p < n
  fails_here : test p ≡ false
  before : (q : ℕ) → q < p → test q ≡ true

at_last : (test : ℕ → Bool) (n : ℕ) → ((q : ℕ) → q < n → test q ≡ true) → test n ≡ true → (q : ℕ) → q < suc n → test q ≡ true
at_last test n all h q k = elim (ordered q n) [
  | inl lt ↦ all q lt
  | inr le ↦ (let e : n ≡ q = omega arith in subst (λ (v : ℕ). test v ≡ true) e h)
]

least : (test : ℕ → Bool) (n : ℕ) → ((q : ℕ) → q < n → test q ≡ true) ⊎ ((p : ℕ) × Least test n p)
least test zero = inl (λ q h. absurd (omega arith))
least test (suc n) = elim (least test n) [
  | inr w ↦ inr (w.0, record { inside = (let a : w.0 < n = w.1.inside in omega arith); fails_here = w.1.fails_here; before = w.1.before })
  | inl all ↦ elim (decided (test n)) [
    | inl h ↦ inl (at_last test n all h)
    | inr h ↦ inr (n, record { inside = omega arith; fails_here = h; before = all })
  ]
]

take_whole : (x : List ℕ) (n : ℕ) → n ≡ length x → take n x ≡ x
take_whole x n e = grind (arith, common_steps)

bad_place : (f : Layer) (k : ℕ) (x : List ℕ) → IsLawful f k → lives f k x ≡ false → (p : ℕ) × IsBadPlace f k x p
bad_place f k [] l d = let a = lives_viable f k [] l.begins in absurd (cc (a, d))
bad_place f k (a ∷ x) l d = elim (least (λ (q : ℕ). lives f k (take (q + 1) (a ∷ x))) (length (a ∷ x))) [
  | inl all ↦ (
      let n : length x < length (a ∷ x) = omega arith in
      let e : take (length x + 1) (a ∷ x) ≡ a ∷ x = take_whole (a ∷ x) (length x + 1) (omega arith) in
      let h : lives f k (a ∷ x) ≡ true = subst (λ (v : List ℕ). lives f k v ≡ true) e (all (length x) n) in
      absurd (cc (h, d)))
  | inr w ↦ (w.0, record { inside = w.1.inside; dies = w.1.fails_here; before = w.1.before })
]

-- exactly one chained message, or a first layer at fault
whole_some : (fs : List Layer) (k : ℕ) (x : List ℕ) → AreFramers fs → k < 2 ^ 64 →
    ((m : List ℕ) × (IsSpoken fs k m × (x ≡ chained fs k m))) ⊎ ((l : ℕ) × ((p : ℕ) × IsBadIn fs k x l p))
whole_some [] k x w b = inl (x, (refl, refl))
whole_some (f ∷ fs) k x w b = elim (decided (holds_whole_frame f k x)) [
  | inl h ↦ elim (ordered (length (first_frame f k x)) (length x)) [
    | inl lt ↦ inr (0, (length (first_frame f k x), left_over h lt))
    | inr le ↦ (
        let i : IsWholeFrame f k x = whole_used f k x (length (first_frame f k x)) (first_within f k x _ h refl) (first_alone f k (w.0.at k b) x _ h refl).0 le in
        elim (whole_some fs k (f.front k x) w.1 b) [
          | inl m ↦ (
              let t : f.speaks (chained fs k m.0) ≡ true = subst (λ (v : List ℕ). f.speaks v ≡ true) m.1.1 i.spoken in
              inl (m.0, (spoken_together f fs k m.0 t m.1.0, sym i.exact ∙ ap (λ (v : List ℕ). f.frame k v) m.1.1)))
          | inr c ↦ inr (suc c.0, (c.1.0, (i, c.1.1)))
        ])
  ]
  | inr h ↦ elim (decided (is_viable f k x)) [
    | inl v ↦ inr (0, (length x, unfinished h v))
    | inr v ↦ (
        let d : lives f k x ≡ false = lives_none f k x h v in
        let p = bad_place f k x (w.0.at k b) d in
        inr (0, (p.0, broken p.0 d p.1)))
  ]
]

-- a message begins the bytes, or they end the hearing
first_some : (fs : List Layer) → 0 < length fs → (k : ℕ) (x : List ℕ) → AreFramers fs → k < 2 ^ 64 →
    ((m : List ℕ) × ((y : List ℕ) × (IsSpoken fs k m × (x ≡ chained fs k m ++ y)))) ⊎ ((e : Ending) × IsEnding fs k x e)
first_some [] n k x w b = absurd (omega arith)
first_some (f ∷ fs) n k x w b = elim (decided (holds_whole_frame f k x)) [
  | inl h ↦ (
      let s : Held f k x = held f k x h in
      elim (whole_some fs k (f.front k x) w.1 b) [
        | inl m ↦ (
            let t : f.speaks (chained fs k m.0) ≡ true = subst (λ (v : List ℕ). f.speaks v ≡ true) m.1.1 s.spoken in
            inl (m.0, (drop (length (first_frame f k x)) x, (spoken_together f fs k m.0 t m.1.0, s.split ∙ ap (λ (v : List ℕ). f.frame k v ++ drop (length (first_frame f k x)) x) m.1.1))))
        | inr c ↦ inr (fails (suc c.0) c.1.0, (h, c.1.1))
      ])
  | inr h ↦ elim (decided (is_viable f k x)) [
    | inl v ↦ inr (needs, (h, v))
    | inr v ↦ (
        let d : lives f k x ≡ false = lives_none f k x h v in
        let p = bad_place f k x (w.0.at k b) d in
        inr (fails 0 p.0, (d, p.1)))
  ]
]

pub record IsHeardSome (fs : List Layer) (k : ℕ) (x : List ℕ) : Type 0 where
  pub messages : List (List ℕ)
  pub ending : Ending
  pub rest : List ℕ
  pub heard : IsHeard fs k x messages ending rest

heard_none : (fs : List Layer) (k : ℕ) (x : List ℕ) (e : Ending) → IsEnding fs k x e → IsHeardSome fs k x
heard_none fs k x e h = let n : k ≡ k + 0 = omega arith in record {
  messages = [];
  ending = e;
  rest = x;
  heard = record { split = refl; spoken = tt; ends = subst (λ (v : ℕ). IsEnding fs v x e) n h };
}

heard_more : (fs : List Layer) (k : ℕ) (x m y : List ℕ) → IsSpoken fs k m → x ≡ chained fs k m ++ y → IsHeardSome fs (k + 1) y → IsHeardSome fs k x
heard_more fs k x m y u e h =
    let i : (k + 1) + length h.messages ≡ k + suc (length h.messages) = omega arith in
    record {
      messages = m ∷ h.messages;
      ending = h.ending;
      rest = h.rest;
      heard = record {
        split = e ∙ ap (λ (v : List ℕ). chained fs k m ++ v) h.heard.split ∙ sym (append_assoc (chained fs k m) (spelling fs (k + 1) h.messages) h.rest);
        spoken = (u, h.heard.spoken);
        ends = subst (λ (v : ℕ). IsEnding fs v h.rest h.ending) i h.heard.ends;
      };
    }

heard_within : (fs : List Layer) → 0 < length fs → AreFramers fs → (n k : ℕ) (x : List ℕ) → length x < n → k + length x < 2 ^ 64 → IsHeardSome fs k x
heard_within fs s w zero k x n b = absurd (omega arith)
heard_within fs s w (suc t) k x n b = elim (first_some fs s k x w (omega arith)) [
  | inr e ↦ heard_none fs k x e.0 e.1
  | inl m ↦ (
      let lt : length m.1.0 < length x = takes_some fs s w k x m.0 m.1.0 (omega arith) m.1.1.0 m.1.1.1 in
      heard_more fs k x m.0 m.1.0 m.1.1.0 m.1.1.1 (heard_within fs s w t (k + 1) m.1.0 (omega arith) (omega arith)))
]

pub heard_some : (fs : List Layer) → 0 < length fs → AreFramers fs → (k : ℕ) (x : List ℕ) → k + length x < 2 ^ 64 → IsHeardSome fs k x
heard_some fs n w k x b = heard_within fs n w (suc (length x)) k x (omega arith) b

pub one_hearing : (fs : List Layer) → 0 < length fs → AreFramers fs → (k : ℕ) (x : List ℕ) → k + length x < 2 ^ 64 → IsHeardOnce fs k x
one_hearing fs n w k x b =
    let s : IsHeardSome fs k x = heard_some fs n w k x b in
    record {
      messages = s.messages;
      ending = s.ending;
      rest = s.rest;
      heard = s.heard;
      only = λ ms e r h. heard_once fs n w k x ms s.messages e s.ending r s.rest b h s.heard;
    }
