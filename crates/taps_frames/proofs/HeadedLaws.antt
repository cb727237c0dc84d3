-- The laws of frames of a head, a body and a tail.
use Rattle.std.proofs.Common.{◌≡◌, ℕ, ◌+◌, ◌-◌, ◌≤◌, true, List, [], ◌∷◌, ◌++◌, length, take, drop, refl, ap, sym, ◌∙◌, subst, arith, length-append, append_assoc, inl, inr}
use Rattle.std.proofs.lemmas.List.{take_at, drop_at, drop_all}
use Rattle.taps_framer.specs.Prefixes.{are_bytes}
use Rattle.taps_framer.specs.Layers.{IsLawful, is_viable}
use Rattle.taps_framer.proofs.Bytes.{are_bytes-left}
use Rattle.taps_framer.proofs.Prefixes.{append-nil, append-cancel, compared}
use Rattle.taps_framer.proofs.Laws.{viable_when}
use Rattle.taps_frames.specs.Bodies.{pad}
use Rattle.taps_frames.specs.Formats.{Format, headed, IsLength, IsBegun}
use Rattle.taps_frames.specs.Scans.{HasHeads}
use Rattle.taps_frames.proofs.BodyLemmas.{body_of, body_least, body_most, body_bytes, length-pad, are_bytes-pad, pad-split, pad-front}

-- a spoken body has the length of one
pub spoken_length : (f : Format) (b : List ℕ) → (headed f).speaks b ≡ true → IsLength f (length b)
spoken_length f b s = record { from = body_least f.least f.most b s; to = body_most f.least f.most b s }

pub spoken : (f : Format) (b : List ℕ) → IsLength f (length b) → are_bytes b ≡ true → (headed f).speaks b ≡ true
spoken f b l a = body_of f.least f.most b l.from l.to a

module _ (f : Format) (i : ℕ) (heads : HasHeads f i) where
  -- the beginning of a head
  pub viable_begun : (x : List ℕ) → IsBegun f i x → is_viable (headed f) i x ≡ true
  viable_begun x g =
      let n : ℕ = f.told i x in
      let b : List ℕ = pad n [] in
      let l : length b ≡ n = length-pad n [] in
      let c : pad n (drop (f.width i x) x) ≡ b = ap (λ (w : List ℕ). pad n w) (drop_all (f.width i x) x g.short) in
      let e : f.head i (length b) ++ (b ++ f.tail) ≡ x ++ (g.more ++ (b ++ f.tail)) =
      ap (λ (v : ℕ). f.head i v ++ (b ++ f.tail)) l ∙ ap (λ (w : List ℕ). w ++ (b ++ f.tail)) g.goes_on ∙ append_assoc x g.more (b ++ f.tail) in
      let s : IsLength f (length b) = subst (λ (v : ℕ). IsLength f v) (sym l) g.is_length in
      viable_when (headed f) i x b (g.more ++ (b ++ f.tail)) c (spoken f b s (are_bytes-pad n [] refl)) e

  -- what stands behind a head
  behind : (n : ℕ) (y : List ℕ) → IsLength f n → drop (f.width i (f.head i n ++ y)) (f.head i n ++ y) ≡ y
  behind n y l = drop_at (f.head i n) y (f.width i (f.head i n ++ y)) (sym (heads.width_is n y l))

  -- a head and the beginning of a body
  pub viable_body : (n : ℕ) (y : List ℕ) → IsLength f n → are_bytes y ≡ true → length y ≤ n → is_viable (headed f) i (f.head i n ++ y) ≡ true
  viable_body n y m a h =
      let x : List ℕ = f.head i n ++ y in
      let b : List ℕ = pad n y in
      let l : length b ≡ n = length-pad n y in
      let c : pad (f.told i x) (drop (f.width i x) x) ≡ b =
      ap (λ (v : ℕ). pad v (drop (f.width i x) x)) (heads.told_is n y m) ∙ ap (λ (w : List ℕ). pad n w) (behind n y m) in
      let p : List ℕ = pad (n - length y) [] in
      let e : f.head i (length b) ++ (b ++ f.tail) ≡ x ++ (p ++ f.tail) =
      ap (λ (v : ℕ). f.head i v ++ (b ++ f.tail)) l ∙ ap (λ (w : List ℕ). f.head i n ++ (w ++ f.tail)) (pad-split n y h)
      ∙ ap (λ (w : List ℕ). f.head i n ++ w) (append_assoc y p f.tail) ∙ sym (append_assoc (f.head i n) y (p ++ f.tail)) in
      let s : IsLength f (length b) = subst (λ (v : ℕ). IsLength f v) (sym l) m in
      viable_when (headed f) i x b (p ++ f.tail) c (spoken f b s (are_bytes-pad n y a)) e

  -- a head, a body and the beginning of the tail
  viable_tail : (b z t : List ℕ) → (headed f).speaks b ≡ true → f.tail ≡ z ++ t → is_viable (headed f) i (f.head i (length b) ++ (b ++ z)) ≡ true
  viable_tail b z t s e =
      let m : IsLength f (length b) = spoken_length f b s in
      let x : List ℕ = f.head i (length b) ++ (b ++ z) in
      let c : pad (f.told i x) (drop (f.width i x) x) ≡ b =
      ap (λ (v : ℕ). pad v (drop (f.width i x) x)) (heads.told_is (length b) (b ++ z) m) ∙ ap (λ (w : List ℕ). pad (length b) w) (behind (length b) (b ++ z) m) ∙ pad-front b z in
      let g : f.head i (length b) ++ (b ++ f.tail) ≡ x ++ t =
      ap (λ (w : List ℕ). f.head i (length b) ++ (b ++ w)) e ∙ ap (λ (w : List ℕ). f.head i (length b) ++ w) (sym (append_assoc b z t)) ∙ sym (append_assoc (f.head i (length b)) (b ++ z) t) in
      viable_when (headed f) i x b t c s g

  -- bytes that begin a head, or are one
  viable_head : (n : ℕ) (x z : List ℕ) → IsLength f n → f.head i n ≡ x ++ z → is_viable (headed f) i x ≡ true
  viable_head n x [] m e =
      let g : f.head i n ++ [] ≡ x = append-nil (f.head i n) ∙ e ∙ append-nil x in
      subst (λ (w : List ℕ). is_viable (headed f) i w ≡ true) g (viable_body n [] m refl (omega arith))
  viable_head n x (q ∷ z) m e = viable_begun x (heads.begun n x (q ∷ z) m e (omega arith))

  fronts_at : (b y : List ℕ) → (headed f).speaks b ≡ true → (headed f).front i ((f.head i (length b) ++ (b ++ f.tail)) ++ y) ≡ b
  fronts_at b y s =
      let m : IsLength f (length b) = spoken_length f b s in
      let r : List ℕ = b ++ (f.tail ++ y) in
      let e : (f.head i (length b) ++ (b ++ f.tail)) ++ y ≡ f.head i (length b) ++ r =
      append_assoc (f.head i (length b)) (b ++ f.tail) y ∙ ap (λ (w : List ℕ). f.head i (length b) ++ w) (append_assoc b f.tail y) in
      ap (λ (w : List ℕ). (headed f).front i w) e
      ∙ ap (λ (v : ℕ). take v (drop (f.width i (f.head i (length b) ++ r)) (f.head i (length b) ++ r))) (heads.told_is (length b) r m)
      ∙ ap (λ (w : List ℕ). take (length b) w) (behind (length b) r m) ∙ take_at b (f.tail ++ y) (length b) refl

  completes_at : (b x y : List ℕ) → (headed f).speaks b ≡ true → f.head i (length b) ++ (b ++ f.tail) ≡ x ++ y → is_viable (headed f) i x ≡ true
  completes_at b x y s e =
      let m : IsLength f (length b) = spoken_length f b s in
      elim (compared (f.head i (length b)) (b ++ f.tail) x y e) [
        | inl w ↦ viable_head (length b) x w.0 m w.1
        | inr w ↦ (let g : b ++ f.tail ≡ w.0 ++ y = append-cancel (f.head i (length b)) (b ++ f.tail) (w.0 ++ y) (e ∙ ap (λ (v : List ℕ). v ++ y) w.1 ∙ append_assoc (f.head i (length b)) w.0 y) in
            subst (λ (v : List ℕ). is_viable (headed f) i v ≡ true) (sym w.1)
            (elim (compared b f.tail w.0 y g) [
              | inl u ↦ viable_body (length b) w.0 m
                  (are_bytes-left w.0 u.0 (subst (λ (v : List ℕ). are_bytes v ≡ true) u.1 (body_bytes f.least f.most b s)))
                  (omega (arith, ap length u.1, length-append w.0 u.0))
              | inr u ↦ subst (λ (v : List ℕ). is_viable (headed f) i (f.head i (length b) ++ v) ≡ true) (sym u.1)
                  (viable_tail b u.0 y s (append-cancel b f.tail (u.0 ++ y) (g ∙ ap (λ (v : List ℕ). v ++ y) u.1 ∙ append_assoc b u.0 y)))
            ]))
      ]

  length-frame : (b : List ℕ) → length (f.head i (length b) ++ (b ++ f.tail)) ≡ length (f.head i (length b)) + length b + length f.tail
  length-frame b = omega (arith, length-append (f.head i (length b)) (b ++ f.tail), length-append b f.tail)

  pub lawful : ((n : ℕ) → IsLength f n → length (f.head i n) + n + length f.tail ≤ 4194304) → IsLawful (headed f) i
  lawful few = record {
    some = λ b s. let h = heads.some (length b) (spoken_length f b s) in omega (arith, h, length-frame b);
    bounded = λ b s. let h = few (length b) (spoken_length f b s) in omega (arith, h, length-frame b);
    fronts = fronts_at;
    completes = completes_at;
    begins = viable_begun [] heads.begins;
  }
