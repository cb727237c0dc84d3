-- The bytes of part of a head, from their prefix and their number.
use Rattle.std.proofs.Common.{◌≡◌, ℕ, suc, ◌+◌, ◌-◌, ◌<◌, ◌≤◌, true, ◌⊎◌, List, [], ◌∷◌, ◌++◌, length, take, drop, refl, ap, sym, ◌∙◌, subst, arith, length-append, append_assoc, inl, inr}
use Rattle.std.specs.Int.{w32, to_be_bytes, from_be_bytes}
use Rattle.std.proofs.lemmas.List.{drop_at}
use Rattle.std.proofs.Math.ListN.{set}
use Rattle.taps_framer.specs.Prefixes.{are_bytes}
use Rattle.taps_framer.proofs.Bytes.{are_bytes-right}
use Rattle.taps_framer.proofs.Prefixes.{compared}
use Rattle.taps_frames.specs.declared.head.Head.{Head}
use Rattle.taps_frames.specs.declared.head.Grown.{Grown}
use Rattle.taps_frames.specs.Formats.{Format}
use Rattle.taps_frames.specs.Heads.{IsHead, IsGrown, grown_of}
use Rattle.taps_frames.specs.Scans.{IsHeadPart, IsLawfulFormat, number_behind}
use Rattle.taps_frames.specs.Bodies.{pad}
use Rattle.taps_frames.proofs.BodyLemmas.{length-pad}
use Rattle.taps_frames.proofs.FourBytes.{four_filled}
use Rattle.taps_frames.proofs.HeadedScans.{grown_is}

-- the byte that follows, put where it is to stand
pub next_set : (x r : List ℕ) (b : ℕ) → 0 < length r → take (length x + 1) (set (x ++ r) (length x) b) ≡ x ++ b ∷ []
next_set [] [] b h = absurd (omega arith)
next_set [] (c ∷ r) b h = refl
next_set (a ∷ x) r b h =
    let e : suc (length x) + 1 ≡ suc (length x + 1) = omega arith in
    ap (λ (n : ℕ). take n (a ∷ set (x ++ r) (length x) b)) e ∙ ap (λ (w : List ℕ). a ∷ w) (next_set x r b h)

-- part of the prefix, or the prefix and part of what follows, is what prefix and number begin with
pub rebuilt : (prefix x : List ℕ) → are_bytes x ≡ true → ((t : List ℕ) × (prefix ≡ x ++ t)) ⊎ ((t : List ℕ) × (x ≡ prefix ++ t)) → length x < length prefix + 4 →
    (r : List ℕ) × (0 < length r) × (prefix ++ to_be_bytes w32 (from_be_bytes w32 (drop (length prefix) x)) ≡ x ++ r)
rebuilt prefix x a (inl w) h =
    let v : List ℕ = to_be_bytes w32 (from_be_bytes w32 (drop (length prefix) x)) in
    (w.0 ++ v, omega (arith, length-append w.0 v), ap (λ (p : List ℕ). p ++ v) w.1 ∙ append_assoc x w.0 v)
rebuilt prefix x a (inr w) h =
    let n : length w.0 < 4 = omega (arith, h, ap length w.1, length-append prefix w.0) in
    let d : drop (length prefix) x ≡ w.0 = ap (λ (v : List ℕ). drop (length prefix) v) w.1 ∙ drop_at prefix w.0 (length prefix) refl in
    let b : are_bytes w.0 ≡ true = are_bytes-right prefix w.0 (subst (λ (v : List ℕ). are_bytes v ≡ true) w.1 a) in
    let r : List ℕ = pad (4 - length w.0) [] in (
      r,
      omega (arith, n, length-pad (4 - length w.0) []),
      ap (λ (v : List ℕ). prefix ++ to_be_bytes w32 (from_be_bytes w32 v)) d ∙ ap (λ (v : List ℕ). prefix ++ v) (four_filled w.0 b (omega arith))
          ∙ sym (append_assoc prefix w.0 r) ∙ ap (λ (v : List ℕ). v ++ r) (sym w.1),
    )

-- what is answered of the rebuilt bytes with the next one
module _ (f : Format) (prefix : List ℕ) (l : IsLawfulFormat f (number_behind (length prefix))) (i count value b : ℕ) (x : List ℕ)
    (p : IsHeadPart f (number_behind (length prefix)) i count value x) (inner : List ℕ) (head : f.head i (f.told i x) ≡ prefix ++ inner) (few : length inner ≤ 4) where
  cut : prefix ++ inner ≡ x ++ p.begun.more
  cut = sym head ∙ p.begun.goes_on

  pub fits : count < length prefix + 4
  fits =
      let o = p.begun.some in
      let k = p.counted in
      omega (arith, o, k, few, ap length cut, length-append prefix inner, length-append x p.begun.more)

  with_next : take (count + 1) (set (prefix ++ to_be_bytes w32 value) count b) ≡ x ++ b ∷ []
  with_next =
      let k = p.counted in
      let r = rebuilt prefix x p.bytes (compared prefix inner x p.begun.more cut) (omega (arith, k, fits)) in
      let d : prefix ++ to_be_bytes w32 value ≡ x ++ r.0 = ap (λ (v : ℕ). prefix ++ to_be_bytes w32 v) (sym p.numbered) ∙ r.2 in
      ap (λ (w : List ℕ). take (count + 1) (set w count b)) d ∙ ap (λ (n : ℕ). take (n + 1) (set (x ++ r.0) n b)) (sym p.counted) ∙ next_set x r.0 b r.1

  pub grown_next : (base z y : List ℕ) (h : Head) (g : Grown) → base ≡ prefix ++ to_be_bytes w32 value → z ≡ take (count + 1) (set base count b) →
      IsHead f i z h → y ≡ drop (length prefix) z → g ≡ grown_of h y → IsGrown f (number_behind (length prefix)) i (x ++ b ∷ []) g
  grown_next base z y h g r e k d s = subst (λ (v : Grown). IsGrown f (number_behind (length prefix)) i (x ++ b ∷ []) v) (sym s)
      (grown_is f (number_behind (length prefix)) l i x z b value h p.begun (e ∙ ap (λ (w : List ℕ). take (count + 1) (set w count b)) r ∙ with_next) k y (ap (λ (w : List ℕ). from_be_bytes w32 w) (sym d)))
