-- Heads behind bytes that the index tells.
use Rattle.std.proofs.Common.{◌≡◌, ℕ, suc, ◌+◌, ◌<◌, ◌≤◌, List, [], ◌∷◌, ◌++◌, length, get_or, take, drop, refl, ap, sym, ◌∙◌, subst, arith, length-append, append_assoc, length-take, length-drop, get_or-take, inl, inr}
use Rattle.std.proofs.lemmas.List.{take-append-drop, take_all, drop_at, drop_all, get_or_append_left}
use Rattle.taps_framer.proofs.Prefixes.{append-nil, append-cancel, compared}
use Rattle.taps_frames.specs.Formats.{Format, IsLength, IsBegun, prefixed}
use Rattle.taps_frames.specs.Heads.{IsWholeHead, IsBadHead}
use Rattle.taps_frames.specs.Scans.{HasHeads}

drop_prefix : (p y : List ℕ) → drop (length p) (p ++ y) ≡ y
drop_prefix p y = drop_at p y (length p) refl

take_past : (p y : List ℕ) (n : ℕ) → take (length p + n) (p ++ y) ≡ p ++ take n y
take_past [] y n = let e : 0 + n ≡ n = omega arith in ap (λ (v : ℕ). take v y) e
take_past (a ∷ p) y n = let e : length (a ∷ p) + n ≡ suc (length p + n) = omega arith in ap (λ (v : ℕ). take v (a ∷ (p ++ y))) e ∙ ap (λ (w : List ℕ). a ∷ w) (take_past p y n)

module _ (name : List ℕ) (prefix : ℕ → List ℕ) (f : Format) (i : ℕ) where
  from_inner : (n : ℕ) → IsLength f n → IsLength (prefixed name prefix f) n
  from_inner n l = record { from = l.from; to = l.to }

  to_inner : (n : ℕ) → IsLength (prefixed name prefix f) n → IsLength f n
  to_inner n l = record { from = l.from; to = l.to }

  -- the beginning of the prefix, and less than the whole of it
  pub prefix_begun : (x t : List ℕ) → IsBegun f i [] → prefix i ≡ x ++ t → 0 < length t → IsBegun (prefixed name prefix f) i x
  prefix_begun x t g e o =
      let d : drop (length (prefix i)) x ≡ [] = drop_all (length (prefix i)) x (omega (arith, ap length e, length-append x t)) in
      let v : f.told i (drop (length (prefix i)) x) ≡ f.told i [] = ap (λ (w : List ℕ). f.told i w) d in
      record {
        is_length = from_inner (f.told i (drop (length (prefix i)) x)) (subst (λ (n : ℕ). IsLength f n) (sym v) g.is_length);
        more = t ++ f.head i (f.told i (drop (length (prefix i)) x));
        goes_on = ap (λ (w : List ℕ). w ++ f.head i (f.told i (drop (length (prefix i)) x))) e ∙ append_assoc x t (f.head i (f.told i (drop (length (prefix i)) x)));
        some = omega (arith, o, length-append t (f.head i (f.told i (drop (length (prefix i)) x))));
        short = omega (arith, ap length e, length-append x t);
      }

  -- the prefix, and the beginning of a head
  pub inner_begun : (x : List ℕ) → IsBegun f i x → IsBegun (prefixed name prefix f) i (prefix i ++ x)
  inner_begun x g =
      let d : drop (length (prefix i)) (prefix i ++ x) ≡ x = drop_prefix (prefix i) x in
      let v : f.told i (drop (length (prefix i)) (prefix i ++ x)) ≡ f.told i x = ap (λ (w : List ℕ). f.told i w) d in
      let s = g.short in
      record {
        is_length = from_inner (f.told i (drop (length (prefix i)) (prefix i ++ x))) (subst (λ (n : ℕ). IsLength f n) (sym v) g.is_length);
        more = g.more;
        goes_on = ap (λ (n : ℕ). prefix i ++ f.head i n) v ∙ ap (λ (w : List ℕ). prefix i ++ w) g.goes_on ∙ sym (append_assoc (prefix i) x g.more);
        some = g.some;
        short = omega (arith, s, length-append (prefix i) x, ap (λ (w : List ℕ). f.width i w) d);
      }

  -- another byte than the prefix has
  pub prefix_bad : (x : List ℕ) (p : ℕ) → IsBegun f i [] → p < length x → p < length (prefix i) → take p x ≡ take p (prefix i) →
      (get_or x p 0 ≡ get_or (prefix i) p 0 → ⊥) →
      IsBadHead (prefixed name prefix f) i x p
  prefix_bad x p g h k e differs = record {
    inside = h;
    begun = prefix_begun (take p x) (drop p (prefix i)) g (sym (ap (λ (w : List ℕ). w ++ drop p (prefix i)) e ∙ take-append-drop p (prefix i)))
        (let l : length (take p (prefix i) ++ drop p (prefix i)) ≡ length (prefix i) = ap length (take-append-drop p (prefix i)) in
        omega (arith, k, l, length-append (take p (prefix i)) (drop p (prefix i)), length-take p (prefix i)));
    none = λ n y z l u.
        let c : get_or (take (p + 1) x ++ y) p 0 ≡ get_or x p 0 =
        get_or_append_left (take (p + 1) x) y 0 p (omega (arith, h, length-take (p + 1) x)) ∙ get_or-take (p + 1) x p 0 (omega arith) in
        let d : get_or ((prefix i ++ f.head i n) ++ z) p 0 ≡ get_or (prefix i) p 0 =
        ap (λ (w : List ℕ). get_or w p 0) (append_assoc (prefix i) (f.head i n) z) ∙ get_or_append_left (prefix i) (f.head i n ++ z) 0 p k in
        differs (sym c ∙ ap (λ (w : List ℕ). get_or w p 0) u ∙ d);
  }

  -- bytes that end within the prefix
  pub ends_within : (p x : List ℕ) (n : ℕ) → prefix i ≡ p → IsBegun f i [] → length x ≤ n → n < length p → take n x ≡ take n p →
      IsBegun (prefixed name prefix f) i x
  ends_within p x n e g k h s =
      let t : take n p ++ drop n p ≡ p = take-append-drop n p in
      prefix_begun x (drop n p) g (e ∙ sym t ∙ ap (λ (w : List ℕ). w ++ drop n p) (sym s ∙ take_all n x k))
      (omega (arith, h, length-drop n p))

  pub differs_at : (p x : List ℕ) (n : ℕ) → prefix i ≡ p → IsBegun f i [] → n < length x → n < length p → take n x ≡ take n p →
      (get_or x n 0 ≡ get_or p n 0 → ⊥) →
      IsBadHead (prefixed name prefix f) i x n
  differs_at p x n e g h k s d = prefix_bad x n g h (omega (arith, k, ap length e)) (s ∙ ap (λ (w : List ℕ). take n w) (sym e)) (λ u. d (u ∙ ap (λ (w : List ℕ). get_or w n 0) e))

  inner_bad : (x : List ℕ) (p : ℕ) → IsBadHead f i x p → IsBadHead (prefixed name prefix f) i (prefix i ++ x) (length (prefix i) + p)
  inner_bad x p b =
      let h = b.inside in
      let q : length (prefix i) + p + 1 ≡ length (prefix i) + (p + 1) = omega arith in
      record {
        inside = omega (arith, h, length-append (prefix i) x);
        begun = subst (λ (w : List ℕ). IsBegun (prefixed name prefix f) i w) (sym (take_past (prefix i) x p)) (inner_begun (take p x) b.begun);
        none = λ n y z l e.
            let t : take (length (prefix i) + p + 1) (prefix i ++ x) ≡ prefix i ++ take (p + 1) x =
            ap (λ (v : ℕ). take v (prefix i ++ x)) q ∙ take_past (prefix i) x (p + 1) in
            let u : prefix i ++ (take (p + 1) x ++ y) ≡ prefix i ++ (f.head i n ++ z) =
            sym (append_assoc (prefix i) (take (p + 1) x) y) ∙ ap (λ (w : List ℕ). w ++ y) (sym t) ∙ e ∙ append_assoc (prefix i) (f.head i n) z in
            b.none n y z (to_inner n l) (append-cancel (prefix i) (take (p + 1) x ++ y) (f.head i n ++ z) u);
      }

  inner_whole : (x : List ℕ) (w n : ℕ) → IsWholeHead f i x w n → IsWholeHead (prefixed name prefix f) i (prefix i ++ x) (length (prefix i) + w) n
  inner_whole x w n h = let k = h.within in record {
    within = omega (arith, k, length-append (prefix i) x);
    is_length = from_inner n h.is_length;
    split = take_past (prefix i) x w ∙ ap (λ (v : List ℕ). prefix i ++ v) h.split;
  }

  pub moved_bad : (x : List ℕ) (p q : ℕ) → length (prefix i) + p ≡ q → IsBadHead f i x p → IsBadHead (prefixed name prefix f) i (prefix i ++ x) q
  moved_bad x p q e b = subst (λ (v : ℕ). IsBadHead (prefixed name prefix f) i (prefix i ++ x) v) e (inner_bad x p b)

  pub moved_whole : (x : List ℕ) (w v n : ℕ) → length (prefix i) + w ≡ v → IsWholeHead f i x w n →
      IsWholeHead (prefixed name prefix f) i (prefix i ++ x) v n
  moved_whole x w v n e h = subst (λ (u : ℕ). IsWholeHead (prefixed name prefix f) i (prefix i ++ x) u n) e (inner_whole x w n h)

  begun_within : HasHeads f i → (x t : List ℕ) → prefix i ≡ x ++ t → IsBegun (prefixed name prefix f) i x
  begun_within heads x [] e = subst (λ (w : List ℕ). IsBegun (prefixed name prefix f) i w) (append-nil (prefix i) ∙ e ∙ append-nil x) (inner_begun [] heads.begins)
  begun_within heads x (q ∷ t) e = prefix_begun x (q ∷ t) heads.begins e (omega arith)

  begun_of : HasHeads f i → (n : ℕ) (x z : List ℕ) → IsLength (prefixed name prefix f) n → prefix i ++ f.head i n ≡ x ++ z → 0 < length z →
      IsBegun (prefixed name prefix f) i x
  begun_of heads n x z l e o = elim (compared (prefix i) (f.head i n) x z e) [
    | inl w ↦ begun_within heads x w.0 w.1
    | inr w ↦ (let u : f.head i n ≡ w.0 ++ z = append-cancel (prefix i) (f.head i n) (w.0 ++ z) (e ∙ ap (λ (v : List ℕ). v ++ z) w.1 ∙ append_assoc (prefix i) w.0 z) in
        subst (λ (v : List ℕ). IsBegun (prefixed name prefix f) i v) (sym w.1) (inner_begun w.0 (heads.begun n w.0 z (to_inner n l) u o)))
  ]

  pub prefixed_heads : HasHeads f i → HasHeads (prefixed name prefix f) i
  prefixed_heads heads = record {
    some = λ n l. let s = heads.some n (to_inner n l) in omega (arith, s, length-append (prefix i) (f.head i n));
    told_is = λ n y l.
        ap (λ (w : List ℕ). f.told i (drop (length (prefix i)) w)) (append_assoc (prefix i) (f.head i n) y) ∙ ap (λ (w : List ℕ). f.told i w) (drop_prefix (prefix i) (f.head i n ++ y))
        ∙ heads.told_is n y (to_inner n l);
    width_is = λ n y l.
        ap (λ (w : List ℕ). length (prefix i) + f.width i (drop (length (prefix i)) w)) (append_assoc (prefix i) (f.head i n) y)
        ∙ ap (λ (w : List ℕ). length (prefix i) + f.width i w) (drop_prefix (prefix i) (f.head i n ++ y))
        ∙ ap (λ (v : ℕ). length (prefix i) + v) (heads.width_is n y (to_inner n l)) ∙ sym (length-append (prefix i) (f.head i n));
    begun = begun_of heads;
    begins = begun_within heads [] (prefix i) refl;
  }
