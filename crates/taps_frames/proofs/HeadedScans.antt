-- What is seen as the bytes of a frame of a head, a body and a tail come.
use Rattle.std.proofs.Common.{◌≡◌, ℕ, ◌+◌, ◌-◌, ◌<◌, ◌≤◌, true, false, List, [], ◌∷◌, ◌++◌, length, get_or, take, drop, refl, ap, sym, ◌∙◌, subst, arith, length-append, append_assoc, inl, inr, length-take, length-drop, get_or-take, get_or-drop}
use Rattle.std.specs.Int.{w32, from_be_bytes}
use Rattle.std.proofs.lemmas.Bool.{cases_lt}
use Rattle.std.proofs.lemmas.List.{take-append-drop, take-append-le, take-take, take_all, drop_all, drop_more, get_or-append-add}
use Rattle.taps_framer.specs.declared.scan.Scan.{Scan}
use Rattle.taps_framer.specs.Prefixes.{are_bytes}
use Rattle.taps_framer.specs.Layers.{IsLawful, IsWholeFrame, is_viable, lives}
use Rattle.taps_framer.specs.Scans.{Represents}
use Rattle.taps_framer.proofs.Bytes.{both, is_below, are_bytes-append, are_bytes-left, are_bytes-take}
use Rattle.taps_framer.proofs.Prefixes.{append-nil}
use Rattle.taps_framer.proofs.Laws.{first_alone}
use Rattle.taps_frames.specs.declared.head.Head.{Head}
use Rattle.taps_frames.specs.declared.head.Head.TheVariants.{Need, Bad, Whole}
use Rattle.taps_frames.specs.Formats.{Format, headed, IsBegun, HasNoHead}
use Rattle.taps_frames.specs.Heads.{IsHead, IsGrown, IsWholeHead, IsOneHead, grown_of}
use Rattle.taps_frames.specs.Scans.{IsHeadPart, IsBodyPart, headed_scan, IsLawfulFormat}
use Rattle.taps_frames.proofs.HeadedLaws.{lawful}
use Rattle.taps_frames.proofs.HeadedSights.{begun_waits, body_waits, body_whole, tail_bad}

-- more of the bytes, as what was there and the rest
pub further : (x bytes : List ℕ) (p q : ℕ) → p ≤ q → x ++ take q bytes ≡ (x ++ take p bytes) ++ drop p (take q bytes)
further x bytes p q h =
    ap (λ (w : List ℕ). x ++ w) (sym (take-append-drop p (take q bytes)) ∙ ap (λ (w : List ℕ). w ++ drop p (take q bytes)) (take-take p q bytes h))
    ∙ sym (append_assoc x (take p bytes) (drop p (take q bytes)))

-- which part a scan represents, by its phase
pub in_head : (f : Format) (number : ℕ → List ℕ → ℕ) (i : ℕ) (scan : Scan) (x : List ℕ) → Represents (headed f) (headed_scan f number) i scan x →
    (scan.phase ≡ 1 → ⊥) → IsHeadPart f number i scan.length scan.rest x
in_head f number i scan x r h = elim r.told [ inl w ↦ w.1 | inr w ↦ absurd (h w.0) ]

pub in_body : (f : Format) (number : ℕ → List ℕ → ℕ) (i : ℕ) (scan : Scan) (x : List ℕ) → Represents (headed f) (headed_scan f number) i scan x →
    scan.phase ≡ 1 → IsBodyPart f i scan.length scan.rest x
in_body f number i scan x r h = elim r.told [ inl w ↦ (let z = w.0 in absurd (omega (arith, z, h))) | inr w ↦ w.1 ]

module _ (f : Format) (number : ℕ → List ℕ → ℕ) (l : IsLawfulFormat f number) (i : ℕ) where
  pub laws : IsLawful (headed f) i
  laws = lawful f i (l.heads i) (l.bounded i)

  pub head_represents : (count value : ℕ) (x : List ℕ) → IsHeadPart f number i count value x →
      Represents (headed f) (headed_scan f number) i (record { phase = 0; length = count; rest = value }) x
  head_represents count value x p =
      let w = begun_waits f i (l.heads i) laws x p.begun in
      record { told = inl (refl, p); viable = w.1; unfinished = w.0 }

  pub none_represented : Represents (headed f) (headed_scan f number) i (record { phase = 0; length = 0; rest = 0 }) []
  none_represented = head_represents 0 0 [] (record { begun = (l.heads i).begins; counted = refl; numbered = l.nothing i; bytes = refl })

  pub body_represents : (size rest : ℕ) (x : List ℕ) → IsBodyPart f i size rest x →
      Represents (headed f) (headed_scan f number) i (record { phase = 1; length = size; rest = rest }) x
  body_represents size rest x p =
      let m = p.missing in
      let s = p.some in
      let o = l.one in
      let w = body_waits f i (l.heads i) laws x p.width size p.bytes p.head (omega (arith, m, s, o)) (omega (arith, m, s)) in
      record { told = inr (refl, p); viable = w.1; unfinished = w.0 }

  -- bytes that end where the tail does
  one_frame : (x : List ℕ) (w n : ℕ) → are_bytes x ≡ true → IsWholeHead f i x w n → length x ≡ w + n + length f.tail →
      drop n (drop w x) ≡ f.tail → IsWholeFrame (headed f) i x
  one_frame x w n a h e d =
      let r = body_whole f i (l.heads i) laws x w n a h [] (omega (arith, e)) (d ∙ sym (append-nil f.tail)) in
      let k : IsWholeFrame (headed f) i (take (length x) x) = (first_alone (headed f) i laws x (length x) r.0 (e ∙ r.1)).0 in
      subst (λ (v : List ℕ). IsWholeFrame (headed f) i v) (take_all (length x) x (omega arith)) k

  frame_tailless : (x : List ℕ) (w n : ℕ) → are_bytes x ≡ true → IsWholeHead f i x w n → [] ≡ f.tail → length x ≡ w + n → IsWholeFrame (headed f) i x
  frame_tailless x w n a h t e = one_frame x w n a h (omega (arith, e, ap length t)) (drop_all n (drop w x) (omega (arith, e, length-drop w x)) ∙ t)

  frame_tailed : (x : List ℕ) (w n t : ℕ) → are_bytes x ≡ true → IsWholeHead f i x w n → t ∷ [] ≡ f.tail → length x ≡ w + n + 1 → get_or x (w + n) 0 ≡ t →
      IsWholeFrame (headed f) i x
  frame_tailed x w n t a h u e c = one_frame x w n a h (omega (arith, e, ap length u))
      (drop_more (drop w x) n 0 (omega (arith, e, length-drop w x))
      ∙ ap (λ (v : List ℕ). get_or (drop w x) n 0 ∷ v) (drop_all (n + 1) (drop w x) (omega (arith, e, length-drop w x)))
      ∙ ap (λ (v : ℕ). v ∷ []) (get_or-drop w x n 0 ∙ c) ∙ u)

  -- a whole head stays one when more bytes come
  head_stays : (x y : List ℕ) (w n : ℕ) → IsWholeHead f i x w n → IsWholeHead f i (x ++ y) w n
  head_stays x y w n h = let k = h.within in record {
    within = omega (arith, k, length-append x y);
    is_length = h.is_length;
    split = take-append-le w x y k ∙ h.split;
  }

  -- part of a head, and the byte with which it is whole
  whole_with : (x : List ℕ) (b w n : ℕ) → IsBegun f i x → IsWholeHead f i (x ++ b ∷ []) w n → w ≡ length (x ++ b ∷ [])
  whole_with x b w n g h = elim (cases_lt (length x) w) [
    | inl k ↦ (let m = h.within in omega (arith, k, m, length-append x (b ∷ [])))
    | inr k ↦ absurd (
        let s : take w x ≡ f.head i n = sym (take-append-le w x (b ∷ []) k) ∙ h.split in
        let e : f.head i n ++ drop w x ≡ x = ap (λ (v : List ℕ). v ++ drop w x) (sym s) ∙ take-append-drop w x in
        let t : f.told i x ≡ n = ap (λ (v : List ℕ). f.told i v) (sym e) ∙ (l.heads i).told_is n (drop w x) h.is_length in
        let o = g.some in
        omega (arith, o, ap length g.goes_on, ap (λ (v : ℕ). length (f.head i v)) t, ap length e, length-append x g.more, length-append (f.head i n) (drop w x)))
  ]

  no_head_more : (x y : List ℕ) → HasNoHead f i x → HasNoHead f i (x ++ y)
  no_head_more x y none n u z m e = none n (y ++ u) z m (sym (append_assoc x y u) ∙ e)

  -- an answer on a buffer, of part of a head and one byte
  pub grown_is : (x z : List ℕ) (b v : ℕ) (h : Head) → IsBegun f i x → z ≡ x ++ b ∷ [] → IsHead f i z h → (y : List ℕ) → number i z ≡ from_be_bytes w32 y →
      IsGrown f number i (x ++ b ∷ []) (grown_of h y)
  grown_is x z b v Need g e k y m = subst (λ (w : List ℕ). IsBegun f i w × (number i w ≡ from_be_bytes w32 y)) e (k, m)
  grown_is x z b v (Bad p) g e k y m = subst (λ (w : List ℕ). HasNoHead f i w) (take-append-drop (p + 1) z ∙ e) (no_head_more (take (p + 1) z) (drop (p + 1) z) k.none)
  grown_is x z b v (Whole w n) g e k y m =
      let h : IsWholeHead f i (x ++ b ∷ []) w n = subst (λ (u : List ℕ). IsWholeHead f i u w n) e k in
      subst (λ (u : ℕ). IsWholeHead f i (x ++ b ∷ []) u n) (whole_with x b w n g h) h

  -- part of a head, and the next byte
  module _ (count value b : ℕ) (x : List ℕ) (p : IsHeadPart f number i count value x) (small : b < 256) where
    bytes : are_bytes (x ++ b ∷ []) ≡ true
    bytes = are_bytes-append x (b ∷ []) p.bytes (both _ _ (is_below b 256 small) refl)

    pub head_grows : (next : ℕ) → IsBegun f i (x ++ b ∷ []) × (number i (x ++ b ∷ []) ≡ next) →
        Represents (headed f) (headed_scan f number) i (record { phase = 0; length = count + 1; rest = next }) (x ++ b ∷ [])
    head_grows next g = head_represents (count + 1) next (x ++ b ∷ [])
        (record { begun = g.0; counted = (let c = p.counted in omega (arith, c, length-append x (b ∷ []))); numbered = g.1; bytes = bytes })

    pub head_ends : (size rest : ℕ) → IsOneHead f i (x ++ b ∷ []) size → rest ≡ size + length f.tail → 0 < rest →
        Represents (headed f) (headed_scan f number) i (record { phase = 1; length = size; rest = rest }) (x ++ b ∷ [])
    head_ends size rest h e o = body_represents size rest (x ++ b ∷ [])
        (record { width = length (x ++ b ∷ []); head = h; missing = omega (arith, e); some = o; bytes = bytes })

    pub head_alone : (size rest : ℕ) → IsOneHead f i (x ++ b ∷ []) size → rest ≡ size + length f.tail → rest ≡ 0 → IsWholeFrame (headed f) i (x ++ b ∷ [])
    head_alone size rest h e o =
        let t : length f.tail ≡ 0 = omega (arith, e, o) in
        let s : size ≡ 0 = omega (arith, e, o) in
        frame_tailless (x ++ b ∷ []) (length (x ++ b ∷ [])) size bytes h (empty f.tail t) (omega (arith, s))
      where
        empty : (t : List ℕ) → length t ≡ 0 → [] ≡ t
        empty [] h = refl
        empty (c ∷ t) h = absurd (omega arith)

  -- a head and part of the body and the tail, and the next bytes from a place on
  module _ (x bytes : List ℕ) (place size rest : ℕ) (p : IsBodyPart f i size rest (x ++ take place bytes)) (a : are_bytes bytes ≡ true) (within : place ≤ length bytes) where
    reached : (q : ℕ) → place ≤ q → IsWholeHead f i (x ++ take q bytes) p.width size
    reached q h = subst (λ (w : List ℕ). IsWholeHead f i w p.width size) (sym (further x bytes place q h))
        (head_stays (x ++ take place bytes) (drop place (take q bytes)) p.width size p.head)

    all_bytes : are_bytes (x ++ bytes) ≡ true
    all_bytes = are_bytes-append x bytes (are_bytes-left x (take place bytes) p.bytes) a

    some_bytes : (q : ℕ) → are_bytes (x ++ take q bytes) ≡ true
    some_bytes q = are_bytes-append x (take q bytes) (are_bytes-left x (take place bytes) p.bytes) (are_bytes-take q bytes a)

    length_at : (q : ℕ) → q ≤ length bytes → length (x ++ take q bytes) ≡ length x + q
    length_at q h = omega (arith, h, length-append x (take q bytes), length-take q bytes)

    pub rest_waits : (left : ℕ) → left ≡ length bytes - place → left < rest →
        Represents (headed f) (headed_scan f number) i (record { phase = 1; length = size; rest = rest - left }) (x ++ bytes)
    rest_waits left e h = body_represents size (rest - left) (x ++ bytes) (record {
      width = p.width;
      head = subst (λ (w : List ℕ). IsWholeHead f i (x ++ w) p.width size) (take_all (length bytes) bytes (omega arith)) (reached (length bytes) within);
      missing = (let m = p.missing in omega (arith, m, e, h, within, length_at place within, length-append x bytes));
      some = omega (arith, h);
      bytes = all_bytes;
    })

    -- where the last byte of the frame stands
    module _ (last : ℕ) (e : last + 1 ≡ place + rest) (inside : last < length bytes) where
      last_at : get_or (x ++ take (last + 1) bytes) (length x + last) 0 ≡ get_or bytes last 0
      last_at = get_or-append-add x (take (last + 1) bytes) last 0 ∙ get_or-take (last + 1) bytes last 0 (omega arith)

      pub rest_tailless : [] ≡ f.tail → IsWholeFrame (headed f) i (x ++ take (last + 1) bytes)
      rest_tailless t =
          let m = p.missing in
          let s = p.some in
          frame_tailless (x ++ take (last + 1) bytes) p.width size (some_bytes (last + 1)) (reached (last + 1) (omega (arith, e))) t
          (omega (arith, m, e, inside, ap length t, length_at place within, length_at (last + 1) (omega arith)))

      -- the tail's place
      tail_at : (t : ℕ) → t ∷ [] ≡ f.tail → length x + last ≡ p.width + size
      tail_at t u = let m = p.missing in omega (arith, m, e, ap length u, length_at place within)

      pub rest_tailed : (t : ℕ) → t ∷ [] ≡ f.tail → get_or bytes last 0 ≡ t → IsWholeFrame (headed f) i (x ++ take (last + 1) bytes)
      rest_tailed t u c =
          let o = tail_at t u in
          frame_tailed (x ++ take (last + 1) bytes) p.width size t (some_bytes (last + 1)) (reached (last + 1) (omega (arith, e))) u
          (omega (arith, o, length_at (last + 1) (omega arith)))
          (ap (λ (n : ℕ). get_or (x ++ take (last + 1) bytes) n 0) (sym o) ∙ last_at ∙ c)

      pub rest_bad : (t : ℕ) → t ∷ [] ≡ f.tail → (get_or bytes last 0 ≡ t → ⊥) →
          (is_viable (headed f) i (x ++ take last bytes) ≡ true) × (lives (headed f) i (x ++ take (last + 1) bytes) ≡ false)
      rest_bad t u d =
          let o = tail_at t u in
          let s = p.some in (
            (body_waits f i (l.heads i) laws (x ++ take last bytes) p.width size (some_bytes last) (reached last (omega (arith, e, s)))
                (omega (arith, o, length_at last (omega arith))) (omega (arith, o, ap length u, length_at last (omega arith)))).1,
            (tail_bad f i (l.heads i) laws (x ++ take (last + 1) bytes) p.width size (some_bytes (last + 1)) (reached (last + 1) (omega (arith, e))) t [] (sym u)
                (omega (arith, o, length_at (last + 1) (omega arith)))
                (λ c. d (sym last_at ∙ ap (λ (n : ℕ). get_or (x ++ take (last + 1) bytes) n 0) o ∙ c))).0,
          )
