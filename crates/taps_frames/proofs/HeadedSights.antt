-- What is seen where a head tells the length of the body.
use Rattle.std.proofs.Common.{◌≡◌, ℕ, ◌+◌, ◌-◌, ◌<◌, ◌≤◌, true, false, List, [], ◌∷◌, ◌++◌, length, get_or, take, drop, ap, sym, ◌∙◌, subst, arith, length-append, append_assoc, length-take, length-drop, get_or-take}
use Rattle.std.proofs.lemmas.List.{take-append-drop, take_at, drop_at, get_or_append_left}
use Rattle.std.proofs.Math.Seq.{take-add, get_or-append_seam}
use Rattle.taps_framer.specs.Prefixes.{are_bytes}
use Rattle.taps_framer.specs.Layers.{IsLawful, IsWholeFrame, is_viable, holds_whole_frame, lives, first_frame}
use Rattle.taps_framer.specs.Sights.{IsBadPlace}
use Rattle.taps_framer.proofs.Bytes.{are_bytes-take, are_bytes-drop}
use Rattle.taps_framer.proofs.Prefixes.{append-nil}
use Rattle.taps_framer.proofs.Laws.{holds_this}
use Rattle.taps_framer.proofs.Sights.{holds_none, dead_by, bad_here}
use Rattle.taps_frames.specs.declared.head.Head.{Head}
use Rattle.taps_frames.specs.declared.head.Head.TheVariants.{Need, Bad, Whole}
use Rattle.taps_frames.specs.Formats.{Format, headed, IsLength, IsBegun, HasNoHead}
use Rattle.taps_frames.specs.Heads.{IsHead, IsWholeHead, ReachesBody, body_behind}
use Rattle.taps_frames.specs.Scans.{HasHeads}
use Rattle.taps_frames.proofs.HeadedLaws.{spoken, spoken_length, viable_begun, viable_body}

module _ (f : Format) (i : ℕ) (heads : HasHeads f i) (lawful : IsLawful (headed f) i) where
  -- one head begins a list
  one_head : (n m : ℕ) (y z : List ℕ) → IsLength f n → IsLength f m → f.head i n ++ y ≡ f.head i m ++ z → n ≡ m
  one_head n m y z k l e = sym (heads.told_is n y k) ∙ ap (f.told i) e ∙ heads.told_is m z l

  -- a frame that begins a list whose head is this has a body of its length
  one_frame : (n : ℕ) (y b z : List ℕ) → IsLength f n → (headed f).speaks b ≡ true → f.head i n ++ y ≡ (f.head i (length b) ++ (b ++ f.tail)) ++ z →
      n ≡ length b
  one_frame n y b z k s e = one_head n (length b) y ((b ++ f.tail) ++ z) k (spoken_length f b s) (e ∙ append_assoc (f.head i (length b)) (b ++ f.tail) z)

  pub begun_waits : (x : List ℕ) → IsBegun f i x → (holds_whole_frame (headed f) i x ≡ false) × (is_viable (headed f) i x ≡ true)
  begun_waits x g = (
    holds_none (headed f) i x (λ b y s e.
        let n : ℕ = f.told i x in
        let u : f.head i n ++ [] ≡ (f.head i (length b) ++ (b ++ f.tail)) ++ (y ++ g.more) =
        append-nil (f.head i n) ∙ g.goes_on ∙ ap (λ (w : List ℕ). w ++ g.more) e ∙ append_assoc (f.head i (length b) ++ (b ++ f.tail)) y g.more in
        let k : n ≡ length b = one_frame n [] b (y ++ g.more) g.is_length s u in
        let l : length (f.head i n) ≡ length (f.head i (length b)) = ap (λ (v : ℕ). length (f.head i v)) k in
        let o = g.some in
        omega (arith, o, l, ap length g.goes_on, length-append x g.more, ap length e, length-append (f.head i (length b) ++ (b ++ f.tail)) y, length-append (f.head i (length b)) (b ++ f.tail))),
    viable_begun f i heads x g,
  )

  -- bytes with which no head begins a list
  pub dead_head : (x : List ℕ) → HasNoHead f i x → lives (headed f) i x ≡ false
  dead_head x none = dead_by (headed f) i x (λ b y z s e. none (length b) y ((b ++ f.tail) ++ z) (spoken_length f b s) (e ∙ append_assoc (f.head i (length b)) (b ++ f.tail) z))

  -- a whole head stands before the rest
  module _ (x : List ℕ) (w n : ℕ) (a : are_bytes x ≡ true) (h : IsWholeHead f i x w n) where
    split : f.head i n ++ drop w x ≡ x
    split = ap (λ (v : List ℕ). v ++ drop w x) (sym h.split) ∙ take-append-drop w x

    width_is : length (f.head i n) ≡ w
    width_is = let k = h.within in omega (arith, k, ap length h.split, length-take w x)

    pub body_waits : length x - w ≤ n → length x - w < n + length f.tail →
        (holds_whole_frame (headed f) i x ≡ false) × (is_viable (headed f) i x ≡ true)
    body_waits k m = (
      holds_none (headed f) i x (λ b z s e.
          let o : n ≡ length b = one_frame n (drop w x) b z h.is_length s (split ∙ e) in
          let l : w ≡ length (f.head i (length b)) = sym width_is ∙ ap (λ (v : ℕ). length (f.head i v)) o in
          omega (arith, k, m, o, l, ap length e, length-append (f.head i (length b) ++ (b ++ f.tail)) z, length-append (f.head i (length b)) (b ++ f.tail), length-append b f.tail)),
      subst (λ (v : List ℕ). is_viable (headed f) i v ≡ true) split
          (viable_body f i heads n (drop w x) h.is_length (are_bytes-drop w x a) (omega (arith, k, length-drop w x))),
    )

    pub body_whole : (z : List ℕ) → n ≤ length x - w → drop n (drop w x) ≡ f.tail ++ z →
        (holds_whole_frame (headed f) i x ≡ true) × (w + n + length f.tail ≡ length (first_frame (headed f) i x))
    body_whole z k e =
        let b : List ℕ = take n (drop w x) in
        let l : length b ≡ n = omega (arith, k, length-take n (drop w x), length-drop w x) in
        let u : x ≡ (f.head i (length b) ++ (b ++ f.tail)) ++ z =
        sym split ∙ ap (λ (v : List ℕ). f.head i n ++ v) (sym (take-append-drop n (drop w x)) ∙ ap (λ (v : List ℕ). b ++ v) e ∙ sym (append_assoc b f.tail z))
        ∙ ap (λ (v : ℕ). f.head i v ++ ((b ++ f.tail) ++ z)) (sym l) ∙ sym (append_assoc (f.head i (length b)) (b ++ f.tail) z) in
        let s : IsLength f (length b) = subst (λ (v : ℕ). IsLength f v) (sym l) h.is_length in
        let r = holds_this (headed f) i lawful x b z (spoken f b s (are_bytes-take n (drop w x) (are_bytes-drop w x a))) u in
        let o : length (f.head i (length b)) ≡ w = ap (λ (v : ℕ). length (f.head i v)) l ∙ width_is in
        (r.0, omega (arith, l, o, ap length r.1, length-append (f.head i (length b)) (b ++ f.tail), length-append b f.tail))

    -- another byte where the tail begins
    pub tail_bad : (t : ℕ) (ts : List ℕ) → f.tail ≡ t ∷ ts → n < length x - w → (get_or x (w + n) 0 ≡ t → ⊥) →
        (lives (headed f) i x ≡ false) × IsBadPlace (headed f) i x (w + n)
    tail_bad t ts e k differs =
        let c : take (w + n) x ≡ f.head i n ++ take n (drop w x) = take-add w n x ∙ ap (λ (v : List ℕ). v ++ take n (drop w x)) h.split in
        bad_here (headed f) i lawful x (w + n) (omega (arith, k))
        (subst (λ (v : List ℕ). is_viable (headed f) i v ≡ true) (sym c)
        (viable_body f i heads n (take n (drop w x)) h.is_length (are_bytes-take n (drop w x) (are_bytes-drop w x a)) (omega (arith, length-take n (drop w x)))))
        (dead_by (headed f) i (take (w + n + 1) x) (λ b y z s u.
        let q : w + n + 1 ≡ w + (n + 1) = omega arith in
        let d : take (w + n + 1) x ≡ f.head i n ++ take (n + 1) (drop w x) =
        ap (λ (v : ℕ). take v x) q ∙ take-add w (n + 1) x ∙ ap (λ (v : List ℕ). v ++ take (n + 1) (drop w x)) h.split in
        let o : n ≡ length b = one_frame n (take (n + 1) (drop w x) ++ y) b z h.is_length s
        (sym (append_assoc (f.head i n) (take (n + 1) (drop w x)) y) ∙ ap (λ (v : List ℕ). v ++ y) (sym d) ∙ u) in
        let j : List ℕ = f.head i (length b) ++ b in
        let l : length j ≡ w + n = omega (arith, o, length-append (f.head i (length b)) b, sym width_is ∙ ap (λ (v : ℕ). length (f.head i v)) o) in
        let m : (f.head i (length b) ++ (b ++ f.tail)) ++ z ≡ j ++ t ∷ (ts ++ z) =
        ap (λ (v : List ℕ). (f.head i (length b) ++ (b ++ v)) ++ z) e ∙ ap (λ (v : List ℕ). v ++ z) (sym (append_assoc (f.head i (length b)) b (t ∷ ts))) ∙ append_assoc j (t ∷ ts) z in
        let r : get_or (take (w + n + 1) x ++ y) (w + n) 0 ≡ get_or x (w + n) 0 =
        get_or_append_left (take (w + n + 1) x) y 0 (w + n) (omega (arith, k, length-take (w + n + 1) x)) ∙ get_or-take (w + n + 1) x (w + n) 0 (omega arith) in
        differs (sym r ∙ ap (λ (v : List ℕ). get_or v (w + n) 0) (u ∙ m) ∙ ap (λ (v : ℕ). get_or (j ++ t ∷ (ts ++ z)) v 0) (sym l) ∙ get_or-append_seam j t (ts ++ z) 0)))

  -- the body of a whole frame stands behind the head
  pub opened : (x : List ℕ) (h : Head) → IsWholeFrame (headed f) i x → IsHead f i x h →
      ReachesBody h (length x) × (body_behind h x ≡ (headed f).front i x)
  opened x Need whole k = absurd (
      let b : List ℕ = (headed f).front i x in
      let n : ℕ = f.told i x in
      let u : f.head i n ++ [] ≡ (f.head i (length b) ++ (b ++ f.tail)) ++ k.more =
      append-nil (f.head i n) ∙ k.goes_on ∙ ap (λ (v : List ℕ). v ++ k.more) (sym whole.exact) in
      let o : n ≡ length b = one_frame n [] b k.more k.is_length whole.spoken u in
      let l : length (f.head i n) ≡ length (f.head i (length b)) = ap (λ (v : ℕ). length (f.head i v)) o in
      let s = k.some in
      omega (arith, s, l, ap length k.goes_on, length-append x k.more, ap length whole.exact, length-append (f.head i (length b)) (b ++ f.tail)))
  opened x (Bad p) whole k = absurd (
      let b : List ℕ = (headed f).front i x in
      k.none (length b) (drop (p + 1) x) (b ++ f.tail) (spoken_length f b whole.spoken) (take-append-drop (p + 1) x ∙ sym whole.exact))
  opened x (Whole w n) whole k =
      let b : List ℕ = (headed f).front i x in
      let e : f.head i n ++ drop w x ≡ x = ap (λ (v : List ℕ). v ++ drop w x) (sym k.split) ∙ take-append-drop w x in
      let l : length (f.head i n) ≡ w = let m = k.within in omega (arith, m, ap length k.split, length-take w x) in
      let o : n ≡ length b =
      one_frame n (drop w x) b [] k.is_length whole.spoken (e ∙ sym whole.exact ∙ sym (append-nil (first_frame (headed f) i x))) in
      let j : length (f.head i (length b)) ≡ w = ap (λ (v : ℕ). length (f.head i v)) (sym o) ∙ l in
      let d : drop w x ≡ b ++ f.tail = ap (λ (v : List ℕ). drop w v) (sym whole.exact) ∙ drop_at (f.head i (length b)) (b ++ f.tail) w j in (
        omega (arith, o, j, ap length whole.exact, length-append (f.head i (length b)) (b ++ f.tail), length-append b f.tail),
        ap (λ (v : List ℕ). take n v) d ∙ take_at b f.tail n (sym o),
      )
