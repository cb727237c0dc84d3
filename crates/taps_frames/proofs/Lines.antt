-- Lines, and what a reader of them sees.
use Rattle.std.proofs.Common.{◌≡◌, ℕ, suc, ◌+◌, ◌-◌, ◌<◌, ◌≤◌, true, false, not, ◌==◌, List, [], ◌∷◌, ◌++◌, length, get_or, take, drop, refl, ap, sym, ◌∙◌, subst, arith, length-append, append_assoc, inl, inr, length-take, get_or-take}
use Rattle.std.proofs.lemmas.List.{take-append-drop, take-take, take_all}
use Rattle.std.proofs.lemmas.List.Sums.{take_while-cons}
use Rattle.std.proofs.lemmas.List.Folds.{list_all-append}
use Rattle.std.proofs.lemmas.Bool.{ne_eqb, eq-eqb}
use Rattle.taps_framer.specs.Prefixes.{are_bytes}
use Rattle.taps_framer.specs.declared.scan.Scan.{Scan}
use Rattle.taps_framer.specs.Layers.{IsLawful, IsWholeFrame, is_viable, holds_whole_frame, lives}
use Rattle.taps_framer.specs.Scans.{Represents}
use Rattle.taps_framer.proofs.Bytes.{is_below, both, and-left, and-right, are_bytes-append, are_bytes-left, are_bytes-take}
use Rattle.taps_framer.proofs.Prefixes.{append-nil, append-cancel, compared}
use Rattle.taps_framer.proofs.Laws.{frame_alone, viable_when}
use Rattle.taps_framer.proofs.Sights.{holds_none, dead_by}
use Rattle.taps_framer.proofs.Scans.{one_more}
use Rattle.taps_frames.specs.Bodies.{is_body}
use Rattle.taps_frames.specs.Line.{line, line_scan, IsLinePart, is_inner, is_one_line, before_end}
use Rattle.taps_frames.proofs.BodyLemmas.{body_of, body_most, body_bytes}

inner : (c : ℕ) → (c ≡ 10 → ⊥) → is_inner c ≡ true
inner c n = ap not (ne_eqb c 10 n)

-- the line's end and other bytes
stops : (x : List ℕ) → before_end (10 ∷ x) ≡ []
unfolding before_end
stops x = take_while-cons is_inner 10 x

none : before_end [] ≡ []
unfolding before_end
none = refl

goes : (c : ℕ) (x : List ℕ) → is_inner c ≡ true → before_end (c ∷ x) ≡ c ∷ before_end x
unfolding before_end
goes c x h = take_while-cons is_inner c x ∙ rw h refl

before-line : (b y : List ℕ) → is_one_line b ≡ true → before_end (b ++ y) ≡ b ++ before_end y
before-line [] y h = refl
before-line (c ∷ b) y h = goes c (b ++ y) (and-left (is_inner c) (is_one_line b) h) ∙ ap (λ (w : List ℕ). c ∷ w) (before-line b y (and-right (is_inner c) (is_one_line b) h))

before-frame : (b y : List ℕ) → is_one_line b ≡ true → before_end (b ++ 10 ∷ y) ≡ b
before-frame b y h = before-line b (10 ∷ y) h ∙ ap (λ (w : List ℕ). b ++ w) (stops y) ∙ append-nil b

before-all : (b : List ℕ) → is_one_line b ≡ true → before_end b ≡ b
before-all b h = ap before_end (sym (append-nil b)) ∙ before-line b [] h ∙ ap (λ (w : List ℕ). b ++ w) none ∙ append-nil b

line-left : (b y : List ℕ) → is_one_line (b ++ y) ≡ true → is_one_line b ≡ true
line-left b y h = and-left (is_one_line b) (is_one_line y) (sym (list_all-append is_inner b y) ∙ h)

spoken : (b : List ℕ) → length b ≤ 65535 → are_bytes b ≡ true → is_one_line b ≡ true → line.speaks b ≡ true
spoken b h a l = both _ _ (body_of 0 65535 b (omega arith) h a) l

pub short : (b : List ℕ) → line.speaks b ≡ true → length b ≤ 65535
short b h = body_most 0 65535 b (and-left _ (is_one_line b) h)

bytes : (b : List ℕ) → line.speaks b ≡ true → are_bytes b ≡ true
bytes b h = body_bytes 0 65535 b (and-left _ (is_one_line b) h)

one : (b : List ℕ) → line.speaks b ≡ true → is_one_line b ≡ true
one b h = and-right (is_body 0 65535 b) (is_one_line b) h

viable_line : (i : ℕ) (x : List ℕ) → length x ≤ 65535 → are_bytes x ≡ true → is_one_line x ≡ true → is_viable line i x ≡ true
viable_line i x h a l = viable_when line i x x (10 ∷ []) (before-all x l) (spoken x h a l) refl

-- an end that begins so is all of it
all_or_none : (x y : List ℕ) → 10 ∷ [] ≡ x ++ y → 0 < length x → y ≡ []
all_or_none [] y e o = absurd (omega arith)
all_or_none (p ∷ x) [] e o = refl
all_or_none (p ∷ x) (q ∷ y) e o = absurd (omega (arith, ap length e, length-append x (q ∷ y)))

completes_at : (i : ℕ) (b x y : List ℕ) → line.speaks b ≡ true → b ++ 10 ∷ [] ≡ x ++ y → is_viable line i x ≡ true
completes_at i b x y h e = elim (compared b (10 ∷ []) x y e) [
  | inl w ↦ viable_line i x (let n = short b h in omega (arith, n, ap length w.1, length-append x w.0))
      (are_bytes-left x w.0 (subst (λ (v : List ℕ). are_bytes v ≡ true) w.1 (bytes b h)))
      (line-left x w.0 (subst (λ (v : List ℕ). is_one_line v ≡ true) w.1 (one b h)))
  | inr w ↦ begun w.0 w.1
]
  where
    begun : (t : List ℕ) → x ≡ b ++ t → is_viable line i x ≡ true
    begun [] f = subst (λ (v : List ℕ). is_viable line i v ≡ true) (sym (f ∙ append-nil b)) (viable_line i b (short b h) (bytes b h) (one b h))
    begun (p ∷ t) f =
        let g : 10 ∷ [] ≡ (p ∷ t) ++ y = append-cancel b (10 ∷ []) ((p ∷ t) ++ y) (e ∙ ap (λ (v : List ℕ). v ++ y) f ∙ append_assoc b (p ∷ t) y) in
        let k : y ≡ [] = all_or_none (p ∷ t) y g (omega arith) in
        viable_when line i x b [] (ap before_end (sym (append-nil x) ∙ ap (λ (v : List ℕ). x ++ v) (sym k) ∙ sym e) ∙ before-frame b [] (one b h)) h (e ∙ ap (λ (v : List ℕ). x ++ v) k)

pub lawful : (i : ℕ) → IsLawful line i
lawful i = record {
  some = λ b h. omega (arith, length-append b (10 ∷ []));
  bounded = λ b h. let n = short b h in omega (arith, n, length-append b (10 ∷ []));
  fronts = λ b y h. ap before_end (append_assoc b (10 ∷ []) y) ∙ before-frame b y (one b h);
  completes = completes_at i;
  begins = viable_line i [] (omega arith) refl refl;
}

-- no end was found
pub no_end : (x : List ℕ) → ((k : ℕ) → k < length x → (get_or x k 0 == 10) ≡ true → ⊥) → is_one_line x ≡ true
no_end [] n = refl
no_end (c ∷ x) n = both _ _ (inner c (λ e. n 0 (omega arith) (eq-eqb c 10 e))) (no_end x (λ k h. n (suc k) (omega arith)))

pub no_end_before : (x : List ℕ) (i : ℕ) → i ≤ length x → ((k : ℕ) → k < i → (get_or x k 0 == 10) ≡ true → ⊥) → is_one_line (take i x) ≡ true
no_end_before x i h n = no_end (take i x) (λ k m e.
    let l : k < i = omega (arith, m, length-take i x) in
    n k l (subst (λ (c : ℕ). (c == 10) ≡ true) (get_or-take i x k 0 l) e))

dead_long : (k : ℕ) (x : List ℕ) → is_one_line x ≡ true → 65535 < length x → lives line k x ≡ false
dead_long k x l n = dead_by line k x (λ b y z h e.
    let f : x ++ before_end y ≡ b = sym (before-line x y l) ∙ ap before_end (e ∙ append_assoc b (10 ∷ []) z) ∙ before-frame b z (one b h) in
    let m = short b h in
    omega (arith, m, ap length f, length-append x (before_end y)))

waits : (k : ℕ) (x : List ℕ) → are_bytes x ≡ true → is_one_line x ≡ true → length x ≤ 65535 →
    (holds_whole_frame line k x ≡ false) × (is_viable line k x ≡ true)
waits k x a l m = (
  holds_none line k x (λ b y s e.
      let f : x ≡ b = sym (before-all x l) ∙ ap before_end (e ∙ append_assoc b (10 ∷ []) y) ∙ before-frame b y (one b s) in
      omega (arith, ap length f, ap length e, length-append (b ++ 10 ∷ []) y, length-append b (10 ∷ []))),
  viable_line k x m a l,
)

-- a scan of the length of a line so far represents it
pub line_represents : (i : ℕ) (scan : Scan) (x : List ℕ) → IsLinePart x scan.length → Represents line line_scan i scan x
line_represents i scan x p =
    let s = p.small in
    let c = p.counted in
    let w = waits i x p.bytes p.one (omega (arith, s, c)) in
    record { told = p; viable = w.1; unfinished = w.0 }

pub no_line_yet : IsLinePart [] 0
no_line_yet = record { counted = refl; small = omega arith; one = refl; bytes = refl }

line-append : (b y : List ℕ) → is_one_line b ≡ true → is_one_line y ≡ true → is_one_line (b ++ y) ≡ true
line-append b y h k = list_all-append is_inner b y ∙ both _ _ h k

-- part of a line, and the bytes before a place of those that come next, where a look goes one byte past the longest body
module _ (i : ℕ) (x bytes front : List ℕ) (n place : ℕ) (p : IsLinePart x n) (a : are_bytes bytes ≡ true)
    (look : front ≡ take ((65535 - n) + 1) bytes) (within : place ≤ length front) (one : is_one_line (take place front) ≡ true) where
  pub place_is : (place ≤ length bytes) × (place ≤ (65535 - n) + 1)
  place_is =
      let l : length front ≡ length (take ((65535 - n) + 1) bytes) = ap length look in
      (omega (arith, within, l, length-take ((65535 - n) + 1) bytes), omega (arith, within, l, length-take ((65535 - n) + 1) bytes))

  one_at : (q : ℕ) → q ≤ place → is_one_line (x ++ take q bytes) ≡ true
  one_at q h =
      let e : take place front ≡ take place bytes = ap (λ (w : List ℕ). take place w) look ∙ take-take place ((65535 - n) + 1) bytes place_is.1 in
      let d : take place bytes ≡ take q bytes ++ drop q (take place bytes) =
      sym (ap (λ (w : List ℕ). w ++ drop q (take place bytes)) (sym (take-take q place bytes h)) ∙ take-append-drop q (take place bytes)) in
      line-append x (take q bytes) p.one (line-left (take q bytes) (drop q (take place bytes)) (subst (λ (w : List ℕ). is_one_line w ≡ true) (e ∙ d) one))

  bytes_at : (q : ℕ) → are_bytes (x ++ take q bytes) ≡ true
  bytes_at q = are_bytes-append x (take q bytes) p.bytes (are_bytes-take q bytes a)

  length_at : (q : ℕ) → q ≤ length bytes → length (x ++ take q bytes) ≡ n + q
  length_at q h = let c = p.counted in omega (arith, h, c, length-append x (take q bytes), length-take q bytes)

  pub line_too_long : 65535 - n < place →
      (65535 - n < length bytes) × (is_viable line i (x ++ take (65535 - n) bytes) ≡ true) × (lives line i (x ++ take ((65535 - n) + 1) bytes) ≡ false)
  line_too_long h =
      let s = p.small in
      let w = place_is.0 in (
        omega (arith, h, w),
        viable_line i (x ++ take (65535 - n) bytes) (omega (arith, s, length_at (65535 - n) (omega (arith, h, w)))) (bytes_at (65535 - n)) (one_at (65535 - n) (omega arith)),
        dead_long i (x ++ take ((65535 - n) + 1) bytes) (one_at ((65535 - n) + 1) (omega arith)) (omega (arith, s, length_at ((65535 - n) + 1) (omega (arith, h, w)))),
      )

  pub line_waits : place ≤ 65535 - n → place ≡ length bytes → IsLinePart (x ++ bytes) (n + place)
  line_waits h e =
      let t : take place bytes ≡ bytes = take_all place bytes (omega arith) in
      let s = p.small in
      subst (λ (w : List ℕ). IsLinePart (x ++ w) (n + place)) t
      (record { counted = length_at place place_is.0; small = omega (arith, s, h); one = one_at place (omega arith); bytes = bytes_at place })

  pub line_ends : place ≤ 65535 - n → place < length bytes → (place < length front → get_or front place 0 ≡ 10) → IsWholeFrame line i (x ++ take (place + 1) bytes)
  line_ends h l ends =
      let s = p.small in
      let k : length front ≡ length (take ((65535 - n) + 1) bytes) = ap length look in
      let c : get_or bytes place 0 ≡ 10 =
      sym (get_or-take ((65535 - n) + 1) bytes place 0 (omega arith)) ∙ ap (λ (w : List ℕ). get_or w place 0) (sym look)
      ∙ ends (omega (arith, h, l, k, length-take ((65535 - n) + 1) bytes)) in
      frame_alone line i (lawful i) (x ++ take place bytes) (x ++ take (place + 1) bytes)
      (spoken (x ++ take place bytes) (omega (arith, s, h, length_at place place_is.0)) (bytes_at place) (one_at place (omega arith)))
      (sym (one_more x bytes place l) ∙ ap (λ (v : ℕ). (x ++ take place bytes) ++ v ∷ []) c)

-- part of a line, and the byte that comes next
module _ (i : ℕ) (x : List ℕ) (n c : ℕ) (p : IsLinePart x n) where
  longer : length (x ++ c ∷ []) ≡ n + 1
  longer = let e = p.counted in omega (arith, e, length-append x (c ∷ []))

  one_with : (c ≡ 10 → ⊥) → is_one_line (x ++ c ∷ []) ≡ true
  one_with o = line-append x (c ∷ []) p.one (both _ _ (inner c o) refl)

  pub byte_ends : c ≡ 10 → IsWholeFrame line i (x ++ c ∷ [])
  byte_ends e =
      let s = p.small in
      let k = p.counted in
      frame_alone line i (lawful i) x (x ++ c ∷ []) (spoken x (omega (arith, s, k)) p.bytes p.one) (ap (λ (v : ℕ). x ++ v ∷ []) e)

  pub byte_too_long : (c ≡ 10 → ⊥) → n ≡ 65535 → lives line i (x ++ c ∷ []) ≡ false
  byte_too_long o e = dead_long i (x ++ c ∷ []) (one_with o) (omega (arith, e, longer))

  pub byte_waits : (c ≡ 10 → ⊥) → n < 65535 → c < 256 → Represents line line_scan i (record { phase = 0; length = n + 1; rest = 0 }) (x ++ c ∷ [])
  byte_waits o m b = line_represents i (record { phase = 0; length = n + 1; rest = 0 }) (x ++ c ∷ [])
      (record { counted = longer; small = omega (arith, m); one = one_with o; bytes = are_bytes-append x (c ∷ []) p.bytes (both _ _ (is_below c 256 b) refl) })
