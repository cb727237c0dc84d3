-- The spelling of bytes by one or two each.
use Rattle.std.proofs.Common.{suc, ◌+◌, ◌<◌, Bool, true, false, not, ◌||◌, ◌==◌, cond, count_by, take, length-take, get_or-take, ◌≡◌, ℕ, ◌≤◌, List, [], ◌∷◌, ◌++◌, length, get_or, refl, ap, sym, ◌∙◌, subst, arith, length-append, append_assoc, inl, inr, ◌⊎◌}
use Rattle.std.proofs.Math.Bool.{or-true}
use Rattle.std.proofs.lemmas.Bool.{cases_eq, ne_eqb, eq-eqb, eqb-true, not-true}
use Rattle.std.proofs.lemmas.Grind.{flat_map-append}
use Rattle.std.proofs.lemmas.List.Sums.{sum_by-cons}
use Rattle.taps_framer.proofs.Bytes.{both, and-left, and-right, false_by}
use Rattle.taps_framer.proofs.Prefixes.{append-cancel, append-nil}
use Rattle.taps_frames.specs.Stuffed.{spelled, stuff, plain_from, plain, is_special, are_plain}

-- which of the three kinds a byte is
pub data Kind (c : ℕ) : Type 0 where
  ending : c ≡ 192 → Kind c
  escape : c ≡ 219 → Kind c
  other : (c ≡ 192 → ⊥) → (c ≡ 219 → ⊥) → Kind c

pub kind : (c : ℕ) → Kind c
kind c = elim (cases_eq c 192) [
  | inl e ↦ ending e
  | inr n ↦ elim (cases_eq c 219) [ inl e ↦ escape e | inr m ↦ other n m ]
]

pub spelled_other : (c : ℕ) → (c ≡ 192 → ⊥) → (c ≡ 219 → ⊥) → spelled c ≡ c ∷ []
unfolding spelled
spelled_other c n m = let e = ne_eqb c 192 n in let f = ne_eqb c 219 m in rw (e, f) refl

pub plain_other : (c : ℕ) (x : List ℕ) → (c ≡ 192 → ⊥) → (c ≡ 219 → ⊥) → plain (c ∷ x) ≡ c ∷ plain x
unfolding plain_from
plain_other c x n m = let e = ne_eqb c 192 n in let f = ne_eqb c 219 m in rw (e, f) refl

pub plain_ending : (x : List ℕ) → plain (219 ∷ 220 ∷ x) ≡ 192 ∷ plain x
unfolding plain_from
plain_ending x = refl

pub plain_escape : (x : List ℕ) → plain (219 ∷ 221 ∷ x) ≡ 219 ∷ plain x
unfolding plain_from
plain_escape x = refl

pub spelled_ending : spelled 192 ≡ 219 ∷ 220 ∷ []
unfolding spelled
spelled_ending = refl

pub spelled_escape : spelled 219 ≡ 219 ∷ 221 ∷ []
unfolding spelled
spelled_escape = refl

plain_spelled : (c : ℕ) (y : List ℕ) → plain (spelled c ++ y) ≡ c ∷ plain y
plain_spelled c y = elim (kind c) [
  | ending e ↦ subst (λ (v : ℕ). plain (spelled v ++ y) ≡ v ∷ plain y) (sym e) (ap (λ (w : List ℕ). plain (w ++ y)) spelled_ending ∙ plain_ending y)
  | escape e ↦ subst (λ (v : ℕ). plain (spelled v ++ y) ≡ v ∷ plain y) (sym e) (ap (λ (w : List ℕ). plain (w ++ y)) spelled_escape ∙ plain_escape y)
  | other n m ↦ ap (λ (w : List ℕ). plain (w ++ y)) (spelled_other c n m) ∙ plain_other c y n m
]

-- what is spelled is read again
pub plain-stuff : (d z : List ℕ) → plain (stuff d ++ z) ≡ d ++ plain z
plain-stuff [] z = refl
plain-stuff (c ∷ d) z = ap (λ (w : List ℕ). plain w) (append_assoc (spelled c) (stuff d) z) ∙ plain_spelled c (stuff d ++ z) ∙ ap (λ (w : List ℕ). c ∷ w) (plain-stuff d z)

pub plain_none : plain [] ≡ []
unfolding plain_from
plain_none = refl

pub plain_half : plain (219 ∷ []) ≡ 192 ∷ []
unfolding plain_from
plain_half = refl

pub plain_end : (y : List ℕ) → plain (192 ∷ y) ≡ []
unfolding plain_from
plain_end y = refl

pub plain-frame : (b y : List ℕ) → plain (stuff b ++ 192 ∷ y) ≡ b
plain-frame b y = plain-stuff b (192 ∷ y) ∙ ap (λ (w : List ℕ). b ++ w) (plain_end y) ∙ append-nil b

pub stuff-append : (d e : List ℕ) → stuff (d ++ e) ≡ stuff d ++ stuff e
stuff-append d e = flat_map-append spelled d e

-- bytes that are spelled by themselves
pub not_special : (c : ℕ) → is_special c ≡ false → (c ≡ 192 → ⊥) × (c ≡ 219 → ⊥)
not_special c h = (
  (λ e. let k : is_special c ≡ true = ap (λ (b : Bool). b || (c == 219)) (eq-eqb c 192 e) in cc (h, k)),
  (λ e. let k : is_special c ≡ true = ap (λ (b : Bool). (c == 192) || b) (eq-eqb c 219 e) ∙ or-true (c == 192) in cc (h, k)),
)

pub special : (c : ℕ) → is_special c ≡ true → (c ≡ 192 → ⊥) → c ≡ 219
special c h n = eqb-true c 219 (ap (λ (b : Bool). b || (c == 219)) (sym (ne_eqb c 192 n)) ∙ h)

head_plain : (c : ℕ) (x : List ℕ) → are_plain (c ∷ x) ≡ true → is_special c ≡ false
head_plain c x h = not-true (is_special c) (and-left (not (is_special c)) (are_plain x) h)

pub stuff_plain : (x : List ℕ) → are_plain x ≡ true → stuff x ≡ x
stuff_plain [] h = refl
stuff_plain (c ∷ x) h =
    let n = not_special c (head_plain c x h) in
    ap (λ (w : List ℕ). w ++ stuff x) (spelled_other c n.0 n.1) ∙ ap (λ (w : List ℕ). c ∷ w) (stuff_plain x (and-right (not (is_special c)) (are_plain x) h))

-- none was found
pub none_special : (x : List ℕ) → ((k : ℕ) → k < length x → is_special (get_or x k 0) ≡ true → ⊥) → are_plain x ≡ true
none_special [] n = refl
none_special (c ∷ x) n = both _ _ (ap not (false_by (is_special c) (n 0 (omega arith)))) (none_special x (λ k h. n (suc k) (omega arith)))

pub none_before : (x : List ℕ) (i : ℕ) → i ≤ length x → ((k : ℕ) → k < i → is_special (get_or x k 0) ≡ true → ⊥) → are_plain (take i x) ≡ true
none_before x i h n = none_special (take i x) (λ k m e.
    let l : k < i = omega (arith, m, length-take i x) in
    n k l (subst (λ (c : ℕ). is_special c ≡ true) (get_or-take i x k 0 l) e))

length-spelled : (c : ℕ) → (1 ≤ length (spelled c)) × (length (spelled c) ≤ 2)
length-spelled c = elim (kind c) [
  | ending e ↦ (let h = ap length (ap (λ (v : ℕ). spelled v) e ∙ spelled_ending) in (omega (arith, h), omega (arith, h)))
  | escape e ↦ (let h = ap length (ap (λ (v : ℕ). spelled v) e ∙ spelled_escape) in (omega (arith, h), omega (arith, h)))
  | other n m ↦ (let h = ap length (spelled_other c n m) in (omega (arith, h), omega (arith, h)))
]

count_one : (c : ℕ) → length (spelled c) ≡ 1 + cond (is_special c) 1 0
count_one c = elim (kind c) [
  | ending e ↦ subst (λ (v : ℕ). length (spelled v) ≡ 1 + cond (is_special v) 1 0) (sym e) (ap length spelled_ending)
  | escape e ↦ subst (λ (v : ℕ). length (spelled v) ≡ 1 + cond (is_special v) 1 0) (sym e) (ap length spelled_escape)
  | other n m ↦ ap length (spelled_other c n m) ∙ ap (λ (b : Bool). 1 + cond b 1 0) (sym (ap (λ (b : Bool). b || (c == 219)) (ne_eqb c 192 n) ∙ ne_eqb c 219 m))
]

pub length-stuff : (b : List ℕ) → length (stuff b) ≡ length b + count_by is_special b
length-stuff [] = refl
length-stuff (c ∷ b) = length-append (spelled c) (stuff b) ∙ omega (arith, count_one c, length-stuff b, sum_by-cons (λ (v : ℕ). cond (is_special v) 1 0) c b)

-- spellings that begin one list are of one byte
same_spelled : (p q : ℕ) (u v : List ℕ) → spelled p ++ u ≡ spelled q ++ v → (p ≡ q) × (u ≡ v)
same_spelled p q u v e =
    let h : p ∷ plain u ≡ q ∷ plain v = sym (plain_spelled p u) ∙ ap (λ (w : List ℕ). plain w) e ∙ plain_spelled q v in
    let i : p ≡ q = ap (λ (w : List ℕ). get_or w 0 0) h in
    (i, append-cancel (spelled p) u v (e ∙ ap (λ (w : ℕ). spelled w ++ v) (sym i)))

not_end : (p : ℕ) (u v : List ℕ) → spelled p ++ u ≡ 192 ∷ v → ⊥
not_end p u v e =
    let h : p ∷ plain u ≡ [] = sym (plain_spelled p u) ∙ ap (λ (w : List ℕ). plain w) e ∙ plain_end v in
    omega (arith, ap length h)

-- a frame that shares the beginning of a body's spelling is that of a longer body
pub record IsLonger (d b u w : List ℕ) : Type 0 where
  pub rest : List ℕ
  pub split : b ≡ d ++ rest
  pub spelt : u ≡ stuff rest ++ 192 ∷ w

pub longer : (d b u w : List ℕ) → stuff d ++ u ≡ stuff b ++ 192 ∷ w → IsLonger d b u w
longer [] b u w e = record { rest = b; split = refl; spelt = e }
longer (p ∷ d) [] u w e = absurd (not_end p (stuff d ++ u) w (sym (append_assoc (spelled p) (stuff d) u) ∙ e))
longer (p ∷ d) (q ∷ b) u w e =
    let s =
    same_spelled p q (stuff d ++ u) (stuff b ++ 192 ∷ w) (sym (append_assoc (spelled p) (stuff d) u) ∙ e ∙ append_assoc (spelled q) (stuff b) (192 ∷ w)) in
    let r = longer d b u w s.1 in
    record {
      rest = r.rest;
      split = ap (λ (v : ℕ). v ∷ b) (sym s.0) ∙ ap (λ (v : List ℕ). p ∷ v) r.split;
      spelt = r.spelt;
    }

-- what stands behind an escape byte
pub behind_escape : (t : List ℕ) (c : ℕ) (y w : List ℕ) → 219 ∷ c ∷ y ≡ stuff t ++ 192 ∷ w → (c ≡ 220) ⊎ (c ≡ 221)
behind_escape [] c y w e = absurd (let h : 219 ≡ 192 = ap (λ (v : List ℕ). get_or v 0 0) e in omega (arith, h))
behind_escape (q ∷ t) c y w e =
    let f : 219 ∷ c ∷ y ≡ spelled q ++ (stuff t ++ 192 ∷ w) = e ∙ append_assoc (spelled q) (stuff t) (192 ∷ w) in
    elim (kind q) [
      | ending k ↦ inl (ap (λ (v : List ℕ). get_or v 1 0) (f ∙ ap (λ (v : List ℕ). v ++ (stuff t ++ 192 ∷ w)) (ap (λ (v : ℕ). spelled v) k ∙ spelled_ending)))
      | escape k ↦ inr (ap (λ (v : List ℕ). get_or v 1 0) (f ∙ ap (λ (v : List ℕ). v ++ (stuff t ++ 192 ∷ w)) (ap (λ (v : ℕ). spelled v) k ∙ spelled_escape)))
      | other n m ↦ absurd (m (sym (ap (λ (v : List ℕ). get_or v 0 0) (f ∙ ap (λ (v : List ℕ). v ++ (stuff t ++ 192 ∷ w)) (spelled_other q n m)))))
    ]

-- a lone escape byte is no frame
pub lone_escape : (t w : List ℕ) → 219 ∷ [] ≡ stuff t ++ 192 ∷ w → ⊥
lone_escape [] w e = let h : 219 ≡ 192 = ap (λ (v : List ℕ). get_or v 0 0) e in omega (arith, h)
lone_escape (q ∷ t) w e = let h = length-spelled q in
    omega (arith, ap length e, length-append (stuff (q ∷ t)) (192 ∷ w), length-append (spelled q) (stuff t), h.0)
