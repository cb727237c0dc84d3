-- The laws of the stuffed framer.
use Rattle.std.proofs.Common.{◌≡◌, ℕ, ◌+◌, ◌≤◌, Bool, true, false, nat_lt, List, [], ◌∷◌, ◌++◌, length, refl, ap, sym, ◌∙◌, subst, arith, length-append, append_assoc}
use Rattle.taps_framer.specs.Prefixes.{are_bytes}
use Rattle.taps_framer.specs.Layers.{IsLawful, is_viable}
use Rattle.taps_framer.proofs.Bytes.{both, and-left, and-right, are_bytes-append}
use Rattle.taps_framer.proofs.Prefixes.{append-nil}
use Rattle.taps_framer.proofs.Laws.{viable_when}
use Rattle.taps_frames.specs.Bodies.{is_body}
use Rattle.std.proofs.lemmas.List.Sums.{count_by-le-length}
use Rattle.taps_frames.specs.Stuffed.{stuffed, spelled, stuff, plain, is_special, part_of, begun_size, IsPart}
use Rattle.taps_frames.proofs.BodyLemmas.{body_of, body_most, body_bytes}
use Rattle.taps_frames.proofs.Spellings.{ending, escape, other, kind, spelled_other, spelled_ending, spelled_escape, plain_none, plain_half, plain-stuff, plain-frame, stuff-append, length-stuff}

viable_half : (i : ℕ) (x d : List ℕ) → x ≡ stuff d ++ 219 ∷ [] → are_bytes d ≡ true → length d + 1 ≤ 65535 → is_viable stuffed i x ≡ true
viable_half i x d e a h =
    let b : List ℕ = d ++ 192 ∷ [] in
    let c : plain x ≡ b = ap (λ (w : List ℕ). plain w) e ∙ plain-stuff d (219 ∷ []) ∙ ap (λ (w : List ℕ). d ++ w) plain_half in
    let s : stuff b ≡ stuff d ++ 219 ∷ 220 ∷ [] = stuff-append d (192 ∷ []) ∙ ap (λ (w : List ℕ). stuff d ++ (w ++ [])) spelled_ending in
    let f : (stuff b ++ 192 ∷ []) ≡ x ++ 220 ∷ 192 ∷ [] =
    ap (λ (w : List ℕ). w ++ 192 ∷ []) s ∙ append_assoc (stuff d) (219 ∷ 220 ∷ []) (192 ∷ [])
    ∙ sym (append_assoc (stuff d) (219 ∷ []) (220 ∷ 192 ∷ [])) ∙ ap (λ (w : List ℕ). w ++ 220 ∷ 192 ∷ []) (sym e) in
    viable_when stuffed i x b (220 ∷ 192 ∷ []) c (body_of 0 65535 b (omega arith) (omega (arith, length-append d (192 ∷ []))) (are_bytes-append d (192 ∷ []) a refl)) f

viable_plain : (i : ℕ) (x d : List ℕ) → x ≡ stuff d → are_bytes d ≡ true → length d ≤ 65535 → is_viable stuffed i x ≡ true
viable_plain i x d e a h =
    let c : plain x ≡ d =
    ap (λ (w : List ℕ). plain w) (e ∙ sym (append-nil (stuff d))) ∙ plain-stuff d [] ∙ ap (λ (w : List ℕ). d ++ w) plain_none ∙ append-nil d in
    viable_when stuffed i x d (192 ∷ []) c (body_of 0 65535 d (omega arith) h a) (ap (λ (w : List ℕ). w ++ 192 ∷ []) (sym e))

-- what has been spelled begins a frame
pub viable_part : (i : ℕ) (x : List ℕ) (half : Bool) (n : ℕ) → IsPart x half n → n ≤ 65535 → is_viable stuffed i x ≡ true
viable_part i x true n s h = viable_half i x s.body s.begun s.bytes (omega (arith, s.size))
viable_part i x false n s h = viable_plain i x s.body s.begun s.bytes (omega (arith, s.size))

viable_whole : (i : ℕ) (b : List ℕ) → is_body 0 65535 b ≡ true → is_viable stuffed i ((stuff b ++ 192 ∷ [])) ≡ true
viable_whole i b h = viable_when stuffed i ((stuff b ++ 192 ∷ [])) b [] (plain-frame b []) h (sym (append-nil ((stuff b ++ 192 ∷ []))))

-- how a frame is cut
data Cut (b x : List ℕ) : Type 0 where
  whole : x ≡ (stuff b ++ 192 ∷ []) → Cut b x
  part : (half : Bool) (n : ℕ) → IsPart x half n → n ≤ length b → Cut b x

part_grown : (half : Bool) (c : ℕ) (d : List ℕ) → spelled c ++ part_of half d ≡ part_of half (c ∷ d)
part_grown true c d = sym (append_assoc (spelled c) (stuff d) (219 ∷ []))
part_grown false c d = refl

begun_grown : (half : Bool) (n : ℕ) → begun_size half n + 1 ≡ begun_size half (n + 1)
begun_grown true n = refl
begun_grown false n = refl

grown : (c : ℕ) (b x z : List ℕ) → nat_lt c 256 ≡ true → z ≡ spelled c ++ x → Cut b x → Cut (c ∷ b) z
grown c b x z k e t = elim t [
  | whole w ↦ whole (e ∙ ap (λ (v : List ℕ). spelled c ++ v) w ∙ sym (append_assoc (spelled c) (stuff b) (192 ∷ [])))
  | part half n s l ↦ part half (n + 1) (record {
    body = c ∷ s.body;
    begun = e ∙ ap (λ (v : List ℕ). spelled c ++ v) s.begun ∙ part_grown half c s.body;
    size = ap (λ (v : ℕ). v + 1) s.size ∙ begun_grown half (length s.body) ∙ ap (λ (v : ℕ). begun_size half v) (omega arith);
    bytes = both _ _ k s.bytes;
  }) (omega arith)
]

none_yet : (b : List ℕ) → Cut b []
none_yet b = part false 0 (record { body = []; begun = refl; size = refl; bytes = refl }) (omega arith)

nothing-left : (x y : List ℕ) → [] ≡ x ++ y → x ≡ []
nothing-left [] y e = refl
nothing-left (a ∷ x) y e = cc e

cut_end : (x y : List ℕ) → 192 ∷ [] ≡ x ++ y → Cut [] x
cut_end [] y e = none_yet []
cut_end (p ∷ x) y e =
    let h : 192 ≡ p = cc in
    let k : [] ≡ x ++ y = cc in
    whole (ap (λ (v : ℕ). v ∷ x) (sym h) ∙ ap (λ (v : List ℕ). 192 ∷ v) (nothing-left x y k))

-- of a byte that is spelled by one
cut_one : (c : ℕ) (b x y : List ℕ) → nat_lt c 256 ≡ true → spelled c ≡ c ∷ [] → ((z w : List ℕ) → (stuff b ++ 192 ∷ []) ≡ z ++ w → Cut b z) →
    c ∷ (stuff b ++ 192 ∷ []) ≡ x ++ y → Cut (c ∷ b) x
cut_one c b [] y k s more e = none_yet (c ∷ b)
cut_one c b (p ∷ x) y k s more e =
    let h : c ≡ p = cc in
    let f : (stuff b ++ 192 ∷ []) ≡ x ++ y = cc in
    grown c b x (p ∷ x) k (ap (λ (v : ℕ). v ∷ x) (sym h) ∙ ap (λ (v : List ℕ). v ++ x) (sym s)) (more x y f)

-- and by two
cut_two : (c t : ℕ) (b x y : List ℕ) → nat_lt c 256 ≡ true → spelled c ≡ 219 ∷ t ∷ [] → ((z w : List ℕ) → (stuff b ++ 192 ∷ []) ≡ z ++ w → Cut b z) →
    219 ∷ t ∷ (stuff b ++ 192 ∷ []) ≡ x ++ y → Cut (c ∷ b) x
cut_two c t b [] y k s more e = none_yet (c ∷ b)
cut_two c t b (p ∷ []) y k s more e =
    let h : 219 ≡ p = cc in
    part true 1 (record { body = []; begun = ap (λ (v : ℕ). v ∷ []) (sym h); size = refl; bytes = refl }) (omega arith)
cut_two c t b (p ∷ q ∷ x) y k s more e =
    let h : 219 ≡ p = cc in
    let g : t ≡ q = cc in
    let f : (stuff b ++ 192 ∷ []) ≡ x ++ y = cc in
    grown c b x (p ∷ q ∷ x) k (ap (λ (v : ℕ). v ∷ q ∷ x) (sym h) ∙ ap (λ (v : ℕ). 219 ∷ v ∷ x) (sym g) ∙ ap (λ (v : List ℕ). v ++ x) (sym s)) (more x y f)

cut_more : (c : ℕ) (b x y : List ℕ) → nat_lt c 256 ≡ true → ((z w : List ℕ) → (stuff b ++ 192 ∷ []) ≡ z ++ w → Cut b z) →
    spelled c ++ (stuff b ++ 192 ∷ []) ≡ x ++ y → Cut (c ∷ b) x
cut_more c b x y k more e = elim (kind c) [
  | ending i ↦ (let s = ap (λ (v : ℕ). spelled v) i ∙ spelled_ending in cut_two c 220 b x y k s more (sym (ap (λ (v : List ℕ). v ++ (stuff b ++ 192 ∷ [])) s) ∙ e))
  | escape i ↦ (let s = ap (λ (v : ℕ). spelled v) i ∙ spelled_escape in cut_two c 221 b x y k s more (sym (ap (λ (v : List ℕ). v ++ (stuff b ++ 192 ∷ [])) s) ∙ e))
  | other n m ↦ (let s = spelled_other c n m in cut_one c b x y k s more (sym (ap (λ (v : List ℕ). v ++ (stuff b ++ 192 ∷ [])) s) ∙ e))
]

cut : (b : List ℕ) → are_bytes b ≡ true → (x y : List ℕ) → (stuff b ++ 192 ∷ []) ≡ x ++ y → Cut b x
cut [] a x y e = cut_end x y e
cut (c ∷ b) a x y e =
    cut_more c b x y (and-left _ _ a) (cut b (and-right (nat_lt c 256) _ a)) (sym (append_assoc (spelled c) (stuff b) (192 ∷ [])) ∙ e)

completes_at : (i : ℕ) (b x y : List ℕ) → is_body 0 65535 b ≡ true → (stuff b ++ 192 ∷ []) ≡ x ++ y → is_viable stuffed i x ≡ true
completes_at i b x y h e =
    let n : length b ≤ 65535 = body_most 0 65535 b h in
    elim (cut b (body_bytes 0 65535 b h) x y e) [
      | whole w ↦ subst (λ (v : List ℕ). is_viable stuffed i v ≡ true) (sym w) (viable_whole i b h)
      | part half m s l ↦ viable_part i x half m s (omega arith)
    ]

pub lawful : (i : ℕ) → IsLawful stuffed i
lawful i = record {
  some = λ b h. omega (arith, length-append (stuff b) (192 ∷ []));
  bounded = λ b h. let n : length b ≤ 65535 = body_most 0 65535 b h in omega (arith, length-append (stuff b) (192 ∷ []), length-stuff b, count_by-le-length is_special b);
  fronts = λ b y h. ap (λ (w : List ℕ). plain w) (append_assoc (stuff b) (192 ∷ []) y) ∙ plain-frame b y;
  completes = completes_at i;
  begins = viable_plain i [] [] refl refl (omega arith);
}
