-- Runs of bytes that are spelled by themselves, and what stands behind them.
use Rattle.std.proofs.Common.{◌≡◌, ℕ, ◌+◌, ◌<◌, ◌≤◌, true, cond, eqb, List, [], ◌∷◌, ◌++◌, length, get_or, take, drop, refl, ap, sym, ◌∙◌, arith, append_assoc, length-append, length-take}
use Rattle.std.proofs.lemmas.List.{take-append-drop, drop_more, drop_all}
use Rattle.taps_framer.proofs.Prefixes.{append-nil}
use Rattle.taps_frames.specs.Stuffed.{spelled, stuff, plain_from, plain, are_plain}
use Rattle.taps_frames.proofs.Spellings.{stuff-append, stuff_plain, plain-stuff, plain_none, plain_half, plain_end}

pub stuff_run : (x : List ℕ) (r : ℕ) → are_plain (take r x) ≡ true → stuff x ≡ take r x ++ stuff (drop r x)
stuff_run x r p = ap (λ (w : List ℕ). stuff w) (sym (take-append-drop r x)) ∙ stuff-append (take r x) (drop r x) ∙ ap (λ (w : List ℕ). w ++ stuff (drop r x)) (stuff_plain (take r x) p)

plain_run : (x : List ℕ) (r : ℕ) → are_plain (take r x) ≡ true → plain x ≡ take r x ++ plain (drop r x)
plain_run x r p =
    ap (λ (w : List ℕ). plain w) (sym (take-append-drop r x) ∙ ap (λ (w : List ℕ). w ++ drop r x) (sym (stuff_plain (take r x) p)))
    ∙ plain-stuff (take r x) (drop r x)

-- a run and the spelling of the byte behind it
pub spelled_run : (x : List ℕ) (r c : ℕ) (s : List ℕ) → r < length x → get_or x r 0 ≡ c → spelled c ≡ s → are_plain (take r x) ≡ true →
    stuff x ≡ take r x ++ (s ++ stuff (drop (r + 1) x))
spelled_run x r c s h k m p =
    stuff_run x r p ∙ ap (λ (w : List ℕ). take r x ++ w)
    (ap (λ (w : List ℕ). stuff w) (drop_more x r 0 h) ∙ ap (λ (v : ℕ). spelled v ++ stuff (drop (r + 1) x)) k ∙ ap (λ (w : List ℕ). w ++ stuff (drop (r + 1) x)) m)

-- o was there, p is o with the run, q is p with what stands for the byte behind the run
pub joined : (o p q t s y z : List ℕ) → z ≡ t ++ (s ++ y) → p ≡ o ++ t → q ≡ p ++ s → q ++ y ≡ o ++ z
joined o p q t s y z e a b =
    ap (λ (w : List ℕ). w ++ y) (b ∙ ap (λ (w : List ℕ). w ++ s) a) ∙ append_assoc (o ++ t) s y ∙ append_assoc o t (s ++ y) ∙ ap (λ (w : List ℕ). o ++ w) (sym e)

pub joined_run : (o q t y z : List ℕ) → z ≡ t ++ y → q ≡ o ++ t → q ++ y ≡ o ++ z
joined_run o q t y z e a = ap (λ (w : List ℕ). w ++ y) a ∙ append_assoc o t y ∙ ap (λ (w : List ℕ). o ++ w) (sym e)

pub length_plain : (x : List ℕ) (r : ℕ) → are_plain (take r x) ≡ true → r ≤ length x → length (stuff x) ≡ r + length (stuff (drop r x))
length_plain x r p h = omega (arith, h, ap length (stuff_run x r p), length-append (take r x) (stuff (drop r x)), length-take r x)

pub length_run : (x : List ℕ) (r : ℕ) (s : List ℕ) → stuff x ≡ take r x ++ (s ++ stuff (drop (r + 1) x)) → r ≤ length x →
    length (stuff x) ≡ r + length s + length (stuff (drop (r + 1) x))
length_run x r s e h = omega (arith, h, ap length e, length-append (take r x) (s ++ stuff (drop (r + 1) x)), length-append s (stuff (drop (r + 1) x)), length-take r x)

pub read_to : (o p q x : List ℕ) (r n : ℕ) (s : List ℕ) → plain (drop r x) ≡ s ++ plain (drop n x) → are_plain (take r x) ≡ true →
    p ≡ o ++ take r x → q ≡ p ++ s → q ++ plain (drop n x) ≡ o ++ plain x
read_to o p q x r n s d e a b = joined o p q (take r x) s (plain (drop n x)) (plain x) (plain_run x r e ∙ ap (λ (w : List ℕ). take r x ++ w) d) a b

-- nothing is read behind the end
pub plain_past : (x : List ℕ) (n : ℕ) → length x ≤ n → plain (drop n x) ≡ []
plain_past x n h = ap (λ (w : List ℕ). plain w) (drop_all n x h) ∙ plain_none

pub plain_at_end : (x : List ℕ) (r : ℕ) → r < length x → get_or x r 0 ≡ 192 → plain (drop r x) ≡ []
plain_at_end x r h k = ap (λ (w : List ℕ). plain w) (drop_more x r 0 h) ∙ ap (λ (v : ℕ). plain (v ∷ drop (r + 1) x)) k ∙ plain_end (drop (r + 1) x)

pub read_whole : (o p x : List ℕ) (r n : ℕ) → plain (drop r x) ≡ [] → length x ≤ n → are_plain (take r x) ≡ true → p ≡ o ++ take r x →
    p ++ plain (drop n x) ≡ o ++ plain x
read_whole o p x r n d h e a = read_to o p p x r n [] (d ∙ sym (plain_past x n h)) e a (sym (append-nil p))

pub half_at : (x : List ℕ) (r n : ℕ) → r + 1 ≡ length x → length x ≤ n → get_or x r 0 ≡ 219 → plain (drop r x) ≡ 192 ∷ plain (drop n x)
half_at x r n h m k =
    ap (λ (w : List ℕ). plain w) (drop_more x r 0 (omega arith)) ∙ ap (λ (v : ℕ). plain (v ∷ drop (r + 1) x)) k
    ∙ ap (λ (w : List ℕ). plain (219 ∷ w)) (drop_all (r + 1) x (omega arith)) ∙ plain_half ∙ ap (λ (w : List ℕ). 192 ∷ w) (sym (plain_past x n m))

plain_pair : (c : ℕ) (y : List ℕ) → plain (219 ∷ c ∷ y) ≡ cond (eqb c 221) 219 192 ∷ plain y
unfolding plain_from
plain_pair c y = refl

pub pair_at : (x : List ℕ) (r n : ℕ) → n ≡ r + 2 → r + 1 < length x → get_or x r 0 ≡ 219 →
    plain (drop r x) ≡ cond (eqb (get_or x (r + 1) 0) 221) 219 192 ∷ plain (drop n x)
pair_at x r n e h k =
    let f : (r + 1) + 1 ≡ n = omega arith in
    ap (λ (w : List ℕ). plain w) (drop_more x r 0 (omega arith)) ∙ ap (λ (v : ℕ). plain (v ∷ drop (r + 1) x)) k
    ∙ ap (λ (w : List ℕ). plain (219 ∷ w)) (drop_more x (r + 1) 0 h) ∙ plain_pair (get_or x (r + 1) 0) (drop ((r + 1) + 1) x)
    ∙ ap (λ (v : ℕ). cond (eqb (get_or x (r + 1) 0) 221) 219 192 ∷ plain (drop v x)) f
