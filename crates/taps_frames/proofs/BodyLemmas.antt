-- Bodies, and lists filled up with zeros.
use Rattle.std.proofs.Common.{◌≡◌, ℕ, zero, suc, ◌-◌, ◌<◌, ◌≤◌, true, false, nat_le, List, [], ◌∷◌, ◌++◌, length, get_or, refl, ap, ◌∙◌, arith}
use Rattle.std.proofs.lemmas.Bool.Decides.{nat_tests}
use Rattle.taps_framer.specs.Prefixes.{are_bytes}
use Rattle.taps_framer.proofs.Bytes.{both, below_is, and-left, and-right}
use Rattle.taps_frames.specs.Bodies.{is_body, pad}

is_at_most : (a b : ℕ) → a ≤ b → nat_le a b ≡ true
is_at_most a b h = grind (arith, nat_tests)

at_most_is : (a b : ℕ) → nat_le a b ≡ true → a ≤ b
at_most_is a b h = grind (arith, nat_tests)

pub body_of : (least most : ℕ) (b : List ℕ) → least ≤ length b → length b ≤ most → are_bytes b ≡ true → is_body least most b ≡ true
unfolding is_body
body_of least most b h k a = both _ _ (both _ _ (is_at_most _ _ h) (is_at_most _ _ k)) a

pub body_least : (least most : ℕ) (b : List ℕ) → is_body least most b ≡ true → least ≤ length b
unfolding is_body
body_least least most b h = at_most_is _ _ (and-left (nat_le least (length b)) _ (and-left _ (are_bytes b) h))

pub body_most : (least most : ℕ) (b : List ℕ) → is_body least most b ≡ true → length b ≤ most
unfolding is_body
body_most least most b h = at_most_is _ _ (and-right (nat_le least (length b)) _ (and-left _ (are_bytes b) h))

pub body_bytes : (least most : ℕ) (b : List ℕ) → is_body least most b ≡ true → are_bytes b ≡ true
unfolding is_body
body_bytes least most b h = and-right _ (are_bytes b) h

-- the test that code makes
pub body_within : (least most : ℕ) (b : List ℕ) → are_bytes b ≡ true → least ≤ length b → nat_le (length b) most ≡ is_body least most b
unfolding is_body
body_within least most b a h = rw (a, is_at_most _ _ h) (grind arith)

pub body_below : (least most : ℕ) (b : List ℕ) → length b < least → nat_le least (length b) ≡ is_body least most b
unfolding is_body
body_below least most b h = let e : nat_le least (length b) ≡ false = grind (arith, nat_tests) in rw e refl

pub length-pad : (n : ℕ) (x : List ℕ) → length (pad n x) ≡ n
unfolding pad
length-pad zero x = refl
length-pad (suc n) [] = ap suc (length-pad n [])
length-pad (suc n) (a ∷ x) = ap suc (length-pad n x)

pub are_bytes-pad : (n : ℕ) (x : List ℕ) → are_bytes x ≡ true → are_bytes (pad n x) ≡ true
unfolding pad
are_bytes-pad zero x h = refl
are_bytes-pad (suc n) [] h = are_bytes-pad n [] refl
are_bytes-pad (suc n) (a ∷ x) h = both _ _ (and-left _ _ h) (are_bytes-pad n x (and-right _ (are_bytes x) h))

-- a list that is not too long stands at the start
pub pad-split : (n : ℕ) (x : List ℕ) → length x ≤ n → pad n x ≡ x ++ pad (n - length x) []
unfolding pad
pad-split zero [] h = refl
pad-split zero (a ∷ x) h = absurd (omega arith)
pad-split (suc n) [] h = let e : suc n ≡ suc n - 0 = omega arith in ap (λ (v : ℕ). pad v []) e
pad-split (suc n) (a ∷ x) h = ap (λ (v : List ℕ). a ∷ v) (pad-split n x (omega arith) ∙ ap (λ (v : ℕ). x ++ pad v []) (omega arith))

pub pad-front : (b y : List ℕ) → pad (length b) (b ++ y) ≡ b
unfolding pad
pad-front [] y = refl
pad-front (a ∷ b) y = ap (λ (v : List ℕ). a ∷ v) (pad-front b y)

pub get_or-pad : (n : ℕ) (x : List ℕ) (i : ℕ) → length x ≤ n → get_or (pad n x) i 0 ≡ get_or x i 0
unfolding pad
get_or-pad zero [] i h = refl
get_or-pad zero (a ∷ x) i h = absurd (omega arith)
get_or-pad (suc n) [] zero h = refl
get_or-pad (suc n) [] (suc i) h = get_or-pad n [] i (omega arith)
get_or-pad (suc n) (a ∷ x) zero h = refl
get_or-pad (suc n) (a ∷ x) (suc i) h = get_or-pad n x i (omega arith)

pub byte_in : (x : List ℕ) (i : ℕ) → are_bytes x ≡ true → get_or x i 0 < 256
byte_in [] i h = omega arith
byte_in (a ∷ x) zero h = below_is a 256 (and-left _ (are_bytes x) h)
byte_in (a ∷ x) (suc i) h = byte_in x i (and-right _ (are_bytes x) h)
