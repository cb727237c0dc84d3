-- The bytes of a path in an array, with zeros behind them.
use Rattle.std.proofs.Common.{◌≡◌, ◌<◌, ◌≤◌, ℕ, suc, ◌+◌, ◌-◌, List, [], ◌∷◌, ◌++◌, length, take, set, replicate, true, refl, sym, ap, ◌∙◌, arith, append_assoc, length-set, length-append}
use Rattle.std.proofs.lemmas.List.{length-take-le, take_more_set, set-append_right}
use Rattle.std.proofs.lemmas.List.Folds.{list_all-append}
use Rattle.taps_endpoint.specs.UnixPaths.{is_path_byte, IsPaddedFront, IsPadded}

pub padded_path : (bytes : List ℕ) (count : ℕ) → IsPaddedFront bytes count → 1 ≤ count → IsPadded bytes count
padded_path bytes count front some = record {
  is_path = record {
    some = rw (length-take-le count bytes (rw front.whole front.fits)) some;
    most = rw (length-take-le count bytes (rw front.whole front.fits)) front.fits;
    visible = front.visible;
  };
  whole = front.whole;
  unused = front.unused;
  fits = front.fits;
}

front_count : (bytes : List ℕ) (count : ℕ) → IsPaddedFront bytes count → length (take count bytes) ≡ count
front_count bytes count front = length-take-le count bytes (rw front.whole front.fits)

-- a write at the first of the zeros
set_zeros : (count k b : ℕ) → count ≡ suc k → set (replicate count 0) 0 b ≡ b ∷ replicate k 0
set_zeros count k b is = rw is refl

set_behind : (bytes : List ℕ) (count k b : ℕ) → IsPaddedFront bytes count → 107 - count ≡ suc k → set bytes count b ≡ take count bytes ++ b ∷ replicate k 0
set_behind bytes count k b front is =
    let at : 107 - length (take count bytes) ≡ 107 - count = rw (front_count bytes count front) refl in
    let whole : bytes ≡ take count bytes ++ replicate (107 - count) 0 = front.unused ∙ rw at refl in
    let first : count - count ≡ 0 = omega arith in
    ap (λ (xs : List ℕ). set xs count b) whole ∙ (set-append_right (take count bytes) (replicate (107 - count) 0) count count b (front_count bytes count front) (omega arith)
    ∙ ap (λ (xs : List ℕ). take count bytes ++ xs) (rw first (set_zeros (107 - count) k b is)))

pub push_padded : (bytes : List ℕ) (count b : ℕ) → IsPaddedFront bytes count → length (take count bytes) < 107 → is_path_byte b ≡ true → IsPaddedFront (set bytes count b) (count + 1)
push_padded bytes count b front room visible =
    let lt : count < 107 = rw (front_count bytes count front) at room in
    let k = 106 - count in
    let next : take (count + 1) (set bytes count b) ≡ take count bytes ++ b ∷ [] = take_more_set bytes count b (rw front.whole lt) in
    let longer : length (take count bytes ++ b ∷ []) ≡ count + 1 = simp length-append (omega (arith, front_count bytes count front)) in
    let left : 107 - (count + 1) ≡ k = omega arith in
    record {
      visible = rw (next, list_all-append is_path_byte (take count bytes) (b ∷ []), front.visible, visible) refl;
      whole = length-set bytes count b ∙ front.whole;
      unused = rw (next, longer, left) (set_behind bytes count k b front (omega arith) ∙ sym (append_assoc (take count bytes) (b ∷ []) (replicate k 0)));
      fits = omega arith;
    }
