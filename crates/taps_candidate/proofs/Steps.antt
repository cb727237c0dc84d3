-- One element more in a loop that adds a list for each.
use Rattle.std.proofs.Common.{◌≡◌, ◌<◌, ℕ, ◌+◌, List, [], ◌∷◌, ◌++◌, ap, sym, ◌∙◌, length, get_or, take, append_assoc}
use Rattle.std.specs.List.{flat_map, enumerate_from}
use Rattle.std.proofs.lemmas.List.{take_more, append-nil}
use Rattle.std.proofs.lemmas.List.FromFn.{length-enumerate_from}
use Rattle.std.proofs.lemmas.Grind.{flat_map-append}
use Rattle.taps_rank.proofs.Turned.{placed}

pub each_more : {X Y : Type 0} (f : X → List Y) (xs : List X) (i : ℕ) (x : X) (base before now : List Y) → i < length xs → get_or xs i x ≡ x
    → before ≡ base ++ flat_map f (take i xs) → now ≡ before ++ f x → now ≡ base ++ flat_map f (take (i + 1) xs)
each_more f xs i x base before now lt is so_far grown =
    grown
    ∙ ap (λ list. list ++ f x) so_far
    ∙ append_assoc base (flat_map f (take i xs)) (f x)
    ∙ ap (λ list. base ++ (flat_map f (take i xs) ++ list)) (sym (append-nil (f x)))
    ∙ ap (λ list. base ++ list) (sym (flat_map-append f (take i xs) (x ∷ [])))
    ∙ ap (λ list. base ++ flat_map f list) (ap (λ y. take i xs ++ y ∷ []) (sym is) ∙ sym (take_more xs i x lt))

-- the same for elements with their places
pub placed_more : {X Y : Type 0} (f : ℕ × X → List Y) (xs : List X) (i : ℕ) (x : X) (before now : List Y) → i < length xs → x ≡ get_or xs i x
    → before ≡ flat_map f (take i (enumerate_from 0 xs)) → now ≡ before ++ f (i, x) → now ≡ flat_map f (take (i + 1) (enumerate_from 0 xs))
placed_more f xs i x before now lt is so_far grown =
    let within : i < length (enumerate_from 0 xs) = rw (length-enumerate_from 0 xs) lt in
    each_more f (enumerate_from 0 xs) i (i, x) [] before now within (placed xs i x lt is) so_far grown
