-- Where a file's framers stand on the shelf.
use Rattle.std.proofs.Common.{◌≡◌, ◌<◌, ◌≤◌, ◌+◌, ◌++◌, ℕ, List, [], ◌∷◌, Option, Some, None, Ok, refl, ap, inl, inr, length, map, slice_get, bytes_eq, length-append, arith}
use Rattle.std.specs.List.{All}
use Rattle.std.proofs.lemmas.Bool.{cases_Bool}
use Rattle.std.proofs.lemmas.List.Elements.{All-nil, All-cons, All-append}
use Rattle.taps_base.proofs.Results.{both_ok, ok_same}
use Rattle.taps_framer.specs.Layers.{Layer}
use Rattle.taps_command.specs.Places.{place_from, or_unknown, places_after, places_on, chain_of}

-- there is one place a name
places_counted : (shelf : List Layer) (found : List ℕ) (names : List (List ℕ)) (places : List ℕ) → places_after shelf found names ≡ Ok places → length places ≡ length found + length names
places_counted shelf found [] places h = rw (← ok_same found places h) (omega arith)
places_counted shelf found (name ∷ names) places h =
    let (place, there, more) = both_ok (or_unknown (length found) (place_from 0 name shelf)) (λ place. places_after shelf (found ++ place ∷ []) names) places h in
    omega (arith, places_counted shelf (found ++ place ∷ []) names places more, length-append found (place ∷ []))

pub few_places : (shelf : List Layer) (names : List (List ℕ)) (places : List ℕ) → length names ≤ 8 → places_on shelf names ≡ Ok places → length places ≤ 8
unfolding places_on
few_places shelf names places few h = omega (arith, few, places_counted shelf [] names places h)

-- a place that is found is one of the shelf
place_within : (from : ℕ) (name : List ℕ) (fs : List Layer) (place : ℕ) → place_from from name fs ≡ Some place → place < from + length fs
place_within from name [] place h = cc
place_within from name (f ∷ fs) place h = elim (cases_Bool (bytes_eq f.name name)) [
  | inl same ↦
      let here : Some from ≡ Some place = rw same at h in
      let at_it : from ≡ place = cc in
      omega (arith, at_it)
  | inr other ↦ omega (arith, place_within (from + 1) name fs place (rw other at h))
]

found_within : (number : ℕ) (o : Option ℕ) (place : ℕ) → or_unknown number o ≡ Ok place → o ≡ Some place
found_within number None place h = cc
found_within number (Some found) place h = cc

places_all : (shelf : List Layer) (found : List ℕ) (names : List (List ℕ)) (places : List ℕ) → All (λ place. place < length shelf) found → places_after shelf found names ≡ Ok places → All (λ place. place < length shelf) places
places_all shelf found [] places within h = rw (← ok_same found places h) within
places_all shelf found (name ∷ names) places within h =
    let (place, there, more) = both_ok (or_unknown (length found) (place_from 0 name shelf)) (λ place. places_after shelf (found ++ place ∷ []) names) places h in
    let one : place < length shelf = omega (arith, place_within 0 name shelf place (found_within (length found) (place_from 0 name shelf) place there)) in
    places_all shelf (found ++ place ∷ []) names places (All-append (λ place. place < length shelf) found (place ∷ []) within (All-cons (λ place. place < length shelf) place [] one (All-nil (λ place. place < length shelf)))) more

pub places_within : (shelf : List Layer) (names : List (List ℕ)) (places : List ℕ) → places_on shelf names ≡ Ok places → All (λ place. place < length shelf) places
unfolding places_on
places_within shelf names places h = places_all shelf [] names places (All-nil (λ place. place < length shelf)) h

-- the layers that stand at places are those
pub layers_there : (shelf : List Layer) (places : List ℕ) (layers : List Layer) → map Some layers ≡ map (slice_get shelf) places → layers ≡ chain_of shelf places
layers_there shelf [] [] h = refl
layers_there shelf [] (f ∷ fs) h = cc
layers_there shelf (place ∷ places) [] h = cc
layers_there shelf (place ∷ places) (f ∷ fs) h =
    let here : Some f ≡ slice_get shelf place = cc in
    let more : map Some fs ≡ map (slice_get shelf) places = cc in
    rw (← here) (ap (λ (l : List Layer). f ∷ l) (layers_there shelf places fs more))
