-- The places of a file's framers on the shelf, which are found by their names (local).
use Rattle.std.specs.Prelude.{ℕ, ◌+◌, ◌<◌, ◌≤◌, List, [], ◌∷◌, ◌++◌, Option, Some, None, Result, Ok, Err, length, slice_get, bytes_eq, if◌then◌else◌}
use Rattle.std.specs.List.{All, filter_map}
use Rattle.taps_base.specs.Results.{◌>>=◌}
use Rattle.taps_framer.specs.Layers.{Layer}
use Rattle.taps_text.specs.declared.refusal.Refusal.{Refusal}
use Rattle.taps_text.specs.declared.refusal.Refusal.TheVariants as refusal

-- the place of the first framer with this name, where places are counted from a number on
abbrev pub place_from : ℕ → List ℕ → List Layer → Option ℕ
place_from place name [] = None
place_from place name (f ∷ fs) = if bytes_eq f.name name then Some place else place_from (place + 1) name fs

-- there is such a place, or the framer at this place of the file's list is not there
abbrev pub or_unknown : ℕ → Option ℕ → Result ℕ Refusal
or_unknown number None = Err (refusal.UnknownFramer number)
or_unknown number (Some place) = Ok place

-- the places of a file's framers, after those that were found before
abbrev pub places_after : List Layer → List ℕ → List (List ℕ) → Result (List ℕ) Refusal
places_after shelf found [] = Ok found
places_after shelf found (name ∷ names) =
    or_unknown (length found) (place_from 0 name shelf) >>= λ place. places_after shelf (found ++ place ∷ []) names

-- the places of a file's framers, or the first of them that is not there
unfoldable pub places_on : List Layer → List (List ℕ) → Result (List ℕ) Refusal
places_on shelf names = places_after shelf [] names

-- the places are places of the shelf, and no more than a chain may have
pub record IsOnShelf (shelf : List Layer) (places : List ℕ) : Type 0 where
  pub few : length places ≤ 8
  pub within : All (λ place. place < length shelf) places

-- the chain of the framers at these places
abbrev pub chain_of : List Layer → List ℕ → List Layer
chain_of shelf places = filter_map (slice_get shelf) places
