-- The order by rank keys (RFC 9623 section 4.1; the keys are local).
use Rattle.std.specs.Prelude.{ℕ, ◌==◌, List, [], ◌∷◌, Bool, Option, count_by, length, map}
use Rattle.std.specs.List.{find, filter_map, range_with_len, enumerate_from}
use Rattle.std.specs.Ordering.{nat_cmp, is_lt}
use Rattle.std.specs.Cmp.Lexicographic.{slice_cmp}
use Rattle.taps_endpoint.specs.declared.address.Family.{Family}
use Rattle.taps_rank.specs.Turns.{turn_of}

-- one key comes before another; earlier parts decide
abbrev pub comes_before : List ℕ → List ℕ → Bool
comes_before a b = is_lt (slice_cmp nat_cmp a b)

-- how many of the list have a smaller key
abbrev pub smaller_keys : {X : Type 0} → (X → List ℕ) → List X → X → ℕ
smaller_keys key xs x = count_by (λ other. comes_before (key other) (key x)) xs

-- the one with exactly this many smaller keys
abbrev pub ranked_at : {X : Type 0} → (X → List ℕ) → List X → ℕ → Option X
ranked_at key xs place = find (λ x. smaller_keys key xs x == place) xs

-- at each place the one with exactly as many smaller keys
unfoldable pub ranked : {X : Type 0} → (X → List ℕ) → List X → List X
ranked key xs = filter_map (ranked_at key xs) (range_with_len 0 (length xs))

-- round, side and place
abbrev pub turn_key : List (ℕ × Family) → ℕ × Family → List ℕ
turn_key addresses address = (turn_of addresses address).round ∷ (turn_of addresses address).side ∷ address.0 ∷ []

-- the places of addresses of these families, by their turns
abbrev pub places_in_order : List Family → List ℕ
places_in_order families =
    map (λ address. address.0) (ranked (turn_key (enumerate_from 0 families)) (enumerate_from 0 families))
