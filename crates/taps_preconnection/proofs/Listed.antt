-- The names of a set's properties.
use Rattle.std.proofs.Common.{◌≡◌, ℕ, List, [], ◌∷◌, ◌||◌, bytes_eq, refl, ap}
use Rattle.std.specs.List.{list_any}
use Rattle.taps_property.specs.Properties.{key_names, listed_keys}
use Rattle.taps_property.specs.declared.property.Property.{Property}
use Rattle.taps_table.specs.Keys.{is_among}

pub is_among_properties : (properties : List Property) (key : List ℕ) → is_among (key_names (listed_keys properties)) key ≡ list_any (λ p. bytes_eq p.0.now key) properties
unfolding is_among
is_among_properties [] key = refl
is_among_properties (p ∷ ps) key = ap (λ b. bytes_eq p.0.now key || b) (is_among_properties ps key)
