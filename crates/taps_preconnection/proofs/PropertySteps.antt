-- Setting the properties of a table one after the other, as a loop does.
use Rattle.std.proofs.Common.{◌≡◌, ℕ, ◌+◌, ◌<◌, ◌≤◌, List, [], length, drop, get_or, Result, Ok, refl, sym, ◌∙◌}
use Rattle.std.proofs.lemmas.List.{drop_all, drop_more}
use Rattle.toml.specs.Data.{Members}
use Rattle.taps_property.specs.Properties.{Key, listed_keys}
use Rattle.taps_property.specs.declared.property.Property.{Property}
use Rattle.taps_preconnection.specs.PropertyTables.{Setter, property_at, properties_at}
use Rattle.taps_base.specs.Results.{◌>>=◌}
use Rattle.taps_table.specs.Refusals.{Refuses}
use Rattle.taps_table.specs.declared.pre_error.PreError.{PreError}
use Rattle.taps_table.proofs.Refusals.{refuses_on}

abbrev pub key_at : Property → Key
key_at p = record { name = p.0.now; kind = p.1 }

module _ {Set : Type 0} (sets : Setter Set) (all : List Property) (index : ℕ) (d : Property) (path : List ℕ) (ms : Members) (props : Set) (total : Result Set PreError) where
  here : index < length all → properties_at sets (listed_keys (drop index all)) path ms props ≡ total
      → (property_at sets (key_at (get_or all index d)) path ms props >>= λ s. properties_at sets (listed_keys (drop (index + 1) all)) path ms s) ≡ total
  unfolding properties_at
  here lt so_far = rw (drop_more all index d lt) at so_far

  pub set_on : (after : Set) → index < length all → properties_at sets (listed_keys (drop index all)) path ms props ≡ total
      → property_at sets (key_at (get_or all index d)) path ms props ≡ Ok after → properties_at sets (listed_keys (drop (index + 1) all)) path ms after ≡ total
  set_on after lt so_far h = rw h at (here lt so_far)

  pub set_no_more : (e : PreError) → index < length all → properties_at sets (listed_keys (drop index all)) path ms props ≡ total
      → Refuses e (property_at sets (key_at (get_or all index d)) path ms props) → Refuses e total
  set_no_more e lt so_far h = refuses_on e (property_at sets (key_at (get_or all index d)) path ms props) _ total h (here lt so_far)

pub all_set : {Set : Type 0} (sets : Setter Set) (all : List Property) (index : ℕ) (path : List ℕ) (ms : Members) (props : Set) (total : Result Set PreError)
    → length all ≤ index → properties_at sets (listed_keys (drop index all)) path ms props ≡ total → total ≡ Ok props
unfolding properties_at
all_set sets all index path ms props total le so_far =
    let none : drop index all ≡ [] = drop_all index all le in
    sym so_far ∙ rw none refl
