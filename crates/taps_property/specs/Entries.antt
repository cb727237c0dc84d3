-- Entries of a collection, each with a name of its own.
use Rattle.std.specs.Prelude.{ℕ, List, [], ◌∷◌, Bool, true, not, ◌&&◌, bytes_eq}
use Rattle.std.specs.List.{list_any}
use Rattle.taps_property.specs.declared.entry.Entry.{Entry}

-- one of the entries has this name
abbrev pub is_taken : List Entry → List ℕ → Bool
is_taken entries name = list_any (λ e. bytes_eq e.name name) entries

-- no two entries have one name
abbrev pub are_different : List Entry → Bool
are_different [] = true
are_different (e ∷ es) = not (is_taken es e.name) && are_different es
