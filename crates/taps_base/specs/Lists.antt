-- What contracts see of a list.
use Rattle.std.specs.Prelude.{ℕ, List}

-- its items, and how many pushes cannot fail
pub record ListState (T : Type 0) : Type 0 where
  pub items : List T
  pub spare : ℕ

-- these items, and no room for more
abbrev pub filled : {T : Type 0} → List T → ListState T
filled items = record { items = items; spare = 0 }
