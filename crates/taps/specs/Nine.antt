-- The program's shelf (local).
use Rattle.std.specs.Prelude.{ℕ, List, [], ◌∷◌, codes}

-- the names of the nine framers, in their order
abbrev pub nine : List (List ℕ)
nine =
    codes "len16" ∷ codes "len32" ∷ codes "varint" ∷ codes "netstring" ∷ codes "counted"
    ∷ codes "line" ∷ codes "stuffed" ∷ codes "tag" ∷ codes "seq" ∷ []
