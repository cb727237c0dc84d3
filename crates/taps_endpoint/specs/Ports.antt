-- Texts in brackets (RFC 3986 section 3.2.2), and texts with a port, from 1, in decimal, without leading zeros.
use Rattle.std.specs.Prelude.{◌≡◌, ℕ, ◌≤◌, List, [], ◌∷◌, ◌++◌}
use Rattle.std.specs.Fmt.{decimal}

-- a text, and behind a `:` a port
pub record HasPort {A : Type 0} (IsText : A → List ℕ → Type 0) (value : A × ℕ) (text : List ℕ) : Type 0 where
  pub inside : List ℕ
  pub is_inside : IsText value.0 inside
  pub port_some : 1 ≤ value.1
  pub port_fits : value.1 ≤ 65535
  pub spelled : text ≡ inside ++ 58 ∷ decimal value.1

-- a text between `[` and `]`
pub record IsBracketed {A : Type 0} (IsText : A → List ℕ → Type 0) (value : A) (text : List ℕ) : Type 0 where
  pub inside : List ℕ
  pub is_inside : IsText value inside
  pub spelled : text ≡ 91 ∷ (inside ++ 93 ∷ [])
