-- The texts of IPv4 addresses (RFC 3986 section 3.2.2: the dotted form, without leading zeros).
use Rattle.std.specs.Prelude.{◌≡◌, ℕ, ◌≤◌, List, [], ◌∷◌, ◌++◌}
use Rattle.std.specs.Fmt.{decimal}

-- four numbers joined by `.`
abbrev pub dotted : ℕ → ℕ → ℕ → ℕ → List ℕ
dotted a b c d = decimal a ++ 46 ∷ (decimal b ++ 46 ∷ (decimal c ++ 46 ∷ decimal d))

-- the text is the one of these four octets
pub record IsInet4Text (octets text : List ℕ) : Type 0 where
  pub a : ℕ
  pub b : ℕ
  pub c : ℕ
  pub d : ℕ
  pub are : octets ≡ a ∷ b ∷ c ∷ d ∷ []
  pub a_fits : a ≤ 255
  pub b_fits : b ≤ 255
  pub c_fits : c ≤ 255
  pub d_fits : d ≤ 255
  pub spelled : text ≡ dotted a b c d
