-- The paths of Unix sockets (this project's own rule).
use Rattle.std.specs.Prelude.{◌≡◌, ℕ, ◌-◌, ◌≤◌, List, ◌++◌, Bool, ◌&&◌, true, length, take, replicate, nat_le}
use Rattle.std.specs.List.{list_all}
use Rattle.std.proofs.Common.{sym}
use Rattle.std.proofs.lemmas.List.{length-take-le}

-- a visible ASCII character
abbrev pub is_path_byte : ℕ → Bool
is_path_byte b = nat_le 33 b && nat_le b 126

-- from 1 to 107 of them
pub record IsUnixPath (path : List ℕ) : Type 0 where
  pub some : 1 ≤ length path
  pub most : length path ≤ 107
  pub visible : list_all is_path_byte path ≡ true

-- a path, with zeros behind it
abbrev pub padded : List ℕ → List ℕ
padded path = path ++ replicate (107 - length path) 0

-- these bytes are so many of a path, with zeros behind them
pub record IsPaddedFront (bytes : List ℕ) (count : ℕ) : Type 0 where
  pub visible : list_all is_path_byte (take count bytes) ≡ true
  pub whole : length bytes ≡ 107
  pub unused : bytes ≡ padded (take count bytes)
  pub fits : count ≤ 107

-- these bytes are a path of this length, with zeros behind it
pub record IsPadded (bytes : List ℕ) (count : ℕ) : Type 0 where
  pub is_path : IsUnixPath (take count bytes)
  pub whole : length bytes ≡ 107
  pub unused : bytes ≡ padded (take count bytes)
  pub fits : count ≤ 107

-- bytes that are so padded are given back by the path alone
pub padded_again : (bytes : List ℕ) (count : ℕ) → IsPadded bytes count → padded (take count bytes) ≡ bytes
padded_again bytes count h = sym h.unused

-- so many bytes of a padded path are its count
pub count_again : (bytes : List ℕ) (count : ℕ) → IsPadded bytes count → length (take count bytes) ≡ count
count_again bytes count h = length-take-le count bytes (rw h.whole h.fits)
