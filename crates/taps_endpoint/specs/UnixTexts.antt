-- The texts of Unix addresses (this project's own rule), and the machine that reads them.
use Rattle.std.specs.Prelude.{◌≡◌, ℕ, ◌==◌, List, [], ◌∷◌, ◌++◌, ◌&&◌, length, codes, Option, Some, None, nat_le, nat_lt, if◌then◌else◌}
use Rattle.taps_endpoint.specs.UnixPaths.{is_path_byte, IsUnixPath}
use Rattle.taps_endpoint.specs.declared.unix.Unfinished.{Unfinished}
use Rattle.taps_endpoint.specs.declared.unix.Unfinished.TheVariants.{Start, U, Un, Uni, Unix, Path}

-- `unix:` and a path
pub record IsUnixText (path text : List ℕ) : Type 0 where
  pub is_path : IsUnixPath path
  pub spelled : text ≡ codes "unix:" ++ path

-- the state behind one more byte
unfoldable pub step_unix : Unfinished → ℕ → Option Unfinished
step_unix Start b = if b == 117 then Some U else None
step_unix U b = if b == 110 then Some Un else None
step_unix Un b = if b == 105 then Some Uni else None
step_unix Uni b = if b == 120 then Some Unix else None
step_unix Unix b = if b == 58 then Some (Path []) else None
step_unix (Path path) b = if nat_lt (length path) 107 && is_path_byte b then Some (Path (path ++ b ∷ [])) else None

-- the path that was read, at the end of the text
unfoldable pub at_end_unix : Unfinished → Option (List ℕ)
at_end_unix (Path path) = if nat_le 1 (length path) then Some path else None
at_end_unix Start = None
at_end_unix U = None
at_end_unix Un = None
at_end_unix Uni = None
at_end_unix Unix = None

-- nothing further is known of a state
abbrev pub IsAny : Unfinished → Type 0
IsAny r = Unit {0}
