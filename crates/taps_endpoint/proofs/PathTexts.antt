-- A path of a Unix socket is a text.
use Rattle.std.proofs.Common.{◌≡◌, ◌<◌, ℕ, suc, zero, List, [], ◌∷◌, true, IsUtf8, slice_index, arith}
use Rattle.std.proofs.lemmas.Str.{IsUtf8-from_ascii}
use Rattle.std.proofs.lemmas.Bool.{and_parts}
use Rattle.std.specs.List.{list_all}
use Rattle.taps_endpoint.specs.UnixPaths.{is_path_byte, IsUnixPath}

path_byte : (b : ℕ) → is_path_byte b ≡ true → b < 128
path_byte b h = grind arith

paths_are_ascii : (bytes : List ℕ) → list_all is_path_byte bytes ≡ true → (i : ℕ) → slice_index bytes i < 128
paths_are_ascii [] h i = grind arith
paths_are_ascii (x ∷ xs) h zero = path_byte x (and_parts (is_path_byte x) (list_all is_path_byte xs) h).0
paths_are_ascii (x ∷ xs) h (suc i) = paths_are_ascii xs (and_parts (is_path_byte x) (list_all is_path_byte xs) h).1 i

pub path_is_text : (path : List ℕ) → IsUnixPath path → IsUtf8 path
path_is_text path is = IsUtf8-from_ascii path (paths_are_ascii path is.visible)
