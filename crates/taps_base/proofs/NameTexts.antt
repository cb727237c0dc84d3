-- A name is a text.
use Rattle.std.proofs.Common.{◌≡◌, ◌<◌, ℕ, suc, zero, List, [], ◌∷◌, Bool, true, false, ◌&&◌, IsUtf8, slice_index, refl, arith}
use Rattle.std.proofs.lemmas.Str.{IsUtf8-from_ascii}
use Rattle.std.specs.List.{list_all}
use Rattle.taps_base.specs.Names.{is_name_byte, is_name}

name_byte : (b : ℕ) → is_name_byte b ≡ true → b < 128
name_byte b h = grind arith

and_first : (a b : Bool) → a && b ≡ true → a ≡ true
and_first true b h = refl
and_first false b h = h

and_second : (a b : Bool) → a && b ≡ true → b ≡ true
and_second true b h = h
and_second false b h = cc

names_are_ascii : (bytes : List ℕ) → list_all is_name_byte bytes ≡ true → (i : ℕ) → slice_index bytes i < 128
names_are_ascii [] h i = grind arith
names_are_ascii (x ∷ xs) h zero = name_byte x (and_first _ _ h)
names_are_ascii (x ∷ xs) h (suc i) = names_are_ascii xs (and_second _ _ h) i

pub name_is_text : (bytes : List ℕ) → is_name bytes ≡ true → IsUtf8 bytes
name_is_text bytes h = IsUtf8-from_ascii bytes (names_are_ascii bytes (and_second _ _ h))
