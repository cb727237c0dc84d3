-- Lengths in decimal without leading zeros, and one byte behind them.
use Rattle.std.specs.Prelude.{◌≡◌, ℕ, ◌+◌, ◌≤◌, true, max, List, [], ◌∷◌, ◌++◌, length, slice_index}
use Rattle.std.specs.Char.{is_ascii_digit}
use Rattle.std.specs.Str.{all_ascii_digits}
use Rattle.std.specs.Str.Parse.{digits_value}
use Rattle.std.specs.Fmt.{decimal}
use Rattle.std.specs.List.{take_while}
use Rattle.taps_frames.specs.Formats.{Format}

-- the digits that the bytes begin with
unfoldable pub leading_digits : List ℕ → List ℕ
leading_digits x = take_while is_ascii_digit x

-- the number that they write, or the least where it is less
unfoldable pub told_size : ℕ → List ℕ → ℕ
told_size least x = max least (digits_value 10 (leading_digits x))

-- the number that bytes write as digits in decimal
abbrev pub written_number : ℕ → List ℕ → ℕ
written_number i x = digits_value 10 x

-- heads of a length from the least on and a separator
abbrev pub decimal_format : List ℕ → ℕ → ℕ → List ℕ → Format
decimal_format name least separator tail = record {
  name = name;
  least = least;
  most = 65535;
  head = λ _ n. decimal n ++ separator ∷ [];
  told = λ _ x. told_size least x;
  width = λ _ x. length (leading_digits x) + 1;
  tail = tail;
}

-- the digits are the first ones of a length, if there are any, and write this number
pub record IsStarted (least : ℕ) (ds : List ℕ) (v : ℕ) : Type 0 where
  pub digits : all_ascii_digits ds ≡ true
  pub value : digits_value 10 ds ≡ v
  pub plain : slice_index ds 0 ≡ 48 → length ds ≡ 1
  pub large : 1 ≤ length ds → least ≤ v
  pub small : v ≤ 65535
