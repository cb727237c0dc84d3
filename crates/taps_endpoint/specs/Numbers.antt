-- The machine that reads a number in decimal, without leading zeros.
use Rattle.std.specs.Prelude.{ℕ, ◌+◌, ◌*◌, Bool, ◌&&◌, Option, Some, None, nat_le, if◌then◌else◌}

-- the byte is a decimal digit
abbrev pub is_digit : ℕ → Bool
is_digit b = nat_le 48 b && nat_le b 57

-- the number with a digit more, if it may be one from least to most
abbrev pub with_digit : ℕ → ℕ → Option ℕ → ℕ → Option ℕ
with_digit least most None digit = if nat_le least digit then Some digit else None
with_digit least most (Some n) digit =
    if nat_le 1 n && nat_le (10 * n + digit) most then Some (10 * n + digit) else None
