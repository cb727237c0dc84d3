-- How bytes of names and keys are printed (local).
use Rattle.std.specs.Prelude.{ℕ, ◌&&◌, nat_le, if◌then◌else◌}

-- a visible character as it is, any other byte as `?`
abbrev pub printed : ℕ → ℕ
printed byte = if nat_le 33 byte && nat_le byte 126 then byte else 63
