-- The framers whose heads are in decimal.
use Rattle.std.proofs.Common.{ℕ, ◌≤◌, [], ◌∷◌, ◌++◌, length, refl, arith, length-append}
use Rattle.std.specs.Prelude.{codes}
use Rattle.std.specs.Fmt.{decimal}
use Rattle.std.proofs.lemmas.Fmt.{length-decimal-le}
use Rattle.taps_frames.specs.Decimals.{written_number}
use Rattle.taps_frames.specs.Scans.{IsLawfulFormat}
use Rattle.taps_frames.specs.Counted.{counted_format}
use Rattle.taps_frames.specs.Netstring.{netstring_format}
use Rattle.taps_frames.proofs.DecimalHeads.{decimal_heads}

-- a head is short
short_head : (n c : ℕ) → n ≤ 65535 → length (decimal n ++ c ∷ []) ≤ 6
short_head n c h = omega (arith, length-append (decimal n) (c ∷ []), length-decimal-le 5 n (omega arith) (omega arith) (omega arith))

pub counted_lawful : IsLawfulFormat counted_format written_number
counted_lawful = record {
  heads = decimal_heads (codes "counted") 1 32 [] (omega arith) refl;
  bounded = λ i n l. let h = l.to in omega (arith, h, short_head n 32 h);
  one = omega arith;
  nothing = λ i. refl;
}

pub netstring_lawful : IsLawfulFormat netstring_format written_number
netstring_lawful = record {
  heads = decimal_heads (codes "netstring") 0 58 (44 ∷ []) (omega arith) refl;
  bounded = λ i n l. let h = l.to in omega (arith, h, short_head n 58 h);
  one = omega arith;
  nothing = λ i. refl;
}
