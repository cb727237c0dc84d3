-- A line as the parts that it is appended in.
use Rattle.std.specs.Prelude.{ℕ, List, [], ◌∷◌, ◌++◌, map}
use Rattle.std.specs.Fmt.{decimal}
use Rattle.taps_endpoint.specs.CanonicalTexts.{canonical_text}
use Rattle.taps_text.specs.BodyLines.{hex_text}
use Rattle.taps_text.specs.Printed.{printed}
use Rattle.taps_text.specs.declared.part.Part.{Part}
use Rattle.taps_text.specs.declared.part.Part.TheVariants.{Words, Number, Hex, Shown, Place}

-- what one part prints
abbrev pub part_text : Part → List ℕ
part_text (Words words) = words.now
part_text (Number words number) = words.now ++ decimal number
part_text (Hex bytes) = hex_text bytes.now
part_text (Shown bytes) = map printed bytes.now
part_text (Place address) = canonical_text address.now

-- what one part prints before the rest of a line
abbrev pub part_before : Part → List ℕ → List ℕ
part_before (Words words) rest = words.now ++ rest
part_before (Number words number) rest = words.now ++ (decimal number ++ rest)
part_before (Hex bytes) rest = hex_text bytes.now ++ rest
part_before (Shown bytes) rest = map printed bytes.now ++ rest
part_before (Place address) rest = canonical_text address.now ++ rest

-- what the parts print, one after the other
abbrev pub parts_text : List Part → List ℕ
parts_text [] = []
parts_text (part ∷ []) = part_text part
parts_text (part ∷ next ∷ rest) = part_before part (parts_text (next ∷ rest))
