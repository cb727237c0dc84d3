-- What two calls leave of a text, one after the other.
use Rattle.std.proofs.Common.{◌≡◌, ◌≤◌, ℕ, length, take, List, [], ◌∷◌, ◌++◌, refl, sym, ap, ◌∙◌, append_assoc}
use Rattle.std.specs.List.{flat_map}
use Rattle.std.specs.Fmt.{decimal}
use Rattle.std.proofs.lemmas.List.{append-nil, take_all}
use Rattle.taps_text.specs.declared.part.Part.{Part}
use Rattle.taps_text.specs.declared.part.Part.TheVariants.{Words, Number, Hex, Shown, Place}
use Rattle.taps_text.specs.Appends.{Continues}
use Rattle.taps_text.specs.Parts.{part_text, part_before, parts_text}

-- a part before the rest of a line
before_is : (part : Part) (rest : List ℕ) → part_before part rest ≡ part_text part ++ rest
before_is (Words words) rest = refl
before_is (Number words number) rest = sym (append_assoc words.now (decimal number) rest)
before_is (Hex bytes) rest = refl
before_is (Shown bytes) rest = refl
before_is (Place address) rest = refl

-- the text of parts is that of each, one after the other
pub parts_are : (parts : List Part) → flat_map part_text parts ≡ parts_text parts
parts_are [] = refl
parts_are (part ∷ []) = append-nil (part_text part)
parts_are (part ∷ next ∷ rest) = rw (before_is part (parts_text (next ∷ rest)), ← parts_are (next ∷ rest)) refl

-- all parts were appended
pub all_parts : (before after : List ℕ) (parts : List Part) (count : ℕ) → length parts ≤ count → after ≡ before ++ flat_map part_text (take count parts) → after ≡ before ++ parts_text parts
all_parts before after parts count le is = is ∙ rw (take_all count parts le, parts_are parts) refl

-- a text continues itself, and what continues it, too
pub continues_none : (text : List ℕ) → Continues text text
continues_none text = record { more = []; is = sym (append-nil text) }

pub continues_on : (first before after line : List ℕ) → Continues first before → after ≡ before ++ line → Continues first after
continues_on first before after line c e = record { more = c.more ++ line; is = e ∙ ap (λ v. v ++ line) c.is ∙ append_assoc first c.more line }

pub continues_far : (first before after : List ℕ) → Continues first before → Continues before after → Continues first after
continues_far first before after c d = continues_on first before after d.more c d.is
