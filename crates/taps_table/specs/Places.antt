-- The text of a place in a document, which refusals name (local).
use Rattle.std.specs.Prelude.{ℕ, List, [], ◌∷◌, ◌++◌, codes}
use Rattle.std.specs.Fmt.{decimal}
use Rattle.taps_table.specs.declared.place.Place.{Place, Top, Key', Item'}

-- the text of a key in the table with this text
abbrev pub key_text : List ℕ → List ℕ → List ℕ
key_text [] key = key
key_text (b ∷ bs) key = (b ∷ bs) ++ 46 ∷ key

-- the text of an item in the array with this text
abbrev pub item_text : List ℕ → ℕ → List ℕ
item_text path index = path ++ (codes "[" ++ (decimal index ++ codes "]"))

-- the text of a place: keys are joined by `.`, and an item has its index in brackets
abbrev pub place_text : Place → List ℕ
place_text Top = []
place_text (Key' pointer table key) = key_text (place_text table) key.now
place_text (Item' pointer array index) = item_text (place_text array) index
