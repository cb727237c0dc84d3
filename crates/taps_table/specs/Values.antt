-- Values by their kinds: an integer, a flag, a text, a word, an array, a table.
use Rattle.std.specs.Prelude.{ℕ, pos, negsuc, List, [], ◌∷◌, ◌++◌, Bool, ◌&&◌, Option, Some, None, Result, Ok, Err, length, nat_le, if◌then◌else◌}
use Rattle.toml.specs.Data.{Data, string, integer, boolean, Items, no_items, item, Members, as_array, as_table}
use Rattle.taps_base.specs.Lists.{ListState, filled}
use Rattle.taps_base.specs.Names.{is_name}
use Rattle.taps_table.specs.Documents.{count_items}
use Rattle.taps_table.specs.Places.{item_text}
use Rattle.taps_base.specs.Results.{◌>>=◌}
use Rattle.taps_table.specs.declared.pre_error.PreError.{PreError}
use Rattle.taps_table.specs.declared.pre_error.PreError.TheVariants.{WrongKind, OutOfRange, TooMany}

-- what reads a value at a place with this text
abbrev pub Reader : Type 0 → Type 0
Reader A = List ℕ → Data → Result A PreError

-- an integer from low to high
abbrev pub number_of : ℕ → ℕ → Reader ℕ
number_of low high path (integer (pos n)) = if nat_le low n && nat_le n high then Ok n else Err (OutOfRange path)
number_of low high path (integer (negsuc n)) = Err (OutOfRange path)
number_of low high path d = Err (WrongKind path)

-- a yes or no
abbrev pub flag_of : Reader Bool
flag_of path (boolean b) = Ok b
flag_of path d = Err (WrongKind path)

-- a string
abbrev pub text_of : Reader (List ℕ)
text_of path (string text) = Ok text
text_of path d = Err (WrongKind path)

-- the name that a text is
abbrev pub name_at : List ℕ → List ℕ → Result (List ℕ) PreError
name_at path text = if is_name text then Ok text else Err (OutOfRange path)

-- a name
abbrev pub name_of : Reader (List ℕ)
name_of path (string text) = name_at path text
name_of path d = Err (WrongKind path)

-- the items of an array after those that were read before
unfoldable pub items_after : {A : Type 0} → (List A → Reader A) → List ℕ → List A → Items → Result (List A) PreError
items_after reads path before no_items = Ok before
items_after reads path before (item d ds) =
    reads before (item_text path (length before)) d >>= λ x. items_after reads path (before ++ x ∷ []) ds

-- at most this many items, each read after those before it
abbrev pub array_in : {A : Type 0} → ℕ → (List A → Reader A) → List ℕ → Option Items → Result (ListState A) PreError
array_in most reads path None = Err (WrongKind path)
array_in most reads path (Some ds) =
    if nat_le (count_items ds) most then (items_after reads path [] ds >>= λ items. Ok (filled items))
    else Err (TooMany path (count_items ds))

-- an array of at most this many items, each read by what stands before it
unfoldable pub array_of : {A : Type 0} → ℕ → (List A → Reader A) → Reader (ListState A)
array_of most reads path d = array_in most reads path (as_array d)

-- each item read by itself
abbrev pub each : {A : Type 0} → Reader A → List A → Reader A
each reads before = reads

-- the members of a table
abbrev pub table_in : {A : Type 0} → (List ℕ → Members → Result A PreError)
    → List ℕ → Option Members → Result A PreError
table_in at path None = Err (WrongKind path)
table_in at path (Some ms) = at path ms

-- a table
unfoldable pub table_of : {A : Type 0} → (List ℕ → Members → Result A PreError) → Reader A
table_of at path d = table_in at path (as_table d)
