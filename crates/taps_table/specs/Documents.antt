-- The document that a file's bytes are, by `toml`.
use Rattle.std.specs.Prelude.{ℕ, ◌+◌, List, Option, Some, None, Result, Ok, Err, if◌then◌else◌}
use Rattle.std.specs.Str.{is_utf8}
use Rattle.toml.specs.Data.{Items, no_items, item, Members, no_members, member}
use Rattle.toml.specs.Parse.{parse_document}
use Rattle.taps_table.specs.declared.pre_error.PreError.{PreError}
use Rattle.taps_table.specs.declared.pre_error.PreError.TheVariants.{NotToml}

-- the members of a text, if it is a document
abbrev pub of_text : Option Members → Result Members PreError
of_text None = Err NotToml
of_text (Some members) = Ok members

-- the members of the document that the bytes are: UTF-8, and TOML
unfoldable pub document : List ℕ → Result Members PreError
document bytes = if is_utf8 bytes then of_text (parse_document bytes) else Err NotToml

-- the number of items
abbrev pub count_items : Items → ℕ
count_items no_items = 0
count_items (item d ds) = count_items ds + 1

-- the number of members
abbrev pub count_members : Members → ℕ
count_members no_members = 0
count_members (member key d ms) = count_members ms + 1
