-- Which bytes are a document, and how many parts a value has.
use Rattle.std.proofs.Common.{◌≡◌, ℕ, List, [], ◌∷◌, Some, None, Ok, Err, refl, inl, inr, IsUtf8, arith, length}
use Rattle.std.proofs.lemmas.Bool.{cases_Bool}
use Rattle.std.proofs.lemmas.Str.{IsUtf8-from_is_utf8, is_utf8-from_IsUtf8}
use Rattle.std.specs.Str.{is_utf8}
use Rattle.toml.specs.Data.{Members}
use Rattle.toml.specs.Parse.{parse_document}
use Rattle.toml.specs.declared.value.Value.{Value}
use Rattle.toml.specs.View.{items_view, members_view}
use Rattle.toml.proofs.Views.{Entry}
use Rattle.taps_table.specs.Documents.{document, count_items, count_members}
use Rattle.taps_table.specs.declared.pre_error.PreError.TheVariants.{NotToml}

pub document_refused : (bytes : List ℕ) → (IsUtf8 bytes → parse_document bytes ≡ None) → document bytes ≡ Err NotToml
unfolding document
document_refused bytes refused = elim (cases_Bool (is_utf8 bytes)) [ inl valid ↦ rw (valid, refused (IsUtf8-from_is_utf8 bytes valid)) | inr other ↦ rw other ]

pub document_read : (bytes : List ℕ) (members : Members) → IsUtf8 bytes → parse_document bytes ≡ Some members → document bytes ≡ Ok members
unfolding document
document_read bytes _ valid parsed = rw (is_utf8-from_IsUtf8 bytes valid, parsed)

pub count_items_view : (values : List Value) → count_items (items_view values) ≡ length values
count_items_view [] = refl
count_items_view (value ∷ values) = rw (count_items_view values) (omega arith)

pub count_members_view : (entries : List Entry) → count_members (members_view entries) ≡ length entries
count_members_view [] = refl
count_members_view (entry ∷ entries) = rw (count_members_view entries) (omega arith)
