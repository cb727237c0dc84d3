-- What a reading gave: what was read before, how many items, a number of a range.
use Rattle.std.proofs.Common.{◌≡◌, ℕ, pos, negsuc, ◌+◌, ◌≤◌, List, [], ◌∷◌, ◌++◌, Option, Some, None, Result, Ok, ap, ◌∙◌, inl, inr, length, leb, arith, length-append}
use Rattle.std.specs.Prelude.{unwrap_or}
use Rattle.std.proofs.lemmas.Bool.{cases_Bool, leb-true}
use Rattle.toml.specs.Data.{Data, integer, Items, no_items, item, Members, get_member, as_array, as_table}
use Rattle.taps_base.specs.Lists.{ListState, filled}
use Rattle.taps_table.specs.Documents.{count_items}
use Rattle.taps_base.proofs.Results.{both_ok}
use Rattle.taps_table.specs.Places.{key_text, item_text}
use Rattle.taps_table.specs.Keys.{Keys, read_if_there, value_at, key, ◌&◌, refuse_unknown, least_unknown, keys_of}
use Rattle.taps_base.specs.Results.{◌>>=◌}
use Rattle.taps_table.specs.Values.{Reader, number_of, items_after, array_in, array_of, table_in, table_of}
use Rattle.taps_table.specs.declared.pre_error.PreError.{PreError}

-- what was read of the first of two keys, and of the second
pub first_read : {A B : Type 0} (a : Keys A) (b : Keys B) (path : List ℕ) (ms : Members) (t : A × B) → (a & b).reads path ms ≡ Ok t → a.reads path ms ≡ Ok t.0
first_read a b path ms t h =
    let (x, read, more) = both_ok (a.reads path ms) (λ x. b.reads path ms >>= λ y. Ok (x, y)) t h in
    let (y, also, made) = both_ok (b.reads path ms) (λ y. Ok (x, y)) t more in
    let pair : (x, y) ≡ t = cc in
    read ∙ ap (λ p. Ok p.0) pair

pub second_read : {A B : Type 0} (a : Keys A) (b : Keys B) (path : List ℕ) (ms : Members) (t : A × B) → (a & b).reads path ms ≡ Ok t → b.reads path ms ≡ Ok t.1
second_read a b path ms t h =
    let (x, read, more) = both_ok (a.reads path ms) (λ x. b.reads path ms >>= λ y. Ok (x, y)) t h in
    let (y, also, made) = both_ok (b.reads path ms) (λ y. Ok (x, y)) t more in
    let pair : (x, y) ≡ t = cc in
    also ∙ ap (λ p. Ok p.1) pair

-- what was read at the keys of a table, none of which is unknown
pub keys_read : {A : Type 0} (keys : Keys A) (path : List ℕ) (ms : Members) (t : A) → keys_of keys path ms ≡ Ok t → keys.reads path ms ≡ Ok t
unfolding keys_of
keys_read keys path ms t h = (both_ok (refuse_unknown path (least_unknown keys.names ms)) (λ _. keys.reads path ms) t h).2

-- what was read at a key that is there
pub there_read : {A : Type 0} (reads : Reader A) (path : List ℕ) (d : Option Data) (x : A) → read_if_there reads path d ≡ Ok (Some x) → (e : Data) × (reads path e ≡ Ok x)
there_read reads path None x h = cc
there_read reads path (Some d) x h =
    let (found, read, made) = both_ok (reads path d) (λ y. Ok (Some y)) (Some x) h in
    let same : found ≡ x = cc in
    (d, read ∙ ap Ok same)

pub value_read : {A : Type 0} (name : List ℕ) (reads : Reader A) (path : List ℕ) (ms : Members) (x : A) → (key name reads).reads path ms ≡ Ok (Some x) → (e : Data) × (reads (key_text path name) e ≡ Ok x)
unfolding value_at
value_read name reads path ms x h = there_read reads (key_text path name) (get_member name ms) x h

-- what was read of a table
pub in_table : {A : Type 0} (at : List ℕ → Members → Result A PreError) (path : List ℕ) (d : Data) (x : A) → table_of at path d ≡ Ok x → (ms : Members) × (at path ms ≡ Ok x)
unfolding table_of
in_table at path d x h = in_some (as_table d) h
  where
    in_some : (ms : Option Members) → table_in at path ms ≡ Ok x → (ms : Members) × (at path ms ≡ Ok x)
    in_some None h = cc
    in_some (Some ms) h = (ms, h)

items_counted : {A : Type 0} (reads : List A → Reader A) (path : List ℕ) (before xs : List A) (ds : Items) → items_after reads path before ds ≡ Ok xs → length xs ≡ length before + count_items ds
unfolding items_after
items_counted reads path before xs no_items h =
    let same : before ≡ xs = cc in
    rw (← same) (omega arith)
items_counted reads path before xs (item d ds) h =
    let (x, read, more) = both_ok (reads before (item_text path (length before)) d) (λ x. items_after reads path (before ++ x ∷ []) ds) xs h in
    omega (arith, items_counted reads path (before ++ x ∷ []) xs ds more, length-append before (x ∷ []))

array_few : {A : Type 0} (most : ℕ) (reads : List A → Reader A) (path : List ℕ) (ds : Option Items) (list : ListState A) → array_in most reads path ds ≡ Ok list → length list.items ≤ most
array_few most reads path None list h = cc
array_few most reads path (Some ds) list h = elim (cases_Bool (leb (count_items ds) most)) [
  | inl fits ↦
      let (xs, read, made) = both_ok (items_after reads path [] ds) (λ items. Ok (filled items)) list (rw fits at h) in
      let same : filled xs ≡ list = cc in
      let counted = items_counted reads path [] xs ds read in
      rw (← same) (omega (arith, counted, leb-true (count_items ds) most fits))
  | inr many ↦ let wrong = rw many at h in cc
]

-- an array has at most so many items, and one that is missing has none
pub some_few : {A : Type 0} (name : List ℕ) (most : ℕ) (reads : List A → Reader A) (path : List ℕ) (ms : Members) (list : ListState A) → (key name (array_of most reads)).reads path ms ≡ Ok (Some list) → length list.items ≤ most
unfolding array_of
some_few name most reads path ms list h =
    let (d, read) = value_read name (array_of most reads) path ms list h in
    array_few most reads (key_text path name) (as_array d) list read

pub few_items : {A : Type 0} (name : List ℕ) (most : ℕ) (reads : List A → Reader A) (path : List ℕ) (ms : Members) (found : Option (ListState A)) → (key name (array_of most reads)).reads path ms ≡ Ok found → length (unwrap_or found (filled [])).items ≤ most
few_items name most reads path ms None h = omega arith
few_items name most reads path ms (Some list) h = some_few name most reads path ms list h

-- a number of a range
abbrev pub IsFrom : ℕ → ℕ → ℕ → Type 0
IsFrom low high n = (low ≤ n) × (n ≤ high)

number_from : (low high : ℕ) (path : List ℕ) (d : Data) (n : ℕ) → number_of low high path d ≡ Ok n → IsFrom low high n
number_from low high path (integer (pos m)) n h = elim (cases_Bool (leb low m)) [
  | inl least ↦ elim (cases_Bool (leb m high)) [
    | inl most ↦
        let given = rw (least, most) at h in
        let same : m ≡ n = cc in
        (omega (arith, leb-true low m least), omega (arith, leb-true m high most))
    | inr more ↦ let wrong = rw (least, more) at h in cc
  ]
  | inr less ↦ let wrong = rw less at h in cc
]
number_from low high path (integer (negsuc m)) n h = cc
number_from low high path d n h = cc

-- one that is there is of its range, and so is its default
pub some_from : (name : List ℕ) (low high : ℕ) (path : List ℕ) (ms : Members) (n : ℕ) → (key name (number_of low high)).reads path ms ≡ Ok (Some n) → IsFrom low high n
some_from name low high path ms n h =
    let (d, read) = value_read name (number_of low high) path ms n h in
    number_from low high (key_text path name) d n read

pub from_default : (name : List ℕ) (low high default : ℕ) (path : List ℕ) (ms : Members) (found : Option ℕ) → IsFrom low high default → (key name (number_of low high)).reads path ms ≡ Ok found → IsFrom low high (unwrap_or found default)
from_default name low high default path ms None fits h = fits
from_default name low high default path ms (Some n) fits h = some_from name low high path ms n h
