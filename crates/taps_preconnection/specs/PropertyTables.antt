-- Tables whose keys are properties: each is read by its kind and set, in the order of its set's table.
use Rattle.std.specs.Prelude.{ℕ, pos, negsuc, List, [], ◌∷◌, not, Option, Some, None, Result, Ok, Err, bytes_eq, codes, if◌then◌else◌}
use Rattle.toml.specs.Data.{string, integer, Members}
use Rattle.taps_base.specs.Lists.{ListState}
use Rattle.taps_property.specs.Entries.{is_taken}
use Rattle.taps_property.specs.Kinds.{word}
use Rattle.taps_property.specs.Properties.{Key, key_names}
use Rattle.taps_property.specs.declared.entry.Entry.{Entry}
use Rattle.taps_property.specs.declared.kind.Kind.{Kind}
use Rattle.taps_property.specs.declared.kind.Kind.TheVariants as kind
use Rattle.taps_property.specs.declared.kind.NoLimit.{NoLimit}
use Rattle.taps_property.specs.declared.prop_error.PropError.{PropError}
use Rattle.taps_property.specs.declared.prop_value.PropValue.{PropValue}
use Rattle.taps_property.specs.declared.prop_value.PropValue.TheVariants as value
use Rattle.taps_table.specs.Keys.{Keys, key, ◌&◌, keys_of, value_at, present, rule}
use Rattle.taps_table.specs.Places.{key_text}
use Rattle.taps_base.specs.Results.{◌>>=◌}
use Rattle.taps_table.specs.Values.{Reader, flag_of, name_of, array_of, table_of}
use Rattle.taps_table.specs.Words.{word_of}
use Rattle.taps_preconnection.specs.Words.{preference_words, multipath_words, direction_words, scheduler_words, capacity_words, policy_words}
use Rattle.taps_table.specs.declared.pre_error.PreError.{PreError}
use Rattle.taps_table.specs.declared.pre_error.PreError.TheVariants.{WrongKind, OutOfRange}

-- a name that stands in no earlier entry
unfoldable pub fresh_name : List Entry → Reader (List ℕ)
fresh_name before path d = do
  name ← name_of path d
  _ ← rule path (not (is_taken before name))
  Ok name

-- an entry of a collection
unfoldable pub entry_at : List Entry → List ℕ → Members → Result Entry PreError
entry_at before path ms = do
  (name, preference) ← keys_of (
      key (codes "name") (fresh_name before)
      & key (codes "preference") (word_of preference_words)
      ) path ms
  name ← present path name
  preference ← present path preference
  Ok (record { preference = preference; name = name })

-- entries of different names
abbrev pub collection_of : Reader (ListState Entry)
collection_of = array_of 8 (λ before. table_of (entry_at before))

-- a number, of which the property knows the range
abbrev pub natural_of : Reader ℕ
natural_of path (integer (pos n)) = Ok n
natural_of path (integer (negsuc n)) = Err (OutOfRange path)
natural_of path d = Err (WrongKind path)

-- a number, or the word that stands for no limit
abbrev pub limit_of : NoLimit → Reader (Option ℕ)
limit_of no_limit path (integer (pos n)) = Ok (Some n)
limit_of no_limit path (integer (negsuc n)) = Err (OutOfRange path)
limit_of no_limit path (string text) = if bytes_eq text (word no_limit) then Ok None else Err (OutOfRange path)
limit_of no_limit path d = Err (WrongKind path)

-- a value of one kind as a value of a property
abbrev pub as_value : {A : Type 0} → (A → PropValue) → Reader A → Reader PropValue
as_value value reads path d = reads path d >>= λ x. Ok (value x)

-- a value of this kind
unfoldable pub property_of : Kind → Reader PropValue
property_of kind.Preference = as_value value.Pref (word_of preference_words)
property_of kind.Flag = as_value value.Flag flag_of
property_of kind.Number = as_value value.Number natural_of
property_of (kind.Limit no_limit) = as_value value.Limit (limit_of no_limit)
property_of kind.Multipath = as_value value.Multipath (word_of multipath_words)
property_of kind.Direction = as_value value.Direction (word_of direction_words)
property_of kind.Scheduler = as_value value.Scheduler (word_of scheduler_words)
property_of kind.Capacity = as_value value.Capacity (word_of capacity_words)
property_of kind.Policy = as_value value.Policy (word_of policy_words)
property_of kind.State = λ path d. Err (WrongKind path)
property_of kind.Entries = as_value value.Entries collection_of

-- how a set of properties answers to setting one of them
abbrev pub Setter : Type 0 → Type 0
Setter Set = Set → List ℕ → PropValue → Result Set PropError

-- what is not taken is out of range, since its kind is right
abbrev pub taken_at : {Set : Type 0} → List ℕ → Result Set PropError → Result Set PreError
taken_at path (Ok set) = Ok set
taken_at path (Err e) = Err (OutOfRange path)

-- the set with this value, if there is one
abbrev pub set_if_there : {Set : Type 0} → Setter Set → Set → List ℕ → List ℕ → Option PropValue → Result Set PreError
set_if_there sets set path name None = Ok set
set_if_there sets set path name (Some value) = taken_at (key_text path name) (sets set name value)

-- the set with this property, if the table has it
unfoldable pub property_at : {Set : Type 0} → Setter Set → Key → List ℕ → Members → Set → Result Set PreError
property_at sets key path ms set =
    value_at key.name (property_of key.kind) path ms >>= λ value. set_if_there sets set path key.name value

-- the set with each of these properties that the table has, in their order
unfoldable pub properties_at : {Set : Type 0} → Setter Set → List Key → List ℕ → Members → Set → Result Set PreError
properties_at sets [] path ms set = Ok set
properties_at sets (key ∷ keys) path ms set =
    property_at sets key path ms set >>= λ set. properties_at sets keys path ms set

-- the keys of these properties, which are set over what stood before
abbrev pub properties : {Set : Type 0} → Setter Set → List Key → Set → Keys Set
properties sets keys start = record { names = key_names keys; reads = λ path ms. properties_at sets keys path ms start }
