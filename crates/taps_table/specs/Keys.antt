-- The keys of a table: the least unknown one is refused, then the known ones are read in their order.
use Rattle.std.specs.Prelude.{ℕ, List, [], ◌∷◌, ◌++◌, Bool, Option, Some, None, Result, Ok, Err, bytes_eq, if◌then◌else◌}
use Rattle.std.specs.List.{list_any}
use Rattle.std.specs.Ordering.{nat_cmp, is_lt}
use Rattle.std.specs.Cmp.Lexicographic.{slice_cmp}
use Rattle.toml.specs.Data.{Data, Members, no_members, member, get_member}
use Rattle.taps_base.specs.Results.{◌>>=◌}
use Rattle.taps_table.specs.Places.{key_text}
use Rattle.taps_table.specs.Values.{Reader}
use Rattle.taps_table.specs.declared.pre_error.PreError.{PreError}
use Rattle.taps_table.specs.declared.pre_error.PreError.TheVariants.{UnknownKey, OutOfRange}

-- the key is one of these
unfoldable pub is_among : List (List ℕ) → List ℕ → Bool
is_among names key = list_any (λ name. bytes_eq name key) names

-- one more member, before the first with a greater key
abbrev pub put_member : List ℕ → Data → Members → Members
put_member key d no_members = member key d no_members
put_member key d (member other e ms) =
    if is_lt (slice_cmp nat_cmp key other) then member key d (member other e ms)
    else member other e (put_member key d ms)

-- the members with their keys in byte order
abbrev pub in_byte_order : Members → Members
in_byte_order no_members = no_members
in_byte_order (member key d ms) = put_member key d (in_byte_order ms)

-- the first key that is not among the known ones
abbrev pub first_unknown : List (List ℕ) → Members → Option (List ℕ)
first_unknown names no_members = None
first_unknown names (member key d ms) = if is_among names key then first_unknown names ms else Some key

-- the unknown key that sorts first
abbrev pub least_unknown : List (List ℕ) → Members → Option (List ℕ)
least_unknown names ms = first_unknown names (in_byte_order ms)

-- an unknown key is refused by its text
abbrev pub refuse_unknown : List ℕ → Option (List ℕ) → Result (Unit {0}) PreError
refuse_unknown path None = Ok tt
refuse_unknown path (Some key) = Err (UnknownKey (key_text path key))

-- a value that may be missing
abbrev pub read_if_there : {A : Type 0} → Reader A → List ℕ → Option Data → Result (Option A) PreError
read_if_there reads path None = Ok None
read_if_there reads path (Some d) = reads path d >>= λ x. Ok (Some x)

-- the value of a key that may be missing
unfoldable pub value_at : {A : Type 0} → List ℕ → Reader A → List ℕ → Members → Result (Option A) PreError
value_at name reads path ms = read_if_there reads (key_text path name) (get_member name ms)

-- the names of some keys of a table, and what is read at them
pub record Keys (A : Type 0) : Type 0 where
  pub names : List (List ℕ)
  pub reads : List ℕ → Members → Result A PreError

-- keys of which nothing is read
abbrev pub known : List (List ℕ) → Keys (Unit {0})
known names = record { names = names; reads = λ path ms. Ok tt }

-- one key
abbrev pub key : {A : Type 0} → List ℕ → Reader A → Keys (Option A)
key name reads = record { names = name ∷ []; reads = value_at name reads }

-- these keys, and then those
infixl 20 ◌&◌
abbrev pub ◌&◌ : {A B : Type 0} → Keys A → Keys B → Keys (A × B)
first & more = record {
  names = first.names ++ more.names;
  reads = λ path ms. first.reads path ms >>= λ a. more.reads path ms >>= λ b. Ok (a, b);
}

-- a table with these keys: its least unknown one is refused, then the known ones are read in order
unfoldable pub keys_of : {A : Type 0} → Keys A → List ℕ → Members → Result A PreError
keys_of keys path ms = refuse_unknown path (least_unknown keys.names ms) >>= λ _. keys.reads path ms

-- a key that has to be there
unfoldable pub present : {A : Type 0} → List ℕ → Option A → Result A PreError
present path None = Err (OutOfRange path)
present path (Some x) = Ok x

-- a rule of the value at this path
unfoldable pub rule : List ℕ → Bool → Result (Unit {0}) PreError
rule path holds = if holds then Ok tt else Err (OutOfRange path)
