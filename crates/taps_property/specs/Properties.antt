-- A set of properties as a table of rows, and what setting and getting one of them does (RFC 9622 section 6.2).
use Rattle.std.specs.Prelude.{◌≡◌, ℕ, List, [], ◌∷◌, Result, Ok, Err, false, map, bytes_eq, if◌then◌else◌}
use Rattle.taps_base.specs.Lists.{filled}
use Rattle.taps_property.specs.Kinds.{Value, taken, told}
use Rattle.taps_property.specs.declared.kind.Kind.{Kind}
use Rattle.taps_property.specs.declared.prop_error.PropError.{PropError}
use Rattle.taps_property.specs.declared.prop_error.PropError.TheVariants.{UnknownProperty}
use Rattle.taps_property.specs.declared.prop_value.PropValue.{PropValue}
use Rattle.taps_property.specs.declared.prop_value.PropValue.TheVariants.{Entries}
use Rattle.taps_property.specs.declared.property.Property.{Property}

-- how a property is set: its name, its kind, and the set with another value of it
pub record Setting (Set : Type 0) : Type 0 where
  pub name : List ℕ
  pub kind : Kind
  pub with : Value kind → Set → Set

-- how the property of this name is set
abbrev pub setting : {Set : Type 0} → List ℕ → (k : Kind) → (Value k → Set → Set) → Setting Set
setting name kind with = record { name = name; kind = kind; with = with }

-- a row of a table: how a property is set, and the value that a set has of it
pub record Row (Set : Type 0) : Type 0 where
  pub setting : Setting Set
  pub value : Set → Value setting.kind

-- a row with its name, its kind, its value in a set, and the set with another value
abbrev pub row : {Set : Type 0} → List ℕ → (k : Kind) → (Set → Value k) → (Value k → Set → Set) → Row Set
row name kind value with = record { setting = setting name kind with; value = value }

-- how each row of a table is set
abbrev pub settings : {Set : Type 0} → List (Row Set) → List (Setting Set)
settings rows = map (λ r. r.setting) rows

-- what a set tells of the property of this name
abbrev pub value_in : {Set : Type 0} → List (Row Set) → Set → List ℕ → Result PropValue PropError
value_in [] set name = Err UnknownProperty
value_in (r ∷ rs) set name =
    if bytes_eq name r.setting.name then Ok (told r.setting.kind (r.value set)) else value_in rs set name

-- the set with a value that is taken, or why it is not
abbrev pub with_taken : {A Set : Type 0} → (A → Set → Set) → Set → Result A PropError → Result Set PropError
with_taken with set (Ok x) = Ok (with x set)
with_taken with set (Err e) = Err e

-- the set once the property of this name is set, or the refusal
abbrev pub set_in : {Set : Type 0} → List (Setting Set) → Set → List ℕ → PropValue → Result Set PropError
set_in [] set name value = Err UnknownProperty
set_in (s ∷ ss) set name value =
    if bytes_eq name s.name then with_taken s.with set (taken s.kind value) else set_in ss set name value

-- the set became what setting gives; under a refusal it stayed as it was
abbrev pub Becomes : {Set : Type 0} → Result (Unit {0}) PropError → Set → Set → Result Set PropError → Type 0
Becomes (Ok done) old new answer = answer ≡ Ok new
Becomes (Err e) old new answer = (answer ≡ Err e) × (new ≡ old)

-- a value with no room in its list
abbrev pub bare : PropValue → PropValue
bare (Entries entries) = Entries (filled entries.items)
bare value = value

-- all properties of other names tell what they told
abbrev pub KeepsOthers : {Set : Type 0} → List (Row Set) → Set → Set → List ℕ → Type 0
KeepsOthers rows old new name =
    (other : List ℕ) → bytes_eq other name ≡ false → value_in rows new other ≡ value_in rows old other

-- the name and the kind of a property
pub record Key : Type 0 where
  pub name : List ℕ
  pub kind : Kind

-- the names and kinds of settings
abbrev pub keys : {Set : Type 0} → List (Setting Set) → List Key
keys settings = map {B = Key} (λ s. record { name = s.name; kind = s.kind }) settings

-- the names and kinds of properties
abbrev pub listed_keys : List Property → List Key
listed_keys properties = map {B = Key} (λ p. record { name = p.0.now; kind = p.1 }) properties

-- their names
abbrev pub key_names : List Key → List (List ℕ)
key_names keys = map (λ k. k.name) keys
