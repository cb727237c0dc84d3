-- The checks of the files in their order: what they give, or the first check that fails (local).
use Rattle.std.specs.Prelude.{ℕ, zero, suc, ⊤, List, [], Option, Some, None, Result, Ok, Err, length, nat_le, if◌then◌else◌}
use Rattle.taps_base.specs.Results.{◌>>=◌}
use Rattle.taps_endpoint.specs.declared.address.Address.{Address}
use Rattle.taps_endpoint.specs.DerivedAddresses.{derived_addresses}
use Rattle.taps_framer.specs.Layers.{Layer}
use Rattle.taps_preconnection.specs.File.{preconnection_of}
use Rattle.taps_table.specs.declared.pre_error.PreError.{PreError}
use Rattle.taps_preconnection.specs.declared.preconnection.Preconnection.{Preconnection}
use Rattle.taps_text.specs.declared.refusal.Refusal.{Refusal}
use Rattle.taps_text.specs.declared.refusal.Refusal.TheVariants as refusal
use Rattle.taps_command.specs.Meanings.{Reading}
use Rattle.taps_command.specs.Places.{places_on, IsOnShelf}
use Rattle.taps_command.specs.Ready.{Ready}
use Rattle.taps_command.specs.declared.two_files.TwoFiles.{TwoFiles}
use Rattle.taps_command.specs.declared.two_files.TwoFiles.TheVariants.{Nothing, File, Both}

-- the longest FILE and SCRIPT that are read, in bytes
abbrev pub most_bytes : ℕ
most_bytes = 1048576

-- the longest BYTES that are read, in bytes
abbrev pub most_framed : ℕ
most_framed = 4194304

-- what a command asks of FILE besides its format: the addresses that it needs
pub record FileRules : Type 0 where
  pub addresses : Preconnection → Result (List Address) Refusal

-- there are no more than 32 addresses
abbrev pub at_most_32 : List Address → Result (List Address) Refusal
at_most_32 addresses =
    if nat_le (length addresses) 32 then Ok addresses else Err (refusal.TooManyRemotes (length addresses))

-- the addresses of the remotes, each once, of which there may be 32
unfoldable pub addresses_for : Preconnection → Result (List Address) Refusal
addresses_for pre = at_most_32 (derived_addresses pre.hosts pre.remotes.items)

-- no addresses are needed
abbrev pub no_addresses : Preconnection → Result (List Address) Refusal
no_addresses pre = Ok []

-- the meaning, or the file's own refusal
abbrev pub or_refused : Result Preconnection PreError → Result Preconnection Refusal
or_refused (Ok pre) = Ok pre
or_refused (Err refused) = Err (refusal.File refused)

-- what the bytes mean
unfoldable pub valued : List ℕ → Result Preconnection Refusal
valued bytes = or_refused (preconnection_of bytes)

-- the addresses, where the framers stand at these places
unfoldable pub addressed : FileRules → Preconnection → List ℕ → Result Ready Refusal
addressed rules pre places =
    rules.addresses pre >>= λ addresses. Ok (record { pre = pre; places = places; addresses = addresses })

-- the framers, and then the addresses
unfoldable pub shelved : FileRules → List Layer → Preconnection → Result Ready Refusal
shelved rules shelf pre = places_on shelf pre.framers.items >>= λ places. addressed rules pre places

-- the checks of FILE, which is not too long
unfoldable pub checked : FileRules → List Layer → List ℕ → Result Ready Refusal
checked rules shelf bytes = valued bytes >>= λ pre. shelved rules shelf pre

-- what FILE gives, as the only file
abbrev pub only_value : FileRules → List Layer → List ℕ → Result (Option Ready) Refusal
only_value rules shelf bytes = checked rules shelf bytes >>= λ ready. Ok (Some ready)

-- FILE as the only file, with its limit and its check
abbrev pub only_file : FileRules → List Layer → Reading (Option Ready)
only_file rules shelf = record { limit = most_bytes; check = λ _ bytes. only_value rules shelf bytes }

-- there is a value, whose framers are on the shelf
abbrev pub HasFramers : List Layer → Option Ready → Type 0
HasFramers shelf None = ⊥
HasFramers shelf (Some ready) = IsOnShelf shelf ready.places

-- so it is once FILE has been read
abbrev pub HasOnly : List Layer → ℕ → Option Ready → Type 0
HasOnly shelf zero value = ⊤
HasOnly shelf (suc place) value = HasFramers shelf value

-- what FILE gives, as the first of two files
abbrev pub first_value : {B : Type 0} → FileRules → List Layer → List ℕ → Result (TwoFiles B) Refusal
first_value rules shelf bytes = checked rules shelf bytes >>= λ ready. Ok (File ready)

-- FILE as the first of two files, with its limit and its check
abbrev pub first_file : {B : Type 0} → FileRules → List Layer → Reading (TwoFiles B)
first_file rules shelf = record { limit = most_bytes; check = λ _ bytes. first_value rules shelf bytes }

-- what FILE gave, and what the second file gave
abbrev pub beside : {B : Type 0} → TwoFiles B → B → TwoFiles B
beside Nothing second = Nothing
beside (File ready) second = Both ready second
beside (Both ready other) second = Both ready second

-- what FILE gave, with what the second file gives
abbrev pub second_value : {B : Type 0} → TwoFiles B → Result B Refusal → Result (TwoFiles B) Refusal
second_value value given = given >>= λ second. Ok (beside value second)

-- the second file, which may have so many bytes and is checked so
abbrev pub second_file : {B : Type 0} → ℕ → (List ℕ → Result B Refusal) → Reading (TwoFiles B)
second_file limit check = record { limit = limit; check = λ value bytes. second_value value (check bytes) }

-- there is the value of FILE alone, whose framers are on the shelf
abbrev pub HasFirst : {B : Type 0} → List Layer → TwoFiles B → Type 0
HasFirst shelf Nothing = ⊥
HasFirst shelf (File ready) = IsOnShelf shelf ready.places
HasFirst shelf (Both ready second) = ⊥

-- there is that value, and one of the second file of which this holds
abbrev pub HasSecond : {B : Type 0} → List Layer → (B → Type 0) → TwoFiles B → Type 0
HasSecond shelf Holds Nothing = ⊥
HasSecond shelf Holds (File ready) = ⊥
HasSecond shelf Holds (Both ready second) = IsOnShelf shelf ready.places × Holds second

-- so it is once FILE has been read, and once both have been
abbrev pub HasBoth : {B : Type 0} → List Layer → (B → Type 0) → ℕ → TwoFiles B → Type 0
HasBoth shelf Holds zero value = ⊤
HasBoth shelf Holds (suc zero) value = HasFirst shelf value
HasBoth shelf Holds (suc (suc place)) value = HasSecond shelf Holds value
