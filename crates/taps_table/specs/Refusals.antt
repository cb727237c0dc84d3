-- Readings: each gives a value or its first refusal.
use Rattle.std.specs.Prelude.{◌≡◌, ◌≢◌, Result, Ok, Err}
use Rattle.taps_table.specs.declared.pre_error.PreError.{PreError}
use Rattle.taps_table.specs.declared.pre_error.PreError.TheVariants.{NoMemory}

-- the refusal is the one of the reading, unless memory ran out
abbrev pub Refuses : {A : Type 0} → PreError → Result A PreError → Type 0
Refuses e reading = e ≢ NoMemory → reading ≡ Err e

-- what was returned is what the reading gives, unless memory ran out
abbrev pub Gives : {A : Type 0} → Result A PreError → Result A PreError → Type 0
Gives (Ok x) reading = reading ≡ Ok x
Gives (Err e) reading = Refuses e reading

-- the same, with the value seen by view
abbrev pub Shows : {A B : Type 0} → (A → B) → Result A PreError → Result B PreError → Type 0
Shows view (Ok x) reading = reading ≡ Ok (view x)
Shows view (Err e) reading = Refuses e reading
