-- The first check that a file fails, and its words (local).
use Rattle.std.specs.Prelude.{ℕ, List, [], ◌++◌, codes, map}
use Rattle.std.specs.Fmt.{decimal}
use Rattle.taps_table.specs.declared.pre_error.PreError.{PreError}
use Rattle.taps_table.specs.declared.pre_error.PreError.TheVariants.{NotToml, UnknownKey, WrongKind, OutOfRange, BadAddress, BadHex, TooMany, NoRemote, NoMemory}
use Rattle.taps_text.specs.Printed.{printed}
use Rattle.taps_text.specs.declared.refusal.Refusal.{Refusal}
use Rattle.taps_text.specs.declared.refusal.Refusal.TheVariants.{TooLong, File, UnknownFramer, TooManyRemotes, Script}

-- a key as it is printed
abbrev pub shown : List ℕ → List ℕ
shown key = map printed key

-- why a file gives no Preconnection, with the key and what is told of it
unfoldable pub file_text : PreError → List ℕ
file_text NotToml = codes "not toml"
file_text (UnknownKey key) = codes "unknown key " ++ shown key
file_text (WrongKind key) = codes "wrong kind " ++ shown key
file_text (OutOfRange key) = codes "out of range " ++ shown key
file_text (BadAddress key place) = codes "bad address " ++ (shown key ++ (codes " " ++ decimal place))
file_text (BadHex key) = codes "bad hex " ++ shown key
file_text (TooMany key count) = codes "too many " ++ (shown key ++ (codes " " ++ decimal count))
file_text NoRemote = codes "no remote"
file_text NoMemory = []

-- the words of a refusal
unfoldable pub refusal_text : Refusal → List ℕ
refusal_text TooLong = codes "too long"
refusal_text (File refused) = file_text refused
refusal_text (UnknownFramer place) = codes "unknown framer framers[" ++ (decimal place ++ codes "]")
refusal_text (TooManyRemotes count) = codes "too many remote " ++ decimal count
refusal_text (Script line) = codes "script line " ++ decimal line
