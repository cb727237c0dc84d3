-- The lines on the error output (local).
use Rattle.std.specs.Prelude.{ℕ, List, ◌++◌, codes, map}
use Rattle.taps_text.specs.Printed.{printed}
use Rattle.taps_text.specs.Refusals.{refusal_text}
use Rattle.taps_text.specs.declared.refusal.Refusal.{Refusal}

-- the arguments are no command
abbrev pub usage_line : List ℕ
usage_line = codes "taps: usage\n"

-- the file of this name fails a check
unfoldable pub refused_line : List ℕ → Refusal → List ℕ
refused_line name why = codes "taps: refused " ++ (map printed name ++ (codes ": " ++ (refusal_text why ++ codes "\n")))

-- the file of this name could not be read
unfoldable pub fault_line : List ℕ → List ℕ
fault_line name = codes "taps: file fault " ++ (map printed name ++ codes "\n")

-- the output did not take the text
abbrev pub output_fault_line : List ℕ
output_fault_line = codes "taps: output fault\n"

-- memory ran out
abbrev pub no_memory_line : List ℕ
no_memory_line = codes "taps: no memory\n"
