-- What a chain finds first in unread bytes.
use Rattle.std.specs.Prelude.{◌≡◌, ℕ, ◌≤◌, List, ◌++◌, length, drop}
use Rattle.taps_framer.specs.Layers.{Layer}
use Rattle.taps_chain.specs.Chained.{chained, IsSpoken}
use Rattle.taps_chain.specs.Heard.{IsEnding, needs, fails}
use Rattle.taps_chain.specs.declared.next.Found.{Found}
use Rattle.taps_chain.specs.declared.next.Found.TheVariants as found

-- the first message, whose bytes are those that layer 0 scanned, or how the bytes end the hearing; where more
-- are needed, all were scanned
abbrev pub IsFound : List Layer → ℕ → List ℕ → ℕ → Found → Type 0
IsFound fs k x scanned (found.Message m) =
    (scanned ≤ length x) × IsSpoken fs k m × (x ≡ chained fs k m ++ drop scanned x)
IsFound fs k x scanned found.Need = (scanned ≡ length x) × IsEnding fs k x needs
IsFound fs k x scanned (found.Bad l p) = IsEnding fs k x (fails l p)
IsFound fs k x scanned found.NoMemory = Unit {0}
