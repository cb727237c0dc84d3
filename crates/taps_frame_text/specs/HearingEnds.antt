-- How a hearing ends, and the line of it (this project's own).
use Rattle.std.specs.Prelude.{ℕ, ◌==◌, Bool, false, List, []}
use Rattle.taps_chain.specs.declared.heard.Heard.{Heard}
use Rattle.taps_chain.specs.declared.heard.Heard.TheVariants as heard
use Rattle.taps_text.specs.BodyLines.{rest_line}
use Rattle.taps_text.specs.OutcomeLines.{outcome_line}
use Rattle.taps_text.specs.declared.outcome.Outcome.TheVariants.{BadFrame}

-- a hearing does not end with a message
abbrev pub IsEnd : Heard → Type 0
IsEnd (heard.Message m) = ⊥
IsEnd heard.Need = Unit {0}
IsEnd (heard.Bad b) = Unit {0}
IsEnd heard.NoMemory = Unit {0}

-- a hearing came to its end: it needs more bytes, or it fails
abbrev pub HasEnded : Heard → Type 0
HasEnded (heard.Message m) = ⊥
HasEnded heard.Need = Unit {0}
HasEnded (heard.Bad b) = Unit {0}
HasEnded heard.NoMemory = ⊥

-- the line of how a hearing ended
abbrev pub ended_line : Heard → ℕ → List ℕ
ended_line (heard.Message m) count = []
ended_line heard.Need count = rest_line count
ended_line (heard.Bad b) count = outcome_line (BadFrame b.message b.layer b.place)
ended_line heard.NoMemory count = []

-- whether a hearing ended with nothing left
abbrev pub has_ended_whole : Heard → ℕ → Bool
has_ended_whole (heard.Message m) count = false
has_ended_whole heard.Need count = count == 0
has_ended_whole (heard.Bad b) count = false
has_ended_whole heard.NoMemory count = false
