-- What the lines of a script say.
use Rattle.std.specs.Prelude.{ℕ, Bool, true, false, ◌==◌, if◌then◌else◌, List, [], ◌∷◌, Option, None, Some, unwrap_or}
use Rattle.std.specs.List.{list_any}
use Rattle.taps_script.specs.declared.line.Fate.{Fate}
use Rattle.taps_script.specs.declared.line.Fate.TheVariants.{Silent}
use Rattle.taps_script.specs.declared.line.PeerLine.TheVariants.{Holds, Echo}
use Rattle.taps_script.specs.declared.line.Line.{Line}
use Rattle.taps_script.specs.declared.line.Line.TheVariants.{Begin, Late, Fault, Leaf, Take, Give, Peer}

-- the moment of the first line of a beginning
abbrev pub begin_in : List Line → Option ℕ
begin_in [] = None
begin_in (Begin moment ∷ lines) = Some moment
begin_in (_ ∷ lines) = begin_in lines

-- the first moment of the clock
abbrev pub begin_of : List Line → ℕ
begin_of lines = unwrap_or (begin_in lines) 0

-- the delay of the first line of a lateness
abbrev pub late_in : List Line → Option ℕ
late_in [] = None
late_in (Late delay ∷ lines) = Some delay
late_in (_ ∷ lines) = late_in lines

-- how much later each wait that is reached ends
abbrev pub late_of : List Line → ℕ
late_of lines = unwrap_or (late_in lines) 0

-- the line says that this wait faults
abbrev pub says_fault : ℕ → Line → Bool
says_fault wait (Fault w) = w == wait
says_fault wait _ = false

-- the wait of this number, counted from 0, is to fault
abbrev pub is_to_fault : List Line → ℕ → Bool
is_to_fault lines wait = list_any (says_fault wait) lines

-- what becomes of the start under this number; it is silent where no line says it
abbrev pub fate_under : ℕ → List Line → Fate
fate_under leaf [] = Silent
fate_under leaf (Leaf k fate ∷ lines) = if k == leaf then fate else fate_under leaf lines
fate_under leaf (_ ∷ lines) = fate_under leaf lines

-- the most bytes that a send over a stream takes, where a line says so
abbrev pub take_in : List Line → Option ℕ
take_in [] = None
take_in (Take most ∷ lines) = Some most
take_in (_ ∷ lines) = take_in lines

-- the most bytes that a receive gives, where a line says so
abbrev pub give_in : List Line → Option ℕ
give_in [] = None
give_in (Give most ∷ lines) = Some most
give_in (_ ∷ lines) = give_in lines

-- the delay of the first hold
abbrev pub hold_in : List Line → Option ℕ
hold_in [] = None
hold_in (Peer (Holds delay) ∷ lines) = Some delay
hold_in (_ ∷ lines) = hold_in lines

-- what is sent comes back
abbrev pub is_echoing : List Line → Bool
is_echoing [] = false
is_echoing (Peer Echo ∷ lines) = true
is_echoing (_ ∷ lines) = is_echoing lines
