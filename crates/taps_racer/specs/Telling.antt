-- What a list of events makes of a race.
use Rattle.std.specs.Prelude.{◌≡◌, ◌≤◌, ◌⊎◌, ℕ, ◌+◌, ◌*◌, true, List, [], ◌∷◌, ◌++◌, length}
use Rattle.taps_stack.specs.declared.target.Target.{Target}
use Rattle.taps_socket.specs.declared.item.Item.{Item}
use Rattle.taps_socket.specs.RaceTrace.{leaves}
use Rattle.taps_socket.specs.RaceSockets.{closed}
use Rattle.taps_socket.specs.Standing.{standing}
use Rattle.taps_socket.specs.Rules.{Rules}
use Rattle.taps_socket.specs.LawfulRace.{IsOver}
use Rattle.taps_socket.specs.Once.{IsOnce}
use Rattle.taps_socket.specs.declared.race_answer.RaceAnswer.{RaceAnswer}
use Rattle.taps_racer.specs.declared.command.Command.{Command}
use Rattle.taps_racer.specs.declared.event.Told.{Told}
use Rattle.taps_racer.specs.Kept.{Kept}
use Rattle.taps_racer.specs.Commands.{ComesNext}
use Rattle.taps_racer.specs.Events.{answers, item_of}
use Rattle.taps_racer.specs.Stands.{IsRun}

-- the trace with the items of some events
abbrev pub with_events : ℕ → (ℕ → Target) → List Told → List Item → List Item
with_events first target [] trace = trace
with_events first target (event ∷ events) trace = with_events first target events (item_of first target event ∷ trace)

-- the event answers the command that a lawful race permits after these items
abbrev pub AnswersNext : Rules → List Item → Told → Type 0
AnswersNext rules trace event =
    (command : Command) × ComesNext rules (standing trace) command × (answers (standing trace) command event ≡ true)

-- of these events, told in order after the trace, those that answer are the used ones
abbrev pub AreUsed : Rules → ℕ → (ℕ → Target) → List Item → List Told → List Told → Type 0
AreUsed rules first target trace [] used = used ≡ []
AreUsed rules first target trace (event ∷ events) used =
    ((rest : List Told) × (used ≡ event ∷ rest) × AnswersNext rules trace event
    × AreUsed rules first target (item_of first target event ∷ trace) events rest)
    ⊎ (¬ AnswersNext rules trace event × AreUsed rules first target trace events used)

-- the racer goes on with the race for which it stood by the used ones of the events: they are those that answer; four
-- at most for each leaf since the beginning, and at that number the race is over; no socket is closed twice, and no
-- leaf is attempted twice
pub record GoesOn (rules : Rules) (after : Kept) (first : ℕ) (target : ℕ → Target)
    (trace : List Item) (events its : List Told) : Type 0 where
  pub used : AreUsed rules first target trace events its
  pub run : IsRun after first (with_events first target its trace)
  pub same_rules : after.rules ≡ rules
  pub few : length trace + length its ≤ 4 * length rules.gaps + 1
  pub full : length trace + length its ≡ 4 * length rules.gaps + 1
      → (answer : RaceAnswer) × IsOver rules (standing (with_events first target its trace)) answer
  pub closes_once : IsOnce (closed (with_events first target its trace))
  pub leaves_once : IsOnce (leaves (with_events first target its trace))

-- a list of used events grew by those of these events that were used, with which the racer goes on with every race for
-- which it stood
abbrev pub TellsAll : Kept → Kept → List Told → List Told → List Told → Type 0
TellsAll before after events used grown =
    (more : List Told) × (grown ≡ used ++ more) × ((first : ℕ) (trace : List Item) (target : ℕ → Target)
    → IsRun before first trace → GoesOn before.rules after first target trace events more)

-- a racer that stood for a race that is over is as before, and the used events are
abbrev pub StaysOver : Kept → Kept → List Told → List Told → Type 0
StaysOver before after used grown =
    (first : ℕ) (trace : List Item) (answer : RaceAnswer) → IsRun before first trace
    → IsOver before.rules (standing trace) answer → (after ≡ before) × (grown ≡ used)
