-- The table of commands (local).
use Rattle.std.specs.Prelude.{ℕ, List, Option, Some, None, codes, bytes_eq, if◌then◌else◌}
use Rattle.taps_framer.specs.Layers.{Layer}
use Rattle.taps_command.specs.Meanings.{Meaning}
use Rattle.taps_app.specs.Plan.{plan}
use Rattle.taps_app.specs.Sim.{sim}
use Rattle.taps_app.specs.Run.{run}
use Rattle.taps_app.specs.Frame.{frame}
use Rattle.taps_app.specs.Unframe.{unframe}
use Rattle.taps_app.specs.declared.kind.Kind.{Kind}
use Rattle.taps_app.specs.declared.kind.Kind.TheVariants as kinds

-- what each command means, with the framers of this shelf
abbrev pub meaning_of : List Layer → Kind → Meaning
meaning_of shelf kinds.Plan = plan shelf
meaning_of shelf kinds.Sim = sim shelf
meaning_of shelf kinds.Run = run shelf
meaning_of shelf kinds.Frame = frame shelf
meaning_of shelf kinds.Unframe = unframe shelf

-- the command of a word
abbrev pub kind_of : List ℕ → Option Kind
kind_of word =
    if bytes_eq word (codes "plan") then Some kinds.Plan
    else if bytes_eq word (codes "sim") then Some kinds.Sim
    else if bytes_eq word (codes "run") then Some kinds.Run
    else if bytes_eq word (codes "frame") then Some kinds.Frame
    else if bytes_eq word (codes "unframe") then Some kinds.Unframe
    else None
