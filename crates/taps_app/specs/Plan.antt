-- `plan FILE` (local).
use Rattle.std.specs.Prelude.{◌≡◌, ℕ, List}
use Rattle.taps_framer.specs.Layers.{Layer}
use Rattle.taps_command.specs.Checks.{FileRules, addresses_for}
use Rattle.taps_session.specs.FileSessions.{initiated, text_of}
use Rattle.taps_command.specs.Meanings.{Meaning}
use Rattle.taps_command.specs.OneFile.{one_file, LeavesAlone}
use Rattle.taps_command.specs.Ready.{Ready}
use Rattle.taps_command.specs.declared.status.Status.{Status}
use Rattle.taps_command.specs.declared.status.Status.TheVariants.{Done}

-- the addresses of its remotes are derived
abbrev pub plan_rules : FileRules
plan_rules = record { addresses = addresses_for }

-- the text of the plan
abbrev pub PrintsPlan : Ready → List ℕ → Status → Type 0
PrintsPlan ready text s = (text ≡ text_of ready.pre (initiated ready)) × (s ≡ Done)

-- one file, of which the plan is written
abbrev pub plan : List Layer → Meaning
plan = one_file plan_rules (λ ready old new text s. PrintsPlan ready text s) LeavesAlone
