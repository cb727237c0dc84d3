-- `frame FILE` (local).
use Rattle.std.specs.Prelude.{◌≡◌, ℕ, Bool, true, false, List, map}
use Rattle.taps_frame_text.specs.FrameLines.{frame_lines, are_all_spoken}
use Rattle.taps_framer.specs.Layers.{Layer}
use Rattle.taps_preconnection.specs.declared.message.MessageSpec.{MessageSpec}
use Rattle.taps_command.specs.Checks.{FileRules, no_addresses}
use Rattle.taps_command.specs.Meanings.{Meaning}
use Rattle.taps_command.specs.OneFile.{one_file, LeavesAlone}
use Rattle.taps_command.specs.Ready.{Ready}
use Rattle.taps_command.specs.Places.{chain_of}
use Rattle.taps_command.specs.declared.status.Status.{Status}
use Rattle.taps_command.specs.declared.status.Status.TheVariants.{Done, Exchange}

-- no addresses are needed
abbrev pub frame_rules : FileRules
frame_rules = record { addresses = no_addresses }

-- the bodies of messages
abbrev pub bodies_of : List MessageSpec → List (List ℕ)
bodies_of messages = map (λ (m : MessageSpec). m.body) messages

-- the status of messages that went through a chain
abbrev pub status_if : Bool → Status
status_if true = Done
status_if false = Exchange

-- the text of a file's messages through the chain of its framers, and the status
pub record IsFramed (shelf : List Layer) (ready : Ready) (text : List ℕ) (s : Status) : Type 0 where
  pub lines : text ≡ frame_lines (chain_of shelf ready.places) 0 (bodies_of ready.pre.messages.items)
  pub status : s ≡ status_if (are_all_spoken (chain_of shelf ready.places) 0 (bodies_of ready.pre.messages.items))

-- one file, of which the messages are framed
abbrev pub frame : List Layer → Meaning
frame shelf = one_file frame_rules (λ ready old new text s. IsFramed shelf ready text s) LeavesAlone shelf
