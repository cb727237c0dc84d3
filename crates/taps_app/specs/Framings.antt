-- What `frame FILE` and `unframe FILE BYTES` write.
use Rattle.std.specs.Prelude.{◌≡◌, ◌≤◌, ℕ, List, [], ◌∷◌, Ok, codes, length}
use Rattle.taps_base.specs.Files.{Contents, IsContent}
use Rattle.taps_base.specs.Sinks.{SinkState}
use Rattle.taps_base.specs.declared.sink.SinkAnswer.TheVariants as answers
use Rattle.taps_framer.specs.Layers.{Layer}
use Rattle.taps_command.specs.Checks.{checked, most_bytes, most_framed}
use Rattle.taps_app.specs.Frame.{frame_rules, IsFramed}
use Rattle.taps_command.specs.Meanings.{HasText}
use Rattle.taps_command.specs.Ready.{Ready}
use Rattle.taps_command.specs.Runs.{Takes}
use Rattle.taps_app.specs.Unframe.{IsDecoded}
use Rattle.taps_command.specs.declared.status.Status.{Status}

-- FILE's bytes, where observable, pass their checks, and where the sink's bytes are observable too, what it took are
-- the frames of the file's messages
pub record FramesFile (shelf : List Layer) (contents : Contents)
    (file : List ℕ) (out out' : SinkState) (s : Status) : Type 0 where
  pub bytes : List ℕ
  pub content : IsContent contents file bytes
  pub fits : length bytes ≤ most_bytes
  pub ready : Ready
  pub passes : checked frame_rules shelf bytes ≡ Ok ready
  pub text : List ℕ
  pub framed : IsFramed shelf ready text s
  pub takes : Takes answers.Taken out out' text

-- so do FILE's bytes and BYTES, and what the sink took are the messages of BYTES, and how they end
pub record UnframesFile (shelf : List Layer) (contents : Contents)
    (file name : List ℕ) (out out' : SinkState) (s : Status) : Type 0 where
  pub bytes : List ℕ
  pub content : IsContent contents file bytes
  pub fits : length bytes ≤ most_bytes
  pub ready : Ready
  pub passes : checked frame_rules shelf bytes ≡ Ok ready
  pub framed_bytes : List ℕ
  pub framed_content : IsContent contents name framed_bytes
  pub framed_fits : length framed_bytes ≤ most_framed
  pub text : List ℕ
  pub decoded : IsDecoded shelf ready framed_bytes text s
  pub takes : Takes answers.Taken out out' text

-- so it is for each status of the two commands that has a text
pub record IsFramingOf (shelf : List Layer) (words : List (List ℕ))
    (contents : Contents) (out out' : SinkState) (s : Status) : Type 0 where
  pub frame : (file : List ℕ) → words ≡ codes "frame" ∷ file ∷ []
      → HasText s → FramesFile shelf contents file out out' s
  pub unframe : (file bytes : List ℕ) → words ≡ codes "unframe" ∷ file ∷ bytes ∷ []
      → HasText s → UnframesFile shelf contents file bytes out out' s
