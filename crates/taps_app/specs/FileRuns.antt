-- What `run FILE` does on the sockets, and writes.
use Rattle.std.specs.Prelude.{◌≡◌, ◌≤◌, ℕ, List, [], ◌∷◌, Ok, codes, length}
use Rattle.taps_base.specs.Files.{Contents, IsContent}
use Rattle.taps_base.specs.Sinks.{SinkState}
use Rattle.taps_base.specs.declared.sink.SinkAnswer.TheVariants as answers
use Rattle.taps_framer.specs.Layers.{Layer}
use Rattle.taps_command.specs.Checks.{checked, most_bytes}
use Rattle.taps_command.specs.Meanings.{HasText}
use Rattle.taps_command.specs.Nets.{SocketsState}
use Rattle.taps_command.specs.Ready.{Ready}
use Rattle.taps_command.specs.Runs.{Takes}
use Rattle.taps_command.specs.declared.status.Status.{Status}
use Rattle.taps_app.specs.Run.{run_rules}
use Rattle.taps_session.specs.Roles.{IsRunOn}

-- FILE's bytes, where observable, pass their checks; the calls on the sockets are a session of their role, over their
-- plan; and where the sink's bytes are observable too, what it took is the log of that session
pub record RunsFile (shelf : List Layer) (contents : Contents) (file : List ℕ) (out out' : SinkState)
    (old new : SocketsState) (s : Status) : Type 0 where
  pub bytes : List ℕ
  pub content : IsContent contents file bytes
  pub fits : length bytes ≤ most_bytes
  pub ready : Ready
  pub passes : checked run_rules shelf bytes ≡ Ok ready
  pub text : List ℕ
  pub logged : IsRunOn shelf ready old new text s
  pub takes : Takes answers.Taken out out' text

-- so it is for each status that has a text
abbrev pub IsSessionOfFile : List Layer → List (List ℕ) → Contents → SinkState → SinkState →
    SocketsState → SocketsState → Status → Type 0
IsSessionOfFile shelf words contents out out' old new s =
    (file : List ℕ) → words ≡ codes "run" ∷ file ∷ [] → HasText s → RunsFile shelf contents file out out' old new s
