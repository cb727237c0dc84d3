-- The top call over the files and the sockets of the system, which end with it.
use Rattle.std.specs.Prelude.{◌≡◌, ◌⊎◌, List, []}
use Rattle.std.proofs.Common.{String, Global}
use Rattle.taps_base.specs.Files.{FilesState}
use Rattle.taps_base.specs.Sinks.{SinkState}
use Rattle.taps_framer.specs.Layers.{Layer}
use Rattle.taps_socket.specs.Calls.{Call}
use Rattle.taps_socket.specs.Net.{Net}
use Rattle.taps_socket.specs.Shows.{Shows}
use Rattle.taps_app.specs.Promises.{Promises}
use Rattle.taps_command.specs.Nets.{uncalled}
use Rattle.taps_command.specs.Runs.{world}
use Rattle.taps_command.specs.declared.status.Status.{Status}
use Rattle.taps_command.specs.declared.status.Status.TheVariants.{NoMemory}

-- there are files, sockets of which none was opened before, and calls on these, which led from what is seen of them to
-- what is seen later, over which the top call keeps all that it promises
pub record IsRunOverSome (shelf : List Layer) (words : List (String Global))
    (out out' err err' : SinkState) (s : Status) : Type 0 where
  pub files : FilesState
  pub files_after : FilesState
  pub net : Net
  pub net_after : Net
  pub calls : List Call
  pub fresh : net.trace ≡ []
  pub shows : Shows net calls net_after
  pub promises : Promises shelf words (world files out (uncalled net))
      (world files_after out' (record { net = net_after; calls = calls })) err err' s

-- files or sockets could not be made, and nothing was written
pub record IsUnmade (out out' err err' : SinkState) (s : Status) : Type 0 where
  pub status : s ≡ NoMemory
  pub out_same : out' ≡ out
  pub err_same : err' ≡ err

-- one of the two
abbrev pub IsSystemRun : List Layer → List (String Global) → SinkState → SinkState → SinkState → SinkState →
    Status → Type 0
IsSystemRun shelf words out out' err err' s =
    IsRunOverSome shelf words out out' err err' s ⊎ IsUnmade out out' err err' s
