-- From what the top call keeps to what is known where files and sockets end with it.
use Rattle.std.proofs.Common.{◌≡◌, [], List, String, Global}
use Rattle.taps_base.specs.Files.{FilesState}
use Rattle.taps_base.specs.Sinks.{SinkState}
use Rattle.taps_framer.specs.Layers.{Layer}
use Rattle.taps_socket.specs.Calls.{Call}
use Rattle.taps_socket.specs.Net.{Net}
use Rattle.taps_command.specs.Nets.{HasRun}
use Rattle.taps_command.specs.declared.status.Status.{Status}
use Rattle.taps_app.specs.Promises.{KeepsPromises}
use Rattle.taps.specs.SystemRuns.{IsRunOverSome}

pub over_some : {S : Type 0} (Becomes : S → List Call → S → Type 0) (a b : S) (n n' : Net) (shelf : List Layer) (words : List (String Global)) (files files' : FilesState) (out out' err err' : SinkState) (s : Status)
    → n.trace ≡ [] → HasRun Becomes a b n n' (KeepsPromises shelf words files files' out out' err err' s) → IsRunOverSome shelf words out out' err err' s
over_some Becomes a b n n' shelf words files files' out out' err err' s fresh r =
    record { files = files; files_after = files'; net = n; net_after = n'; calls = r.calls; fresh = fresh; shows = r.shows; promises = r.holds }
