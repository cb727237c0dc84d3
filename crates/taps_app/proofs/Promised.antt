-- From what is kept of a command to what the top call promises.
use Rattle.std.proofs.Common.{List, String, Global}
use Rattle.taps_base.specs.Files.{FilesState}
use Rattle.taps_base.specs.Sinks.{SinkState}
use Rattle.taps_framer.specs.Layers.{Layer}
use Rattle.taps_socket.specs.Calls.{Call}
use Rattle.taps_socket.specs.Net.{Net}
use Rattle.taps_command.specs.Asked.{HasBeenRun}
use Rattle.taps_command.specs.Nets.{SocketsState, HasRun, uncalled}
use Rattle.taps_command.specs.Runs.{world}
use Rattle.taps_command.specs.declared.status.Status.{Status}
use Rattle.taps_command.proofs.Causes.{usage, few, no_fault}
use Rattle.taps_command.proofs.Complete.{complete_of}
use Rattle.taps_command.proofs.Running.{ran_on}
use Rattle.taps_app.specs.Arguments.{asked_of}
use Rattle.taps_app.specs.Promises.{KeepsPromises}
use Rattle.taps_app.proofs.Corollaries as corollaries
use Rattle.taps_app.proofs.Generating.{generated}

kept : (shelf : List Layer) (words : List (String Global)) (files files' : FilesState) (out out' err err' : SinkState) (s : Status) (before after : SocketsState)
    → HasBeenRun (asked_of shelf words) files files' out out' err err' s before after → KeepsPromises shelf words files files' out out' err err' s before after
kept shelf words files files' out out' err err' s before after been =
    let old = world files out before in
    let new = world files' out' after in
    let run = been.run in
    record {
      usage = usage (asked_of shelf words) old new err err' s run;
      status_by_cause = run.cause;
      few_reads = few (asked_of shelf words) old new err err' s run;
      no_fault = no_fault (asked_of shelf words) old new err err' s run;
      lawful_trace = run.lawful;
      closed_once = been.closed_once;
      plan_of_file = corollaries.plan_of_file shelf words old new err err' s run;
      exchanged = corollaries.exchanged shelf words old new err err' s run;
      simulated = corollaries.simulated shelf words old new err err' s run;
      framed = corollaries.framed shelf words old new err err' s run;
      generated = generated shelf words old new err err' s run;
      complete = complete_of (asked_of shelf words) old new err err' s run;
    }

pub promised : {S : Type 0} (Becomes : S → List Call → S → Type 0) (a b : S) (n n' : Net) (shelf : List Layer) (words : List (String Global)) (files files' : FilesState) (out out' err err' : SinkState) (s : Status)
    → HasRun Becomes a b n n' (HasBeenRun (asked_of shelf words) files files' out out' err err' s) → HasRun Becomes a b n n' (KeepsPromises shelf words files files' out out' err err' s)
promised Becomes a b n n' shelf words files files' out out' err err' s r =
    ran_on Becomes a b n n' (HasBeenRun (asked_of shelf words) files files' out out' err err' s) (KeepsPromises shelf words files files' out out' err err' s) r
    (λ new h. kept shelf words files files' out out' err err' s (uncalled n) new h)
