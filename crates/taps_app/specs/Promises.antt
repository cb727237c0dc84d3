-- What the top call promises.
use Rattle.std.specs.Prelude.{◌≡◌, ◌≢◌, ◌≤◌, ◌↔◌, List}
use Rattle.std.proofs.Common.{String, Global}
use Rattle.taps_base.specs.Files.{FilesState}
use Rattle.taps_base.specs.Sinks.{SinkState}
use Rattle.taps_framer.specs.Layers.{Layer}
use Rattle.taps_command.specs.Nets.{SocketsState, IsClosedOnce}
use Rattle.taps_command.specs.Asked.{most_reads, IsNoCommand, IsByCause, LeavesLawful, IsComplete}
use Rattle.taps_app.specs.Arguments.{asked_of}
use Rattle.taps_app.specs.FilePlans.{IsPlanOfFile}
use Rattle.taps_app.specs.FileRuns.{IsSessionOfFile}
use Rattle.taps_app.specs.Framings.{IsFramingOf}
use Rattle.taps_app.specs.Generations.{IsGenerationOf}
use Rattle.taps_command.specs.Runs.{World, world, names_of}
use Rattle.taps_app.specs.Simulations.{IsSimulationOf}
use Rattle.taps_command.specs.declared.status.Status.{Status}
use Rattle.taps_command.specs.declared.status.Status.TheVariants.{Usage, FileFault}

-- usage: the status is Usage if and only if there is no such command.
-- status_by_cause: each status has its cause, in the order of checks, and `out` and `err` received what belongs to it.
-- few_reads, no_fault: no more reads than files; a failed read has a status of its own.
-- lawful_trace: a command but `run` leaves the sockets as they were; `run` leaves them so too, or made the calls of one
-- session on them, or where memory ran out its first ones and then the closes.
-- closed_once: every socket that was opened is closed once.
-- plan_of_file, exchanged, simulated, framed, generated: what single commands write, by the bytes of their files, or by
-- a number.
-- complete: where contents are observable and no count of faults rose, they decide status and output, but for out of
-- memory.
pub record Promises (shelf : List Layer) (words : List (String Global))
    (old new : World) (err err' : SinkState) (s : Status) : Type 0 where
  pub usage : (s ≡ Usage) ↔ (IsNoCommand (asked_of shelf words))
  pub status_by_cause : IsByCause (asked_of shelf words) old new err err' s
  pub few_reads : new.files.reads ≤ most_reads (asked_of shelf words) old.files.reads
  pub no_fault : s ≢ FileFault → new.files.faults ≡ old.files.faults
  pub lawful_trace : LeavesLawful (asked_of shelf words) old.files.contents old.sockets new.sockets
  pub closed_once : IsClosedOnce new.sockets.net.trace
  pub plan_of_file : IsPlanOfFile (names_of words) old.files.contents old.out new.out s
  pub exchanged : IsSessionOfFile shelf (names_of words) old.files.contents old.out new.out old.sockets new.sockets s
  pub simulated : IsSimulationOf shelf (names_of words) old.files.contents old.out new.out s
  pub framed : IsFramingOf shelf (names_of words) old.files.contents old.out new.out s
  pub generated : IsGenerationOf shelf (names_of words) old.out new.out s
  pub complete : IsComplete (asked_of shelf words) old new s

-- the same, where the sockets were so before and after
abbrev pub KeepsPromises : List Layer → List (String Global) → FilesState → FilesState → SinkState → SinkState →
    SinkState → SinkState → Status → SocketsState → SocketsState → Type 0
KeepsPromises shelf words files files' out out' err err' s old new =
    Promises shelf words (world files out old) (world files' out' new) err err' s
