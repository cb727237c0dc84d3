-- What contracts see of the files of the system.
use Rattle.std.specs.Prelude.{None, option_map, string_bytes}
use Rattle.taps_base.specs.Files.{FilesState}
use Rattle.taps_base.specs.declared.real_files.RealFiles.{RealFiles}

-- what contracts see of the files of the system: no content is observable
abbrev pub real_files_state : {R : Type 0} → RealFiles R → FilesState
real_files_state files = record {
  contents = None;
  faults = files.faults;
  last_failed = option_map (λ name. string_bytes name) files.last_failed;
  reads = files.reads;
}
