-- What the files in memory hold, and what they answer.
use Rattle.std.specs.Prelude.{ℕ, ◌==◌, List, length, nat_le, Option, Some, None, option_map, string_bytes, if◌then◌else◌}
use Rattle.std.specs.List.{list_any}
use Rattle.std.specs.BTreeMap.{get_by_text}
use Rattle.taps_base.specs.Counts.{one_more}
use Rattle.taps_base.specs.Files.{FilesState}
use Rattle.taps_base.specs.declared.files.FileAnswer.{FileAnswer}
use Rattle.taps_base.specs.declared.files.FileAnswer.TheVariants.{Bytes, TooLong, Failed, NoMemory}
use Rattle.taps_base.specs.declared.memory_files.MemoryFiles.{MemoryFiles}

-- what a name holds
abbrev pub held_at : MemoryFiles → List ℕ → Option (List ℕ)
held_at files name = get_by_text files.contents name

-- all but what is held: the numbers of the reads that fail, and what was read so far
pub record History : Type 0 where
  pub failing : List ℕ
  pub faults : ℕ
  pub last_failed : Option (List ℕ)
  pub reads : ℕ

-- these files' numbers of failing reads, and what was read so far
abbrev pub history : MemoryFiles → History
history files = record {
  failing = files.failing.items;
  faults = files.faults;
  last_failed = option_map (λ name. string_bytes name) files.last_failed;
  reads = files.reads;
}

-- what contracts see of files in memory, whose contents are observable
abbrev pub files_state : MemoryFiles → FilesState
files_state files = record {
  contents = Some (λ name. held_at files name);
  faults = files.faults;
  last_failed = (history files).last_failed;
  reads = files.reads;
}

-- the answer to a read of a name that holds these bytes, or none
abbrev pub answer_to : Option (List ℕ) → ℕ → FileAnswer
answer_to None max = Failed
answer_to (Some bytes) max = if nat_le (length bytes) max then Bytes bytes else TooLong

-- the answer to the next read, unless memory runs out
unfoldable pub answer_of : MemoryFiles → List ℕ → ℕ → FileAnswer
answer_of files name max =
    if list_any (λ k. k == files.reads) files.failing.items then Failed else answer_to (held_at files name) max

-- the history after a read of this name that was answered so
abbrev pub history_after : FileAnswer → List ℕ → History → History
history_after Failed name h = record h { reads = one_more h.reads; faults = one_more h.faults; last_failed = Some name }
history_after (Bytes body) name h = record h { reads = one_more h.reads }
history_after TooLong name h = record h { reads = one_more h.reads }
history_after NoMemory name h = record h { reads = one_more h.reads }
