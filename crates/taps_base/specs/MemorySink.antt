-- What a sink in memory is, and what it answers.
use Rattle.std.specs.Prelude.{ℕ, ◌-◌, ◌==◌, List, ◌++◌, length, take, min, nat_le, Bool, false, Option, Some, if◌then◌else◌}
use Rattle.std.specs.Option.{option_map_or}
use Rattle.taps_base.specs.Counts.{one_more}
use Rattle.taps_base.specs.Sinks.{SinkState}
use Rattle.taps_base.specs.declared.sink.SinkAnswer.{SinkAnswer}
use Rattle.taps_base.specs.declared.sink.SinkAnswer.TheVariants.{Taken, Failed}

-- the bytes taken, how many fit, the number of the write that fails, and the counts of writes and of faults
pub record MemorySinkState : Type 0 where
  pub taken : List ℕ
  pub capacity : ℕ
  pub fail_at : Option ℕ
  pub writes : ℕ
  pub faults : ℕ

-- what contracts see of a sink in memory, whose bytes are observable
abbrev pub sink_state : MemorySinkState → SinkState
sink_state s = record { taken = Some s.taken; faults = s.faults; writes = s.writes }

-- the next write is the one that fails
abbrev pub is_failing : MemorySinkState → Bool
is_failing s = option_map_or (λ number. number == s.writes) s.fail_at false

-- how many of these bytes the next write takes
unfoldable pub fitting : MemorySinkState → List ℕ → ℕ
fitting s bytes = if is_failing s then 0 else min (length bytes) (s.capacity - length s.taken)

-- its answer
unfoldable pub answer_for : MemorySinkState → List ℕ → SinkAnswer
answer_for s bytes = if nat_le (length bytes) (fitting s bytes) then Taken else Failed

-- the sink after it
unfoldable pub state_after : MemorySinkState → List ℕ → MemorySinkState
state_after s bytes = record s {
  taken = s.taken ++ take (fitting s bytes) bytes;
  writes = one_more s.writes;
  faults = if nat_le (length bytes) (fitting s bytes) then s.faults else one_more s.faults;
}
