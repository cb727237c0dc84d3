-- What follows of a receive on a scripted socket.
use Rattle.std.specs.Prelude.{◌≡◌, ◌<◌, ◌≤◌, ◌^◌, ℕ, true, List, length, slice_get, Some}
use Rattle.taps_socket.specs.declared.answers.RecvAnswer.{RecvAnswer}
use Rattle.taps_socket.specs.declared.answers.RecvAnswer.TheVariants as recv
use Rattle.taps_script.specs.declared.line.Line.{Line}
use Rattle.taps_script.specs.DataAnswers.{Link, ReceiveStep, found}
use Rattle.taps_script.specs.Channels.{Channel}
use Rattle.taps_script.specs.ScriptNet.{Scripted, link_at, read_by, IsChannelOf, IsReadable}

-- a receive: its answer by what came
abbrev pub IsFound : List Line → Link → ℕ → ℕ → ReceiveStep → RecvAnswer → Type 0
IsFound lines link most until step (recv.Got count at) =
    (length step.came ≡ count) × (1 ≤ count) × (at ≡ step.clock) × (step.came ≡ found lines link at most)
IsFound lines link most until step recv.End = link.stream ≡ true
IsFound lines link most until step (recv.Timed at) = (until ≤ at) × (at ≡ step.clock)
IsFound lines link most until step (recv.Failed cause) = Unit {0}

-- a receive comes not before the clock and in time, and its answer is what is found
pub record IsReceived (lines : List Line) (link : Link) (now most until : ℕ) (step : ReceiveStep) : Type 0 where
  pub later : now ≤ step.clock
  pub fits : step.clock < 2 ^ 63
  pub answer : IsFound lines link most until step step.answer

-- a receive of at most so many bytes on a socket came to this, by its channel
pub record ReceivesOn (s : Scripted) (socket most until : ℕ) (step : ReceiveStep) : Type 0 where
  pub channel : Channel
  pub there : slice_get s.channels socket ≡ Some channel
  pub is_channel : IsChannelOf s.lines s.trace socket channel
  pub told_before : s.told ≤ s.clock
  pub received : IsReceived s.lines (link_at s socket) s.clock most until step
  pub readable : IsReadable s.lines channel (read_by channel.stream step.answer)
