use Rattle.std.proofs.Common.{ℕ, List, ◌-◌, ◌<◌, ◌++◌, length, take}
use Rattle.taps_framer.specs.Scans.{Represents}
use Rattle.taps_chain.proofs.look.step_along.Given as goal

-- what the first scan represents, the scan that is reached represents with the bytes that are scanned
abbrev pub invariant-bytes : goal.invariant-bytes
invariant-bytes g l = record {
  within : l.scanned < length l.bytes;
  represents : (x : List ℕ) → Represents ((goal.Framer-dyn g l.framer.now).layer l.framer.now.1) ((goal.Framer-dyn g l.framer.now).scans l.framer.now.1) l.index l.fn.scan x →
      Represents ((goal.Framer-dyn g l.framer.now).layer l.framer.now.1) ((goal.Framer-dyn g l.framer.now).scans l.framer.now.1) l.index l.reached (x ++ take l.scanned l.bytes);
}

abbrev pub decreases-bytes : goal.decreases-bytes
decreases-bytes g l = length l.bytes - l.scanned
