use Rattle.std.proofs.Common.{ℕ, List, ◌++◌, take}
use Rattle.taps_framer.specs.Scans.{Represents}
use Rattle.taps_framer.proofs.framer.Framer.advance.Given as goal

-- what the first scan represents, the scan that is reached represents with the bytes before this place
abbrev pub invariant-loop-place : goal.invariant-loop-place
invariant-loop-place g l = (x : List ℕ) →
    Represents (g.Self.Framer.layer l.self) (g.Self.Framer.scans l.self) l.index l.fn.scan x →
    Represents (g.Self.Framer.layer l.self) (g.Self.Framer.scans l.self) l.index l.reached (x ++ take l.place l.bytes)
