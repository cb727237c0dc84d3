use Rattle.std.proofs.Common.{ℕ, List, ◌++◌, take}
use Rattle.taps_framer.specs.Scans.{Represents}
use Rattle.taps_frames.specs.Formats.{headed}
use Rattle.taps_frames.specs.Scans.{headed_scan}
use Rattle.taps_frames.proofs.headed.advance.Given as goal

-- what the first scan represents, the scan that is reached represents with the bytes before this place
abbrev pub invariant-loop-place : goal.invariant-loop-place
invariant-loop-place g l = (x : List ℕ) →
    Represents (headed (g.H.Headed.format l.framer)) (headed_scan (g.H.Headed.format l.framer) (g.H.Headed.number l.framer)) l.index l.fn.scan x →
    Represents (headed (g.H.Headed.format l.framer)) (headed_scan (g.H.Headed.format l.framer) (g.H.Headed.number l.framer)) l.index l.reached (x ++ take l.place l.bytes)
