use Rattle.std.proofs.Common.{ap}
use Rattle.taps_example_framer.proofs.PacketLaws.{starts}
use Rattle.taps_example_framer.proofs.packet.PacketFramer.start.Goals as goal

pub returns : goal.returns
returns c = starts _ _ (ap (λ s. s.length) c.part.ensures)
