use Rattle.std.proofs.Common.{reverse, subst}
use Rattle.taps_memory.specs.Joined.{AreJoinedReliably}
use Rattle.taps_memory.specs.Memory.{net_of}
use Rattle.taps_memory.proofs.Joining.{are_joined}
use Rattle.taps_memory.proofs.memory_net.MemoryNet.joined.Goals as goal

pub returns : goal.returns
returns c = subst (λ v. AreJoinedReliably (net_of v)) c.self.view_is (are_joined (reverse c.self.inside.items.items) c.self.inside.given c.self.inside.links.items c.self.invariant.1)
