use Rattle.std.proofs.Common.{◌≡◌, subst}
use Rattle.std.specs.Prelude.{None}
use Rattle.taps_memory.specs.Pairs.{first_of}
use Rattle.taps_memory.specs.Links.{link_has}
use Rattle.taps_memory.proofs.Founds.{not_lost}
use Rattle.taps_memory.proofs.memory_net.MemoryNet.is_over.Goals as goal

pub unreachable-requires : goal.unreachable-requires
unreachable-requires c = not_lost c.args.self.now.links c.args.socket c.requires (subst (λ v. None ≡ first_of (link_has c.args.socket) v.links) c.self.view_is (rw c.in-None.is at c.link_of.ensures))
