use Rattle.std.proofs.Common.{◌≡◌, drop}
use Rattle.taps_memory.specs.Pairs.{first_of}
use Rattle.taps_memory.specs.Links.{link_has}
use Rattle.taps_memory.proofs.links.link_of.Given as goal

abbrev pub invariant-loop-link : goal.invariant-loop-link
invariant-loop-link l = first_of (link_has l.socket) l.links.items ≡ first_of (link_has l.socket) (drop l.link-index l.links.items)
