use Rattle.std.proofs.Common.{◌≡◌, ◌+◌, drop}
use Rattle.std.specs.Prelude.{option_map}
use Rattle.taps_memory.specs.Pairs.{place_first}
use Rattle.taps_memory.specs.Links.{link_waits}
use Rattle.taps_memory.proofs.links.place_waiting.Given as goal

abbrev pub invariant-loop-link : goal.invariant-loop-link
invariant-loop-link l =
    record {
      place : l.place ≡ l.link-index;
      same : place_first (link_waits l.listener) l.links.items ≡ option_map (λ k. k + l.link-index) (place_first (link_waits l.listener) (drop l.link-index l.links.items));
    }
