use Rattle.std.proofs.Common.{◌≡◌, length}
use Rattle.std.specs.List.{All}
use Rattle.taps_memory.specs.Links.{unused_link}
use Rattle.taps_memory.proofs.memory_net.unused_links.Given as goal

abbrev pub invariant-loop : goal.invariant-loop
invariant-loop l =
    record {
      each : All (λ x. x ≡ unused_link l.capacity) l.links.items;
      count : length l.links.items ≡ l.counter;
    }
