use Rattle.std.proofs.Common.{◌≡◌, length, map, take, Some, slice_get}
use Rattle.taps_chain.proofs.chain.Chain.new.Given as goal

abbrev pub invariant-loop-place : goal.invariant-loop-place
invariant-loop-place g l = record {
  count : length l.framers.items ≡ l.place-index;
  taken : map Some (map (λ b. (goal.Framer-dyn g (b.now.vtable, b.now.value)).layer b.now.value) l.framers.items) ≡ map (slice_get (map (λ b. (goal.Framer-dyn g (b.vtable, b.value)).layer b.value) l.shelf.items)) (take l.place-index l.places);
}
