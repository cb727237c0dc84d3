use Rattle.std.proofs.Common.{◌≡◌, drop, map}
use Rattle.taps_command.specs.Places.{place_from}
use Rattle.taps_command.proofs.shelf.place_of.Given as goal

abbrev pub invariant-loop-place : goal.invariant-loop-place
invariant-loop-place g l =
    place_from l.place l.name (map (λ b. (goal.Framer-dyn g (b.vtable, b.value)).layer b.value) (drop l.place l.shelf.framers.now.items))
    ≡ place_from 0 l.name (map (λ b. (goal.Framer-dyn g (b.vtable, b.value)).layer b.value) l.shelf.framers.now.items)
