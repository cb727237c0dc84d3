use Rattle.std.proofs.Common.{◌≡◌, [], drop}
use Rattle.taps_command.specs.Places.{places_after}
use Rattle.taps_command.proofs.shelf.find_all.Given as goal

abbrev pub invariant-loop-name : goal.invariant-loop-name
invariant-loop-name g l =
    places_after g.L.Layers.layers l.places.items (drop l.name-index l.names)
    ≡ places_after g.L.Layers.layers [] l.names
