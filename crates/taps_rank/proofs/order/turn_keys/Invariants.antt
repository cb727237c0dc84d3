use Rattle.std.proofs.Common.{◌≡◌, map, take}
use Rattle.std.specs.List.{enumerate_from}
use Rattle.taps_rank.specs.Order.{turn_key}
use Rattle.taps_rank.specs.Turns.{turns_after}
use Rattle.taps_rank.proofs.order.turn_keys.Given as goal

abbrev pub invariant-loop-place : goal.invariant-loop-place
invariant-loop-place l = record {
  keys : l.keys.items ≡ map (turn_key (enumerate_from 0 l.families)) (take l.place (enumerate_from 0 l.families));
  turns : l.turns ≡ turns_after (take l.place l.families);
}
