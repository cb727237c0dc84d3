-- The winner of a race may be held by a connection.
use Rattle.std.proofs.Common.{◌≡◌, ℕ, zero, suc, ◌<◌, slice_get, Bool, true, false, not, ◌&&◌, List, [], ◌∷◌, Some, refl, sym, ◌∙◌, ap, arith}
use Rattle.std.specs.Option.{option_map_or}
use Rattle.taps_stack.specs.declared.target.Target.{Target}
use Rattle.taps_stack.specs.StackTable.{is_stream}
use Rattle.taps_socket.specs.declared.item.Item.{Item}
use Rattle.taps_socket.specs.RaceSockets.{has}
use Rattle.taps_socket.specs.Sides.{is_connected, shut, ended}
use Rattle.taps_racer.specs.CarriedOut.{IsWinner}
use Rattle.taps_connection.specs.Conditions.{IsHeld}

both_left : (a b : Bool) → (a && b) ≡ true → a ≡ true
both_left true b h = refl
both_left false b h = h

right_not : (a b : Bool) → (a && not b) ≡ true → b ≡ false
right_not true true h = sym h
right_not true false h = refl
right_not false b h = absurd (cc)

only_target : (target : Target) (leaf : ℕ) → leaf < 1 → slice_get (target ∷ []) leaf ≡ Some target
only_target target zero h = refl
only_target target (suc leaf) h = absurd (omega arith)

pub winner_held : (target : Target) (race trace : List Item) (leaf socket : ℕ) → IsWinner (target ∷ []) race trace leaf socket → IsHeld trace socket (is_stream target.stack) false false
winner_held target race trace leaf socket w = record {
  connected = both_left (is_connected trace socket) _ w.sends;
  carries = ap (λ o. option_map_or (λ t. is_stream t.stack) o true) (w.target ∙ only_target target leaf w.listed);
  shut_by = right_not (is_connected trace socket) (has (shut trace) socket) w.sends;
  ended_by = right_not (is_connected trace socket) (has (ended trace) socket) w.receives;
}
