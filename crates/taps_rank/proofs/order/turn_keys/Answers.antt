use Rattle.std.proofs.Common.{ap, ◌∙◌, ◌++◌, ◌∷◌, [], ◌≤◌, length, get_or, map, arith}
use Rattle.std.specs.List.{enumerate_from}
use Rattle.std.proofs.lemmas.List.{get_or_default, take_all}
use Rattle.std.proofs.lemmas.List.FromFn.{length-enumerate_from}
use Rattle.taps_endpoint.specs.declared.address.Family.{Family}
use Rattle.taps_endpoint.specs.declared.address.Family.TheVariants.{Inet4}
use Rattle.taps_rank.specs.declared.turn.Turn.{Turn}
use Rattle.taps_rank.specs.Order.{turn_key}
use Rattle.taps_rank.proofs.Turned.{key_more, turns_taken}
use Rattle.taps_rank.proofs.order.turn_keys.Goals as goal

pub loop-place-preserved : goal.loop-place-preserved
loop-place-preserved c =
    let family : Family = get_or c.args.families.now c.loop-place.place Inet4 in
    record {
      keys = key_more c.args.families.now c.loop-place.place family c.loop-place.turns c.loop-place.keys.items _ c.loop-place-test.true
          (get_or_default c.args.families.now c.loop-place.place Inet4 family c.loop-place-test.true) c.loop-place.invariant.turns c.loop-place.invariant.keys
          (c.in_ok-push.ensures.items ∙ ap (λ (t : Turn). c.loop-place.keys.items ++ (t.round ∷ t.side ∷ c.loop-place.place ∷ []) ∷ []) c.take-turn.ensures.turn);
      turns = turns_taken c.args.families.now c.loop-place.place family c.loop-place.turns _ c.loop-place-test.true
          (get_or_default c.args.families.now c.loop-place.place Inet4 family c.loop-place-test.true) c.loop-place.invariant.turns c.take-turn.ensures.taken;
    }

pub returns : goal.returns
returns c =
    let all : length (enumerate_from 0 c.args.families.now) ≤ c.loop-place.place = omega (arith, length-enumerate_from 0 c.args.families.now) in
    c.loop-place.invariant.keys ∙ ap (map (turn_key (enumerate_from 0 c.args.families.now))) (take_all c.loop-place.place (enumerate_from 0 c.args.families.now) all)
