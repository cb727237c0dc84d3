use Rattle.std.proofs.Common.{◌≤◌, ap, ◌∙◌, ◌++◌, map, length, arith, rules}
use Rattle.std.specs.List.{filter, enumerate_from}
use Rattle.std.proofs.lemmas.List.{take_all}
use Rattle.std.proofs.lemmas.List.FromFn.{length-enumerate_from}
use Rattle.taps_prune.specs.Survival.{is_reachable}
use Rattle.taps_candidate.specs.Candidates.{keyed_among}
use Rattle.taps_candidate.proofs.Taking.{candidates_more, turns_left}
use Rattle.taps_candidate.proofs.candidate.add_level.Goals as goal

pub loop-place-preserved : goal.loop-place-preserved
loop-place-preserved c = record {
  candidates = candidates_more c.args.level c.args.path.now c.args.addresses.now c.loop-place.place c.index-addresses-place.result c.loop-place.turns c.args.candidates.now.items c.loop-place.candidates.items _
      c.loop-place-test.true c.index-addresses-place.is c.loop-place.invariant.turns c.loop-place.invariant.candidates c.add_address.ensures.candidates;
  room = search rules;
  grown = search rules;
  turns = turns_left c.args.path.now c.args.level.stack c.args.addresses.now c.loop-place.place c.index-addresses-place.result c.loop-place.turns _
      c.loop-place-test.true c.index-addresses-place.is c.loop-place.invariant.turns c.add_address.ensures.turns;
}

pub returns-clause-items : goal.returns-clause-items
returns-clause-items c =
    let all : length (enumerate_from 0 c.args.addresses.now) ≤ c.loop-place.place = omega (arith, length-enumerate_from 0 c.args.addresses.now) in
    c.loop-place.invariant.candidates
    ∙ ap (λ es. c.args.candidates.now.items ++ map (keyed_among c.args.level c.args.path.now c.args.addresses.now) (filter (λ e. is_reachable c.args.path.now c.args.level.stack e.1) es))
    (take_all c.loop-place.place (enumerate_from 0 c.args.addresses.now) all)
