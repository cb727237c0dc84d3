use Rattle.std.proofs.Common.{◌<◌, ◌≤◌, [], ap, ◌∙◌, length, arith}
use Rattle.std.specs.List.{flat_map, enumerate_from}
use Rattle.std.proofs.lemmas.List.{take_all, get_or_default}
use Rattle.std.proofs.lemmas.List.FromFn.{length-enumerate_from}
use Rattle.taps_preconnection.specs.Paths.{any_path}
use Rattle.taps_preconnection.specs.PathOffers.{path_of}
use Rattle.taps_candidate.specs.Branches.{of_path}
use Rattle.taps_candidate.specs.Gathering.{gathering_of}
use Rattle.taps_candidate.proofs.Steps.{placed_more}
use Rattle.taps_candidate.proofs.branches.gather_branches.Goals as goal

pub loop-path-preserved : goal.loop-path-preserved
loop-path-preserved c =
    let within : c.loop-path.path < length c.args.pre.now.paths.items = omega arith in
    placed_more (of_path (gathering_of c.args.pre.now c.args.role [])) c.args.pre.now.paths.items c.loop-path.path (path_of c.args.pre.now c.loop-path.path) c.loop-path.branches.items _
    within (get_or_default c.args.pre.now.paths.items c.loop-path.path any_path (path_of c.args.pre.now c.loop-path.path) within) c.loop-path.invariant c.in_ok-add_path.ensures

pub returns : goal.returns
returns c =
    let all : length (enumerate_from 0 c.args.pre.now.paths.items) ≤ c.loop-path.path = omega (arith, length-enumerate_from 0 c.args.pre.now.paths.items) in
    c.loop-path.invariant
    ∙ ap (flat_map (of_path (gathering_of c.args.pre.now c.args.role []))) (take_all c.loop-path.path (enumerate_from 0 c.args.pre.now.paths.items) all)
