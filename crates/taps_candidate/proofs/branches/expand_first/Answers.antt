use Rattle.std.proofs.Common.{◌≡◌, ◌<◌, ℕ, List, false, sym, subst, length, get_or}
use Rattle.std.specs.List.Sorted.{IsPermutation}
use Rattle.taps_preconnection.specs.declared.path.Path.{Path}
use Rattle.taps_rank.specs.Order.{comes_before}
use Rattle.taps_candidate.specs.declared.candidate.Level.{Level}
use Rattle.taps_candidate.specs.Branches.{branch_key, Expands}
use Rattle.taps_candidate.specs.Candidates.{of_level}
use Rattle.taps_candidate.proofs.Expanded.{expands}
use Rattle.taps_candidate.proofs.branches.expand_first.Goals as goal

pub returns-clause-expands : goal.returns-clause-expands
returns-clause-expands c =
    let levels : List Level = c.args.branches.now.items in
    let place : ℕ = c.first_branch-place.result in
    let within : place < length levels = subst (λ (ls : List Level). place < length ls) c.deref.ensures.value c.first_branch-place.ensures.within in
    let first : (k : ℕ) (d : Level) → k < length levels → comes_before (branch_key (get_or levels k d)) (branch_key (get_or levels place d)) ≡ false =
    subst (λ (ls : List Level). (k : ℕ) (d : Level) → k < length ls → comes_before (branch_key (get_or ls k d)) (branch_key (get_or ls place d)) ≡ false) c.deref.ensures.value c.first_branch-place.ensures.first in
    let moved = subst (λ (path : Path). IsPermutation (of_level c.remove-level.result path c.args.addresses.now) c.expand.new.candidates.items) c.path.ensures c.expand.ensures.moved in
    subst (λ (ls : List Level). Expands c.args.pre.now.paths.items c.args.addresses.now levels ls c.expand.new.candidates.items) (sym c.remove-level.ensures.items)
    (expands c.args.pre.now.paths.items c.args.addresses.now levels place c.remove-level.result c.expand.new.candidates.items c.requires.branches within c.remove-level.ensures.value first moved c.expand.ensures.sorted)
