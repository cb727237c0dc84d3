use Rattle.std.proofs.Common.{ℕ, List, ◌++◌, take, get_or, subst}
use Rattle.taps_framer.proofs.Scans.{one_more}
use Rattle.taps_chain.specs.Looks.{IsSettled}
use Rattle.taps_chain.proofs.Looking.{settled_by}
use Rattle.taps_chain.proofs.look.step_along.Goals as goal

pub returns-in_default-clause-settled : goal.returns-in_default-clause-settled
returns-in_default-clause-settled g c = λ x h.
    let f = (goal.Framer-dyn g c.args.framer.now).layer c.args.framer.now.1 in
    let scans = (goal.Framer-dyn g c.args.framer.now).scans c.args.framer.now.1 in
    let y : List ℕ = c.args.bytes.now in
    let n : ℕ = c.bytes.scanned in
    let r = c.bytes.invariant.represents x h in
    let P : List ℕ → Type 0 = λ v. IsSettled f scans c.args.index v c.step-seen.result in
    subst P (one_more x y n c.bytes.invariant.within)
    (settled_by f scans c.args.index (x ++ take n y) c.bytes.reached (get_or y n 0) r c.step-seen.result (c.step-seen.ensures _ r))
