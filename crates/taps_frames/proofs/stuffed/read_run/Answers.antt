use Rattle.std.proofs.Common.{ℕ, [], ◌∷◌, ◌++◌, ◌==◌, cond, get_or, ◌<◌, ◌+◌, length, refl, arith, ◌∙◌, ap}
use Rattle.taps_frames.proofs.Spellings.{special}
use Rattle.taps_frames.proofs.StuffedRuns.{read_to, read_whole, plain_past, plain_at_end, half_at, pair_at}
use Rattle.taps_frames.proofs.stuffed.read_run.Goals as goal
use Rattle.taps_frames.proofs.stuffed.read_run.Goals.{then-run-rest-via-then-run-rest, then-run-rest-via-else-run-rest+then-rest-run}

pub returns-then-run-rest-clause-items : goal.returns-then-run-rest-clause-items
returns-then-run-rest-clause-items c =
    let x = c.args.rest.now in
    let r = c.plain_run-run.result in
    let w = c.plain_run-run.ensures.within in
    elim c.then-run-rest.branch [
      | then-run-rest-via-then-run-rest b ↦ read_whole c.args.out.now.items c.put.new.out.items x r (length x) (plain_past x r (omega (arith, b.if-run-rest.true))) (omega arith) c.plain_run-run.ensures.plain c.put.ensures.items
      | then-run-rest-via-else-run-rest+then-rest-run b ↦ read_whole c.args.out.now.items c.put.new.out.items x r (length x)
          (plain_at_end x r (omega (arith, w, b.if-run-rest.false)) b.if-rest-run.true) (omega arith) c.plain_run-run.ensures.plain c.put.ensures.items
    ]

pub returns-then-run-rest-2-clause-items : goal.returns-then-run-rest-2-clause-items
returns-then-run-rest-2-clause-items c =
    let x = c.args.rest.now in
    let r = c.plain_run-run.result in
    let w = c.plain_run-run.ensures.within in
    let h : r < length x = omega (arith, w, c.if-run-rest.false) in
    read_to c.args.out.now.items c.put.new.out.items _ x r (length x) _
    (half_at x r (length x) c.if-run-rest-2.true (omega arith) (special _ (c.plain_run-run.ensures.stops h) c.if-rest-run.false))
    c.plain_run-run.ensures.plain c.put.ensures.items c.put-then-run-rest-2.ensures.items

pub returns-clause-items : goal.returns-clause-items
returns-clause-items c =
    let x = c.args.rest.now in
    let r = c.plain_run-run.result in
    let w = c.plain_run-run.ensures.within in
    let h : r < length x = omega (arith, w, c.if-run-rest.false) in
    let k : r + 1 < length x = omega (arith, h, c.if-run-rest-2.false) in
    let e : ℕ = cond (get_or x (r + 1) 0 == 221) 219 192 in
    read_to c.args.out.now.items c.put.new.out.items c.put-2.new.out.items x r (r + 2) (e ∷ [])
    (pair_at x r (r + 2) refl k (special _ (c.plain_run-run.ensures.stops h) c.if-rest-run.false))
    c.plain_run-run.ensures.plain c.put.ensures.items (c.put-2.ensures.items ∙ ap (λ (v : ℕ). c.put.new.out.items ++ v ∷ []) c.escaped.ensures)
