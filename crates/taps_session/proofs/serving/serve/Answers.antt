use Rattle.std.proofs.Common.{◌∙◌, ap}
use Rattle.taps_candidate.specs.Plan.{RankedPlan}
use Rattle.taps_session.specs.FileSessions.{local_addresses}
use Rattle.taps_session.proofs.ListenPlans.{first_streams}
use Rattle.taps_session.proofs.serving.serve.Goals as goal

pub serve_on-requires-clause-stream : goal.serve_on-requires-clause-stream
serve_on-requires-clause-stream g c =
    first_streams c.args.ready.now.pre (local_addresses c.args.ready.now.pre) c.as_slice.result.now c.leaf-item.result (c.as_slice.ensures ∙ ap (λ (p : RankedPlan). p.leaves) c.requires.plan.ranked) c.in-len1-up.len_at_least c.leaf-item.is
