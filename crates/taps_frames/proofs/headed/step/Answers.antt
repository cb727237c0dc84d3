use Rattle.std.proofs.Common.{List, ℕ, [], ◌∷◌, ◌++◌, sym, subst}
use Rattle.taps_framer.specs.declared.scan.Seen.{Seen}
use Rattle.taps_framer.specs.Scans.{IsSeen}
use Rattle.taps_framer.proofs.Prefixes.{append-nil}
use Rattle.taps_frames.specs.Formats.{headed}
use Rattle.taps_frames.specs.Scans.{headed_scan, IsBodyPart}
use Rattle.taps_frames.proofs.HeadedScans.{in_head, in_body}
use Rattle.taps_frames.proofs.RunSights.{one_step}
use Rattle.taps_frames.proofs.headed.step.Goals as goal

pub advance_body-requires-clause-some : goal.advance_body-requires-clause-some
advance_body-requires-clause-some g c =
    (in_body (g.H.Headed.format c.args.framer.now) (g.H.Headed.number c.args.framer.now) c.args.index c.args.scan _ c.requires.1 c.if-scan-eq-BODY.true).some

pub returns-then-scan-eq-BODY : goal.returns-then-scan-eq-BODY
returns-then-scan-eq-BODY g c = λ x h.
    let P : List ℕ → Type 0 = λ w. IsBodyPart (g.H.Headed.format c.args.framer.now) c.args.index c.args.scan.length c.args.scan.rest w in
    let b : P x = in_body (g.H.Headed.format c.args.framer.now) (g.H.Headed.number c.args.framer.now) c.args.index c.args.scan x h c.if-scan-eq-BODY.true in
    subst (λ (v : Seen). IsSeen (headed (g.H.Headed.format c.args.framer.now)) (headed_scan (g.H.Headed.format c.args.framer.now) (g.H.Headed.number c.args.framer.now)) c.args.index (x ++ c.args.byte ∷ []) v) (sym c.seen_of.ensures)
    (one_step (headed (g.H.Headed.format c.args.framer.now)) (headed_scan (g.H.Headed.format c.args.framer.now) (g.H.Headed.number c.args.framer.now)) c.args.index x c.args.byte c.advance_body.result (c.advance_body.ensures x (subst P (sym (append-nil x)) b)))

pub step_head-requires : goal.step_head-requires
step_head-requires g c = (c.requires.0, in_head (g.H.Headed.format c.args.framer.now) (g.H.Headed.number c.args.framer.now) c.args.index c.args.scan _ c.requires.1 c.if-scan-eq-BODY.false)

pub returns-else-scan-eq-BODY : goal.returns-else-scan-eq-BODY
returns-else-scan-eq-BODY g c = λ x h.
    c.step_head.ensures x (in_head (g.H.Headed.format c.args.framer.now) (g.H.Headed.number c.args.framer.now) c.args.index c.args.scan x h c.if-scan-eq-BODY.false)
