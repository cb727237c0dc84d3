use Rattle.std.proofs.Common.{◌+◌, [], ◌∷◌, ◌++◌, length, ap, ◌∙◌, arith}
use Rattle.taps_frames.proofs.HeadedSights.{dead_head}
use Rattle.taps_frames.proofs.HeadedScans.{laws, head_grows, head_ends, head_alone}
use Rattle.taps_frames.proofs.headed.step_head.Goals as goal

pub returns-in-Need : goal.returns-in-Need
returns-in-Need g c = λ x p.
    head_grows (g.H.Headed.format c.args.framer.now) (g.H.Headed.number c.args.framer.now) c.vouch_for_heads.ensures c.args.index c.args.scan.length c.args.scan.rest c.args.byte x p
    (omega arith) c.in-Need.value (c.in-Need.ensures x p)

pub returns-in-Bad : goal.returns-in-Bad
returns-in-Bad g c = λ x p.
    let l = c.vouch_for_heads.ensures in
    dead_head (g.H.Headed.format c.args.framer.now) c.args.index (l.heads c.args.index) (laws (g.H.Headed.format c.args.framer.now) (g.H.Headed.number c.args.framer.now) l c.args.index)
    (x ++ c.args.byte ∷ []) (c.in-Bad.ensures x p)

pub returns-then-rest-eq0 : goal.returns-then-rest-eq0
returns-then-rest-eq0 g c = λ x p.
    head_alone (g.H.Headed.format c.args.framer.now) (g.H.Headed.number c.args.framer.now) c.vouch_for_heads.ensures c.args.index c.args.scan.length c.args.scan.rest c.args.byte x p
    (omega arith) c.in-Whole.size (c.in-Whole.size + c.tail_len.result) (c.in-Whole.ensures x p)
    (ap (λ v. c.in-Whole.size + v) (c.tail_len.ensures ∙ ap length c.tail.ensures)) c.if-rest-eq0.true

pub returns-else-rest-eq0 : goal.returns-else-rest-eq0
returns-else-rest-eq0 g c = λ x p.
    head_ends (g.H.Headed.format c.args.framer.now) (g.H.Headed.number c.args.framer.now) c.vouch_for_heads.ensures c.args.index c.args.scan.length c.args.scan.rest c.args.byte x p
    (omega arith) c.in-Whole.size (c.in-Whole.size + c.tail_len.result) (c.in-Whole.ensures x p)
    (ap (λ v. c.in-Whole.size + v) (c.tail_len.ensures ∙ ap length c.tail.ensures)) (omega arith)
