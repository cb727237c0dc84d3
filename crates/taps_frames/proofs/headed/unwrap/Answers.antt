use Rattle.std.proofs.Common.{◌++◌, ap, ◌∙◌}
use Rattle.taps_frames.proofs.HeadedSights.{opened}
use Rattle.taps_frames.proofs.HeadedScans.{laws}
use Rattle.taps_frames.proofs.headed.unwrap.Goals as goal

pub body_of-requires : goal.body_of-requires
body_of-requires g c =
    let l = c.vouch_for_heads.ensures in
    (opened (g.H.Headed.format c.args.framer.now) c.args.index (l.heads c.args.index) (laws (g.H.Headed.format c.args.framer.now) (g.H.Headed.number c.args.framer.now) l c.args.index)
    c.args.frame.now c.head_in.result c.requires c.head_in.ensures).0

pub returns-clause-given : goal.returns-clause-given
returns-clause-given g c =
    let l = c.vouch_for_heads.ensures in
    let t = opened (g.H.Headed.format c.args.framer.now) c.args.index (l.heads c.args.index) (laws (g.H.Headed.format c.args.framer.now) (g.H.Headed.number c.args.framer.now) l c.args.index)
    c.args.frame.now c.head_in.result c.requires c.head_in.ensures in
    c.in_ok-extend_from_slice.ensures.items ∙ ap (λ w. c.args.out.now.items ++ w) (c.body_of.ensures ∙ t.1)
