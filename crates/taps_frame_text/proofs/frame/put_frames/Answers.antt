use Rattle.std.proofs.Common.{sym, ◌∙◌}
use Rattle.taps_frame_text.proofs.Lines.{spoken_framed, refused_framed}
use Rattle.taps_frame_text.proofs.frame.put_frames.Goals as goal

pub returns-then-not-branch-clause-text : goal.returns-then-not-branch-clause-text
returns-then-not-branch-clause-text g c = (refused_framed _ _ _ _ _ _ _ _ c.loop-number-test.true c.index-bodies-number.is c.loop-number.invariant c.in_ok-put_framed.ensures.text (sym c.in_ok-put_framed.ensures.spoken ∙ c.if-not-branch.true)).0

pub returns-then-not-branch-clause-whole : goal.returns-then-not-branch-clause-whole
returns-then-not-branch-clause-whole g c = (refused_framed _ _ _ _ _ _ _ _ c.loop-number-test.true c.index-bodies-number.is c.loop-number.invariant c.in_ok-put_framed.ensures.text (sym c.in_ok-put_framed.ensures.spoken ∙ c.if-not-branch.true)).1

pub loop-number-preserved : goal.loop-number-preserved
loop-number-preserved g c = spoken_framed _ _ _ _ _ _ _ _ c.loop-number-test.true c.index-bodies-number.is c.loop-number.invariant c.in_ok-put_framed.ensures.text (sym c.in_ok-put_framed.ensures.spoken ∙ c.if-not-branch.false)
