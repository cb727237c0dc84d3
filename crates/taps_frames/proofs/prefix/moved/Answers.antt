use Rattle.std.proofs.Common.{subst, arith}
use Rattle.taps_frames.specs.declared.head.Head.{Head}
use Rattle.taps_frames.specs.Heads.{IsHead, IsBadHead, IsWholeHead}
use Rattle.taps_frames.proofs.PrefixedHeads.{moved_bad, moved_whole}
use Rattle.taps_frames.proofs.prefix.moved.Goals as goal

pub returns-in-Bad : goal.returns-in-Bad
returns-in-Bad c = λ name prefix f i x e fits h.
    let b : IsBadHead f i x c.in-Bad.place = subst (λ (v : Head). IsHead f i x v) c.in-Bad.is h in
    let k = b.inside in
    moved_bad name prefix f i x c.in-Bad.place c.saturating_add.result (let s = c.saturating_add.ensures in omega (arith, e, fits, k, s)) b

pub returns-in-Whole : goal.returns-in-Whole
returns-in-Whole c = λ name prefix f i x e fits h.
    let b : IsWholeHead f i x c.in-Whole.own c.in-Whole.size = subst (λ (v : Head). IsHead f i x v) c.in-Whole.is h in
    let k = b.within in
    moved_whole name prefix f i x c.in-Whole.own c.saturating_add-in-Whole.result c.in-Whole.size (let s = c.saturating_add-in-Whole.ensures in omega (arith, e, fits, k, s)) b
