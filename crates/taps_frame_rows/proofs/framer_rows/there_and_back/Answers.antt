use Rattle.std.proofs.Common.{◌≡◌, List, [], ℕ, ◌++◌, ap, ◌∙◌, arith}
use Rattle.taps_framer.proofs.Laws.{frame_alone}
use Rattle.taps_frame_rows.proofs.framer_rows.there_and_back.Goals as goal

after_none : (o x y : List ℕ) → o ≡ [] → x ≡ o ++ y → x ≡ y
after_none o x y e f = f ∙ ap (λ (v : List ℕ). v ++ y) e

pub unwrap_in-requires : goal.unwrap_in-requires
unwrap_in-requires g c =
    frame_alone _ c.args.index (c.vouch_in.ensures.at c.args.index (omega arith)) c.args.body.now c.deref.result.now c.requires
    (after_none c.new-frame.result.items c.deref.result.now _ c.new-frame.ensures.items (c.deref.ensures.value ∙ c.in_ok-write_in.ensures.written))
