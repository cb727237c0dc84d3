use Rattle.taps_frame_text.proofs.HeardAs.{comes_to_end, heard_text}
use Rattle.taps_frame_text.proofs.unframe.heard_text.Goals as goal

pub ended_text-requires : goal.ended_text-requires
ended_text-requires g c = comes_to_end _ _ _ _ _ c.hear_bytes-hearing.ensures.holds

pub returns : goal.returns
returns g c =
    let k = c.hear_bytes-hearing.ensures in
    heard_text _ _ _ _ _ _ _ c.requires.some c.vouch.ensures c.requires.few k.kept k.holds c.ended_text.ensures.ended c.ended_text.ensures.text c.ended_text.ensures.whole
