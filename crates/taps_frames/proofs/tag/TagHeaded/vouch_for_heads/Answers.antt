use Rattle.taps_frames.proofs.Prefixed.{tag_lawful}
use Rattle.taps_frames.proofs.tag.TagHeaded.vouch_for_heads.Goals as goal

pub returns : goal.returns
returns c = tag_lawful c.args.self.now.kind
