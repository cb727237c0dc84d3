use Rattle.memchr.proofs.lemmas.ValueLemmas.{IsFirstByte-value}
use Rattle.memchr.specs.Find.{is_byte}
use Rattle.taps_log.proofs.parts.first_space.Goals as goal

pub returns-clause-value : goal.returns-clause-value
returns-clause-value c = IsFirstByte-value (is_byte 32) c.args.text.now _ c.memchr.ensures
