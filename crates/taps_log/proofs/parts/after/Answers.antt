use Rattle.std.proofs.lemmas.Bool.Decides.{Decides-eqb}
use Rattle.std.proofs.lemmas.Slice.Eq.{strip_prefix_is}
use Rattle.taps_log.proofs.Words.{strips, strips_found}
use Rattle.taps_log.proofs.parts.after.Goals as goal

pub returns-clause-found : goal.returns-clause-found
returns-clause-found c =
    strips_found c.args.text.now c.args.words.now _ (strip_prefix_is Decides-eqb c.args.text.now c.args.words.now _ c.strip_prefix.ensures.cases)

pub returns-clause-reads : goal.returns-clause-reads
returns-clause-reads c =
    strips c.args.text.now c.args.words.now _ (strip_prefix_is Decides-eqb c.args.text.now c.args.words.now _ c.strip_prefix.ensures.cases)
