use Rattle.std.proofs.lemmas.Bool.Decides.{Decides-eqb}
use Rattle.std.proofs.lemmas.Slice.Eq.{strip_suffix_is}
use Rattle.taps_log.proofs.Words.{strips_end, end_found}
use Rattle.taps_log.proofs.parts.before.Goals as goal

pub returns-clause-found : goal.returns-clause-found
returns-clause-found c =
    end_found c.args.text.now c.args.words.now _ (strip_suffix_is Decides-eqb c.args.text.now c.args.words.now _ c.strip_suffix.ensures.cases)

pub returns-clause-reads : goal.returns-clause-reads
returns-clause-reads c = strips_end c.args.text.now c.args.words.now _ c.strip_suffix.ensures.cases
