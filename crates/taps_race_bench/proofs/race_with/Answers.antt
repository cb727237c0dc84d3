use Rattle.std.proofs.Common.{◌∙◌, arith}
use Rattle.std.specs.List.{All}
use Rattle.std.proofs.lemmas.List.Elements.{All-replicate, All-same}
use Rattle.taps_base.specs.declared.gap.Gap.TheVariants.{After}
use Rattle.taps_racer.specs.Kept.{IsShort}
use Rattle.taps_race_bench.proofs.race_with.Goals as goal

pub new-requires-clause-short : goal.new-requires-clause-short
new-requires-clause-short c =
    All-same IsShort _ _ (c.deref.ensures.value ∙ c.requires.gaps) (All-replicate IsShort c.args.leaves (After 0) (omega arith))
