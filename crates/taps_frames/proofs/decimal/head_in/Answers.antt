use Rattle.std.proofs.Common.{ℕ, List, [], take, subst, arith}
use Rattle.std.proofs.lemmas.List.{take_all}
use Rattle.taps_framer.proofs.Bytes.{are_bytes_fit}
use Rattle.taps_frames.specs.Decimals.{IsStarted}
use Rattle.taps_frames.proofs.DecimalHeads.{begun_digits, digits_part, bad_at, whole_at, more_started}
use Rattle.taps_frames.proofs.decimal.head_in.Goals as goal

pub returns-in-Bad : goal.returns-in-Bad
returns-in-Bad c = λ name tail i.
    bad_at name c.args.least c.args.separator tail c.requires.least c.requires.separator i c.args.buffer.now c.loop-place.place c.loop-place.value c.loop-place.invariant (omega arith)
    (c.in-Bad.ensures name tail (take c.loop-place.place c.args.buffer.now) i
    (digits_part name c.args.least c.args.separator tail c.requires.least c.requires.separator i c.args.buffer.now c.loop-place.place c.loop-place.value (are_bytes_fit _ c.type_inv.buffer) c.loop-place.invariant (omega arith)))

pub returns-in-Whole : goal.returns-in-Whole
returns-in-Whole c = λ name tail i.
    whole_at name c.args.least c.args.separator tail c.requires.least c.requires.separator i c.args.buffer.now c.loop-place.place c.in-Whole.size (omega arith)
    (c.in-Whole.ensures name tail (take c.loop-place.place c.args.buffer.now) i
    (digits_part name c.args.least c.args.separator tail c.requires.least c.requires.separator i c.args.buffer.now c.loop-place.place c.loop-place.value (are_bytes_fit _ c.type_inv.buffer) c.loop-place.invariant (omega arith)))

pub loop-place-preserved : goal.loop-place-preserved
loop-place-preserved c =
    more_started [] c.args.least c.args.separator [] c.requires.least c.requires.separator 0 c.args.buffer.now c.loop-place.place c.in-Need.next (omega arith)
    (c.in-Need.ensures [] [] (take c.loop-place.place c.args.buffer.now) 0
    (digits_part [] c.args.least c.args.separator [] c.requires.least c.requires.separator 0 c.args.buffer.now c.loop-place.place c.loop-place.value (are_bytes_fit _ c.type_inv.buffer) c.loop-place.invariant (omega arith)))

pub returns : goal.returns
returns c = λ name tail i.
    begun_digits name c.args.least c.args.separator tail c.requires.least c.requires.separator i c.args.buffer.now c.loop-place.value
    (subst (λ (x : List ℕ). IsStarted c.args.least x c.loop-place.value) (take_all c.loop-place.place c.args.buffer.now (omega arith)) c.loop-place.invariant)
