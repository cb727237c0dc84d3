use Rattle.std.proofs.Common.{◌≡◌, ℕ, false, List, ◌+◌, ◌<◌, ◌++◌, length, take, sym, subst, arith}
use Rattle.std.proofs.lemmas.List.{take_all}
use Rattle.taps_framer.specs.Layers.{IsWholeFrame, lives}
use Rattle.taps_framer.specs.Scans.{Represents}
use Rattle.taps_framer.proofs.Bytes.{are_bytes_fit}
use Rattle.taps_framer.proofs.Prefixes.{append-nil}
use Rattle.taps_framer.proofs.Scans.{one_more}
use Rattle.taps_frames.specs.Stuffed.{stuffed, stuffed_scan}
use Rattle.taps_frames.proofs.StuffedSights.{behind_run, run_within}
use Rattle.taps_frames.proofs.stuffed.advance.Goals as goal

pub loop-at-init : goal.loop-at-init
loop-at-init c = record {
  keeps = λ x h. subst (λ (w : List ℕ). Represents stuffed stuffed_scan c.args._index c.args.scan w) (sym (append-nil x)) h;
  within = omega arith;
}

pub run_from-run-requires-clause-small : goal.run_from-run-requires-clause-small
run_from-run-requires-clause-small c = (c.loop-at.invariant.keeps c.requires.0 c.requires.1).told.0

pub step-requires : goal.step-requires
step-requires c = (c.requires.0 ++ take (c.loop-at.at + c.run_from-run.result) c.args.bytes.now, (behind_run c.args._index c.loop-at.reached c.requires.0 c.args.bytes.now c.loop-at.at c.run_from-run.result c.run_from-run.ensures (are_bytes_fit _ c.type_inv.bytes) (c.loop-at.invariant.keeps c.requires.0 c.requires.1)))

pub returns-then-at-bytes : goal.returns-then-at-bytes
returns-then-at-bytes c = λ x h.
    subst (λ (w : List ℕ). Represents stuffed stuffed_scan c.args._index (record { phase = c.loop-at.reached.phase; length = c.loop-at.reached.length + c.run_from-run.result; rest = 0 }) (x ++ w))
    (take_all (c.loop-at.at + c.run_from-run.result) c.args.bytes.now (omega arith)) (behind_run c.args._index c.loop-at.reached x c.args.bytes.now c.loop-at.at c.run_from-run.result c.run_from-run.ensures (are_bytes_fit _ c.type_inv.bytes) (c.loop-at.invariant.keeps x h))

pub returns-in-Whole : goal.returns-in-Whole
returns-in-Whole c = λ x h.
    let l : c.loop-at.at + c.run_from-run.result < length c.args.bytes.now = omega (arith, run_within c.loop-at.reached c.args.bytes.now c.loop-at.at c.run_from-run.result c.run_from-run.ensures c.loop-at.invariant.within, c.if-at-bytes.false) in (
      omega arith,
      omega (arith, l),
      subst (λ (w : List ℕ). IsWholeFrame stuffed c.args._index w) (one_more x c.args.bytes.now (c.loop-at.at + c.run_from-run.result) l) (c.in-Whole.ensures _ (behind_run c.args._index c.loop-at.reached x c.args.bytes.now c.loop-at.at c.run_from-run.result c.run_from-run.ensures (are_bytes_fit _ c.type_inv.bytes) (c.loop-at.invariant.keeps x h))),
    )

pub returns-in-Bad : goal.returns-in-Bad
returns-in-Bad c = λ x h.
    let l : c.loop-at.at + c.run_from-run.result < length c.args.bytes.now = omega (arith, run_within c.loop-at.reached c.args.bytes.now c.loop-at.at c.run_from-run.result c.run_from-run.ensures c.loop-at.invariant.within, c.if-at-bytes.false) in (
      l,
      (behind_run c.args._index c.loop-at.reached x c.args.bytes.now c.loop-at.at c.run_from-run.result c.run_from-run.ensures (are_bytes_fit _ c.type_inv.bytes) (c.loop-at.invariant.keeps x h)).viable,
      subst (λ (w : List ℕ). lives stuffed c.args._index w ≡ false) (one_more x c.args.bytes.now (c.loop-at.at + c.run_from-run.result) l) (c.in-Bad.ensures _ (behind_run c.args._index c.loop-at.reached x c.args.bytes.now c.loop-at.at c.run_from-run.result c.run_from-run.ensures (are_bytes_fit _ c.type_inv.bytes) (c.loop-at.invariant.keeps x h))),
    )

pub loop-at-preserved : goal.loop-at-preserved
loop-at-preserved c =
    let l : c.loop-at.at + c.run_from-run.result < length c.args.bytes.now = omega (arith, run_within c.loop-at.reached c.args.bytes.now c.loop-at.at c.run_from-run.result c.run_from-run.ensures c.loop-at.invariant.within, c.if-at-bytes.false) in
    record {
      keeps = λ x h. subst (λ (w : List ℕ). Represents stuffed stuffed_scan c.args._index c.in-More.next w) (one_more x c.args.bytes.now (c.loop-at.at + c.run_from-run.result) l) (c.in-More.ensures _ (behind_run c.args._index c.loop-at.reached x c.args.bytes.now c.loop-at.at c.run_from-run.result c.run_from-run.ensures (are_bytes_fit _ c.type_inv.bytes) (c.loop-at.invariant.keeps x h)));
      within = omega (arith, l);
    }

pub returns : goal.returns
returns c = λ x h.
    let w = c.loop-at.invariant.within in
    subst (λ (w : List ℕ). Represents stuffed stuffed_scan c.args._index c.loop-at.reached (x ++ w)) (take_all c.loop-at.at c.args.bytes.now (omega arith)) (c.loop-at.invariant.keeps x h)
