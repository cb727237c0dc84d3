use Rattle.std.proofs.Common.{◌≡◌, ℕ, false, List, ◌++◌, take, sym, subst, arith, ap}
use Rattle.std.proofs.lemmas.Grind.{common_steps}
use Rattle.taps_framer.specs.Layers.{IsWholeFrame, lives}
use Rattle.taps_framer.specs.Scans.{Represents}
use Rattle.taps_framer.proofs.Scans.{one_more}
use Rattle.taps_framer.proofs.Prefixes.{append-nil}
use Rattle.taps_framer.proofs.framer.Framer.advance.Goals as goal

pub loop-place-init : goal.loop-place-init
loop-place-init g c = λ x h.
    let P : List ℕ → Type 0 = λ w. Represents (g.Self.Framer.layer c.args.self.now) (g.Self.Framer.scans c.args.self.now) c.args.index c.args.scan w in
    subst P (sym (append-nil x)) h

pub step-requires : goal.step-requires
step-requires g c = (c.requires.0 ++ take c.loop-place.place c.args.bytes.now, c.loop-place.invariant c.requires.0 c.requires.1)

pub returns-in-Whole : goal.returns-in-Whole
returns-in-Whole g c = λ x h.
    let P : List ℕ → Type 0 = λ w. IsWholeFrame (g.Self.Framer.layer c.args.self.now) c.args.index w in (
      omega arith,
      omega (arith, c.loop-place-test.true),
      subst P (one_more x c.args.bytes.now c.loop-place.place c.loop-place-test.true) (c.in-Whole.ensures _ (c.loop-place.invariant x h)),
    )

pub returns-in-Bad : goal.returns-in-Bad
returns-in-Bad g c = λ x h.
    let P : List ℕ → Type 0 = λ w. lives (g.Self.Framer.layer c.args.self.now) c.args.index w ≡ false in (
      c.loop-place-test.true,
      (c.loop-place.invariant x h).viable,
      subst P (one_more x c.args.bytes.now c.loop-place.place c.loop-place-test.true) (c.in-Bad.ensures _ (c.loop-place.invariant x h)),
    )

pub loop-place-preserved : goal.loop-place-preserved
loop-place-preserved g c = λ x h.
    let P : List ℕ → Type 0 = λ w. Represents (g.Self.Framer.layer c.args.self.now) (g.Self.Framer.scans c.args.self.now) c.args.index c.in-More.next w in
    subst P (one_more x c.args.bytes.now c.loop-place.place c.loop-place-test.true) (c.in-More.ensures _ (c.loop-place.invariant x h))

pub returns : goal.returns
returns g c = λ x h.
    let P : List ℕ → Type 0 = λ w. Represents (g.Self.Framer.layer c.args.self.now) (g.Self.Framer.scans c.args.self.now) c.args.index c.loop-place.reached w in
    let e : take c.loop-place.place c.args.bytes.now ≡ c.args.bytes.now = grind (arith, common_steps) in
    subst P (ap (λ (w : List ℕ). x ++ w) e) (c.loop-place.invariant x h)
