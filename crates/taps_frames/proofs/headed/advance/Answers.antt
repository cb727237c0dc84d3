use Rattle.std.proofs.Common.{◌≡◌, ℕ, false, List, ◌++◌, take, sym, subst, arith, ap}
use Rattle.std.proofs.lemmas.List.{take_all}
use Rattle.taps_framer.specs.Layers.{IsWholeFrame, lives}
use Rattle.taps_framer.specs.Scans.{Represents}
use Rattle.taps_framer.proofs.Scans.{one_more}
use Rattle.taps_framer.proofs.Prefixes.{append-nil}
use Rattle.taps_frames.specs.Formats.{headed}
use Rattle.taps_frames.specs.Scans.{headed_scan}
use Rattle.taps_frames.proofs.HeadedScans.{in_head, in_body}
use Rattle.taps_frames.proofs.headed.advance.Goals as goal

pub loop-place-init : goal.loop-place-init
loop-place-init g c = λ x h.
    let P : List ℕ → Type 0 = λ w. Represents (headed (g.H.Headed.format c.args.framer.now)) (headed_scan (g.H.Headed.format c.args.framer.now) (g.H.Headed.number c.args.framer.now)) c.args.index c.args.scan w in
    subst P (sym (append-nil x)) h

pub advance_body-requires-clause-some : goal.advance_body-requires-clause-some
advance_body-requires-clause-some g c =
    (in_body (g.H.Headed.format c.args.framer.now) (g.H.Headed.number c.args.framer.now) c.args.index c.loop-place.reached _ (c.loop-place.invariant c.requires.0 c.requires.1) c.if-reached-eq-BODY.true).some

pub returns-then-reached-eq-BODY : goal.returns-then-reached-eq-BODY
returns-then-reached-eq-BODY g c = λ x h.
    c.advance_body.ensures x (in_body (g.H.Headed.format c.args.framer.now) (g.H.Headed.number c.args.framer.now) c.args.index c.loop-place.reached _ (c.loop-place.invariant x h) c.if-reached-eq-BODY.true)

pub step_head-requires : goal.step_head-requires
step_head-requires g c = (
  c.requires.0 ++ take c.loop-place.place c.args.bytes.now,
  in_head (g.H.Headed.format c.args.framer.now) (g.H.Headed.number c.args.framer.now) c.args.index c.loop-place.reached _ (c.loop-place.invariant c.requires.0 c.requires.1) c.if-reached-eq-BODY.false,
)

pub returns-in-Whole : goal.returns-in-Whole
returns-in-Whole g c = λ x h.
    let P : List ℕ → Type 0 = λ w. IsWholeFrame (headed (g.H.Headed.format c.args.framer.now)) c.args.index w in (
      omega arith,
      omega (arith, c.loop-place-test.true),
      subst P (one_more x c.args.bytes.now c.loop-place.place c.loop-place-test.true)
          (c.in-Whole.ensures _ (in_head (g.H.Headed.format c.args.framer.now) (g.H.Headed.number c.args.framer.now) c.args.index c.loop-place.reached _ (c.loop-place.invariant x h) c.if-reached-eq-BODY.false)),
    )

pub returns-in-Bad : goal.returns-in-Bad
returns-in-Bad g c = λ x h.
    let P : List ℕ → Type 0 = λ w. lives (headed (g.H.Headed.format c.args.framer.now)) c.args.index w ≡ false in (
      c.loop-place-test.true,
      (c.loop-place.invariant x h).viable,
      subst P (one_more x c.args.bytes.now c.loop-place.place c.loop-place-test.true)
          (c.in-Bad.ensures _ (in_head (g.H.Headed.format c.args.framer.now) (g.H.Headed.number c.args.framer.now) c.args.index c.loop-place.reached _ (c.loop-place.invariant x h) c.if-reached-eq-BODY.false)),
    )

pub loop-place-preserved : goal.loop-place-preserved
loop-place-preserved g c = λ x h.
    let P : List ℕ → Type 0 = λ w. Represents (headed (g.H.Headed.format c.args.framer.now)) (headed_scan (g.H.Headed.format c.args.framer.now) (g.H.Headed.number c.args.framer.now)) c.args.index c.in-More.next w in
    subst P (one_more x c.args.bytes.now c.loop-place.place c.loop-place-test.true)
    (c.in-More.ensures _ (in_head (g.H.Headed.format c.args.framer.now) (g.H.Headed.number c.args.framer.now) c.args.index c.loop-place.reached _ (c.loop-place.invariant x h) c.if-reached-eq-BODY.false))

pub returns : goal.returns
returns g c = λ x h.
    let P : List ℕ → Type 0 = λ w. Represents (headed (g.H.Headed.format c.args.framer.now)) (headed_scan (g.H.Headed.format c.args.framer.now) (g.H.Headed.number c.args.framer.now)) c.args.index c.loop-place.reached w in
    let e : take c.loop-place.place c.args.bytes.now ≡ c.args.bytes.now = take_all c.loop-place.place c.args.bytes.now (omega arith) in
    subst P (ap (λ (w : List ℕ). x ++ w) e) (c.loop-place.invariant x h)
