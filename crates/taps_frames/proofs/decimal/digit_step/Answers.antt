use Rattle.std.proofs.Common.{sym, ◌∙◌, arith, inl, inr}
use Rattle.taps_frames.proofs.DecimalHeads.{whole_with, none_with, bad_with, digit_with}
use Rattle.taps_frames.proofs.decimal.digit_step.Goals as goal

pub returns-then-count-gt0 : goal.returns-then-count-gt0
returns-then-count-gt0 c = λ name tail x i p.
    whole_with name c.args.least c.args.separator tail c.requires.least c.requires.separator i c.args.count c.args.value c.args.byte x p c.if-byte-separator.true (omega arith)

pub returns-then-not-is_ascii_digit : goal.returns-then-not-is_ascii_digit
returns-then-not-is_ascii_digit c = λ name tail x i p.
    none_with name c.args.least c.args.separator tail c.requires.least c.requires.separator i c.args.count c.args.value c.args.byte x p (sym c.is_ascii_digit.ensures.value ∙ c.if-not-is_ascii_digit.true)
    (λ e. elim c.else-byte-separator.either [ inl w ↦ omega arith | inr w ↦ omega (arith, e) ])

pub returns-then-count-gt0-2 : goal.returns-then-count-gt0-2
returns-then-count-gt0-2 c = λ name tail x i p.
    bad_with name c.args.least c.args.separator tail c.requires.least c.requires.separator i c.args.count c.args.value c.args.byte x p (sym c.is_ascii_digit.ensures.value ∙ c.if-not-is_ascii_digit.false)
    (λ k. omega (arith, k.0 c.if-value-eq0.true))

pub returns-then-next-least : goal.returns-then-next-least
returns-then-next-least c = λ name tail x i p.
    bad_with name c.args.least c.args.separator tail c.requires.least c.requires.separator i c.args.count c.args.value c.args.byte x p (sym c.is_ascii_digit.ensures.value ∙ c.if-not-is_ascii_digit.false)
    (λ k. elim c.then-next-least.either [ inl w ↦ omega (arith, k.1) | inr w ↦ omega (arith, k.2) ])

pub returns : goal.returns
returns c = λ name tail x i p.
    digit_with name c.args.least c.args.separator tail c.requires.least c.requires.separator i c.args.count c.args.value c.args.byte x p (sym c.is_ascii_digit.ensures.value ∙ c.if-not-is_ascii_digit.false)
    (λ e. elim c.else-value-eq0.either [ inl w ↦ omega arith | inr w ↦ omega (arith, e) ]) (omega arith) (omega arith)
