use Rattle.std.proofs.Common.{sym, ◌∙◌, ap, arith, length}
use Rattle.taps_message.specs.Parts.{parts_left}
use Rattle.taps_message.proofs.Parting.{full_step}
use Rattle.taps_message.proofs.part.PartIterIterator.next.Goals as goal

pub returns-clause-steps : goal.returns-clause-steps
returns-clause-steps c =
    rw (c.split_at.ensures.front, c.split_at.ensures.back)
    (sym c.self.view_is ∙ ap (parts_left c.self.inside.max) c.in_ok-bytes.was
    ∙ full_step c.self.inside.max c.in_ok-bytes.bytes.now c.self.invariant c.if-bytes-self.false)

pub returns-clause-goes : goal.returns-clause-goes
returns-clause-goes c = record {
  on = λ _. (tt, tt, omega (arith, ap length (returns-clause-steps c)));
  keeps = tt;
  rests = λ _. tt;
}
