use Rattle.std.proofs.Common.{◌∷◌, get_or, take}
use Rattle.std.specs.Fmt.{HasWritten, IsPlainFormatter}
use Rattle.taps_endpoint.specs.CanonicalTexts.{joined}
use Rattle.taps_endpoint.proofs.canonical.JoinedDisplay.fmt.Given as goal

abbrev pub invariant-loop-field : goal.invariant-loop-field
invariant-loop-field g l =
    IsPlainFormatter l.fn.f → HasWritten g.W.Write.write_str_gives l.fn.f (joined (get_or l.self.fields.now 0 0 ∷ take l.field-index l.rest)) l.f
