-- What a chain wrapped is undone.
use Rattle.std.proofs.Common.{◌≡◌, ◌≢◌, ℕ, ◌<◌, ◌^◌, List, refl, ap, sym, ◌∙◌}
use Rattle.taps_framer.specs.Layers.{Layer}
use Rattle.taps_chain.specs.Chained.{chained, IsSpoken}
use Rattle.taps_chain.specs.ChainLaws.{AreFramers}
use Rattle.taps_chain.specs.Wholes.{IsWhole}
use Rattle.taps_chain.specs.declared.whole.WholeAnswer.{WholeAnswer}
use Rattle.taps_chain.specs.declared.whole.WholeAnswer.TheVariants as whole
use Rattle.taps_chain.proofs.Delimits.{chained_once}
use Rattle.taps_chain.proofs.Once.{not_bad}

pub undone : (fs : List Layer) → AreFramers fs → (k : ℕ) → k < 2 ^ 64 → (x : List ℕ) (answer : WholeAnswer) → IsWhole fs k x answer →
    (m : List ℕ) → IsSpoken fs k m → x ≡ chained fs k m → answer ≢ whole.NoMemory → answer ≡ whole.Message m
undone fs w k b x (whole.Message n) h m s e other = ap (λ (v : List ℕ). whole.Message v) (chained_once fs k w b n m h.0 s (sym h.1 ∙ e))
undone fs w k b x (whole.Bad l p) h m s e other = absurd (not_bad fs k w b m s x e l p h)
undone fs w k b x whole.NoMemory h m s e other = absurd (other refl)
