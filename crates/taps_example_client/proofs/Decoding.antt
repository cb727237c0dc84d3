-- From what was heard of bytes to what they decode to.
use Rattle.std.proofs.Common.{◌≡◌, ℕ, List, [], ◌∷◌, ◌++◌, length, refl, sym, ◌∙◌, ap, arith}
use Rattle.taps_framer.specs.Layers.{Layer}
use Rattle.taps_framer.proofs.Prefixes.{append-nil}
use Rattle.taps_chain.specs.Chained.{spelling}
use Rattle.taps_chain.specs.Hearings.{IsHearingOf}
use Rattle.taps_chain.specs.declared.heard.Heard.TheVariants as heard
use Rattle.taps_example_client.specs.Decodings.{AreBytesOf}

none : (x : List ℕ) → length x ≡ 0 → x ≡ []
none [] h = refl
none (a ∷ x) h = absurd (omega arith)

pub decoded : (fs : List Layer) (x : List ℕ) (ms : List (List ℕ)) (n : ℕ) → IsHearingOf fs x ms heard.Need n → n ≡ 0 → AreBytesOf fs ms x
decoded fs x ms n h z = record {
  bytes = h.1.0.split ∙ ap (λ (r : List ℕ). spelling fs 0 ms ++ r) (none h.0 (sym h.1.1 ∙ z)) ∙ append-nil (spelling fs 0 ms);
  spoken = h.1.0.spoken;
}
