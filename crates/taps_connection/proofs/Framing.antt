-- How many bytes a message has through layers.
use Rattle.std.proofs.Common.{◌≡◌, ℕ, ◌+◌, ◌<◌, ◌≤◌, ◌^◌, Bool, true, false, List, [], ◌∷◌, length, refl, sym, arith, subst}
use Rattle.std.specs.Prelude.{Option, Some, None}
use Rattle.taps_framer.specs.Layers.{Layer}
use Rattle.taps_chain.specs.ChainLaws.{AreFramers}
use Rattle.taps_chain.specs.Chained.{chained, chain_refusal, refusal_below}
use Rattle.taps_connection.specs.Encoded.{IsFramed}

is_spoken : (b : Bool) (o : Option ℕ) → refusal_below b o ≡ None → b ≡ true
is_spoken true None e = refl
is_spoken false None e = (let z : Some 0 ≡ None = e in cc)
is_spoken b (Some l) e = (let z : Some (l + 1) ≡ None = e in cc)

pub is_framed : (fs : List Layer) → AreFramers fs → (k : ℕ) → k < 2 ^ 64 → 0 < length fs → (m bytes : List ℕ) → chain_refusal fs k m ≡ None → bytes ≡ chained fs k m → IsFramed fs k m bytes
is_framed [] laws k h n m bytes e same = absurd (omega (arith, n))
is_framed (f ∷ fs) laws k h n m bytes e same =
    let law = laws.0.at k h in
    let s = is_spoken (f.speaks (chained fs k m)) (chain_refusal fs k m) e in
    record {
      spoken = e;
      spelled = same;
      some = subst (λ (v : List ℕ). 1 ≤ length v) (sym same) (law.some (chained fs k m) s);
      few = subst (λ (v : List ℕ). length v ≤ 4194304) (sym same) (law.bounded (chained fs k m) s);
    }
