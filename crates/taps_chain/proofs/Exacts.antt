-- An answer of ears is the first of what is heard.
use Rattle.std.proofs.Common.{◌≡◌, ℕ, ◌+◌, ◌<◌, ◌^◌, List, [], ◌∷◌, ◌++◌, length, ap, sym, subst, ◌∙◌, arith, append_assoc}
use Rattle.taps_framer.specs.Layers.{Layer}
use Rattle.taps_chain.specs.Chained.{chained, IsSpoken, spelling}
use Rattle.taps_chain.specs.Heard.{Ending, needs, fails, IsEnding, IsHeard}
use Rattle.taps_chain.specs.ChainLaws.{AreFramers}
use Rattle.taps_chain.specs.Streams.{StreamState}
use Rattle.taps_chain.specs.Nexts.{IsNextOfGood, IsFirstOf}
use Rattle.taps_chain.specs.declared.heard.BadAt.{BadAt}
use Rattle.taps_chain.specs.declared.heard.Heard.{Heard}
use Rattle.taps_chain.specs.declared.heard.Heard.TheVariants as heard
use Rattle.taps_chain.proofs.Cuts.{needs_few}
use Rattle.taps_chain.proofs.Delimits.{chained_apart}
use Rattle.taps_chain.proofs.Once.{not_ending, same_ending}

-- what ends the bytes at once
at_once : (fs : List Layer) (k : ℕ) (x : List ℕ) (e : Ending) (r : List ℕ) → IsHeard fs k x [] e r → IsEnding fs k x e
at_once fs k x e r h = let z : k + 0 ≡ k = omega arith in subst (λ (v : ℕ). IsEnding fs v x e) z (subst (λ (v : List ℕ). IsEnding fs (k + 0) v e) (sym h.split) h.ends)

module _ (fs : List Layer) (n : 0 < length fs) (w : AreFramers fs) (k : ℕ) (b : k < 2 ^ 64) (x : List ℕ) where
  first_message : (m y : List ℕ) → IsSpoken fs k m → x ≡ chained fs k m ++ y → (ms : List (List ℕ)) (e : Ending) (r : List ℕ) → IsHeard fs k x ms e r → IsFirstOf ms e (heard.Message m)
  first_message m y u s [] e r h = not_ending fs k w b m y u x s e (at_once fs k x e r h)
  first_message m y u s (a ∷ ms) e r h =
      let g : x ≡ chained fs k a ++ (spelling fs (k + 1) ms ++ r) = h.split ∙ append_assoc (chained fs k a) (spelling fs (k + 1) ms) r in
      (chained_apart fs n w k b m a y (spelling fs (k + 1) ms ++ r) u h.spoken.0 (sym s ∙ g)).0

  ends_only : (d : Ending) → IsEnding fs k x d → (a : List ℕ) (ms : List (List ℕ)) (e : Ending) (r : List ℕ) → IsHeard fs k x (a ∷ ms) e r → ⊥
  ends_only d i a ms e r h =
      not_ending fs k w b a (spelling fs (k + 1) ms ++ r) h.spoken.0 x (h.split ∙ append_assoc (chained fs k a) (spelling fs (k + 1) ms) r) d i

  first_need : IsEnding fs k x needs → (ms : List (List ℕ)) (e : Ending) (r : List ℕ) → IsHeard fs k x ms e r → IsFirstOf ms e heard.Need
  first_need i [] e r h = same_ending fs k w b x e needs (at_once fs k x e r h) i
  first_need i (a ∷ ms) e r h = ends_only needs i a ms e r h

  first_bad : (c : BadAt) → IsEnding fs k x (fails c.layer c.place) → (ms : List (List ℕ)) (e : Ending) (r : List ℕ) → IsHeard fs k x ms e r → IsFirstOf ms e (heard.Bad c)
  first_bad c i [] e r h = same_ending fs k w b x e (fails c.layer c.place) (at_once fs k x e r h) i
  first_bad c i (a ∷ ms) e r h = ends_only (fails c.layer c.place) i a ms e r h

pub first_good : (fs : List Layer) → 0 < length fs → AreFramers fs → (s : StreamState) → s.index < 2 ^ 64 → (answer : Heard) (t : StreamState) → IsNextOfGood fs s answer t →
    (ms : List (List ℕ)) (e : Ending) (r : List ℕ) → IsHeard fs s.index s.unread ms e r → IsFirstOf ms e answer
first_good fs n w s b (heard.Message m) t h ms e r g = first_message fs n w s.index b s.unread m h.0 h.1.0 h.1.1 ms e r g
first_good fs n w s b heard.Need t h ms e r g = first_need fs n w s.index b s.unread h.0 ms e r g
first_good fs n w s b (heard.Bad c) t h ms e r g = first_bad fs n w s.index b s.unread c h.0 ms e r g
first_good fs n w s b heard.NoMemory t h ms e r g = tt

-- where more bytes are needed, fewer are unread than the longest frame has
pub few_unread : (fs : List Layer) → AreFramers fs → (s : StreamState) → s.index < 2 ^ 64 → (answer : Heard) (t : StreamState) → IsNextOfGood fs s answer t →
    answer ≡ heard.Need → length t.unread < 4194304
few_unread fs w s b answer t h e =
    let n : IsNextOfGood fs s heard.Need t = subst (λ (v : Heard). IsNextOfGood fs s v t) e h in
    omega (arith, needs_few fs w s.index s.unread b n.0, ap (λ (v : StreamState). length v.unread) n.1)
