-- How an answer to a buffer is shown: by a frame that is there or could come, or by showing that there is none.
use Rattle.std.proofs.Common.{◌≡◌, ℕ, ◌+◌, ◌<◌, true, false, List, [], ◌++◌, length, take, drop, refl, sym, subst, ◌∙◌, arith, append_assoc, inl, inr}
use Rattle.taps_framer.specs.Layers.{Layer, IsLawful, holds_whole_frame, is_viable, lives}
use Rattle.taps_framer.specs.Sights.{IsBadPlace}
use Rattle.taps_framer.proofs.Bytes.{and-left, and-right, false_by}
use Rattle.taps_framer.proofs.Prefixes.{is_prefix-split, append-nil, compared, take_drop, take_fewer}
use Rattle.taps_framer.proofs.Laws.{held, holds_this, viable_less}

-- bytes that begin with no frame
pub holds_none : (f : Layer) (i : ℕ) (x : List ℕ) →
    ((b y : List ℕ) → f.speaks b ≡ true → x ≡ f.frame i b ++ y → ⊥) → holds_whole_frame f i x ≡ false
holds_none f i x none = false_by _ (λ h. let k = held f i x h in none _ _ k.spoken k.split)

-- bytes that begin no frame
pub viable_none : (f : Layer) (i : ℕ) (x : List ℕ) →
    ((b y : List ℕ) → f.speaks b ≡ true → f.frame i b ≡ x ++ y → ⊥) → is_viable f i x ≡ false
unfolding is_viable
viable_none f i x none = false_by _ (λ h. none (f.completion i x) _ (and-left _ _ h) (is_prefix-split _ _ (and-right (f.speaks (f.completion i x)) _ h)))

pub lives_none : (f : Layer) (i : ℕ) (x : List ℕ) → holds_whole_frame f i x ≡ false → is_viable f i x ≡ false → lives f i x ≡ false
unfolding lives
lives_none f i x h v = rw (h, v) refl

pub lives_viable : (f : Layer) (i : ℕ) (x : List ℕ) → is_viable f i x ≡ true → lives f i x ≡ true
unfolding lives
lives_viable f i x v = rw v (grind arith)

pub lives_holds : (f : Layer) (i : ℕ) (x : List ℕ) → holds_whole_frame f i x ≡ true → lives f i x ≡ true
unfolding lives
lives_holds f i x h = rw h refl

-- bytes that begin no list that a frame begins
pub dead_by : (f : Layer) (i : ℕ) (x : List ℕ) → ((b y z : List ℕ) → f.speaks b ≡ true → x ++ y ≡ f.frame i b ++ z → ⊥) → lives f i x ≡ false
dead_by f i x none = lives_none f i x
    (holds_none f i x (λ b y s e. none b [] y s (append-nil x ∙ e)))
    (viable_none f i x (λ b y s e. none b y [] s (sym e ∙ sym (append-nil (f.frame i b)))))

-- what is dead stays so
pub dead_more : (f : Layer) (i : ℕ) → IsLawful f i → (x y : List ℕ) → lives f i x ≡ false → lives f i (x ++ y) ≡ false
dead_more f i l x y h = dead_by f i (x ++ y) (λ b u z s e.
    elim (compared x (y ++ u) (f.frame i b) z (sym (append_assoc x y u) ∙ e)) [
      | inl w ↦ (let r = holds_this f i l x b w.0 s w.1 in let k = lives_holds f i x r.0 in cc (k, h))
      | inr w ↦ (let k = lives_viable f i x (l.completes b x w.0 s w.1) in cc (k, h))
    ])

-- a place before whose byte the bytes are viable, and with whose byte they are dead, is the bad place
pub bad_here : (f : Layer) (i : ℕ) → IsLawful f i → (x : List ℕ) (p : ℕ) → p < length x → is_viable f i (take p x) ≡ true →
    lives f i (take (p + 1) x) ≡ false →
    (lives f i x ≡ false) × IsBadPlace f i x p
bad_here f i l x p h v d = (
  subst (λ (w : List ℕ). lives f i w ≡ false) (take_drop (p + 1) x) (dead_more f i l (take (p + 1) x) (drop (p + 1) x) d),
  record {
    inside = h;
    dies = d;
    before = λ q k. lives_viable f i (take (q + 1) x)
        (viable_less f i l (take (q + 1) x) (drop (q + 1) (take p x)) (subst (λ (w : List ℕ). is_viable f i w ≡ true) (sym (take_fewer q p x k)) v));
  },
)
