-- What follows from a framer's laws.
use Rattle.std.proofs.Common.{◌≡◌, ℕ, ◌≤◌, arith, length-append, true, ◌&&◌, List, [], ◌++◌, length, take, drop, ap, sym, subst, ◌∙◌, append_assoc}
use Rattle.taps_framer.specs.Prefixes.{is_prefix}
use Rattle.taps_framer.specs.Layers.{Layer, IsLawful, IsWholeFrame, holds_whole_frame, is_viable, first_frame}
use Rattle.taps_framer.proofs.Bytes.{and-left, and-right, both}
use Rattle.taps_framer.proofs.Prefixes.{is_prefix-append, is_prefix-split, append-cancel, append-nil, take_front}

-- two spoken bodies whose frames begin one list are one
pub same_body : (f : Layer) (i : ℕ) → IsLawful f i → (a b x y : List ℕ) → f.speaks a ≡ true → f.speaks b ≡ true →
    f.frame i a ++ x ≡ f.frame i b ++ y → a ≡ b
same_body f i l a b x y ha hb e = sym (l.fronts a x ha) ∙ ap (f.front i) e ∙ l.fronts b y hb

pub same_rest : (f : Layer) (i : ℕ) → IsLawful f i → (a b x y : List ℕ) → f.speaks a ≡ true → f.speaks b ≡ true →
    f.frame i a ++ x ≡ f.frame i b ++ y → x ≡ y
same_rest f i l a b x y ha hb e =
    let s : a ≡ b = same_body f i l a b x y ha hb e in
    append-cancel (f.frame i a) x y (cc)

-- bytes that begin with a frame hold it
pub holds_frame : (f : Layer) (i : ℕ) → IsLawful f i → (b y : List ℕ) → f.speaks b ≡ true → holds_whole_frame f i (f.frame i b ++ y) ≡ true
unfolding holds_whole_frame
holds_frame f i l b y h =
    let e : f.front i (f.frame i b ++ y) ≡ b = l.fronts b y h in
    subst (λ (v : List ℕ). (f.speaks v && is_prefix (f.frame i v) (f.frame i b ++ y)) ≡ true) (sym e) (rw h (is_prefix-append (f.frame i b) y))

-- the frame that bytes begin with is that of this body
pub holds_this : (f : Layer) (i : ℕ) → IsLawful f i → (x b y : List ℕ) → f.speaks b ≡ true → x ≡ f.frame i b ++ y →
    (holds_whole_frame f i x ≡ true) × (first_frame f i x ≡ f.frame i b)
holds_this f i l x b y s e = (
  subst (λ (v : List ℕ). holds_whole_frame f i v ≡ true) (sym e) (holds_frame f i l b y s),
  ap (λ (v : List ℕ). f.frame i v) (ap (λ (v : List ℕ). f.front i v) e ∙ l.fronts b y s),
)

-- bytes that hold a frame are that frame and a rest
pub record Held (f : Layer) (i : ℕ) (x : List ℕ) : Type 0 where
  pub spoken : f.speaks (f.front i x) ≡ true
  pub split : x ≡ first_frame f i x ++ drop (length (first_frame f i x)) x

pub held : (f : Layer) (i : ℕ) (x : List ℕ) → holds_whole_frame f i x ≡ true → Held f i x
unfolding holds_whole_frame
held f i x h = record {
  spoken = and-left _ _ h;
  split = is_prefix-split _ _ (and-right (f.speaks (f.front i x)) _ h);
}

-- the frame that bytes hold is not longer than they are
pub first_within : (f : Layer) (i : ℕ) (x : List ℕ) (used : ℕ) → holds_whole_frame f i x ≡ true → used ≡ length (first_frame f i x) → used ≤ length x
first_within f i x used h e =
    let k = held f i x h in
    omega (arith, e, ap length k.split, length-append (first_frame f i x) (drop (length (first_frame f i x)) x))

-- what holds a frame holds it still when more bytes come
pub holds_more : (f : Layer) (i : ℕ) → IsLawful f i → (x y : List ℕ) → holds_whole_frame f i x ≡ true → holds_whole_frame f i (x ++ y) ≡ true
holds_more f i l x y h =
    let k = held f i x h in
    let e : x ++ y ≡ f.frame i (f.front i x) ++ (drop (length (first_frame f i x)) x ++ y) =
    ap (λ (v : List ℕ). v ++ y) k.split ∙ append_assoc (first_frame f i x) (drop (length (first_frame f i x)) x) y in
    subst (λ (v : List ℕ). holds_whole_frame f i v ≡ true) (sym e) (holds_frame f i l (f.front i x) _ k.spoken)

-- the completion is the body of a frame that the bytes begin
pub viable_when : (f : Layer) (i : ℕ) (x b y : List ℕ) → f.completion i x ≡ b → f.speaks b ≡ true → f.frame i b ≡ x ++ y → is_viable f i x ≡ true
unfolding is_viable
viable_when f i x b y c s e =
    subst (λ (v : List ℕ). (f.speaks v && is_prefix x (f.frame i v)) ≡ true) (sym c)
    (both _ _ s (subst (λ (v : List ℕ). is_prefix x v ≡ true) (sym e) (is_prefix-append x y)))

-- the first bytes of what is viable are viable
pub viable_less : (f : Layer) (i : ℕ) → IsLawful f i → (x y : List ℕ) → is_viable f i (x ++ y) ≡ true → is_viable f i x ≡ true
unfolding is_viable
viable_less f i l x y h =
    let b = f.completion i (x ++ y) in
    let s : f.speaks b ≡ true = and-left _ _ h in
    let e : f.frame i b ≡ (x ++ y) ++ drop (length (x ++ y)) (f.frame i b) = is_prefix-split _ _ (and-right (f.speaks b) _ h) in
    l.completes b x (y ++ drop (length (x ++ y)) (f.frame i b)) s (e ∙ append_assoc x y (drop (length (x ++ y)) (f.frame i b)))

-- the frame that bytes begin with is one frame by itself, of the same body
pub first_alone : (f : Layer) (i : ℕ) → IsLawful f i → (x : List ℕ) (used : ℕ) → holds_whole_frame f i x ≡ true → used ≡ length (first_frame f i x) →
    IsWholeFrame f i (take used x) × (f.front i (take used x) ≡ f.front i x)
first_alone f i l x used h e =
    let w : Held f i x = held f i x h in
    let t : take used x ≡ first_frame f i x = take_front (first_frame f i x) (drop (length (first_frame f i x)) x) x used w.split e in
    let b : f.front i (take used x) ≡ f.front i x =
    ap (λ (v : List ℕ). f.front i v) (t ∙ sym (append-nil (first_frame f i x))) ∙ l.fronts (f.front i x) [] w.spoken in
    (record { spoken = subst (λ (v : List ℕ). f.speaks v ≡ true) (sym b) w.spoken; exact = ap (λ (v : List ℕ). f.frame i v) b ∙ sym t }, b)

-- the frame of a spoken body is one frame by itself
pub frame_alone : (f : Layer) (i : ℕ) → IsLawful f i → (b x : List ℕ) → f.speaks b ≡ true → x ≡ f.frame i b → IsWholeFrame f i x
frame_alone f i l b x s e =
    let k : f.front i x ≡ b = ap (λ (v : List ℕ). f.front i v) (e ∙ sym (append-nil (f.frame i b))) ∙ l.fronts b [] s in
    record { spoken = subst (λ (v : List ℕ). f.speaks v ≡ true) (sym k) s; exact = ap (λ (v : List ℕ). f.frame i v) k ∙ sym e }
