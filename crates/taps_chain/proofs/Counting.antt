-- How many bytes of a watched layer are looked at.
use Rattle.std.proofs.Common.{◌≡◌, ℕ, zero, suc, ◌+◌, ◌-◌, ◌<◌, ◌≤◌, true, false, List, [], ◌∷◌, length, take, drop, Some, slice_get, refl, ap, sym, subst, ◌∙◌, arith, ◌⊎◌, inl, inr}
use Rattle.std.specs.Prelude.{eqb}
use Rattle.std.proofs.lemmas.Bool.Decides.{nat_tests}
use Rattle.taps_framer.specs.Layers.{Layer, IsWholeFrame}
use Rattle.taps_chain.specs.Counts.{IsHanded, CountsHanded, none, some, CountsIn}

not_equal : (a b : ℕ) → (a ≡ b → ⊥) → eqb a b ≡ false
not_equal a b h = grind (arith, nat_tests, h)

decided_equal : (a b : ℕ) → (a ≡ b) ⊎ (eqb a b ≡ false)
decided_equal zero zero = inl refl
decided_equal zero (suc b) = inr (not_equal zero (suc b) (λ e. absurd (omega arith)))
decided_equal (suc a) zero = inr (not_equal (suc a) zero (λ e. absurd (omega arith)))
decided_equal (suc a) (suc b) = elim (decided_equal a b) [
  | inl e ↦ inl (ap suc e)
  | inr h ↦ inr (not_equal (suc a) (suc b) (λ e. let c : a ≡ b = omega arith in same_false a b c h))
]
  where
    same_false : (a b : ℕ) → a ≡ b → eqb a b ≡ false → ⊥
    same_false a b e h = grind (arith, nat_tests, e, h)

-- a layer above the first is handed the body of the one below it
handed_on : (fs : List Layer) (k : ℕ) (x : List ℕ) (n : ℕ) (y : List ℕ) (f : Layer) → slice_get fs n ≡ Some f → IsHanded fs k x n y → IsWholeFrame f k y → IsHanded fs k x (suc n) (f.front k y)
handed_on [] k x n y f i h w = absurd (cc i)
handed_on (g ∷ fs) k x zero y f i h w =
    let e : f ≡ g = cc in
    let w' : IsWholeFrame g k x = subst (λ (v : Layer). IsWholeFrame v k x) e (subst (λ (v : List ℕ). IsWholeFrame f k v) h w) in
    (w', ap (λ (v : Layer). v.front k y) e ∙ ap (λ (v : List ℕ). g.front k v) h)
handed_on (g ∷ fs) k x (suc n) y f i h w = (h.0, handed_on fs k (g.front k x) n y f i h.1 w)

at_depth : (a : ℕ) (fs : List Layer) (n : ℕ) → slice_get (drop a fs) n ≡ slice_get fs (a + n)
at_depth zero fs n = let e : n ≡ zero + n = omega arith in ap (λ (v : ℕ). slice_get fs v) e
at_depth (suc a) [] n = refl
at_depth (suc a) (f ∷ fs) n = let e : suc a + n ≡ suc (a + n) = omega arith in rw e (at_depth a fs n)

pub handed_more : (fs : List Layer) (k : ℕ) (x : List ℕ) (a d : ℕ) (current seen next : List ℕ) (f : Layer) → a ≤ d → slice_get fs d ≡ Some f → IsHanded (drop a fs) k x (d - a) current → seen ≡ current → IsWholeFrame f k seen → next ≡ f.front k seen →
    IsHanded (drop a fs) k x (d + 1 - a) next
handed_more fs k x a d current seen next f le i h s w e =
    let n : d + 1 - a ≡ suc (d - a) = omega arith in
    let m : a + (d - a) ≡ d = omega arith in
    let i' : slice_get (drop a fs) (d - a) ≡ Some f = at_depth a fs (d - a) ∙ ap (λ (v : ℕ). slice_get fs v) m ∙ i in
    let w' : IsWholeFrame f k current = subst (λ (v : List ℕ). IsWholeFrame f k v) s w in
    let g : IsHanded (drop a fs) k x (suc (d - a)) (f.front k current) = handed_on (drop a fs) k x (d - a) current f i' h w' in
    let g' : IsHanded (drop a fs) k x (suc (d - a)) next = subst (λ (v : List ℕ). IsHanded (drop a fs) k x (suc (d - a)) v) (sym (e ∙ ap (λ (v : List ℕ). f.front k v) s)) g in
    subst (λ (v : ℕ). IsHanded (drop a fs) k x v next) (sym n) g'

-- what was counted below a depth, of a watched layer from depth a on
pub record Counted (fs : List Layer) (k : ℕ) (x : List ℕ) (a watch d before now : ℕ) : Type 0 where
  pub below : watch < a → now ≡ before
  pub ahead : d ≤ watch → now ≡ before
  pub behind : a ≤ watch → CountsHanded (drop a fs) k x (watch - a) before now

counts_same : (fs : List Layer) (k : ℕ) (x : List ℕ) (n before now after : ℕ) → after ≡ now → CountsHanded fs k x n before now → CountsHanded fs k x n before after
counts_same fs k x n before now after e h = subst (λ (v : ℕ). CountsHanded fs k x n before v) (sym e) h

pub counted_step : (fs : List Layer) (k : ℕ) (x : List ℕ) (a watch d before now after : ℕ) (current seen : List ℕ) → a ≤ d → IsHanded (drop a fs) k x (d - a) current → seen ≡ current →
    (eqb d watch ≡ false → after ≡ now) → after ≤ now + length seen → Counted fs k x a watch d before now → Counted fs k x a watch (d + 1) before after
counted_step fs k x a watch d before now after current seen le h s u c w = record {
  below = λ lt. u (not_equal d watch (λ e. omega arith)) ∙ w.below lt;
  ahead = λ lt. u (not_equal d watch (λ e. omega arith)) ∙ w.ahead (omega arith);
  behind = λ b. elim (decided_equal d watch) [
    | inl e ↦ (
        let z : now ≡ before = w.ahead (omega arith) in
        let g : IsHanded (drop a fs) k x (watch - a) current = subst (λ (v : ℕ). IsHanded (drop a fs) k x (v - a) current) e h in
        some current g (omega (arith, c, z, ap length s)))
    | inr n ↦ counts_same (drop a fs) k x (watch - a) before now after (u n) (w.behind b)
  ];
}

-- what is handed to a layer above the first, seen from below
counts_below : (f : Layer) (fs : List Layer) (k : ℕ) (x body : List ℕ) (n before after : ℕ) → IsWholeFrame f k x → body ≡ f.front k x → CountsHanded fs k body n before after → CountsHanded (f ∷ fs) k x (suc n) before after
counts_below f fs k x body n before after w e (none h) = none h
counts_below f fs k x body n before after w e (some y h b) = some y (w, subst (λ (v : List ℕ). IsHanded fs k v n y) e h) b

pub counted_below : (fs : List Layer) (k : ℕ) (x body : List ℕ) (f : Layer) (watch before after : ℕ) → slice_get fs 0 ≡ Some f → IsWholeFrame f k x → body ≡ f.front k x →
    (1 ≤ watch → CountsHanded (drop 1 fs) k body (watch - 1) before after) → 0 < watch → CountsHanded fs k x watch before after
counted_below [] k x body f watch before after i w e c lt = absurd (cc i)
counted_below (g ∷ fs) k x body f watch before after i w e c lt =
    let o : f ≡ g = cc in
    let n : suc (watch - 1) ≡ watch = omega arith in
    let w' : IsWholeFrame g k x = subst (λ (v : Layer). IsWholeFrame v k x) o w in
    let e' : body ≡ g.front k x = e ∙ ap (λ (v : Layer). v.front k x) o in
    subst (λ (v : ℕ). CountsHanded (g ∷ fs) k x v before after) n (counts_below g fs k x body (watch - 1) before after w' e' (c (omega arith)))

-- what is counted where layer 0 alone looked
pub counts_first : (fs : List Layer) (k : ℕ) (x : List ℕ) (watch from to before after : ℕ) → (eqb watch 0 ≡ true → after + from ≡ before + to) → (eqb watch 0 ≡ false → after ≡ before) → CountsIn fs k x watch from to before after
counts_first fs k x zero from to before after z s = z refl
counts_first fs k x (suc n) from to before after z s = (0, none (s (not_equal (suc n) 0 (λ e. absurd (omega arith)))))

-- and where the layers above looked besides
pub counts_message : (fs : List Layer) (k : ℕ) (x : List ℕ) (watch from to before now after : ℕ) → (eqb watch 0 ≡ true → now + from ≡ before + to) → (eqb watch 0 ≡ false → now ≡ before) →
    (watch ≡ 0 → after ≡ now) → (0 < watch → CountsHanded fs k (take to x) watch now after) → CountsIn fs k x watch from to before after
counts_message fs k x zero from to before now after z s u c = omega (arith, z refl, u refl)
counts_message fs k x (suc n) from to before now after z s u c =
    let e : now ≡ before = s (not_equal (suc n) 0 (λ e. absurd (omega arith))) in
    (to, subst (λ (v : ℕ). CountsHanded fs k (take to x) (suc n) v after) e (c (omega arith)))
