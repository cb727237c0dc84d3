-- Pieces that stand one behind the other.
use Rattle.std.proofs.Common.{◌≡◌, ℕ, zero, suc, ◌+◌, ◌<◌, ◌≤◌, List, [], ◌∷◌, ◌++◌, length, take, drop, get_or, ap, sym, subst, ◌∙◌, arith, append_assoc, length-append, add-one}
use Rattle.std.proofs.lemmas.List.{append-nil, take-append-drop, take_all}
use Rattle.taps_chain.specs.Hearings.{joined}

joined_on : (ps : List (List ℕ)) (i : ℕ) (p : List ℕ) → i < length ps → p ≡ get_or ps i p → joined (take (suc i) ps) ≡ joined (take i ps) ++ p
joined_on [] i p h e = absurd (omega arith)
joined_on (q ∷ ps) zero p h e = append-nil q ∙ sym e
joined_on (q ∷ ps) (suc i) p h e =
    ap (λ (v : List ℕ). q ++ v) (joined_on ps i p (omega arith) e) ∙ sym (append_assoc q (joined (take i ps)) p)

-- one piece more
pub joined_more : (ps : List (List ℕ)) (i : ℕ) (p : List ℕ) → i < length ps → p ≡ get_or ps i p → joined (take (i + 1) ps) ≡ joined (take i ps) ++ p
joined_more ps i p h e = rw add-one (joined_on ps i p h e)

-- what was copied behind the first pieces is the next one
pub joined_next : (ps : List (List ℕ)) (i : ℕ) (p : List ℕ) → i < length ps → p ≡ get_or ps i p → (before seen after : List ℕ) → before ≡ joined (take i ps) → seen ≡ p → after ≡ before ++ seen →
    after ≡ joined (take (i + 1) ps)
joined_next ps i p h e before seen after b s a =
    a ∙ ap (λ (v : List ℕ). v ++ seen) b ∙ ap (λ (v : List ℕ). joined (take i ps) ++ v) s ∙ sym (joined_more ps i p h e)

-- the first pieces are no longer than all are
joined_within : (ps qs : List (List ℕ)) → length (joined ps) ≤ length (joined (ps ++ qs))
joined_within [] qs = omega arith
joined_within (p ∷ ps) qs = omega (arith, joined_within ps qs, length-append p (joined ps), length-append p (joined (ps ++ qs)))

module _ (ps qs : List (List ℕ)) (listed : qs ≡ ps) (all : List ℕ) (cut : all ≡ joined ps) (i fed : ℕ) (came : fed ≡ length (joined (take i ps))) where
  -- a piece more came
  module _ (p seen : List ℕ) (lt : i < length qs) (is : p ≡ get_or qs i p) (same : seen ≡ p) where
    pub one_came : fed + length seen ≡ length (joined (take (i + 1) ps))
    one_came =
        let l : i < length ps = subst (λ (v : List (List ℕ)). i < length v) listed lt in
        let e : p ≡ get_or ps i p = subst (λ (v : List (List ℕ)). p ≡ get_or v i p) listed is in
        omega (arith, came, ap length (joined_more ps i p l e), length-append (joined (take i ps)) p, ap length same)

    pub one_fits : fed + length seen ≤ length all
    one_fits =
        let e : take (i + 1) ps ++ drop (i + 1) ps ≡ ps = take-append-drop (i + 1) ps in
        omega (arith, one_came, joined_within (take (i + 1) ps) (drop (i + 1) ps), ap (λ (v : List (List ℕ)). length (joined v)) e, ap length cut)

  -- all came
  pub all_came : length qs ≤ i → length all ≤ fed
  all_came h =
      let e : take i ps ≡ ps = take_all i ps (subst (λ (v : List (List ℕ)). length v ≤ i) listed h) in
      omega (arith, came, ap (λ (v : List (List ℕ)). length (joined v)) e, ap length cut)

pub joined_length : (ps : List (List ℕ)) (p : List ℕ) → length (joined (ps ++ p ∷ [])) ≡ length (joined ps) + length p
joined_length [] p = ap length (append-nil p) ∙ omega arith
joined_length (q ∷ ps) p = omega (arith, joined_length ps p, length-append q (joined (ps ++ p ∷ [])), length-append q (joined ps))
