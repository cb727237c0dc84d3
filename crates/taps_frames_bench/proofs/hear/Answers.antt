use Rattle.std.proofs.Common.{◌≡◌, ℕ, ◌<◌, [], ◌∷◌, length, slice_index_or, sym, subst, arith, inl, inr}
use Rattle.std.proofs.lemmas.Bool.{cases_lt}
use Rattle.taps_frames_bench.proofs.hear.Goals as goal

pub count_heard-count-requires-clause-within : goal.count_heard-count-requires-clause-within
count_heard-count-requires-clause-within g c = λ k d h.
    let e : k ≡ 0 = omega arith in
    subst (λ (n : ℕ). slice_index_or (5 ∷ []) n d < length c.args.shelf.now.items) (sym e) (omega arith)

pub count_heard-count-requires-in-stuffed-clause-within : goal.count_heard-count-requires-in-stuffed-clause-within
count_heard-count-requires-in-stuffed-clause-within g c = λ k d h.
    let e : k ≡ 0 = omega arith in
    subst (λ (n : ℕ). slice_index_or (6 ∷ []) n d < length c.args.shelf.now.items) (sym e) (omega arith)

pub count_heard-count-requires-in_default-clause-within : goal.count_heard-count-requires-in_default-clause-within
count_heard-count-requires-in_default-clause-within g c = λ k d h. elim (cases_lt k 1) [
  | inl l ↦ (let e : k ≡ 0 = omega arith in subst (λ (n : ℕ). slice_index_or (0 ∷ 3 ∷ []) n d < length c.args.shelf.now.items) (sym e) (omega arith))
  | inr l ↦ (let e : k ≡ 1 = omega arith in subst (λ (n : ℕ). slice_index_or (0 ∷ 3 ∷ []) n d < length c.args.shelf.now.items) (sym e) (omega arith))
]
