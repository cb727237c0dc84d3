-- The lines of leaves, one after the other.
use Rattle.std.proofs.Common.{◌≡◌, ◌<◌, ◌≤◌, ℕ, ◌+◌, List, ◌++◌, length, drop, get_or, append_assoc, sym, ◌∙◌}
use Rattle.std.proofs.lemmas.List.{drop_more, drop_all, append-nil}
use Rattle.taps_base.specs.declared.gap.Gap.{Gap}
use Rattle.taps_candidate.specs.declared.plan.Leaf.{Leaf}
use Rattle.taps_candidate.specs.PlanText.{leaf_line, leaf_lines}

pub line_put : (interface : ℕ → List ℕ) (before now all : List ℕ) (leaves : List Leaf) (gaps : List Gap) (number : ℕ) (leaf : Leaf) (gap : Gap)
    → number < length leaves → length leaves ≡ length gaps → leaf ≡ get_or leaves number leaf
    → before ++ leaf_lines interface number (drop number leaves) (drop number gaps) ≡ all → now ≡ before ++ leaf_line interface number leaf (get_or gaps number gap)
    → now ++ leaf_lines interface (number + 1) (drop (number + 1) leaves) (drop (number + 1) gaps) ≡ all
unfolding leaf_lines
line_put interface before now all leaves gaps number leaf gap lt same is so_far grown =
    let gap_lt : number < length gaps = rw (← same) lt in
    let one : before ++ leaf_lines interface number (drop number leaves) (drop number gaps) ≡ now ++ leaf_lines interface (number + 1) (drop (number + 1) leaves) (drop (number + 1) gaps) =
    rw (drop_more leaves number leaf lt, drop_more gaps number gap gap_lt, ← is, grown)
    (sym (append_assoc before (leaf_line interface number leaf (get_or gaps number gap)) (leaf_lines interface (number + 1) (drop (number + 1) leaves) (drop (number + 1) gaps)))) in
    sym one ∙ so_far

pub lines_end : (interface : ℕ → List ℕ) (text all : List ℕ) (leaves : List Leaf) (gaps : List Gap) (number : ℕ) → length leaves ≤ number
    → text ++ leaf_lines interface number (drop number leaves) (drop number gaps) ≡ all → text ≡ all
unfolding leaf_lines
lines_end interface text all leaves gaps number le so_far = sym (append-nil text) ∙ rw (drop_all number leaves le) at so_far
