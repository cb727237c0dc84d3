-- The plan as a text (local).
use Rattle.std.specs.Prelude.{ℕ, ◌+◌, List, [], ◌∷◌, ◌++◌, codes, length}
use Rattle.std.specs.Fmt.{decimal}
use Rattle.taps_base.specs.declared.gap.Gap.{Gap}
use Rattle.taps_base.specs.declared.gap.Gap.TheVariants.{After, Never}
use Rattle.taps_endpoint.specs.CanonicalTexts.{canonical_text}
use Rattle.taps_preconnection.specs.PathOffers.{path_of}
use Rattle.taps_preconnection.specs.declared.preconnection.Preconnection.{Preconnection}
use Rattle.taps_stack.specs.declared.stack.Stack.{Stack}
use Rattle.taps_stack.specs.declared.stack.Stack.TheVariants.{Tcp, Unix, Udp}
use Rattle.taps_candidate.specs.declared.plan.Leaf.{Leaf}

-- the interface of the path at a place
abbrev pub interface_of : Preconnection → ℕ → List ℕ
interface_of pre place = (path_of pre place).interface

-- the word of a stack
abbrev pub stack_word : Stack → List ℕ
stack_word Tcp = codes "tcp"
stack_word Unix = codes "unix"
stack_word Udp = codes "udp"

-- the milliseconds, or that there is no moment
abbrev pub gap_text : Gap → List ℕ
gap_text (After delay) = decimal delay
gap_text Never = codes "none"

-- the leaf's number, its path's interface, its stack, its address and its gap
unfoldable pub leaf_line : (ℕ → List ℕ) → ℕ → Leaf → Gap → List ℕ
leaf_line interface number leaf gap =
    decimal number ++ (codes " " ++ (interface leaf.path ++ (codes " " ++ (stack_word leaf.target.stack
    ++ (codes " " ++ (canonical_text leaf.target.address ++ (codes " +" ++ (gap_text gap ++ codes "\n"))))))))

-- the lines of the leaves from a number on
unfoldable pub leaf_lines : (ℕ → List ℕ) → ℕ → List Leaf → List Gap → List ℕ
leaf_lines interface number [] gaps = []
leaf_lines interface number (leaf ∷ leaves) [] = []
leaf_lines interface number (leaf ∷ leaves) (gap ∷ gaps) =
    leaf_line interface number leaf gap ++ leaf_lines interface (number + 1) leaves gaps

-- the number of leaves, and a line for each; each path is printed by its interface's name
unfoldable pub plan_text : (ℕ → List ℕ) → List Leaf → List Gap → List ℕ
plan_text interface leaves gaps =
    (codes "leaves " ++ (decimal (length leaves) ++ codes "\n")) ++ leaf_lines interface 0 leaves gaps
