-- One address more in a loop over those that a path and a stack reach.
use Rattle.std.proofs.Common.{◌≡◌, ◌<◌, ℕ, ◌+◌, List, [], ◌∷◌, ◌++◌, Bool, true, false, ap, sym, ◌∙◌, map, length, get_or, take, cond, append_assoc, inl, inr}
use Rattle.std.specs.List.{filter, enumerate_from}
use Rattle.std.proofs.lemmas.Bool.{cases_Bool}
use Rattle.std.proofs.lemmas.List.{take_more, map-append, append-nil}
use Rattle.std.proofs.lemmas.List.Elements.{filter-append}
use Rattle.std.proofs.lemmas.List.FromFn.{length-enumerate_from}
use Rattle.taps_endpoint.specs.declared.address.Address.{Address}
use Rattle.taps_endpoint.specs.declared.address.Family.{Family}
use Rattle.taps_endpoint.specs.Families.{family_of}
use Rattle.taps_preconnection.specs.declared.path.Path.{Path}
use Rattle.taps_prune.specs.Survival.{is_reachable}
use Rattle.taps_rank.specs.declared.turn.Turns.{Turns}
use Rattle.taps_rank.specs.Turns.{turns_after, turn_in, turns_with}
use Rattle.taps_rank.proofs.Turned.{placed, turn_among, turns_more}
use Rattle.taps_stack.specs.declared.stack.Stack.{Stack}
use Rattle.taps_candidate.specs.declared.candidate.Candidate as code
use Rattle.taps_candidate.specs.declared.candidate.Level.{Level}
use Rattle.taps_candidate.specs.Candidates.{keyed_by, keyed_among, of_address}

-- those that are reached among the first
abbrev pub reached_before : Path → Stack → List Address → ℕ → List (ℕ × Address)
reached_before path stack addresses i = filter (λ e. is_reachable path stack e.1) (take i (enumerate_from 0 addresses))

abbrev pub families_before : Path → Stack → List Address → ℕ → List Family
families_before path stack addresses i = map (λ e. family_of e.1) (reached_before path stack addresses i)

-- one more that is reached, or is not
reached_more : (path : Path) (stack : Stack) (addresses : List Address) (i : ℕ) (address : Address) (is_reached : Bool) → i < length addresses → address ≡ get_or addresses i address
    → is_reachable path stack address ≡ is_reached → reached_before path stack addresses (i + 1) ≡ reached_before path stack addresses i ++ cond is_reached ((i, address) ∷ []) []
reached_more path stack addresses i address is_reached lt is this =
    let all : List (ℕ × Address) = enumerate_from 0 addresses in
    let test : ℕ × Address → Bool = λ e. is_reachable path stack e.1 in
    let within : i < length all = rw (length-enumerate_from 0 addresses) lt in
    ap (filter test) (take_more all i (i, address) within ∙ ap (λ e. take i all ++ e ∷ []) (placed addresses i address lt is))
    ∙ filter-append test (take i all) ((i, address) ∷ [])
    ∙ ap (λ b. filter test (take i all) ++ cond b ((i, address) ∷ []) []) this

level_more : (level : Level) (path : Path) (addresses : List Address) (i : ℕ) (address : Address) (turns : Turns) (base before now : List code.Candidate)
    → i < length addresses → address ≡ get_or addresses i address → is_reachable path level.stack address ≡ true
    → turns ≡ turns_after (families_before path level.stack addresses i) → before ≡ base ++ map (keyed_among level path addresses) (reached_before path level.stack addresses i)
    → now ≡ before ++ keyed_by level (turn_in turns (family_of address)) (i, address) ∷ []
    → now ≡ base ++ map (keyed_among level path addresses) (reached_before path level.stack addresses (i + 1))
level_more level path addresses i address turns base before now lt is this left so_far grown =
    let key : ℕ × Address → code.Candidate = keyed_among level path addresses in
    let done : List (ℕ × Address) = reached_before path level.stack addresses i in
    grown
    ∙ ap (λ t. before ++ keyed_by level t (i, address) ∷ []) (ap (λ t. turn_in t (family_of address)) left ∙ sym (turn_among (is_reachable path level.stack) addresses i address lt is this))
    ∙ ap (λ list. list ++ key (i, address) ∷ []) so_far
    ∙ append_assoc base (map key done) (key (i, address) ∷ [])
    ∙ ap (λ more. base ++ more) (sym (map-append key done ((i, address) ∷ [])) ∙ ap (map key) (sym (reached_more path level.stack addresses i address true lt is this)))

level_same : (level : Level) (path : Path) (addresses : List Address) (i : ℕ) (address : Address) (base now : List code.Candidate)
    → i < length addresses → address ≡ get_or addresses i address → is_reachable path level.stack address ≡ false
    → now ≡ base ++ map (keyed_among level path addresses) (reached_before path level.stack addresses i)
    → now ≡ base ++ map (keyed_among level path addresses) (reached_before path level.stack addresses (i + 1))
level_same level path addresses i address base now lt is this so_far =
    so_far ∙ ap (λ list. base ++ map (keyed_among level path addresses) list) (sym (reached_more path level.stack addresses i address false lt is this ∙ append-nil (reached_before path level.stack addresses i)))

turns_more_of : (path : Path) (stack : Stack) (addresses : List Address) (i : ℕ) (address : Address) (turns now : Turns)
    → i < length addresses → address ≡ get_or addresses i address → is_reachable path stack address ≡ true
    → turns ≡ turns_after (families_before path stack addresses i) → now ≡ turns_with (family_of address) turns
    → now ≡ turns_after (families_before path stack addresses (i + 1))
turns_more_of path stack addresses i address turns now lt is this left taken =
    let done : List (ℕ × Address) = reached_before path stack addresses i in
    taken
    ∙ ap (turns_with (family_of address)) left
    ∙ turns_more (families_before path stack addresses i) (family_of address)
    ∙ ap turns_after (sym (map-append (λ e. family_of e.1) done ((i, address) ∷ [])) ∙ ap (map (λ e. family_of e.1)) (sym (reached_more path stack addresses i address true lt is this)))

turns_same : (path : Path) (stack : Stack) (addresses : List Address) (i : ℕ) (address : Address) (turns : Turns)
    → i < length addresses → address ≡ get_or addresses i address → is_reachable path stack address ≡ false
    → turns ≡ turns_after (families_before path stack addresses i) → turns ≡ turns_after (families_before path stack addresses (i + 1))
turns_same path stack addresses i address turns lt is this left =
    left ∙ ap (λ list. turns_after (map (λ e. family_of e.1) list)) (sym (reached_more path stack addresses i address false lt is this ∙ append-nil (reached_before path stack addresses i)))

pub candidates_more : (level : Level) (path : Path) (addresses : List Address) (i : ℕ) (address : Address) (turns : Turns) (base before now : List code.Candidate)
    → i < length addresses → address ≡ get_or addresses i address → turns ≡ turns_after (families_before path level.stack addresses i)
    → before ≡ base ++ map (keyed_among level path addresses) (reached_before path level.stack addresses i) → now ≡ before ++ of_address level path turns (i, address)
    → now ≡ base ++ map (keyed_among level path addresses) (reached_before path level.stack addresses (i + 1))
candidates_more level path addresses i address turns base before now lt is left so_far grown =
    elim (cases_Bool (is_reachable path level.stack address)) [
      | inl this ↦ level_more level path addresses i address turns base before now lt is this left so_far (rw this at grown)
      | inr not ↦ level_same level path addresses i address base now lt is not ((rw not at grown) ∙ append-nil before ∙ so_far)
    ]

pub turns_left : (path : Path) (stack : Stack) (addresses : List Address) (i : ℕ) (address : Address) (turns now : Turns)
    → i < length addresses → address ≡ get_or addresses i address → turns ≡ turns_after (families_before path stack addresses i)
    → now ≡ cond (is_reachable path stack address) (turns_with (family_of address) turns) turns → now ≡ turns_after (families_before path stack addresses (i + 1))
turns_left path stack addresses i address turns now lt is left taken =
    elim (cases_Bool (is_reachable path stack address)) [
      | inl this ↦ turns_more_of path stack addresses i address turns now lt is this left (rw this at taken)
      | inr not ↦ (rw not at taken) ∙ turns_same path stack addresses i address turns lt is not left
    ]
