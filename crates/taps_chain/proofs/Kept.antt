-- What a list that keeps messages holds.
use Rattle.std.proofs.Common.{◌≡◌, ℕ, List, sym, subst}
use Rattle.taps_chain.specs.Kept.{HasKept}

-- what holds of the messages that these items keep holds of the items
pub of_items : (items : List (List ℕ)) (Holds : List (List ℕ) → Type 0) → HasKept (λ messages. items ≡ messages) Holds → Holds items
of_items items Holds k = subst Holds (sym k.kept) k.holds
