-- Looking at the messages one after the other, as a loop does.
use Rattle.std.proofs.Common.{◌≡◌, ℕ, ◌+◌, ◌<◌, ◌≤◌, List, [], length, take, drop, get_or, Result, Ok, refl, sym, ◌∙◌}
use Rattle.std.proofs.lemmas.List.{drop_all, drop_more, take_more}
use Rattle.taps_preconnection.specs.Messages.{message_fits, messages_fit}
use Rattle.taps_base.specs.Results.{◌>>=◌}
use Rattle.taps_table.specs.Refusals.{Refuses}
use Rattle.taps_preconnection.specs.declared.message.MessageSpec.{MessageSpec}
use Rattle.taps_table.specs.declared.pre_error.PreError.{PreError}
use Rattle.taps_table.proofs.Refusals.{refuses_on}

module _ (clones index : ℕ) (all : List MessageSpec) (m d : MessageSpec) (total : Result (Unit {0}) PreError) where
  here : index < length all → m ≡ get_or all index d → messages_fit clones (take index all) (drop index all) ≡ total
      → (message_fits clones (take index all) m >>= λ _. messages_fit clones (take (index + 1) all) (drop (index + 1) all)) ≡ total
  unfolding messages_fit
  here lt is so_far = rw (take_more all index d lt, is) (rw (drop_more all index d lt) at so_far)

  pub fits_on : index < length all → m ≡ get_or all index d → messages_fit clones (take index all) (drop index all) ≡ total
      → message_fits clones (take index all) m ≡ Ok tt → messages_fit clones (take (index + 1) all) (drop (index + 1) all) ≡ total
  fits_on lt is so_far h = rw h at (here lt is so_far)

  pub fits_no_more : (e : PreError) → index < length all → m ≡ get_or all index d → messages_fit clones (take index all) (drop index all) ≡ total
      → Refuses e (message_fits clones (take index all) m) → Refuses e total
  fits_no_more e lt is so_far h = refuses_on e (message_fits clones (take index all) m) _ total h (here lt is so_far)

pub all_fit : (clones index : ℕ) (all : List MessageSpec) (total : Result (Unit {0}) PreError) → length all ≤ index → messages_fit clones (take index all) (drop index all) ≡ total → total ≡ Ok tt
unfolding messages_fit
all_fit clones index all total le so_far =
    let none : drop index all ≡ [] = drop_all index all le in
    sym so_far ∙ rw none refl
