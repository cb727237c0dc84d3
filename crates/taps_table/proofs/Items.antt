-- Reading the items of an array one after the other, as a loop does.
use Rattle.std.proofs.Common.{◌≡◌, ℕ, ◌+◌, ◌<◌, ◌≤◌, List, [], ◌∷◌, ◌++◌, length, drop, get_or, Some, Result, Ok, refl, sym, subst, ◌∙◌}
use Rattle.std.proofs.lemmas.Bool.{le-leb}
use Rattle.std.proofs.lemmas.List.{drop_all}
use Rattle.toml.specs.View.{view, items_view}
use Rattle.toml.specs.declared.value.Value.{Value}
use Rattle.toml.proofs.Views.{items_view-drop}
use Rattle.taps_table.specs.Places.{item_text}
use Rattle.taps_base.specs.Results.{◌>>=◌}
use Rattle.taps_table.specs.Refusals.{Refuses}
use Rattle.taps_table.specs.Values.{Reader, items_after, array_in}
use Rattle.taps_table.specs.declared.pre_error.PreError.{PreError}
use Rattle.taps_table.specs.Documents.{count_items}
use Rattle.taps_table.proofs.Documents.{count_items_view}
use Rattle.taps_table.proofs.Refusals.{refuses_on}

module _ {A : Type 0} (reads : List A → Reader A) (path : List ℕ) (index : ℕ) (vs : List Value) (v : Value) (before : List A) (total : Result (List A) PreError) where
  here : index < length vs → v ≡ get_or vs index v → index ≡ length before → items_after reads path before (items_view (drop index vs)) ≡ total
      → (reads before (item_text path index) (view v) >>= λ x. items_after reads path (before ++ x ∷ []) (items_view (drop (index + 1) vs))) ≡ total
  unfolding items_after
  here lt is named so_far =
      let At : ℕ → Type 0 = λ n. (reads before (item_text path n) (view v) >>= λ x. items_after reads path (before ++ x ∷ []) (items_view (drop (index + 1) vs))) ≡ total in
      let step : At (length before) = rw is (rw (items_view-drop vs index v lt) at so_far) in
      subst At (sym named) step

  pub goes_on : (x : A) → index < length vs → v ≡ get_or vs index v → index ≡ length before → items_after reads path before (items_view (drop index vs)) ≡ total
      → reads before (item_text path index) (view v) ≡ Ok x → items_after reads path (before ++ x ∷ []) (items_view (drop (index + 1) vs)) ≡ total
  goes_on x lt is named so_far h = rw h at (here lt is named so_far)

  pub ends : (e : PreError) → index < length vs → v ≡ get_or vs index v → index ≡ length before → items_after reads path before (items_view (drop index vs)) ≡ total
      → Refuses e (reads before (item_text path index) (view v)) → Refuses e total
  ends e lt is named so_far h = refuses_on e (reads before (item_text path index) (view v)) _ total h (here lt is named so_far)

pub is_done : {A : Type 0} (reads : List A → Reader A) (path : List ℕ) (index : ℕ) (vs : List Value) (before : List A) (total : Result (List A) PreError)
    → length vs ≤ index → items_after reads path before (items_view (drop index vs)) ≡ total → total ≡ Ok before
unfolding items_after
is_done reads path index vs before total le so_far =
    let none : drop index vs ≡ [] = drop_all index vs le in
    sym so_far ∙ rw none refl

-- an array with few enough items is refused as its items are
pub array_refused : {A : Type 0} (most : ℕ) (reads : List A → Reader A) (path : List ℕ) (values : List Value) (e : PreError)
    → length values ≤ most → Refuses e (items_after reads path [] (items_view values)) → Refuses e (array_in most reads path (Some (items_view values)))
array_refused most reads path values e few refused = λ some. rw (le-leb (count_items (items_view values)) most (rw (count_items_view values) few), refused some) refl
