-- Known keys, and tables whose keys are in byte order.
use Rattle.std.proofs.Common.{◌≡◌, ℕ, List, [], ◌∷◌, ◌++◌, Bool, true, false, ◌||◌, bytes_eq, map, Bor, refl, ap}
use Rattle.std.specs.List.{list_any}
use Rattle.std.specs.List.Sorted.{IsStrictlySortedBy}
use Rattle.std.specs.Map.{keys_of}
use Rattle.std.specs.String.{string_cmp}
use Rattle.std.proofs.lemmas.List.Folds.{list_any-append}
use Rattle.toml.specs.Data.{Data, Members, no_members, member, is_before}
use Rattle.toml.specs.View.{members_view}
use Rattle.toml.proofs.Views.{Entry, is_before-sorted}
use Rattle.taps_table.specs.Keys.{is_among, put_member, in_byte_order}

last : (b : Bool) → (b || false) ≡ b
last true = refl
last false = refl

pub is_among_one : (name key : List ℕ) → is_among (name ∷ []) key ≡ bytes_eq name key
unfolding is_among
is_among_one name key = last (bytes_eq name key)

pub is_among_append : (xs ys : List (List ℕ)) (key : List ℕ) → is_among (xs ++ ys) key ≡ (is_among xs key || is_among ys key)
unfolding is_among
is_among_append xs ys key = list_any-append (λ name. bytes_eq name key) xs ys

pub is_among_names : (names : List (Bor (List ℕ))) (key : List ℕ) → is_among (map (λ n. n.now) names) key ≡ list_any (λ n. bytes_eq n.now key) names
unfolding is_among
is_among_names [] key = refl
is_among_names (n ∷ ns) key = ap (λ b. bytes_eq n.now key || b) (is_among_names ns key)

put_first : (key : List ℕ) (d : Data) (ms : Members) → is_before key ms ≡ true → put_member key d ms ≡ member key d ms
put_first key d no_members h = refl
put_first key d (member other e ms) h = rw h

-- a map has its keys in byte order
pub ordered : (es : List Entry) → IsStrictlySortedBy string_cmp (keys_of es) → in_byte_order (members_view es) ≡ members_view es
unfolding IsStrictlySortedBy
ordered [] h = refl
ordered (e ∷ es) h = rw (ordered es h.1, put_first _ _ (members_view es) (is_before-sorted e.0 es h.0))
