-- The worked groups are judged as they are to be judged.
use Rattle.std.proofs.Common.{◌≡◌, ℕ, zero, suc, true, false, List, [], ◌∷◌, slice_get, Some, None, refl, sym, ◌∙◌, subst}
use Rattle.taps_group.specs.declared.member.Waiting.{Waiting}
use Rattle.taps_group.specs.Orders.{Standing, is_before, waiting_of, ComesFirst, NoneWaits}
use Rattle.taps_group.specs.WorkedGroups.{stands, RightSenders, WrongSenders, JudgesWorkedGroups}

same : {A : Type 0} (a b : A) → Some a ≡ Some b → a ≡ b
same a b h = cc

-- a member at a place has no turn before this one
abbrev Yields : List ℕ → ℕ → Standing → Waiting → Type 0
Yields order place s w = (v : Waiting) → waiting_of order place s ≡ Some v → is_before v w ≡ false

yields : (order : List ℕ) (place : ℕ) (s : Standing) (c w : Waiting) → waiting_of order place s ≡ Some c → is_before c w ≡ false → Yields order place s w
yields order place s c w is before v waits = subst (λ u. is_before u w ≡ false) (same c v (sym is ∙ waits)) before

idles : (order : List ℕ) (place : ℕ) (s : Standing) (w : Waiting) → waiting_of order place s ≡ None → Yields order place s w
idles order place s w none v waits = let z : None ≡ Some v = sym none ∙ waits in absurd (cc)

yields_as : (order : List ℕ) (place : ℕ) (s t : Standing) (w : Waiting) → Some s ≡ Some t → Yields order place s w → Yields order place t w
yields_as order place s t w here y = subst (λ u. Yields order place u w) (same s t here) y

-- of two members this one comes first
of_two : (order : List ℕ) (a b : Standing) (place : ℕ) (s : Standing) (w : Waiting) → slice_get (a ∷ b ∷ []) place ≡ Some s → waiting_of order place s ≡ Some w → Yields order 0 a w → Yields order 1 b w → ComesFirst order (a ∷ b ∷ []) place
of_two order a b place s w here waits f g = record { standing = s; waiting = w; at = here; waits = waits; first = first }
  where
    first : (other : ℕ) (t : Standing) (v : Waiting) → slice_get (a ∷ b ∷ []) other ≡ Some t → waiting_of order other t ≡ Some v → is_before v w ≡ false
    first zero t v here there = yields_as order 0 a t w here f v there
    first (suc zero) t v here there = yields_as order 1 b t w here g v there
    first (suc (suc n)) t v here there = absurd (cc)

-- another comes before it
not_first : (order : List ℕ) (members : List Standing) (place other : ℕ) (s t : Standing) (w v : Waiting) → slice_get members place ≡ Some s → waiting_of order place s ≡ Some w → slice_get members other ≡ Some t → waiting_of order other t ≡ Some v → is_before v w ≡ true → ComesFirst order members place → ⊥
not_first order members place other s t w v here waits there others before h =
    let standing : s ≡ h.standing = same s h.standing (sym here ∙ h.at) in
    let waiting : w ≡ h.waiting = same w h.waiting (sym waits ∙ subst (λ u. waiting_of order place u ≡ Some h.waiting) (sym standing) h.waits) in
    let no : is_before v w ≡ false = subst (λ u. is_before v u ≡ false) (sym waiting) (h.first other t v there others) in
    cc

not_waiting : (order : List ℕ) (members : List Standing) (place : ℕ) (s : Standing) → slice_get members place ≡ Some s → waiting_of order place s ≡ None → ComesFirst order members place → ⊥
not_waiting order members place s here none h =
    let standing : s ≡ h.standing = same s h.standing (sym here ∙ h.at) in
    let waits : waiting_of order place s ≡ Some h.waiting = subst (λ u. waiting_of order place u ≡ Some h.waiting) (sym standing) h.waits in
    cc

nobody : NoneWaits (stands 100 None ∷ stands 5 None ∷ [])
nobody zero s h = subst (λ (u : Standing). u.waiting ≡ None) (same (stands 100 None) s h) refl
nobody (suc zero) s h = subst (λ (u : Standing). u.waiting ≡ None) (same (stands 5 None) s h) refl
nobody (suc (suc n)) s h = absurd (cc)

right : RightSenders
right = record {
  the_more_urgent = of_two (0 ∷ 1 ∷ []) (stands 100 (Some 0)) (stands 5 (Some 0)) 1 (stands 5 (Some 0)) (record { place = 1; priority = 5; order = 1 }) refl refl (yields (0 ∷ 1 ∷ []) 0 (stands 100 (Some 0)) (record { place = 0; priority = 100; order = 0 }) (record { place = 1; priority = 5; order = 1 }) refl refl) (yields (0 ∷ 1 ∷ []) 1 (stands 5 (Some 0)) (record { place = 1; priority = 5; order = 1 }) (record { place = 1; priority = 5; order = 1 }) refl refl);
  the_earlier_on_a_tie = of_two (0 ∷ 1 ∷ []) (stands 7 (Some 0)) (stands 7 (Some 0)) 0 (stands 7 (Some 0)) (record { place = 0; priority = 7; order = 0 }) refl refl (yields (0 ∷ 1 ∷ []) 0 (stands 7 (Some 0)) (record { place = 0; priority = 7; order = 0 }) (record { place = 0; priority = 7; order = 0 }) refl refl) (yields (0 ∷ 1 ∷ []) 1 (stands 7 (Some 0)) (record { place = 1; priority = 7; order = 1 }) (record { place = 0; priority = 7; order = 0 }) refl refl);
  the_earlier_by_order_and_not_by_place = of_two (1 ∷ 0 ∷ []) (stands 7 (Some 0)) (stands 7 (Some 0)) 1 (stands 7 (Some 0)) (record { place = 1; priority = 7; order = 0 }) refl refl (yields (1 ∷ 0 ∷ []) 0 (stands 7 (Some 0)) (record { place = 0; priority = 7; order = 1 }) (record { place = 1; priority = 7; order = 0 }) refl refl) (yields (1 ∷ 0 ∷ []) 1 (stands 7 (Some 0)) (record { place = 1; priority = 7; order = 0 }) (record { place = 1; priority = 7; order = 0 }) refl refl);
  by_its_first_message_still_to_be_sent = of_two (0 ∷ 1 ∷ 0 ∷ []) (stands 7 (Some 1)) (stands 7 (Some 0)) 1 (stands 7 (Some 0)) (record { place = 1; priority = 7; order = 1 }) refl refl (yields (0 ∷ 1 ∷ 0 ∷ []) 0 (stands 7 (Some 1)) (record { place = 0; priority = 7; order = 2 }) (record { place = 1; priority = 7; order = 1 }) refl refl) (yields (0 ∷ 1 ∷ 0 ∷ []) 1 (stands 7 (Some 0)) (record { place = 1; priority = 7; order = 1 }) (record { place = 1; priority = 7; order = 1 }) refl refl);
  not_an_urgent_one_with_nothing_to_send = of_two (0 ∷ 1 ∷ []) (stands 100 (Some 0)) (stands 5 None) 0 (stands 100 (Some 0)) (record { place = 0; priority = 100; order = 0 }) refl refl (yields (0 ∷ 1 ∷ []) 0 (stands 100 (Some 0)) (record { place = 0; priority = 100; order = 0 }) (record { place = 0; priority = 100; order = 0 }) refl refl) (idles (0 ∷ 1 ∷ []) 1 (stands 5 None) (record { place = 0; priority = 100; order = 0 }) refl);
  nobody = nobody;
}

wrong : WrongSenders
wrong = record {
  the_less_urgent = not_first (0 ∷ 1 ∷ []) (stands 100 (Some 0) ∷ stands 5 (Some 0) ∷ []) 0 1 (stands 100 (Some 0)) (stands 5 (Some 0)) (record { place = 0; priority = 100; order = 0 }) (record { place = 1; priority = 5; order = 1 }) refl refl refl refl refl;
  the_later_on_a_tie = not_first (0 ∷ 1 ∷ []) (stands 7 (Some 0) ∷ stands 7 (Some 0) ∷ []) 1 0 (stands 7 (Some 0)) (stands 7 (Some 0)) (record { place = 1; priority = 7; order = 1 }) (record { place = 0; priority = 7; order = 0 }) refl refl refl refl refl;
  the_lower_place_on_a_tie = not_first (1 ∷ 0 ∷ []) (stands 7 (Some 0) ∷ stands 7 (Some 0) ∷ []) 0 1 (stands 7 (Some 0)) (stands 7 (Some 0)) (record { place = 0; priority = 7; order = 1 }) (record { place = 1; priority = 7; order = 0 }) refl refl refl refl refl;
  one_with_nothing_to_send = not_waiting (0 ∷ 1 ∷ []) (stands 100 (Some 0) ∷ stands 5 None ∷ []) 1 (stands 5 None) refl refl;
  nobody_where_one_waits = λ h. (let e : Some 0 ≡ None = h 0 (stands 100 (Some 0)) refl in cc);
  one_that_is_not_there = λ h. (let e : None ≡ Some h.standing = h.at in cc);
}

pub judged : JudgesWorkedGroups
judged = record { right = right; wrong = wrong }
