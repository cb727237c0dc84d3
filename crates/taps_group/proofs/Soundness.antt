-- A group stays sound where one member changes soundly, accepts a message, or joins.
use Rattle.std.proofs.Common.{◌≡◌, ◌⊎◌, inl, inr, ℕ, ◌+◌, ◌<◌, Bool, true, false, List, [], ◌∷◌, ◌++◌, length, slice_get, slice_set, Some, refl, sym, ◌∙◌, ap, subst, arith, length-set, length-append}
use Rattle.std.specs.Prelude.{◌==◌}
use Rattle.std.specs.List.{All}
use Rattle.std.proofs.lemmas.Bool.{eq-eqb, eqb-true}
use Rattle.std.proofs.lemmas.List.Elements.{All-push, All-weaker}
use Rattle.std.proofs.lemmas.Option.{slice_get_within}
use Rattle.taps_framer.specs.declared.framer.Framer as framer
use Rattle.taps_group.specs.declared.group.Group.{Group}
use Rattle.taps_group.specs.declared.member.Member.{Member}
use Rattle.taps_group.specs.Groups.{IsSoundGroup}
use Rattle.taps_group.specs.Members.{IsSoundMember, AreSound}
use Rattle.taps_group.specs.Orders.{orders_of}
use Rattle.taps_group.proofs.Ordering.{order_more, order_other, order_none}
use Rattle.taps_group.proofs.Places.{set_here, set_there, push_here, push_there}

same_or_other : (a b : ℕ) → (a ≡ b) ⊎ (a ≡ b → ⊥)
same_or_other a b = by (a == b) refl
  where
    by : (t : Bool) → (a == b) ≡ t → (a ≡ b) ⊎ (a ≡ b → ⊥)
    by true e = inl (eqb-true a b e)
    by false e = inr (λ is. absurd (let z : (a == b) ≡ true = eq-eqb a b is in cc))

-- where the one at a place stays sound
each_changed : {X : Type 0} {F : X → Type 0} (boxed : (x : X) → framer.Ghosts (F x)) (order : List ℕ) (members : List (Member X F)) (place : ℕ) (m n : Member X F) →
    slice_get members place ≡ Some m → IsSoundMember boxed order place n → AreSound boxed order members → AreSound boxed order (slice_set members place n)
each_changed boxed order members place m n at sound each j k there =
    elim (same_or_other j place) [
      | inl is ↦ (
          let here : slice_get (slice_set members place n) j ≡ Some n = subst (λ v. slice_get (slice_set members place n) v ≡ Some n) (sym is) (set_here members place n m at) in
          let one : n ≡ k = (let e : Some n ≡ Some k = sym here ∙ there in cc) in
          subst (λ v. IsSoundMember boxed order j v) one (subst (λ v. IsSoundMember boxed order v n) (sym is) sound))
      | inr differs ↦ each j k (sym (set_there members place j n differs) ∙ there)
    ]

pub sound_changed : {X : Type 0} {F : X → Type 0} (boxed : (x : X) → framer.Ghosts (F x)) (g h : Group X F) (place : ℕ) (m n : Member X F) →
    slice_get g.members.items place ≡ Some m → h.members.items ≡ slice_set g.members.items place n → h.order.items ≡ g.order.items → h.piece ≡ g.piece → (IsSoundMember boxed g.order.items place m → IsSoundMember boxed g.order.items place n) → IsSoundGroup boxed g → IsSoundGroup boxed h
sound_changed boxed g h place m n at changed order piece on sound =
    let size : length h.members.items ≡ length g.members.items = ap length changed ∙ length-set g.members.items place n in
    let some = sound.some in
    let few = sound.few in
    let piece_some = sound.piece_some in
    let piece_few = sound.piece_few in
    record {
      some = omega arith;
      few = omega arith;
      each = subst (λ o. AreSound boxed o h.members.items) (sym order) (subst (AreSound boxed g.order.items) (sym changed) (each_changed boxed g.order.items g.members.items place m n at (on (sound.each place m at)) sound.each));
      places = subst (λ o. All (λ p. p < length h.members.items) o) (sym order) (subst (λ l. All (λ p. p < l) g.order.items) (sym size) sound.places);
      piece_some = omega arith;
      piece_few = omega arith;
    }

-- the members' orders once one accepted a message
each_noted : {X : Type 0} {F : X → Type 0} (boxed : (x : X) → framer.Ghosts (F x)) (order : List ℕ) (members : List (Member X F)) (place : ℕ) (m n : Member X F) →
    slice_get members place ≡ Some m → IsSoundMember boxed (order ++ place ∷ []) place n → AreSound boxed order members → AreSound boxed (order ++ place ∷ []) (slice_set members place n)
each_noted boxed order members place m n at sound each j k there =
    elim (same_or_other j place) [
      | inl is ↦ (
          let here : slice_get (slice_set members place n) j ≡ Some n = subst (λ v. slice_get (slice_set members place n) v ≡ Some n) (sym is) (set_here members place n m at) in
          let one : n ≡ k = (let e : Some n ≡ Some k = sym here ∙ there in cc) in
          subst (λ v. IsSoundMember boxed (order ++ place ∷ []) j v) one (subst (λ v. IsSoundMember boxed (order ++ place ∷ []) v n) (sym is) sound))
      | inr differs ↦ (
          let before = each j k (sym (set_there members place j n differs) ∙ there) in
          record {
            sending = before.sending;
            receiving = before.receiving;
            numbers = before.numbers;
            orders = before.orders ∙ sym (order_other place j 0 order differs);
            counted = before.counted;
          })
    ]

pub sound_noted : {X : Type 0} {F : X → Type 0} (boxed : (x : X) → framer.Ghosts (F x)) (g h : Group X F) (place : ℕ) (m n : Member X F) →
    slice_get g.members.items place ≡ Some m → h.members.items ≡ slice_set g.members.items place n → h.order.items ≡ g.order.items ++ place ∷ [] → h.piece ≡ g.piece → (IsSoundMember boxed g.order.items place m → IsSoundMember boxed (g.order.items ++ place ∷ []) place n) → IsSoundGroup boxed g → IsSoundGroup boxed h
sound_noted boxed g h place m n at changed order piece on sound =
    let size : length h.members.items ≡ length g.members.items = ap length changed ∙ length-set g.members.items place n in
    let some = sound.some in
    let few = sound.few in
    let piece_some = sound.piece_some in
    let piece_few = sound.piece_few in
    let within : place < length g.members.items = slice_get_within g.members.items place m at in
    record {
      some = omega arith;
      few = omega arith;
      each = subst (λ o. AreSound boxed o h.members.items) (sym order) (subst (AreSound boxed (g.order.items ++ place ∷ [])) (sym changed) (each_noted boxed g.order.items g.members.items place m n at (on (sound.each place m at)) sound.each));
      places = subst (λ o. All (λ p. p < length h.members.items) o) (sym order) (subst (λ l. All (λ p. p < l) (g.order.items ++ place ∷ [])) (sym size) (All-push (λ p. p < length g.members.items) g.order.items place sound.places within));
      piece_some = omega arith;
      piece_few = omega arith;
    }

-- the member that accepted it: its orders have one more
pub noted_orders : (order orders : List ℕ) (place : ℕ) → orders ≡ orders_of place order → orders ++ length order ∷ [] ≡ orders_of place (order ++ place ∷ [])
noted_orders order orders place h = ap (λ v. v ++ length order ∷ []) h ∙ (ap (λ n. orders_of place order ++ n ∷ []) (omega arith) ∙ sym (order_more place 0 order))

-- a member more
each_joined : {X : Type 0} {F : X → Type 0} (boxed : (x : X) → framer.Ghosts (F x)) (order : List ℕ) (members : List (Member X F)) (m : Member X F) →
    IsSoundMember boxed order (length members) m → AreSound boxed order members → AreSound boxed order (members ++ m ∷ [])
each_joined boxed order members m sound each j k there =
    elim (same_or_other j (length members)) [
      | inl is ↦ (
          let here : slice_get (members ++ m ∷ []) j ≡ Some m = subst (λ v. slice_get (members ++ m ∷ []) v ≡ Some m) (sym is) (push_here members m) in
          let one : m ≡ k = (let e : Some m ≡ Some k = sym here ∙ there in cc) in
          subst (λ v. IsSoundMember boxed order j v) one (subst (λ v. IsSoundMember boxed order v m) (sym is) sound))
      | inr differs ↦ (
          let within : j < length (members ++ m ∷ []) = slice_get_within (members ++ m ∷ []) j k there in
          let size : length (members ++ m ∷ []) ≡ length members + 1 = length-append members (m ∷ []) in
          let below : j < length members = omega arith in
          each j k (sym (push_there members j m below) ∙ there))
    ]

pub sound_joined : {X : Type 0} {F : X → Type 0} (boxed : (x : X) → framer.Ghosts (F x)) (g h : Group X F) (m : Member X F) →
    h.members.items ≡ g.members.items ++ m ∷ [] → h.order.items ≡ g.order.items → h.piece ≡ g.piece → length g.members.items < 16 → (orders_of (length g.members.items) g.order.items ≡ [] → IsSoundMember boxed g.order.items (length g.members.items) m) → IsSoundGroup boxed g → IsSoundGroup boxed h
sound_joined boxed g h m joined order piece room new sound =
    let size : length h.members.items ≡ length g.members.items + 1 = ap length joined ∙ length-append g.members.items (m ∷ []) in
    let none = order_none (length g.members.items) 0 g.order.items sound.places in
    let some = sound.some in
    let few = sound.few in
    let piece_some = sound.piece_some in
    let piece_few = sound.piece_few in
    record {
      some = omega arith;
      few = omega arith;
      each = subst (λ o. AreSound boxed o h.members.items) (sym order) (subst (AreSound boxed g.order.items) (sym joined) (each_joined boxed g.order.items g.members.items m (new none) sound.each));
      places = subst (λ o. All (λ p. p < length h.members.items) o) (sym order) (All-weaker (λ p. p < length g.members.items) (λ p. p < length h.members.items) (λ p below. omega arith) g.order.items sound.places);
      piece_some = omega arith;
      piece_few = omega arith;
    }

-- a group that is the same is as sound
pub sound_same : {X : Type 0} {F : X → Type 0} (boxed : (x : X) → framer.Ghosts (F x)) (g h : Group X F) →
    h.members.items ≡ g.members.items → h.order.items ≡ g.order.items → h.piece ≡ g.piece → IsSoundGroup boxed g → IsSoundGroup boxed h
sound_same boxed g h members order piece sound =
    let size : length h.members.items ≡ length g.members.items = ap length members in
    let some = sound.some in
    let few = sound.few in
    let piece_some = sound.piece_some in
    let piece_few = sound.piece_few in
    record {
      some = omega arith;
      few = omega arith;
      each = subst (λ o. AreSound boxed o h.members.items) (sym order) (subst (AreSound boxed g.order.items) (sym members) sound.each);
      places = subst (λ o. All (λ p. p < length h.members.items) o) (sym order) (subst (λ l. All (λ p. p < l) g.order.items) (sym size) sound.places);
      piece_some = omega arith;
      piece_few = omega arith;
    }
