-- The search for the member that sends next, member by member.
use Rattle.std.proofs.Common.{◌≡◌, ◌⊎◌, inl, inr, ℕ, ◌+◌, ◌<◌, Bool, true, false, ◌||◌, ◌&&◌, List, length, slice_get, Option, Some, None, if◌then◌else◌, refl, sym, ◌∙◌, ap, subst, arith}
use Rattle.std.specs.Prelude.{◌==◌, nat_lt}
use Rattle.std.proofs.lemmas.Bool.Decides.{nat_tests}
use Rattle.std.proofs.lemmas.Option.{slice_get_within}
use Rattle.taps_group.specs.declared.member.Waiting.{Waiting}
use Rattle.taps_group.specs.Orders.{Standing, is_before, orders_of, waiting_in, waiting_of, ComesFirst, NoneWaits}
use Rattle.taps_group.specs.Firsts.{sooner}

irreflexive : (p a : ℕ) → (nat_lt p p || ((p == p) && nat_lt a a)) ≡ false
irreflexive p a = grind (arith, nat_tests)

transitive : (p q r a b c : ℕ) → (nat_lt p q || ((p == q) && nat_lt a b)) ≡ true → (nat_lt q r || ((q == r) && nat_lt b c)) ≡ true → (nat_lt p r || ((p == r) && nat_lt a c)) ≡ true
transitive p q r a b c h k = grind (arith, nat_tests)

not_before_on : (v w b : Waiting) → is_before b w ≡ true → is_before v w ≡ false → is_before v b ≡ false
not_before_on v w b bw vw = by (is_before v b) refl
  where
    by : (t : Bool) → is_before v b ≡ t → is_before v b ≡ false
    by true e = (let z : is_before v w ≡ true = transitive v.priority b.priority w.priority v.order b.order w.order e bw in absurd (cc))
    by false e = e

-- the first among so many
pub record IsFirst (order : List ℕ) (members : List Standing) (n : ℕ) (w : Waiting) : Type 0 where
  pub standing : Standing
  pub at : slice_get members w.place ≡ Some standing
  pub waits : waiting_of order w.place standing ≡ Some w
  pub first : (other : ℕ) (s : Standing) (v : Waiting) → other < n → slice_get members other ≡ Some s →
      waiting_of order other s ≡ Some v → is_before v w ≡ false

abbrev pub IsFirstBelow : List ℕ → List Standing → ℕ → Option Waiting → Type 0
IsFirstBelow order members n None = (place : ℕ) (s : Standing) → place < n → slice_get members place ≡ Some s → s.waiting ≡ None
IsFirstBelow order members n (Some w) = IsFirst order members n w

pub first_of_none : (order : List ℕ) (members : List Standing) → IsFirstBelow order members 0 None
first_of_none order members = λ place s below at. absurd (omega arith)

waits_not : (orders : List ℕ) (place priority : ℕ) (o : Option ℕ) → waiting_in orders place priority o ≡ None → o ≡ None
waits_not orders place priority None h = refl
waits_not orders place priority (Some n) h = absurd (cc)

inner : (x y : Waiting) → Some x ≡ Some y → x ≡ y
inner x y h = cc

is_place : (orders : List ℕ) (place priority : ℕ) (o : Option ℕ) (w : Waiting) → waiting_in orders place priority o ≡ Some w → w.place ≡ place
is_place orders place priority None w h = absurd (cc)
is_place orders place priority (Some n) w h = sym (ap (λ (v : Waiting). v.place) (inner _ w h))

last_or_before : (k n : ℕ) → k < n + 1 → (k < n) ⊎ (k ≡ n)
last_or_before k n h = grind arith

same_some : {A : Type 0} (x y : A) (o : Option A) → o ≡ Some x → o ≡ Some y → x ≡ y
same_some x y o p q = cc

stays : (order : List ℕ) (members : List Standing) (n : ℕ) (w : Waiting) (s : Standing) → IsFirst order members n w → slice_get members n ≡ Some s → ((v : Waiting) → waiting_of order n s ≡ Some v → is_before v w ≡ false) → IsFirst order members (n + 1) w
stays order members n w s f at none = record {
  standing = f.standing;
  at = f.at;
  waits = f.waits;
  first = λ other t v below there waits. elim (last_or_before other n below) [
    | inl before ↦ f.first other t v before there waits
    | inr is ↦ (
        let here : slice_get members n ≡ Some t = subst (λ k. slice_get members k ≡ Some t) is there in
        let one : t ≡ s = same_some t s (slice_get members n) here at in
        none v (subst (λ u. waiting_of order n u ≡ Some v) one (subst (λ k. waiting_of order k t ≡ Some v) is waits)))
  ];
}

begins : (order : List ℕ) (members : List Standing) (n : ℕ) (w : Waiting) (s : Standing) → slice_get members n ≡ Some s → waiting_of order n s ≡ Some w → ((other : ℕ) (t : Standing) (v : Waiting) → other < n → slice_get members other ≡ Some t → waiting_of order other t ≡ Some v → is_before v w ≡ false) → IsFirst order members (n + 1) w
begins order members n w s at waits before =
    let place : w.place ≡ n = is_place (orders_of n order) n s.priority s.waiting w waits in
    stays order members n w s (record {
      standing = s;
      at = subst (λ k. slice_get members k ≡ Some s) (sym place) at;
      waits = subst (λ k. waiting_of order k s ≡ Some w) (sym place) waits;
      first = before;
    }) at (λ v there. (let one : v ≡ w = same_some v w (waiting_of order n s) there waits in subst (λ u. is_before u w ≡ false) (sym one) (irreflexive w.priority w.order)))

pub sooner_on : (order : List ℕ) (members : List Standing) (n : ℕ) (s : Standing) (first other : Option Waiting) → slice_get members n ≡ Some s → waiting_of order n s ≡ other → IsFirstBelow order members n first → IsFirstBelow order members (n + 1) (sooner first other)
sooner_on order members n s None None at waits f = λ place t below there. elim (last_or_before place n below) [
  | inl before ↦ f place t before there
  | inr is ↦ (
      let here : slice_get members n ≡ Some t = subst (λ k. slice_get members k ≡ Some t) is there in
      let one : t ≡ s = same_some t s (slice_get members n) here at in
      subst (λ (u : Standing). u.waiting ≡ None) (sym one) (waits_not (orders_of n order) n s.priority s.waiting waits))
]
sooner_on order members n s None (Some b) at waits f = begins order members n b s at waits (λ other t v below there w. absurd (let none : t.waiting ≡ None = f other t below there in not_waiting (orders_of other order) other t.priority t.waiting v none w))
  where
    not_waiting : (orders : List ℕ) (place priority : ℕ) (o : Option ℕ) (v : Waiting) → o ≡ None → waiting_in orders place priority o ≡ Some v → ⊥
    not_waiting orders place priority None v e h = cc
    not_waiting orders place priority (Some n) v e h = cc
sooner_on order members n s (Some a) None at waits f = stays order members n a s f at (λ v there. absurd (let z : None ≡ Some v = sym waits ∙ there in cc))
sooner_on order members n s (Some a) (Some b) at waits f = by (is_before b a) refl
  where
    by : (t : Bool) → is_before b a ≡ t → IsFirstBelow order members (n + 1) (if t then Some b else Some a)
    by true e = begins order members n b s at waits (λ other t v below there w. not_before_on v a b e (f.first other t v below there w))
    by false e = stays order members n a s f at (λ v there. (let one : v ≡ b = same_some v b (waiting_of order n s) there waits in subst (λ u. is_before u a ≡ false) (sym one) e))

pub found : (order : List ℕ) (members : List Standing) (n : ℕ) (w : Waiting) → n ≡ length members → IsFirst order members n w → ComesFirst order members w.place
found order members n w is f = record {
  standing = f.standing;
  waiting = w;
  at = f.at;
  waits = f.waits;
  first = λ other s v there waits. f.first other s v (let within : other < length members = slice_get_within members other s there in omega arith) there waits;
}

pub found_none : (order : List ℕ) (members : List Standing) (n : ℕ) → n ≡ length members → IsFirstBelow order members n None → NoneWaits members
found_none order members n is f = λ place s there. f place s (let within : place < length members = slice_get_within members place s there in omega arith) there
