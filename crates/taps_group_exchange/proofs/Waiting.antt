-- How many messages wait in all members.
use Rattle.std.proofs.Common.{◌≡◌, ℕ, zero, suc, ◌+◌, ◌<◌, List, [], ◌∷◌, slice_get, slice_set, Option, Some, None, ap, arith}
use Rattle.taps_exchange.proofs.SendingAll.{waiting}
use Rattle.taps_group.specs.declared.member.Member.{Member}

abbrev pub count_waiting : {X : Type 0} {F : X → Type 0} → List (Member X F) → ℕ
count_waiting [] = 0
count_waiting (m ∷ members) = waiting m.connection.sender + count_waiting members

pub fewer_set : {X : Type 0} {F : X → Type 0} (members : List (Member X F)) (k : ℕ) (m n : Member X F) → slice_get members k ≡ Some m → waiting n.connection.sender < waiting m.connection.sender → count_waiting (slice_set members k n) < count_waiting members
fewer_set [] k m n at less = absurd (let none : Option (Member _ _) = None in let z : none ≡ Some m = at in cc)
fewer_set (x ∷ members) zero m n at less =
    let same : waiting x.connection.sender ≡ waiting m.connection.sender = ap (λ (v : Member _ _). waiting v.connection.sender) (let e : x ≡ m = cc in e) in
    omega (arith, same, less)
fewer_set (x ∷ members) (suc k) m n at less = (let r = fewer_set members k m n at less in omega (arith, r))
