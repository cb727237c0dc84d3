-- The search for the next sender goes over the members of a group.
use Rattle.std.proofs.Common.{◌≡◌, ℕ, ◌+◌, ◌<◌, ◌≤◌, length, slice_get, get_or, Option, Some, None, sym, ◌∙◌, ap, subst, arith}
use Rattle.std.proofs.lemmas.List.{length-map}
use Rattle.std.specs.Option.{option_map}
use Rattle.std.specs.Prelude.{List}
use Rattle.std.proofs.lemmas.Option.{slice_get-map}
use Rattle.taps_framer.specs.declared.framer.Framer as framer
use Rattle.taps_connection.specs.Senders.{waiting_number}
use Rattle.taps_group.specs.declared.group.Group.{Group}
use Rattle.taps_group.specs.declared.member.Member.{Member}
use Rattle.taps_group.specs.declared.member.Waiting.{Waiting}
use Rattle.taps_group.specs.Firsts.{IsNumbered, sooner}
use Rattle.taps_group.specs.Groups.{IsSoundGroup}
use Rattle.taps_group.specs.Members.{standing_of, standings}
use Rattle.taps_group.specs.Orders.{waiting_in, waiting_of, ComesFirst, NoneWaits}
use Rattle.taps_group.proofs.Firsts.{IsFirstBelow, sooner_on, found, found_none}
use Rattle.taps_group.proofs.Members.{numbered}
use Rattle.taps_group.proofs.Places.{indexed}

pub numbered_at : {X : Type 0} {F : X → Type 0} (boxed : (x : X) → framer.Ghosts (F x)) (g : Group X F) (place : ℕ) (m : Member X F) → IsSoundGroup boxed g → place < length g.members.items → m ≡ get_or g.members.items place m → IsNumbered m
numbered_at boxed g place m sound within is = numbered boxed g.order.items place m (sound.each place m (indexed g.members.items place m within is))

pub sought : {X : Type 0} {F : X → Type 0} (boxed : (x : X) → framer.Ghosts (F x)) (g : Group X F) (place : ℕ) (m : Member X F) (first other now : Option Waiting) →
    IsSoundGroup boxed g → place < length g.members.items → m ≡ get_or g.members.items place m → other ≡ waiting_in m.orders.items place m.priority (waiting_number m.connection.sender) → now ≡ sooner first other →
    IsFirstBelow g.order.items (standings g.members.items) place first → IsFirstBelow g.order.items (standings g.members.items) (place + 1) now
sought boxed g place m first other now sound within is waits then f =
    let at = indexed g.members.items place m within is in
    let one = sound.each place m at in
    let there : slice_get (standings g.members.items) place ≡ Some (standing_of m) = slice_get-map standing_of g.members.items place ∙ ap (option_map standing_of) at in
    let same : waiting_of g.order.items place (standing_of m) ≡ other = ap (λ o. waiting_in o place m.priority (waiting_number m.connection.sender)) (sym one.orders) ∙ sym waits in
    subst (IsFirstBelow g.order.items (standings g.members.items) (place + 1)) (sym then) (sooner_on g.order.items (standings g.members.items) place (standing_of m) first other there same f)

all_of : {X : Type 0} {F : X → Type 0} (members : List (Member X F)) (place end : ℕ) → end ≡ length members → end ≤ place → place ≤ end → place ≡ length (standings members)
all_of members place end is low high = let size : length (standings members) ≡ length members = length-map members standing_of in omega arith

pub sought_some : {X : Type 0} {F : X → Type 0} (g : Group X F) (place end : ℕ) (first : Option Waiting) (w : Waiting) → end ≡ length g.members.items → end ≤ place → place ≤ end → first ≡ Some w → IsFirstBelow g.order.items (standings g.members.items) place first → ComesFirst g.order.items (standings g.members.items) w.place
sought_some g place end first w is low high some f = found g.order.items (standings g.members.items) place w (all_of g.members.items place end is low high) (subst (IsFirstBelow g.order.items (standings g.members.items) place) some f)

pub sought_none : {X : Type 0} {F : X → Type 0} (g : Group X F) (place end : ℕ) (first : Option Waiting) → end ≡ length g.members.items → end ≤ place → place ≤ end → first ≡ None → IsFirstBelow g.order.items (standings g.members.items) place first → NoneWaits (standings g.members.items)
sought_none g place end first is low high none f = found_none g.order.items (standings g.members.items) place (all_of g.members.items place end is low high) (subst (IsFirstBelow g.order.items (standings g.members.items) place) none f)
