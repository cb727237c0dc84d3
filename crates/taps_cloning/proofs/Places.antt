-- The members of an opened group are those of its exchange.
use Rattle.std.proofs.Common.{◌≡◌, ◌+◌, ℕ, zero, suc, List, [], ◌∷◌, refl, sym, subst, arith, Some}
use Rattle.std.specs.Prelude.{slice_get}
use Rattle.taps_framer.specs.declared.framer.Framer as framer
use Rattle.taps_socket.specs.declared.item.Item.{Item}
use Rattle.taps_socket.specs.Net.{Net}
use Rattle.taps_group.specs.Closes.{IsOpen}
use Rattle.taps_group.specs.declared.group.Group.{Group}
use Rattle.taps_group.specs.declared.member.Member.{Member}
use Rattle.taps_group_exchange.specs.Cloning.{CloneRace}
use Rattle.taps_group_exchange.specs.GroupHearings.{AllNeed}
use Rattle.taps_group_exchange.specs.Members.{GroupTerms, places_from, until_of}
use Rattle.taps_group_exchange.specs.Preparing.{IsMemberFor, IsGroupFor}
use Rattle.taps_group_exchange.specs.Standing.{AreNew}
use Rattle.taps_cloning.specs.Opening.{IsOpened, AreOpened, IsOpenedGroup}

-- all of them hear as many messages, up to one time
pub need_all : (g : GroupTerms) (at place : ℕ) (sockets : List ℕ) → AllNeed (until_of g at) g.needs (places_from g at place sockets)
need_all g at place [] = tt
need_all g at place (s ∷ sockets) = (refl, (refl, need_all g at (place + 1) sockets))

news : {X : Type 0} {F : X → Type 0} (boxed : (x : X) → framer.Ghosts (F x)) (g : GroupTerms) (at : ℕ) (t : List Item) (place : ℕ) (members : List (Member X F)) → AreOpened boxed g at t place members → AreNew boxed g.piece at t members
news boxed g at t place [] h = tt
news boxed g at t place (m ∷ members) h = (h.0.unused, news boxed g at t (place + 1) members h.1)

member_for : {X : Type 0} {F : X → Type 0} (boxed : (x : X) → framer.Ghosts (F x)) (g : GroupTerms) (at : ℕ) (t : List Item) (place : ℕ) (m : Member X F) → IsOpened boxed g at t place m → IsMemberFor boxed g place m
member_for boxed g at t place m h = record { stack = h.stack; layers = h.layers; priority = h.priority }

at_place : {X : Type 0} {F : X → Type 0} (boxed : (x : X) → framer.Ghosts (F x)) (g : GroupTerms) (at : ℕ) (t : List Item) (base : ℕ) (members : List (Member X F)) (place : ℕ) (m : Member X F) → AreOpened boxed g at t base members → slice_get members place ≡ Some m → IsMemberFor boxed g (base + place) m
at_place boxed g at t base [] place m h e = absurd (cc)
at_place boxed g at t base (x ∷ members) zero m h e =
    let same : x ≡ m = cc in
    let here : base ≡ base + 0 = omega arith in
    subst (λ n. IsMemberFor boxed g n m) here (subst (IsMemberFor boxed g base) same (member_for boxed g at t base x h.0))
at_place boxed g at t base (x ∷ members) (suc k) m h e =
    let there : base + 1 + k ≡ base + suc k = omega arith in
    subst (λ n. IsMemberFor boxed g n m) there (at_place boxed g at t (base + 1) members k m h.1 e)

from_first : {X : Type 0} {F : X → Type 0} (boxed : (x : X) → framer.Ghosts (F x)) (g : GroupTerms) (place : ℕ) (m : Member X F) → IsMemberFor boxed g (0 + place) m → IsMemberFor boxed g place m
from_first boxed g place m h = (let e : 0 + place ≡ place = omega arith in subst (λ n. IsMemberFor boxed g n m) e h)

pub group_for : {X : Type 0} {F : X → Type 0} (boxed : (x : X) → framer.Ghosts (F x)) (g : GroupTerms) (first : ℕ) (net : Net) (races : List CloneRace) (h : Group X F) → IsOpenedGroup boxed g first net races h → IsOpen net h.members.items → IsGroupFor boxed g net.told net g.priorities g.messages h
group_for boxed g first net races h k opened = record {
  fresh = record {
    each = subst (λ p. AreNew boxed p net.told net.trace h.members.items) (sym k.piece) (news boxed g net.told net.trace 0 h.members.items k.members);
    none_accepted = k.none_accepted;
    opened = opened;
  };
  each = λ place m e. from_first boxed g place m (at_place boxed g net.told net.trace 0 h.members.items place m k.members e);
  piece = k.piece;
  priorities_are = refl;
  messages_are = refl;
}
