-- What a group is, and what its calls make of it (RFC 9622 section 7.4).
use Rattle.std.specs.Prelude.{◌≡◌, ◌≤◌, ◌<◌, ℕ, List, slice_get, slice_set, length, Some, Result, Ok, Err}
use Rattle.std.specs.List.{All}
use Rattle.taps_framer.specs.declared.framer.Framer as framer
use Rattle.taps_property.specs.declared.prop_error.PropError.{PropError}
use Rattle.taps_property.specs.declared.prop_value.PropValue.{PropValue}
use Rattle.taps_group.specs.declared.member.Member.{Member}
use Rattle.taps_group.specs.declared.group.Group.{Group}
use Rattle.taps_group.specs.Members.{AreSound}
use Rattle.taps_group.specs.Properties.{IsSetFor, set_by, with_priority}

-- what always holds of a group: it has a member, and no more than 16; each is sound; and each message that was accepted
-- was accepted by one of them
pub record IsSoundGroup {X : Type 0} {F : X → Type 0} (boxed : (x : X) → framer.Ghosts (F x)) (g : Group X F) :
    Type 0 where
  pub some : 1 ≤ length g.members.items
  pub few : length g.members.items ≤ 16
  pub each : AreSound boxed g.order.items g.members.items
  pub places : All (λ p. p < length g.members.items) g.order.items
  pub piece_some : 1 ≤ g.piece
  pub piece_few : g.piece ≤ 65536

-- a group has the same members, and all else is the same: there may be room for more members
pub record IsSameGroup {X : Type 0} {F : X → Type 0} (g h : Group X F) : Type 0 where
  pub members : h.members.items ≡ g.members.items
  pub rest : h ≡ record g { members = h.members }

-- a member's property was set, and that of all others unless it is the priority; or it was refused
pub record HasSet {X : Type 0} {F : X → Type 0} (member : ℕ) (name : List ℕ) (value : PropValue) (g h : Group X F) :
    Type 0 where
  pub was : Member X F
  pub priority : ℕ
  pub at : slice_get g.members.items member ≡ Some was
  pub members : h.members.items ≡ slice_set g.members.items member (record was { priority = priority })
  pub set : IsSetFor name value g.props h.props was.priority priority
  pub rest : h ≡ record g { members = h.members; props = h.props }

abbrev pub IsSet : {X : Type 0} {F : X → Type 0} → ℕ → List ℕ → PropValue → Group X F →
    Result (Unit {0}) PropError → Group X F → Type 0
IsSet member name value g (Ok done) h = HasSet member name value g h
IsSet member name value g (Err e) h =
    (m : Member _ _) × ((slice_get g.members.items member ≡ Some m) ×
    (set_by name value (with_priority m.priority g.props) ≡ Err e) × (h ≡ g))
