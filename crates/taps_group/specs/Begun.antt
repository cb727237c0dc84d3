-- A group that begins with one connection.
use Rattle.std.specs.Prelude.{◌≡◌, ℕ, [], ◌∷◌}
use Rattle.taps_framer.specs.declared.framer.Framer as framer
use Rattle.taps_chain.specs.Layers.{layers_of}
use Rattle.taps_chain.specs.declared.chain.Chain.{Chain}
use Rattle.taps_property.specs.declared.conn_state.ConnState.TheVariants.{Established}
use Rattle.taps_stack.specs.declared.target.Target.{Target}
use Rattle.taps_connection.specs.declared.connection.Connection.{Connection}
use Rattle.taps_connection.specs.declared.state.Established as state
use Rattle.taps_group.specs.declared.member.Member.{Member}
use Rattle.taps_group.specs.declared.group.Group.{Group}

-- the connection is the one member, with its own priority, and its other properties are those of the group
pub record Begins {X : Type 0} {F : X → Type 0} (boxed : (x : X) → framer.Ghosts (F x))
    (first : Connection state.Established X F) (target : Target) (chain : Chain X F) (piece : ℕ) (g : Group X F) :
    Type 0 where
  pub member : Member X F
  pub members : g.members.items ≡ member ∷ []
  pub connection : member.connection ≡ first
  pub priority : member.priority ≡ first.props.conn_priority
  pub props : g.props ≡ record first.props { conn_state = Established }
  pub none_accepted : g.order.items ≡ []
  pub target_is : g.target ≡ target
  pub layers : layers_of boxed g.chain ≡ layers_of boxed chain
  pub piece_is : g.piece ≡ piece
