use Rattle.std.proofs.Common.{List, [], ◌∷◌, ◌++◌, refl, ◌∙◌, ap}
use Rattle.taps_property.specs.declared.conn_state.ConnState.TheVariants.{Established}
use Rattle.taps_property.specs.declared.connection_props.ConnectionProps.{ConnectionProps}
use Rattle.taps_group.specs.declared.member.Member.{Member}
use Rattle.taps_group.proofs.group.Group.new.Goals as goal

pub returns-in-Ok-clause-begins : goal.returns-in-Ok-clause-begins
returns-in-Ok-clause-begins g c =
    record {
      member = record { connection = c.args.first; priority = c.props.result.conn_priority; orders = c.new.result };
      members = c.in-Ok.ensures.items ∙ ap (λ (v : List (Member _ _)). v ++ record { connection = c.args.first; priority = c.props.result.conn_priority; orders = c.new.result } ∷ []) c.new-members.ensures.items;
      connection = refl;
      priority = ap (λ (p : ConnectionProps). p.conn_priority) c.props.ensures;
      props = ap (λ (p : ConnectionProps). record p { conn_state = Established }) c.props.ensures;
      none_accepted = c.new-in-Ok.ensures.items;
      target_is = refl;
      layers = refl;
      piece_is = refl;
    }
