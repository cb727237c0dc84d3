-- A group of one new connection.
use Rattle.std.proofs.Common.{◌≡◌, ℕ, true, false, [], ◌∷◌, length, refl, sym, ap, ◌∙◌, subst, arith}
use Rattle.std.proofs.lemmas.List.Elements.{All-nil, All-cons}
use Rattle.taps_chain.specs.ChainLaws.{AreFramers}
use Rattle.taps_chain.specs.Layers.{layers_of}
use Rattle.taps_chain.specs.declared.chain.Chain.{Chain}
use Rattle.taps_framer.specs.declared.framer.Framer as framer
use Rattle.taps_property.specs.declared.conn_state.ConnState.TheVariants.{Established}
use Rattle.taps_property.specs.declared.connection_props.ConnectionProps.{ConnectionProps}
use Rattle.taps_stack.specs.StackTable.{is_stream}
use Rattle.taps_socket.specs.LiveSockets.{live_sockets}
use Rattle.taps_socket.specs.Net.{Net}
use Rattle.taps_socket.specs.RaceSockets.{has, pending_sockets}
use Rattle.taps_connection.specs.declared.connection.Connection.{Connection}
use Rattle.taps_connection.specs.declared.state.Established as state
use Rattle.taps_connection.specs.Conditions.{IsHeld}
use Rattle.taps_connection.specs.Senders.{IsNewSender}
use Rattle.taps_connection.specs.Sources.{unread_of}
use Rattle.taps_connection.specs.Unread.{first_unread}
use Rattle.taps_group.specs.Begun.{Begins}
use Rattle.taps_group.specs.Closes.{MayClose, IsOpen, sockets_of}
use Rattle.taps_group.specs.declared.group.Group.{Group}
use Rattle.taps_group.specs.declared.member.Member.{Member}
use Rattle.taps_group_exchange.specs.Members.{GroupTerms}
use Rattle.taps_cloning.specs.Opening.{AreOpened, IsOpenedGroup}
use Rattle.taps_cloning.proofs.Keeping.{held_live}

-- a connection over a held socket, since a time
pub record IsFirst {X : Type 0} {F : X → Type 0} (boxed : (x : X) → framer.Ghosts (F x)) (g : GroupTerms) (socket : ℕ) (net : Net) (c : Connection state.Established X F) : Type 0 where
  pub socket_is : c.socket ≡ socket
  pub stack_is : c.stack ≡ g.target.stack
  pub props_are : c.props ≡ g.props
  pub layers : layers_of boxed c.chain ≡ g.layers
  pub framers : AreFramers g.layers
  pub sender : IsNewSender net.told c.sender
  pub unread : unread_of c.receiver.source ≡ first_unread g.target.stack g.piece (length (layers_of boxed c.chain))
  pub goes_on : c.receiver.ended ≡ false
  pub held : IsHeld net.trace socket (is_stream g.target.stack) false false

module _ {X : Type 0} {F : X → Type 0} (boxed : (x : X) → framer.Ghosts (F x)) (g : GroupTerms) (socket : ℕ) (net : Net) (c : Connection state.Established X F) (chain : Chain X F) (h : Group X F) (same : layers_of boxed chain ≡ g.layers) (first : IsFirst boxed g socket net c) (b : Begins boxed c g.target chain g.piece h) where
  is_it : b.member.connection.socket ≡ socket
  is_it = ap (λ (k : Connection state.Established X F). k.socket) b.connection ∙ first.socket_is

  sockets : sockets_of h.members.items ≡ socket ∷ []
  sockets = ap sockets_of b.members ∙ ap (λ s. s ∷ []) is_it

  opened_first : (m : Member X F) → m.connection ≡ c → m.priority ≡ c.props.conn_priority → AreOpened boxed g net.told net.trace 0 (m ∷ [])
  opened_first m own priority =
      let stack : m.connection.stack ≡ g.target.stack = ap (λ (k : Connection state.Established X F). k.stack) own ∙ first.stack_is in (
        record {
          unused = record {
            since = net.told;
            sender = subst (λ (k : Connection state.Established X F). IsNewSender net.told k.sender) (sym own) first.sender;
            before = omega arith;
            unread = ap (λ (k : Connection state.Established X F). unread_of k.receiver.source) own ∙ (first.unread ∙ (ap (λ s. first_unread s g.piece (length (layers_of boxed c.chain))) (sym stack)
                ∙ ap (λ (k : Connection state.Established X F). first_unread m.connection.stack g.piece (length (layers_of boxed k.chain))) (sym own)));
            goes_on = ap (λ (k : Connection state.Established X F). k.receiver.ended) own ∙ first.goes_on;
            framers = subst (λ (k : Connection state.Established X F). AreFramers (layers_of boxed k.chain)) (sym own) (subst AreFramers (sym first.layers) first.framers);
            held = subst (λ s. IsHeld net.trace s (is_stream m.connection.stack) false false) (sym (ap (λ (k : Connection state.Established X F). k.socket) own ∙ first.socket_is)) (subst (λ s. IsHeld net.trace socket (is_stream s) false false) (sym stack) first.held);
          };
          stack = stack;
          layers = ap (λ (k : Connection state.Established X F). layers_of boxed k.chain) own ∙ first.layers;
          priority = priority ∙ ap (λ (p : ConnectionProps). p.conn_priority) first.props_are;
        },
        tt,
      )

  pub founded : IsOpenedGroup boxed g socket net [] h
  founded = record {
    target = b.target_is;
    layers = b.layers ∙ same;
    framers = first.framers;
    piece = b.piece_is;
    props = b.props ∙ ap (λ (p : ConnectionProps). record p { conn_state = Established }) first.props_are;
    none_accepted = b.none_accepted;
    sockets = sockets;
    members = subst (AreOpened boxed g net.told net.trace 0) (sym b.members) (opened_first b.member b.connection b.priority);
  }

  pub opens : pending_sockets net.trace ≡ [] → IsOpen net h.members.items
  opens idle = record {
    may_close = subst (MayClose net.trace) (sym sockets) (record {
      live = All-cons (λ s. has (live_sockets net.trace) s ≡ true) socket [] (held_live net.trace socket (is_stream g.target.stack) false false first.held) (All-nil (λ s. has (live_sockets net.trace) s ≡ true));
      once = (refl, tt {0});
    });
    idle = idle;
  }
