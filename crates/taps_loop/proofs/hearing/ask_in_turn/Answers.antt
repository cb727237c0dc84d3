use Rattle.std.proofs.Common.{◌≡◌, ◌+◌, refl, sym, ap, subst, ◌∙◌}
use Rattle.std.specs.Prelude.{min}
use Rattle.taps_chain.specs.Layers.{layers_of}
use Rattle.taps_stack.specs.StackTable.{is_stream}
use Rattle.taps_socket.specs.Shows.{told_after}
use Rattle.taps_connection.specs.Inboxes.{inbox_of, IsPulled}
use Rattle.taps_connection.specs.Sources.{unread_of}
use Rattle.taps_loop.specs.Loops.{soon}
use Rattle.taps_loop.specs.Hears.{IsEnd, HasAsked, IsReadIf, soon_by}
use Rattle.taps_loop.proofs.Hearings.{read_by}
use Rattle.taps_loop.proofs.hearing.ask_in_turn.Goals as goal

pub returns-clause-read : goal.returns-clause-read
returns-clause-read g c =
    λ x calls others piece more needs ms fixed start is before lack few all.
    let here : IsEnd x (is_stream c.args.to.now.stack) (layers_of (λ vtable. (g.dyn-1.0.entry vtable).1) c.args.to.now.chain) x.to.socket piece c.args.deadline = subst (λ v. IsEnd x (is_stream c.args.to.now.stack) (layers_of (λ vtable. (g.dyn-1.0.entry vtable).1) c.args.to.now.chain) v piece c.args.deadline) (sym fixed.socket_is) fixed in
    let pulled : IsPulled g.N.Sockets.Becomes c.args.net.now c.ask_once-pulled.new.net (g.N.Sockets.net c.args.net.now) (g.N.Sockets.net c.ask_once-pulled.new.net) x.to.socket c.soon-until.result (inbox_of c.args.to.now.receiver c.args.to.now.sender.moment) c.ask_once-pulled.result (inbox_of c.ask_once-pulled.new.connection.receiver c.ask_once-pulled.new.connection.sender.moment) =
    subst (λ v. IsPulled g.N.Sockets.Becomes c.args.net.now c.ask_once-pulled.new.net (g.N.Sockets.net c.args.net.now) (g.N.Sockets.net c.ask_once-pulled.new.net) v c.soon-until.result (inbox_of c.args.to.now.receiver c.args.to.now.sender.moment) c.ask_once-pulled.result (inbox_of c.ask_once-pulled.new.connection.receiver c.ask_once-pulled.new.connection.sender.moment)) (sym fixed.socket_is) c.ask_once-pulled.ensures.pulled in
    let last : c.soon-until.result ≡ soon x calls =
    c.soon-until.ensures ∙ (ap (λ n. soon_by n c.args.deadline) (c.told.ensures ∙ start.told_is) ∙ ap (λ d. min d (told_after calls x.from.accepted + 1)) (sym fixed.deadline_is)) in
    subst (λ r. HasAsked g.N.Sockets.Becomes x calls c.args.net.now c.ask_once-pulled.new.net (λ later. IsReadIf x calls later (is_stream c.args.to.now.stack) (layers_of (λ vtable. (g.dyn-1.0.entry vtable).1) c.args.to.now.chain) piece more needs r c.ask_once-pulled.new.connection.receiver.ended (unread_of c.ask_once-pulled.new.connection.receiver.source) ms)) (sym c.turn_of.ensures)
    (read_by g.N.Sockets.Becomes x calls others (is_stream c.args.to.now.stack) (layers_of (λ vtable. (g.dyn-1.0.entry vtable).1) c.args.to.now.chain) piece c.args.deadline more needs (g.N.Sockets.net c.args.net.now).told c.args.net.now c.ask_once-pulled.new.net here start c.args.to.now.receiver.ended (unread_of c.args.to.now.receiver.source) ms before c.requires.goes_on lack few all c.soon-until.result last
    (g.N.Sockets.net c.args.net.now) (g.N.Sockets.net c.ask_once-pulled.new.net) (inbox_of c.args.to.now.receiver c.args.to.now.sender.moment) (inbox_of c.ask_once-pulled.new.connection.receiver c.ask_once-pulled.new.connection.sender.moment) c.args.waits c.ask_once-pulled.result is c.requires.wanting refl refl pulled)
