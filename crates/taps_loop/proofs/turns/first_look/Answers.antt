use Rattle.std.proofs.Common.{◌+◌, [], sym, ap, subst, ◌∙◌}
use Rattle.std.specs.Prelude.{Ok}
use Rattle.taps_chain.specs.Layers.{layers_of}
use Rattle.taps_stack.specs.StackTable.{is_stream}
use Rattle.taps_connection.specs.Encodings.{encoding_of}
use Rattle.taps_connection.specs.Sources.{unread_of}
use Rattle.taps_loop.specs.Hears.{one_true}
use Rattle.taps_loop.specs.Rounds.{round_of, IsRound}
use Rattle.taps_loop.proofs.Starting.{starts}
use Rattle.taps_loop.proofs.turns.first_look.Goals as goal

pub returns-in-Ok-clause-starts : goal.returns-in-Ok-clause-starts
returns-in-Ok-clause-starts g c =
    let from_encoding = encoding_of (is_stream c.args.from.now.stack) (layers_of (λ vtable. (g.dyn-1.0.entry vtable).1) c.args.from.now.chain) in
    let to_layers = layers_of (λ vtable. (g.dyn-1.0.entry vtable).1) c.args.to.now.chain in
    λ x piece deadline told ends kept queue.
    let found = c.in-Ok.ensures.looked piece [] kept.hears.receiving in
    subst (λ r. IsRound x [] from_encoding (is_stream c.args.to.now.stack) to_layers piece c.args.from.now.sender told c.look_for.new.connection.receiver.ended (unread_of c.look_for.new.connection.receiver.source) c.look_for.new.heard.items (Ok r)) (sym c.round_from.ensures)
    (subst (λ e. IsRound x [] from_encoding (is_stream c.args.to.now.stack) to_layers piece c.args.from.now.sender told e (unread_of c.look_for.new.connection.receiver.source) c.look_for.new.heard.items (Ok (round_of c.in-Ok.found))) (sym c.in-Ok.ensures.ended)
    (starts x from_encoding c.args.from.now.socket (is_stream c.args.to.now.stack) to_layers c.args.to.now.socket piece deadline c.args.from.now.sender told c.args.to.now.receiver.ended (unread_of c.args.to.now.receiver.source) (unread_of c.look_for.new.connection.receiver.source) c.args.heard.now.items c.look_for.new.heard.items c.needed-needs.result
    ends kept queue c.requires.none (c.needed-needs.ensures ∙ (ap (λ k. k + one_true c.is_waiting.result) c.sent.ensures ∙ ap (λ k. c.args.from.now.sender.sent + k) c.is_waiting.ensures)) c.in-Ok.found found))
