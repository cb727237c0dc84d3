use Rattle.std.proofs.Common.{[], subst}
use Rattle.std.specs.Prelude.{Ok}
use Rattle.taps_chain.specs.Layers.{layers_of}
use Rattle.taps_stack.specs.StackTable.{is_stream}
use Rattle.taps_connection.specs.Encodings.{encoding_of}
use Rattle.taps_connection.specs.Sources.{unread_of}
use Rattle.taps_loop.specs.Connections.{FromFirst}
use Rattle.taps_loop.specs.Rounds.{Stands, IsRound, HasTaken}
use Rattle.taps_loop.proofs.MayAsking.{turns_looked}
use Rattle.taps_loop.proofs.turns.take_turns.Goals as goal

pub go_rounds-requires-clause-may : goal.go_rounds-requires-clause-may
go_rounds-requires-clause-may g c =
    turns_looked (λ vtable. (g.dyn-1.0.entry vtable).1) c.args.from.now c.args.to.now c.first_look.new.to (g.N.Sockets.net c.args.net.now) c.args.deadline c.in-Ok-Again.ensures.kept c.in-Ok-Again.ensures.ended c.in-Ok-Again.ensures.sound c.requires.may

pub returns-in-Ok-Again-clause-taken : goal.returns-in-Ok-Again-clause-taken
returns-in-Ok-Again-clause-taken g c =
    λ x piece ends kept queue.
    let now = subst (λ r. IsRound x [] (encoding_of (is_stream c.args.from.now.stack) (layers_of (λ vtable. (g.dyn-1.0.entry vtable).1) c.args.from.now.chain)) (is_stream c.args.to.now.stack) (layers_of (λ vtable. (g.dyn-1.0.entry vtable).1) c.args.to.now.chain) piece c.args.from.now.sender (g.N.Sockets.net c.args.net.now).told c.first_look.new.to.receiver.ended (unread_of c.first_look.new.to.receiver.source) c.first_look.new.heard.items (Ok r)) c.in-Ok-Again.field-0-is (c.in-Ok-Again.ensures.starts x piece c.args.deadline (g.N.Sockets.net c.args.net.now).told ends kept queue) in
    let goes = subst (λ z. FromFirst (λ vtable. (g.dyn-1.0.entry vtable).1) c.args.from.now z c.args.deadline (g.N.Sockets.net c.args.net.now).told c.first_look.new.heard.items (λ x. Stands x [] c.args.from.now.sender c.first_look.new.heard.items c.in-Ok-Again.enough) (λ x. HasTaken g.N.Sockets.Becomes x c.args.net.now c.go_rounds.new.net c.go_rounds.result c.go_rounds.new.from.sender.sent c.go_rounds.new.heard.items)) c.in-Ok-Again.ensures.kept c.go_rounds.ensures.taken in
    goes x piece ends now.0 now.1

pub returns-in-Ok-Over-clause-taken : goal.returns-in-Ok-Over-clause-taken
returns-in-Ok-Over-clause-taken g c =
    λ x piece ends kept queue.
    let now = subst (λ r. IsRound x [] (encoding_of (is_stream c.args.from.now.stack) (layers_of (λ vtable. (g.dyn-1.0.entry vtable).1) c.args.from.now.chain)) (is_stream c.args.to.now.stack) (layers_of (λ vtable. (g.dyn-1.0.entry vtable).1) c.args.to.now.chain) piece c.args.from.now.sender (g.N.Sockets.net c.args.net.now).told c.first_look.new.to.receiver.ended (unread_of c.first_look.new.to.receiver.source) c.first_look.new.heard.items (Ok r)) c.in-Ok-Over.field-0-is (c.in-Ok-Over.ensures.starts x piece c.args.deadline (g.N.Sockets.net c.args.net.now).told ends kept queue) in
    record { calls = []; becomes = g.met.N.Sockets.becomes_itself c.args.net.now; ended = now }
