use Rattle.std.proofs.Common.{◌≤◌, ◌<◌, ◌^◌, ◌∷◌, [], ◌++◌, sym, subst, ◌∙◌, arith}
use Rattle.taps_chain.specs.Layers.{layers_of}
use Rattle.taps_chain.specs.declared.heard.Heard.TheVariants as heard
use Rattle.taps_stack.specs.StackTable.{is_stream}
use Rattle.taps_connection.specs.Sources.{unread_of}
use Rattle.taps_connection.specs.Unread.{count_given}
use Rattle.taps_exchange.specs.declared.outcome.Outcome.TheVariants as outcome
use Rattle.taps_loop.specs.declared.looked.Look.TheVariants as look
use Rattle.taps_loop.specs.Looks.{IsReceiving, IsFound, IsNearer}
use Rattle.taps_loop.proofs.Lookings.{answered_at, message_kept, message_nearer, need_found, need_ends, bad_found, nearer_on, kept_receiver, few_heard, enough_found}
use Rattle.taps_loop.proofs.looked.look_for.Goals as goal

pub looking-preserved : goal.looking-preserved
looking-preserved g c =
    let layers = layers_of (λ vtable. (g.dyn-1.0.entry vtable).1) c.args.connection.now.chain in
    let i = c.looking.invariant in
    let a = answered_at (λ vtable. (g.dyn-1.0.entry vtable).1) c.args.connection.now c.looking.connection (heard.Message c.in-Message.body) c.receive.new.self.receiver c.looking.invariant.kept (record { given_out = c.in-Message.ensures.given_out; represents = c.in-Message.ensures.represents; wanting = c.in-Message.ensures.wanting; sound = c.in-Message.ensures.sound; ended = c.in-Message.ensures.ended }) in
    record {
      receiving = λ piece read h.
          subst (λ ms. IsReceiving (is_stream c.args.connection.now.stack) layers piece c.args.connection.now.receiver.ended (unread_of c.receive.new.self.receiver.source) read ms) (sym c.in-Ok.ensures.items)
          (subst (λ b. IsReceiving (is_stream c.args.connection.now.stack) layers piece b (unread_of c.receive.new.self.receiver.source) read (c.looking.heard.items ++ c.in-Message.body ∷ [])) c.looking.invariant.ended (message_kept (λ vtable. (g.dyn-1.0.entry vtable).1) (is_stream c.args.connection.now.stack) layers c.args.connection.now.stack c.looking.connection.receiver c.receive.new.self.receiver c.requires.framers c.in-Message.body piece read c.looking.heard.items a (subst (λ b. IsReceiving (is_stream c.args.connection.now.stack) layers piece b (unread_of c.looking.connection.receiver.source) read c.looking.heard.items) (sym c.looking.invariant.ended) (c.looking.invariant.receiving piece read h))));
      sound = a.sound;
      ended = a.ended ∙ i.ended;
      nearer = nearer_on c.args.connection.now.receiver.ended (unread_of c.args.connection.now.receiver.source) (unread_of c.looking.connection.receiver.source) (unread_of c.receive.new.self.receiver.source) i.nearer
          (subst (λ b. IsNearer b (unread_of c.looking.connection.receiver.source) (unread_of c.receive.new.self.receiver.source)) i.ended (message_nearer (λ vtable. (g.dyn-1.0.entry vtable).1) (is_stream c.args.connection.now.stack) layers c.args.connection.now.stack c.looking.connection.receiver c.receive.new.self.receiver c.requires.framers c.in-Message.body a (let test = c.looking-test.true in let given = c.given.ensures in let few = c.requires.few in omega (arith, test, given, few))));
      kept = kept_receiver c.args.connection.now c.looking.connection c.receive.new.self i.kept c.in-Message.ensures.kept;
    }

pub returns-then-has_ended-clause-looked : goal.returns-then-has_ended-clause-looked
returns-then-has_ended-clause-looked g c =
    let layers = layers_of (λ vtable. (g.dyn-1.0.entry vtable).1) c.args.connection.now.chain in
    let i = c.looking.invariant in
    let a = answered_at (λ vtable. (g.dyn-1.0.entry vtable).1) c.args.connection.now c.looking.connection heard.Need c.receive.new.self.receiver c.looking.invariant.kept (record { given_out = c.in-Need.ensures.given_out; represents = c.in-Need.ensures.represents; wanting = c.in-Need.ensures.wanting; sound = c.in-Need.ensures.sound; ended = c.in-Need.ensures.ended }) in
    λ piece read h.
    let k = subst (λ b. IsReceiving (is_stream c.args.connection.now.stack) layers piece b (unread_of c.looking.connection.receiver.source) read c.looking.heard.items) (sym c.looking.invariant.ended) (c.looking.invariant.receiving piece read h) in
    subst (λ b. IsFound (is_stream c.args.connection.now.stack) layers piece c.args.needs read b (look.Over outcome.PeerEnded) (unread_of c.receive.new.self.receiver.source) c.looking.heard.items) i.ended
    (need_ends (λ vtable. (g.dyn-1.0.entry vtable).1) (is_stream c.args.connection.now.stack) layers c.args.connection.now.stack c.looking.connection.receiver c.receive.new.self.receiver c.requires.framers piece c.args.needs read c.looking.heard.items a k (few_heard (is_stream c.args.connection.now.stack) layers piece c.looking.connection.receiver.ended (unread_of c.looking.connection.receiver.source) read c.looking.heard.items (2 ^ 64) k (let test = c.looking-test.true in let given = c.given.ensures in let few = c.requires.few in omega (arith, test, given, few)))
    (few_heard (is_stream c.args.connection.now.stack) layers piece c.looking.connection.receiver.ended (unread_of c.looking.connection.receiver.source) read c.looking.heard.items c.args.needs k (let test = c.looking-test.true in let given = c.given.ensures in omega (arith, test, given))) (sym a.ended ∙ (sym c.has_ended.ensures ∙ c.if-has_ended.true)))

pub returns-in-Need-clause-looked : goal.returns-in-Need-clause-looked
returns-in-Need-clause-looked g c =
    let layers = layers_of (λ vtable. (g.dyn-1.0.entry vtable).1) c.args.connection.now.chain in
    let i = c.looking.invariant in
    let a = answered_at (λ vtable. (g.dyn-1.0.entry vtable).1) c.args.connection.now c.looking.connection heard.Need c.receive.new.self.receiver c.looking.invariant.kept (record { given_out = c.in-Need.ensures.given_out; represents = c.in-Need.ensures.represents; wanting = c.in-Need.ensures.wanting; sound = c.in-Need.ensures.sound; ended = c.in-Need.ensures.ended }) in
    λ piece read h.
    let k = subst (λ b. IsReceiving (is_stream c.args.connection.now.stack) layers piece b (unread_of c.looking.connection.receiver.source) read c.looking.heard.items) (sym c.looking.invariant.ended) (c.looking.invariant.receiving piece read h) in
    subst (λ b. IsFound (is_stream c.args.connection.now.stack) layers piece c.args.needs read b look.Lacks (unread_of c.receive.new.self.receiver.source) c.looking.heard.items) i.ended
    (need_found (λ vtable. (g.dyn-1.0.entry vtable).1) (is_stream c.args.connection.now.stack) layers c.args.connection.now.stack c.looking.connection.receiver c.receive.new.self.receiver c.requires.framers piece c.args.needs read c.looking.heard.items a k (few_heard (is_stream c.args.connection.now.stack) layers piece c.looking.connection.receiver.ended (unread_of c.looking.connection.receiver.source) read c.looking.heard.items (2 ^ 64) k (let test = c.looking-test.true in let given = c.given.ensures in let few = c.requires.few in omega (arith, test, given, few)))
    (few_heard (is_stream c.args.connection.now.stack) layers piece c.looking.connection.receiver.ended (unread_of c.looking.connection.receiver.source) read c.looking.heard.items c.args.needs k (let test = c.looking-test.true in let given = c.given.ensures in omega (arith, test, given))) (sym a.ended ∙ (sym c.has_ended.ensures ∙ c.if-has_ended.false)))

pub returns-in-Bad-clause-looked : goal.returns-in-Bad-clause-looked
returns-in-Bad-clause-looked g c =
    let layers = layers_of (λ vtable. (g.dyn-1.0.entry vtable).1) c.args.connection.now.chain in
    let i = c.looking.invariant in
    let a = answered_at (λ vtable. (g.dyn-1.0.entry vtable).1) c.args.connection.now c.looking.connection (heard.Bad c.in-Bad.bad) c.receive.new.self.receiver c.looking.invariant.kept (record { given_out = c.in-Bad.ensures.given_out; represents = c.in-Bad.ensures.represents; wanting = c.in-Bad.ensures.wanting; sound = c.in-Bad.ensures.sound; ended = c.in-Bad.ensures.ended }) in
    λ piece read h.
    let k = subst (λ b. IsReceiving (is_stream c.args.connection.now.stack) layers piece b (unread_of c.looking.connection.receiver.source) read c.looking.heard.items) (sym c.looking.invariant.ended) (c.looking.invariant.receiving piece read h) in
    subst (λ b. IsFound (is_stream c.args.connection.now.stack) layers piece c.args.needs read b (look.Over (outcome.BadFrame c.in-Bad.bad)) (unread_of c.receive.new.self.receiver.source) c.looking.heard.items) i.ended
    (bad_found (λ vtable. (g.dyn-1.0.entry vtable).1) (is_stream c.args.connection.now.stack) layers c.args.connection.now.stack c.looking.connection.receiver c.receive.new.self.receiver c.requires.framers c.in-Bad.bad piece c.args.needs read c.looking.heard.items a k (few_heard (is_stream c.args.connection.now.stack) layers piece c.looking.connection.receiver.ended (unread_of c.looking.connection.receiver.source) read c.looking.heard.items (2 ^ 64) k (let test = c.looking-test.true in let given = c.given.ensures in let few = c.requires.few in omega (arith, test, given, few)))
    (few_heard (is_stream c.args.connection.now.stack) layers piece c.looking.connection.receiver.ended (unread_of c.looking.connection.receiver.source) read c.looking.heard.items c.args.needs k (let test = c.looking-test.true in let given = c.given.ensures in omega (arith, test, given))))

pub returns-clause-looked : goal.returns-clause-looked
returns-clause-looked g c =
    let i = c.looking.invariant in
    λ piece read h.
    let all : c.args.needs ≤ count_given (unread_of c.looking.connection.receiver.source) = (let test = c.looking-test.false in let given = c.given.ensures in omega (arith, test, given)) in
    let small : count_given (unread_of c.looking.connection.receiver.source) < 2 ^ 64 = (let given = c.given.ensures in let fits = c.given.auto in omega (arith, given, fits)) in
    enough_found (is_stream c.args.connection.now.stack) (layers_of (λ vtable. (g.dyn-1.0.entry vtable).1) c.args.connection.now.chain) piece c.args.needs read c.args.connection.now.receiver.ended (unread_of c.looking.connection.receiver.source) c.looking.heard.items c.requires.framers small all (i.receiving piece read h)
