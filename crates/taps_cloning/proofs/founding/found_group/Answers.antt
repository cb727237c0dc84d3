use Rattle.std.proofs.Common.{refl, subst, ◌∙◌}
use Rattle.taps_connection.specs.Senders.{IsNewSender}
use Rattle.taps_cloning.specs.GroupRules.{terms_of}
use Rattle.taps_cloning.proofs.Founded.{IsFirst, founded, opens}
use Rattle.taps_cloning.proofs.founding.found_group.Goals as goal

pub returns-in-Ok-new-2 : goal.returns-in-Ok-new-2
returns-in-Ok-new-2 g c = λ priorities messages.
    let net = g.N.Sockets.net c.args.net.now in
    let terms = terms_of c.args.terms.now _ priorities messages in
    let first : IsFirst _ terms c.args.socket net c.in-Ok-new.connection = record {
      socket_is = c.in-Ok-new.ensures.socket.0;
      stack_is = c.in-Ok-new.ensures.socket.1;
      props_are = c.in-Ok-new.ensures.socket.2;
      layers = c.in-Ok-new.ensures.layers ∙ c.in-Ok.ensures;
      framers = c.vouch.ensures.framers;
      sender = subst (λ at. IsNewSender at c.in-Ok-new.connection.sender) c.requires.told c.in-Ok-new.ensures.sender;
      unread = c.in-Ok-new.ensures.unread;
      goes_on = c.in-Ok-new.ensures.goes_on;
      held = c.requires.held;
    } in
    record {
      becomes = g.met.N.Sockets.becomes_itself c.args.net.now;
      no_call = refl;
      group = founded _ terms c.args.socket net c.in-Ok-new.connection _ c.in-Ok-new-2.group refl first c.in-Ok-new-2.ensures.begins;
      sound = c.in-Ok-new-2.ensures.sound;
      opened = opens _ terms c.args.socket net c.in-Ok-new.connection _ c.in-Ok-new-2.group refl first c.in-Ok-new-2.ensures.begins c.requires.idle;
    }
