use Rattle.taps_text.proofs.Steps.{session_pieces}
use Rattle.taps_text.proofs.generated.put_session.Goals as goal

pub returns : goal.returns
returns c = session_pieces c.put_exchange.result c.args.number c.args.text.now.items c.append.new.text.items c.put_bodies.new.text.items c.put_exchange.new.text.items c.in_ok-append.ensures c.in_ok-put_bodies.ensures c.put_exchange.ensures
