use Rattle.std.proofs.Common.{◌≡◌, ◌∷◌, [], true, sym, ap, subst}
use Rattle.taps_socket.specs.Calls.{closes}
use Rattle.taps_socket.specs.LiveSockets.{live_sockets}
use Rattle.taps_socket.specs.RaceSockets.{has}
use Rattle.taps_socket.specs.Net.{Net}
use Rattle.taps_loop.proofs.Closings.{live_closed}
use Rattle.taps_loop.proofs.both.abort_both.Goals as goal

pub abort-requires-2-clause-live : goal.abort-requires-2-clause-live
abort-requires-2-clause-live g c =
    subst (λ t. has (live_sockets t) c.args.to.socket ≡ true) (sym (ap (λ (v : Net). v.trace) c.abort.ensures.net)) (live_closed c.args.from.socket c.args.to.socket (g.N.Sockets.net c.args.net.now).trace c.requires.apart c.requires.second)

pub returns-clause-becomes : goal.returns-clause-becomes
returns-clause-becomes g c =
    g.met.N.Sockets.becomes_on c.args.net.now c.abort.new.net c.abort-2.new.net (closes c.args.from.socket ∷ []) (closes c.args.to.socket ∷ []) c.abort.ensures.becomes c.abort-2.ensures.becomes
