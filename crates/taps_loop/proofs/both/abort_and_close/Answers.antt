use Rattle.std.proofs.Common.{◌≡◌, ◌∷◌, [], true, sym, ap, subst}
use Rattle.taps_socket.specs.Calls.{closes}
use Rattle.taps_socket.specs.LiveSockets.{live_sockets}
use Rattle.taps_socket.specs.RaceSockets.{has}
use Rattle.taps_socket.specs.Net.{Net}
use Rattle.taps_loop.proofs.Closings.{live_closed}
use Rattle.taps_loop.proofs.both.abort_and_close.Goals as goal

pub close-requires-clause-live : goal.close-requires-clause-live
close-requires-clause-live g c =
    subst (λ t. has (live_sockets t) c.args.to ≡ true) (sym (ap (λ (v : Net). v.trace) c.abort.ensures.net)) (live_closed c.args.from.socket c.args.to (g.N.Sockets.net c.args.net.now).trace c.requires.apart c.requires.second)

pub returns-clause-becomes : goal.returns-clause-becomes
returns-clause-becomes g c =
    g.met.N.Sockets.becomes_on c.args.net.now c.abort.new.net c.close.new.self (closes c.args.from.socket ∷ []) (closes c.args.to ∷ []) c.abort.ensures.becomes c.close.ensures.becomes
