use Rattle.std.proofs.Common.{◌≡◌, ◌∷◌, [], true, sym, ap, subst}
use Rattle.taps_socket.specs.Calls.{closes}
use Rattle.taps_socket.specs.LiveSockets.{live_sockets}
use Rattle.taps_socket.specs.RaceSockets.{has}
use Rattle.taps_socket.specs.Net.{Net}
use Rattle.taps_loop.proofs.Closings.{live_closed}
use Rattle.taps_loop.proofs.both.close_both.Goals as goal

pub close-requires-2-clause-live : goal.close-requires-2-clause-live
close-requires-2-clause-live g c =
    subst (λ t. has (live_sockets t) c.args.to ≡ true) (sym (ap (λ (v : Net). v.trace) c.close.ensures.net)) (live_closed c.args.from c.args.to (g.N.Sockets.net c.args.net.now).trace c.requires.apart c.requires.second)

pub returns-clause-becomes : goal.returns-clause-becomes
returns-clause-becomes g c =
    g.met.N.Sockets.becomes_on c.args.net.now c.close.new.self c.close-2.new.self (closes c.args.from ∷ []) (closes c.args.to ∷ []) c.close.ensures.becomes c.close-2.ensures.becomes
