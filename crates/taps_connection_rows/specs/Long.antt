-- Sockets on which what is read is not observable.
use Rattle.std.specs.Prelude.{List, None}
use Rattle.taps_socket.specs.Calls.{Call}
use Rattle.taps_socket.specs.Net.{Net, Traffic}
use Rattle.taps_socket.specs.Shows.{Shows}

abbrev pub unread_traffic : Traffic → Traffic
unread_traffic t = record t { read = None }

abbrev pub hidden : Net → Net
hidden net = record net { traffic = λ s. unread_traffic (net.traffic s) }

-- these calls led from the one to the other, as is observable
abbrev pub HiddenBecomes : {N : Type 0} → (N → Net) → N → List Call → N → Type 0
HiddenBecomes net a calls b = Shows (hidden (net a)) calls (hidden (net b))
