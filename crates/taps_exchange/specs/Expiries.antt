-- When a message of an exchange expired (RFC 9622 section 9.1.3.1).
use Rattle.std.specs.Prelude.{◌≡◌, ◌≤◌, ℕ, ◌+◌, false, List, [], ◌∷◌, Some, None}
use Rattle.taps_socket.specs.Calls.{Call}
use Rattle.taps_socket.specs.Shows.{told_by, told_after, last_sent_after}
use Rattle.taps_message.specs.declared.accepted.Accepted.{Accepted}
use Rattle.taps_message.specs.Expiry.{has_expired}
use Rattle.taps_exchange.specs.Members.{Member}
use Rattle.taps_exchange.specs.Written.{Turned, was_sent, was_expired}

-- no call told a time before one that was told earlier, as it is of all sockets that keep their contract
abbrev pub TimesRise : List Call → Type 0
TimesRise [] = Unit {0}
TimesRise (call ∷ earlier) = (told_after earlier 0 ≤ told_by call (told_after earlier 0)) × TimesRise earlier

-- a Sent is there on the socket, and by the time of the last one the lifetime of the message had passed
pub record HasPassedBySent (socket : ℕ) (calls : List Call) (m : Accepted) : Type 0 where
  pub lifetime : ℕ
  pub limited : m.message.props.msg_lifetime ≡ Some lifetime
  pub sent : ℕ
  pub last : last_sent_after calls socket None ≡ Some sent
  pub passed : TimesRise calls → m.at + lifetime ≤ sent

-- so it is of each message that expired, but had not when the messages were accepted
abbrev pub ExpireInTime : Member → List Call → List Turned → Type 0
ExpireInTime m calls [] = Unit {0}
ExpireInTime m calls (was_sent a ∷ turned) = ExpireInTime m calls turned
ExpireInTime m calls (was_expired a ∷ turned) =
    (has_expired a m.accepted ≡ false → HasPassedBySent m.socket calls a) × ExpireInTime m calls turned
