-- What an error of the system means: by its kind, and where no kind tells, by its number on Linux.
use Rattle.std.specs.Prelude.{ℤ, pos, Bool, true, false, if◌then◌else◌, ◌||◌, List, [], ◌∷◌, Option, None, Some}
use Rattle.std.specs.List.{list_any}
use Rattle.std.specs.Ordering.{int_eq}
use Rattle.std.specs.Option.{unwrap_or, option_map_or}
use Rattle.std.specs.declared.io.ErrorKind.{ErrorKind}
use Rattle.std.specs.declared.io.ErrorKind.TheVariants as kind
use Rattle.taps_socket.specs.declared.cause.Cause.{Cause}
use Rattle.taps_socket.specs.declared.cause.Cause.TheVariants as cause

-- the cause that a kind tells
abbrev pub cause_by_kind : ErrorKind → Option Cause
cause_by_kind kind.ConnectionRefused = Some cause.Refused
cause_by_kind kind.HostUnreachable = Some cause.Unreachable
cause_by_kind kind.NetworkUnreachable = Some cause.Unreachable
cause_by_kind kind.NetworkDown = Some cause.Unreachable
cause_by_kind kind.TimedOut = Some cause.Unreachable
cause_by_kind kind.ConnectionReset = Some cause.Reset
cause_by_kind kind.ConnectionAborted = Some cause.Reset
cause_by_kind kind.BrokenPipe = Some cause.Reset
cause_by_kind kind.NotConnected = Some cause.Reset
cause_by_kind kind.OutOfMemory = Some cause.Memory
cause_by_kind _ = None

-- too many open files in the system, too many in the process, and no buffer space
abbrev pub out_of_means : List ℤ
out_of_means = pos 23 ∷ pos 24 ∷ pos 105 ∷ []

-- a protocol error, no network, no such protocol option and a host that is down: accept passes these on from the one
-- connection
abbrev pub passed_on : List ℤ
passed_on = pos 71 ∷ pos 64 ∷ pos 92 ∷ pos 112 ∷ []

-- the cause that a number tells, and whether an accept that failed with it is to be tried again
abbrev pub cause_by_number : Option ℤ → Cause
cause_by_number number =
    if option_map_or (λ n. list_any (λ m. int_eq m n) out_of_means) number false then cause.Memory
    else cause.Other

abbrev pub is_passed_on : Option ℤ → Bool
is_passed_on number = option_map_or (λ n. list_any (λ m. int_eq m n) passed_on) number false

-- the cause of a failed call
abbrev pub cause_of : ErrorKind → Option ℤ → Cause
cause_of kind number = unwrap_or (cause_by_kind kind) (cause_by_number number)

-- and of a failed start: where there is no file at the path of a Unix socket, nobody listens there
abbrev pub cause_of_start : ErrorKind → Option ℤ → Cause
cause_of_start kind.NotFound number = cause.Refused
cause_of_start kind number = cause_of kind number

-- a send or a receive that failed so is to be tried again
abbrev pub is_to_try_again : ErrorKind → Bool
is_to_try_again kind.WouldBlock = true
is_to_try_again kind.Interrupted = true
is_to_try_again _ = false

-- and an accept: the one connection failed, not the listener
abbrev pub fails_once : ErrorKind → Bool
fails_once kind.WouldBlock = true
fails_once kind.Interrupted = true
fails_once kind.ConnectionAborted = true
fails_once kind.NetworkDown = true
fails_once kind.NetworkUnreachable = true
fails_once kind.HostUnreachable = true
fails_once kind.Unsupported = true
fails_once _ = false

abbrev pub is_to_accept_again : ErrorKind → Option ℤ → Bool
is_to_accept_again kind number = fails_once kind || is_passed_on number
