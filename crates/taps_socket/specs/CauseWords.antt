-- The words of causes, as scripts and logs write them.
use Rattle.std.specs.Prelude.{ℕ, List, codes}
use Rattle.taps_socket.specs.declared.cause.Cause.{Cause}
use Rattle.taps_socket.specs.declared.cause.Cause.TheVariants as cause

-- the word of a cause
abbrev pub cause_word : Cause → List ℕ
cause_word cause.Refused = codes "refused"
cause_word cause.Unreachable = codes "unreachable"
cause_word cause.Reset = codes "reset"
cause_word cause.Memory = codes "memory"
cause_word cause.Other = codes "other"
