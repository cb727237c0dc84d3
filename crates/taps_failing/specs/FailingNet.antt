-- What contracts see of failing sockets (local). A trace stands with its newest item first.
use Rattle.std.specs.Prelude.{◌≡◌, ◌<◌, ◌≤◌, ◌^◌, ℕ, ◌+◌, ◌-◌, List, [], ◌∷◌}
use Rattle.taps_socket.specs.declared.item.Item.{Item}
use Rattle.taps_socket.specs.Calls.{Call}
use Rattle.taps_socket.specs.Net.{Net}
use Rattle.taps_socket.specs.Shows.{Shows}
use Rattle.taps_failing.specs.declared.failure.Failure.{Failure}
use Rattle.taps_failing.specs.declared.failure.Failure.TheVariants.{Ahead, Past, Faulted}
use Rattle.taps_failing.specs.FailingCalls.{failure_after, passed_on, AreFailed}
use Rattle.taps_failing.specs.SameSockets.{TellsSameSockets}

-- what failing sockets keep of their own: the items so far, the last reported time, how many items can be added without
-- memory, and where the failing call stands
pub record Own : Type 0 where
  pub trace : List Item
  pub told : ℕ
  pub spare : ℕ
  pub failure : Failure

-- the sockets to which they pass each call on but the failing one, and what they keep of their own
pub record FailingState (N : Type 0) : Type 0 where
  pub net : N
  pub own : Own

-- before the first call, of which the one of this number fails
abbrev pub own_at_first : ℕ → Own
own_at_first fail = record { trace = []; told = 0; spare = 0; failure = Ahead fail }

-- with the failing call standing so; and after it, with its item
abbrev pub with_failure : {N : Type 0} → FailingState N → Failure → FailingState N
with_failure state failure = record state { own = record state.own { failure = failure } }

abbrev pub with_failed : {N : Type 0} → FailingState N → Item → Failure → FailingState N
with_failed state item failure =
    record state {
      own = record state.own {
        trace = item ∷ state.own.trace;
        spare = state.own.spare - 1;
        failure = failure;
      };
    }

-- how many faults of their own there are
abbrev pub own_faults : Failure → ℕ
own_faults (Ahead calls) = 0
own_faults Past = 0
own_faults Faulted = 1

-- what is seen of them as of all sockets: the items, the time and spare are their own, and their fault counts besides
-- those of the others. The traffic and the timed calls are those of the others
abbrev pub failing_net : Net → Own → Net
failing_net others own =
    record others {
      trace = own.trace;
      told = own.told;
      spare = own.spare;
      faults = others.faults + own_faults own.failure;
    }

-- what they keep agrees with the others: both traces tell the same of each socket, no later time was reported, and the
-- others have room for as many items
pub record Agrees (own : Own) (others : Net) : Type 0 where
  pub sockets : TellsSameSockets own.trace others.trace
  pub told : own.told ≤ others.told
  pub fits : own.told < 2 ^ 63
  pub spare : own.spare ≤ others.spare

-- the others went through the calls that were passed on; the failing call, if it is among the calls, was answered as
-- one that fails; the calls lead the failing one nearer; and the record shows all of them
pub record BecomesFailing {N : Type 0} (net : N → Net) (Becomes : N → List Call → N → Type 0)
    (before : FailingState N) (calls : List Call) (after : FailingState N) : Type 0 where
  pub becomes : Becomes before.net (passed_on calls before.own.failure) after.net
  pub failure : after.own.failure ≡ failure_after calls before.own.failure
  pub failed : AreFailed calls before.own.failure before.own.told
  pub shows : Shows (failing_net (net before.net) before.own) calls (failing_net (net after.net) after.own)
