-- A failure on the first of two traces alone keeps that they tell the same of each socket, and what follows from that.
use Rattle.std.proofs.Common.{◌≡◌, ℕ, Bool, true, false, ◌||◌, List, [], ◌∷◌, ◌++◌, reverse, refl, sym, ap, ◌∙◌, subst}
use Rattle.std.specs.Prelude.{◌==◌, not}
use Rattle.std.specs.Option.{option_map_or}
use Rattle.taps_stack.specs.StackTable.{is_stream}
use Rattle.std.proofs.lemmas.Bool.{eqb-true}
use Rattle.std.proofs.lemmas.List.{reverse-append}
use Rattle.taps_socket.specs.declared.item.How.TheVariants as how
use Rattle.taps_socket.specs.declared.item.Item.{Item}
use Rattle.taps_socket.specs.declared.item.Item.TheVariants as item
use Rattle.taps_socket.specs.RaceSockets.{has, closed, pending_sockets}
use Rattle.taps_socket.specs.LiveSockets.{given, named, live_sockets}
use Rattle.taps_socket.specs.Sides.{carries_stream}
use Rattle.taps_socket.proofs.Lists.{or_right, kept}
use Rattle.taps_socket.proofs.NamedSockets.{given_named}
use Rattle.taps_failing.specs.SameSockets.{TellsSameSockets, IsFailure}

live_same : (own others : List Item) → TellsSameSockets own others → live_sockets own ≡ live_sockets others
live_same own others h = rw (h.given, h.closed) refl

or_named : (q a b : Bool) → (q ≡ true → b ≡ true) → (a ≡ true → b ≡ true) → (q || a) ≡ true → b ≡ true
or_named true a b here more h = here refl
or_named false a b here more h = more h

failure_named : (own others : List Item) (x s : ℕ) → TellsSameSockets own others → has (live_sockets own) x ≡ true
    → (x == s) ≡ true → has (named others) s ≡ true
failure_named own others x s h live here =
    let there = kept (λ v. not (has (closed others) v)) (given others) x (subst (λ v. has v x ≡ true) (live_same own others h) live) in
    given_named others s (subst (λ v. has (given others) v ≡ true) (eqb-true x s here) there.1)

-- a failure on the first one alone
pub failure_on : (i : Item) (own others : List Item) → IsFailure i own → TellsSameSockets own others
    → TellsSameSockets (i ∷ own) others
failure_on (item.Refused leaf target cause at) own others f h =
    record {
      given = h.given;
      started = h.started;
      completed = h.completed;
      broke = h.broke;
      closed = h.closed;
      listeners = h.listeners;
      accepted = h.accepted;
      shut = h.shut;
      ended = h.ended;
      target = h.target;
      failed = h.failed;
      named = h.named;
    }
failure_on (item.Waited until at how.Faulted) own others f h =
    record {
      given = h.given;
      started = h.started;
      completed = h.completed;
      broke = h.broke;
      closed = h.closed;
      listeners = h.listeners;
      accepted = h.accepted;
      shut = h.shut;
      ended = h.ended;
      target = h.target;
      failed = h.failed;
      named = h.named;
    }
failure_on (item.NotListening target cause at) own others f h =
    record {
      given = h.given;
      started = h.started;
      completed = h.completed;
      broke = h.broke;
      closed = h.closed;
      listeners = h.listeners;
      accepted = h.accepted;
      shut = h.shut;
      ended = h.ended;
      target = h.target;
      failed = h.failed;
      named = h.named;
    }
failure_on (item.Faulted at) own others f h =
    record {
      given = h.given;
      started = h.started;
      completed = h.completed;
      broke = h.broke;
      closed = h.closed;
      listeners = h.listeners;
      accepted = h.accepted;
      shut = h.shut;
      ended = h.ended;
      target = h.target;
      failed = h.failed;
      named = h.named;
    }
failure_on (item.DataFailed x sending cause) own others f h =
    record {
      given = h.given;
      started = h.started;
      completed = h.completed;
      broke = h.broke;
      closed = h.closed;
      listeners = h.listeners;
      accepted = h.accepted;
      shut = h.shut;
      ended = h.ended;
      target = h.target;
      failed = λ s e. or_right (x == s) _ (h.failed s e);
      named = λ s e. or_named (x == s) (has (named own) s) (has (named others) s) (λ here. failure_named own others x s h f here) (h.named s) e;
    }
failure_on (item.Began at) own others f h = absurd f
failure_on (item.Started leaf target x at) own others f h = absurd f
failure_on (item.Waited until at how.Reached) own others f h = absurd f
failure_on (item.Waited until at (how.Completed x)) own others f h = absurd f
failure_on (item.Waited until at (how.Broke x cause)) own others f h = absurd f
failure_on (item.Closed x) own others f h = absurd f
failure_on (item.Listening target x at) own others f h = absurd f
failure_on (item.Accepted listener x at) own others f h = absurd f
failure_on (item.Shut x) own others f h = absurd f
failure_on (item.Ended x) own others f h = absurd f

-- a trace with an item more
pub newest : (items more : List Item) (i : Item) → more ≡ items ++ i ∷ [] → reverse more ≡ i ∷ reverse items
newest items more i e = ap reverse e ∙ reverse-append items (i ∷ [])

-- what follows from the same sockets
pub streams_same : (own others : List Item) → TellsSameSockets own others → (s : ℕ)
    → carries_stream others s ≡ carries_stream own s
streams_same own others h s = ap (λ t. option_map_or (λ target. is_stream target.stack) t true) (sym (h.target s))

pub pending_same : (own others : List Item) → TellsSameSockets own others → pending_sockets own ≡ pending_sockets others
pending_same own others h = rw (h.started, h.closed, h.completed, h.broke) refl
