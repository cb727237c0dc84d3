-- Both sockets are closed behind the exchange.
use Rattle.std.proofs.Common.{◌≡◌, ◌≢◌, ℕ, ◌+◌, ◌≤◌, true, false, not, ◌||◌, List, [], ◌∷◌, ◌++◌, ap, ◌∙◌, arith}
use Rattle.taps_socket.specs.declared.item.Item.{Item}
use Rattle.taps_socket.specs.declared.item.Item.TheVariants as item
use Rattle.taps_socket.specs.Calls.{Call, closes}
use Rattle.taps_socket.specs.Net.{Net}
use Rattle.taps_socket.specs.RaceSockets.{has, closed}
use Rattle.taps_socket.specs.LiveSockets.{given, live_sockets}
use Rattle.taps_socket.proofs.Lists.{kept, keeps}
use Rattle.taps_socket.proofs.Unnamed.{IsAlike, unnamed_by}
use Rattle.taps_exchange.specs.declared.exchanged.Exchanged.{Exchanged}
use Rattle.taps_loop.specs.Loops.{Ends}
use Rattle.taps_loop.specs.Rounds.{Moves, IsTaken, IsTakenShort}
use Rattle.taps_loop.specs.Looped.{IsClosedBoth, IsCutBoth, ClosesTwo, ClosesBoth}
use Rattle.taps_loop.proofs.Own.{other_number}

-- a live socket is live where the trace is alike at it
pub live_alike : (t u : List Item) (s : ℕ) → IsAlike t u s → has (live_sockets t) s ≡ true → has (live_sockets u) s ≡ true
live_alike t u s alike h =
    let was = kept (λ x. not (has (closed t) x)) (given t) s h in
    keeps (λ x. not (has (closed u) x)) (given u) s (ap not alike.closed ∙ was.0) (alike.given ∙ was.1)

none_but : (s x : ℕ) → s ≢ x → has (x ∷ []) s ≡ false
none_but s x n = ap (λ b. b || false) (other_number x s n)

pub live_closed : (x s : ℕ) (t : List Item) → s ≢ x → has (live_sockets t) s ≡ true → has (live_sockets (item.Closed x ∷ t)) s ≡ true
live_closed x s t n h = live_alike t (item.Closed x ∷ t) s (unnamed_by (item.Closed x) t s (none_but s x n)) h

-- behind calls of the exchange
pub closes_behind : (a b : ℕ) (m n o : Net) → Moves a b m n → m.spare ≤ n.spare + 4 → ClosesTwo a b n o → ClosesBoth a b m o
closes_behind a b m n o p spent q =
    let x = p.spare in
    let y = q.spare in
    record {
      items = p.items;
      trace = q.trace ∙ ap (λ v. item.Closed b ∷ item.Closed a ∷ v) p.trace;
      own = p.own;
      spare = omega (arith, x, y);
      spent = omega (arith, spent, y);
      faults = q.faults ∙ p.faults;
      others = λ s k l. q.traffic s ∙ p.others s k l;
    }

module _ {N : Type 0} (Becomes : N → List Call → N → Type 0) (on : (a b c : N) (g h : List Call) → Becomes a g b → Becomes b h c → Becomes a (h ++ g) c) (x : Ends) (from to : ℕ) (a b c : N) where
  pub closed_behind : (e : Exchanged) → IsTaken Becomes x a b e.outcome e.sent e.heard.items → Becomes b (closes to ∷ closes from ∷ []) c → IsClosedBoth Becomes x from to a c e
  closed_behind e k became =
      record {
        calls = k.calls;
        becomes = on a b c k.calls (closes to ∷ closes from ∷ []) k.becomes became;
        exchange = record { in_turn = k.ended.in_turn; ends = k.ended.ends };
        sent_is = k.ended.sent_is;
        heard_is = k.ended.heard_is;
      }

  pub cut_behind : IsTakenShort Becomes x a b → Becomes b (closes to ∷ closes from ∷ []) c → IsCutBoth Becomes x from to a c
  cut_behind k became = record { calls = k.calls; becomes = on a b c k.calls (closes to ∷ closes from ∷ []) k.becomes became; in_turn = k.in_turn }
