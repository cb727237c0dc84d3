-- Items of one socket leave the other as it was.
use Rattle.std.proofs.Common.{◌≡◌, ◌≢◌, ℕ, Bool, true, not, ◌||◌, ◌&&◌, List, [], ◌∷◌, ◌++◌, refl, sym, ap, subst, ◌∙◌, ◌⊎◌, inl, inr, arith, append_assoc, length-append}
use Rattle.std.specs.Option.{option_map_or}
use Rattle.taps_stack.specs.declared.target.Target.{Target}
use Rattle.taps_stack.specs.StackTable.{is_stream}
use Rattle.taps_socket.specs.declared.item.Item.{Item}
use Rattle.taps_socket.specs.declared.item.Item.TheVariants as item
use Rattle.taps_socket.specs.Net.{Net}
use Rattle.taps_socket.specs.RaceSockets.{has, completed}
use Rattle.taps_socket.specs.LiveSockets.{live_sockets}
use Rattle.taps_socket.specs.Sides.{accepted, shut, ended, failed, target_of, is_connected}
use Rattle.taps_connection.specs.Conditions.{IsHeld}
use Rattle.taps_exchange.specs.Changes.{Changes}
use Rattle.taps_exchange.specs.Outcomes.{IsExchangeItem, AreExchangeItems}
use Rattle.taps_exchange.proofs.Behind.{live_own}
use Rattle.std.specs.Prelude.{Result, Ok, Err}
use Rattle.taps_base.specs.declared.no_memory.NoMemory.{NoMemory}
use Rattle.taps_loop.specs.declared.rounds.Round.{Round}
use Rattle.taps_loop.specs.declared.rounds.Round.TheVariants as round
use Rattle.taps_loop.specs.Rounds.{IfAgain, AreLoopItems, Moves}
use Rattle.taps_loop.proofs.Own.{other_number}

-- what a trace tells of a socket
pub record IsAsBefore (s : ℕ) (t u : List Item) : Type 0 where
  pub live : live_sockets u ≡ live_sockets t
  pub done : completed u ≡ completed t
  pub given : accepted u ≡ accepted t
  pub broken : has (failed u) s ≡ has (failed t) s
  pub closed_side : has (shut u) s ≡ has (shut t) s
  pub ended_side : has (ended u) s ≡ has (ended t) s
  pub target : target_of u s ≡ target_of t s

as_none : (s : ℕ) (t : List Item) → IsAsBefore s t t
as_none s t = record { live = refl; done = refl; given = refl; broken = refl; closed_side = refl; ended_side = refl; target = refl }

not_here : (s o : ℕ) (rest : List ℕ) → s ≢ o → has (o ∷ rest) s ≡ has rest s
not_here s o rest n = ap (λ b. b || has rest s) (other_number o s n)

as_one : (s o : ℕ) (i : Item) (t u : List Item) → s ≢ o → IsExchangeItem o i → IsAsBefore s t u → IsAsBefore s t (i ∷ u)
as_one s o (item.Shut socket) t u n e h =
    record { live = h.live; done = h.done; given = h.given; broken = h.broken; closed_side = not_here s socket (shut u) (subst (λ v. s ≢ v) (sym e) n) ∙ h.closed_side; ended_side = h.ended_side; target = h.target }
as_one s o (item.Ended socket) t u n e h =
    record { live = h.live; done = h.done; given = h.given; broken = h.broken; closed_side = h.closed_side; ended_side = not_here s socket (ended u) (subst (λ v. s ≢ v) (sym e) n) ∙ h.ended_side; target = h.target }
as_one s o (item.DataFailed socket sending cause) t u n e h =
    record { live = h.live; done = h.done; given = h.given; broken = not_here s socket (failed u) (subst (λ v. s ≢ v) (sym e) n) ∙ h.broken; closed_side = h.closed_side; ended_side = h.ended_side; target = h.target }
as_one s o (item.Began at) t u n e h = absurd e
as_one s o (item.Started leaf target socket at) t u n e h = absurd e
as_one s o (item.Refused leaf target cause at) t u n e h = absurd e
as_one s o (item.Waited until at how) t u n e h = absurd e
as_one s o (item.Closed socket) t u n e h = absurd e
as_one s o (item.Listening target socket at) t u n e h = absurd e
as_one s o (item.NotListening target cause at) t u n e h = absurd e
as_one s o (item.Accepted listener socket at) t u n e h = absurd e
as_one s o (item.Faulted at) t u n e h = absurd e

as_all : (s o : ℕ) (items t : List Item) → s ≢ o → AreExchangeItems o items → IsAsBefore s t (items ++ t)
as_all s o [] t n own = as_none s t
as_all s o (i ∷ items) t n own = as_one s o i t (items ++ t) n own.0 (as_all s o items t n own.1)

connected_by : (s : ℕ) (t u : List Item) → IsAsBefore s t u → is_connected u s ≡ is_connected t s
connected_by s t u h =
    ap (λ l. (has l s && (has (completed u) s || has (accepted u) s)) && not (has (failed u) s)) h.live
    ∙ (ap (λ l. (has (live_sockets t) s && (has l s || has (accepted u) s)) && not (has (failed u) s)) h.done
    ∙ (ap (λ l. (has (live_sockets t) s && (has (completed t) s || has l s)) && not (has (failed u) s)) h.given
    ∙ ap (λ b. (has (live_sockets t) s && (has (completed t) s || has (accepted t) s)) && not b) h.broken))

pub held_apart : (s o most : ℕ) (a b : Net) (stream is_shut has_ended : Bool) → s ≢ o → Changes o most a b → IsHeld a.trace s stream is_shut has_ended → IsHeld b.trace s stream is_shut has_ended
held_apart s o most a b stream is_shut has_ended n c h =
    let k = as_all s o c.items a.trace n c.own in
    subst (λ v. IsHeld v s stream is_shut has_ended) (sym c.trace)
    (record {
      connected = connected_by s a.trace (c.items ++ a.trace) k ∙ h.connected;
      carries = ap (λ t. option_map_or (λ (target : Target). is_stream target.stack) t true) k.target ∙ h.carries;
      shut_by = k.closed_side ∙ h.shut_by;
      ended_by = k.ended_side ∙ h.ended_by;
    })

-- moves of both sockets
from_items : (a b : ℕ) (items : List Item) → AreExchangeItems a items → AreLoopItems a b items
from_items a b [] h = tt
from_items a b (i ∷ items) h = (inl h.0, from_items a b items h.1)

to_items : (a b : ℕ) (items : List Item) → AreExchangeItems b items → AreLoopItems a b items
to_items a b [] h = tt
to_items a b (i ∷ items) h = (inr h.0, to_items a b items h.1)

both_items : (a b : ℕ) (items others : List Item) → AreLoopItems a b items → AreLoopItems a b others → AreLoopItems a b (items ++ others)
both_items a b [] others h k = k
both_items a b (i ∷ items) others h k = (h.0, both_items a b items others h.1 k)

pub moves_from : (a b most : ℕ) (m n : Net) → Changes a most m n → Moves a b m n
moves_from a b most m n c = record { items = c.items; trace = c.trace; own = from_items a b c.items c.own; spare = c.spare; faults = c.faults; others = λ s p q. c.others s p }

pub moves_to : (a b most : ℕ) (m n : Net) → Changes b most m n → Moves a b m n
moves_to a b most m n c = record { items = c.items; trace = c.trace; own = to_items a b c.items c.own; spare = c.spare; faults = c.faults; others = λ s p q. c.others s q }

pub moves_on : (a b : ℕ) (m n o : Net) → Moves a b m n → Moves a b n o → Moves a b m o
moves_on a b m n o p q =
    let size = length-append q.items p.items in
    record {
      items = q.items ++ p.items;
      trace = q.trace ∙ (ap (λ v. q.items ++ v) p.trace ∙ sym (append_assoc q.items p.items m.trace));
      own = both_items a b q.items p.items q.own p.own;
      spare = (let x = p.spare in let y = q.spare in omega (arith, size, x, y));
      faults = q.faults ∙ p.faults;
      others = λ s k l. q.others s k l ∙ p.others s k l;
    }

-- what is live stays so
live_one : (a b : ℕ) (i : Item) (t : List Item) → IsExchangeItem a i ⊎ IsExchangeItem b i → live_sockets (i ∷ t) ≡ live_sockets t
live_one a b i t (inl h) = live_own a (i ∷ []) t (h, tt)
live_one a b i t (inr h) = live_own b (i ∷ []) t (h, tt)

pub live_all : (a b : ℕ) (items t : List Item) → AreLoopItems a b items → live_sockets (items ++ t) ≡ live_sockets t
live_all a b [] t h = refl
live_all a b (i ∷ items) t h = live_one a b i (items ++ t) h.0 ∙ live_all a b items t h.1

pub live_moves : (a b : ℕ) (m n : Net) → Moves a b m n → live_sockets n.trace ≡ live_sockets m.trace
live_moves a b m n c = ap live_sockets c.trace ∙ live_all a b c.items m.trace c.own

pub if_again : (r : Result Round NoMemory) (P : Bool → Type 0) → ((b : Bool) → P b) → IfAgain r P
if_again (Ok (round.Again b)) P h = h b
if_again (Ok (round.Over o)) P h = tt
if_again (Err none) P h = tt
