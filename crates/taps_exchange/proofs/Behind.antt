-- Calls behind other calls: of runs, stops, pieces and items.
use Rattle.std.proofs.Common.{◌≡◌, ℕ, ◌+◌, ◌≤◌, Bool, true, false, not, ◌&&◌, ◌||◌, List, [], ◌∷◌, ◌++◌, length, Option, None, refl, sym, ap, ◌∙◌, subst, arith, append_assoc, length-append}
use Rattle.taps_socket.specs.declared.item.Item.{Item}
use Rattle.taps_socket.specs.declared.item.Item.TheVariants as item
use Rattle.taps_socket.specs.declared.timed_call.TimedCall.{TimedCall}
use Rattle.taps_socket.specs.declared.answers.SendAnswer.TheVariants as send
use Rattle.taps_socket.specs.declared.answers.RecvAnswer.TheVariants as recv
use Rattle.taps_socket.specs.Calls.{Call, sends, receives, shuts, closes, begins, starts, waits, listens, accepts, items_by, items_of}
use Rattle.taps_socket.specs.Net.{Net}
use Rattle.taps_socket.specs.LiveSockets.{live_sockets}
use Rattle.taps_socket.specs.RaceSockets.{has, completed}
use Rattle.taps_socket.specs.Sides.{is_connected, accepted, failed}
use Rattle.taps_connection.specs.declared.pulled.Pulled.{Pulled}
use Rattle.taps_connection.specs.declared.pulled.Pulled.TheVariants as pulled
use Rattle.taps_connection.specs.declared.sender.Pushed.{Pushed}
use Rattle.taps_connection.specs.declared.sender.Pushed.TheVariants as pushed
use Rattle.taps_connection.specs.Inboxes.{pulled_items}
use Rattle.taps_connection.specs.Senders.{pushed_items}
use Rattle.taps_connection.specs.Adds.{Adds}
use Rattle.taps_connection.specs.Encodings.{Encoding}
use Rattle.taps_connection.specs.Outboxes.{Outbox, after_call, after_calls, asks_out}
use Rattle.taps_connection.specs.Runs.{AllAsked, IsRun, is_stopped, AllGo}
use Rattle.taps_exchange.specs.Changes.{Changes}
use Rattle.taps_exchange.specs.Outcomes.{AreExchangeItems}
use Rattle.taps_exchange.specs.Members.{piece_by, pieces_read, has_ended}
use Rattle.taps_exchange.specs.Sendings.{OthersGo}
use Rattle.taps_exchange.specs.Turns.{stop, stop_by}

pub after_behind : (e : Encoding) (box : Outbox) (more calls : List Call) → after_calls e box (more ++ calls) ≡ after_calls e (after_calls e box calls) more
after_behind e box [] calls = refl
after_behind e box (c ∷ more) calls = ap (λ v. after_call e v c) (after_behind e box more calls)

pub asked_behind : (e : Encoding) (socket until : ℕ) (box : Outbox) (more calls : List Call) → AllAsked e socket until box calls → AllAsked e socket until (after_calls e box calls) more → AllAsked e socket until box (more ++ calls)
asked_behind e socket until box [] calls a b = a
asked_behind e socket until box (c ∷ more) calls a b =
    (ap (λ v. asks_out socket until v.stand) (after_behind e box more calls) ∙ b.0, asked_behind e socket until box more calls a b.1)

pub run_behind : (e : Encoding) (socket until : ℕ) (a b c : Outbox) (calls more : List Call) → IsRun e socket until a calls b → IsRun e socket until b more c → IsRun e socket until a (more ++ calls) c
run_behind e socket until a b c calls more p q =
    record {
      asked = asked_behind e socket until a more calls p.asked (subst (λ v. AllAsked e socket until v more) (sym p.reaches) q.asked);
      reaches = after_behind e a more calls ∙ (ap (λ v. after_calls e v more) p.reaches ∙ q.reaches);
    }

pub go_behind : (more calls : List Call) → AllGo more → AllGo calls → AllGo (more ++ calls)
go_behind [] calls g h = h
go_behind (c ∷ more) calls g h = (g.0, go_behind more calls g.1 h)

pub others_of : (calls : List Call) → AllGo calls → OthersGo calls
others_of [] g = tt
others_of (c ∷ calls) g = g.1

pub others_behind : (more calls : List Call) → OthersGo more → AllGo calls → OthersGo (more ++ calls)
others_behind [] calls g h = others_of calls h
others_behind (c ∷ more) calls g h = go_behind more calls g h

go_by : (c : Call) → is_stopped c ≡ false → stop_by c ≡ None
go_by (sends s b u (send.Sent count at)) g = refl
go_by (sends s b u (send.Timed at)) g = cc
go_by (sends s b u (send.Failed cause)) g = cc
go_by (receives s most u came (recv.Got count at)) g = refl
go_by (receives s most u came recv.End) g = refl
go_by (receives s most u came (recv.Timed at)) g = cc
go_by (receives s most u came (recv.Failed cause)) g = cc
go_by (shuts s) g = refl
go_by (closes s) g = refl
go_by (begins at) g = refl
go_by (starts l g a) h = refl
go_by (waits u a) g = refl
go_by (listens g a) h = refl
go_by (accepts l u a) g = refl

goes_by : (c : Call) → stop_by c ≡ None → is_stopped c ≡ false
goes_by (sends s b u (send.Sent count at)) g = refl
goes_by (sends s b u (send.Timed at)) g = cc
goes_by (sends s b u (send.Failed cause)) g = cc
goes_by (receives s most u came (recv.Got count at)) g = refl
goes_by (receives s most u came recv.End) g = refl
goes_by (receives s most u came (recv.Timed at)) g = cc
goes_by (receives s most u came (recv.Failed cause)) g = cc
goes_by (shuts s) g = refl
goes_by (closes s) g = refl
goes_by (begins at) g = refl
goes_by (starts l g a) h = refl
goes_by (waits u a) g = refl
goes_by (listens g a) h = refl
goes_by (accepts l u a) g = refl

-- none was timed or failed, where the newest was not
pub goes : (calls : List Call) → OthersGo calls → stop calls ≡ None → AllGo calls
goes [] g e = tt
goes (c ∷ calls) g e = (goes_by c e, g)

pub no_stop : (calls : List Call) → AllGo calls → stop calls ≡ None
no_stop [] g = refl
no_stop (c ∷ calls) g = go_by c g.0

pub stop_behind : (more calls : List Call) → AllGo calls → stop (more ++ calls) ≡ stop more
stop_behind [] calls g = no_stop calls g
stop_behind (c ∷ more) calls g = refl

pub items_behind : (more calls : List Call) → items_of (more ++ calls) ≡ items_of more ++ items_of calls
items_behind [] calls = refl
items_behind (c ∷ more) calls = ap (λ v. items_by c ++ v) (items_behind more calls) ∙ sym (append_assoc (items_by c) (items_of more) (items_of calls))

-- the pieces read, and whether the other end ended its side

pub read_behind : (more calls : List Call) → pieces_read (more ++ calls) ≡ pieces_read calls ++ pieces_read more
read_behind [] calls = sym (append_nil (pieces_read calls))
  where
    append_nil : (xs : List (List ℕ)) → xs ++ [] ≡ xs
    append_nil [] = refl
    append_nil (x ∷ xs) = ap (λ v. x ∷ v) (append_nil xs)
read_behind (receives s most u came answer ∷ more) calls =
    ap (λ v. v ++ piece_by came answer) (read_behind more calls) ∙ append_assoc (pieces_read calls) (pieces_read more) (piece_by came answer)
read_behind (sends s b u a ∷ more) calls = read_behind more calls
read_behind (shuts s ∷ more) calls = read_behind more calls
read_behind (closes s ∷ more) calls = read_behind more calls
read_behind (begins at ∷ more) calls = read_behind more calls
read_behind (starts l g a ∷ more) calls = read_behind more calls
read_behind (waits u a ∷ more) calls = read_behind more calls
read_behind (listens g a ∷ more) calls = read_behind more calls
read_behind (accepts l u a ∷ more) calls = read_behind more calls

pub ended_behind : (more calls : List Call) → has_ended (more ++ calls) ≡ (has_ended more || has_ended calls)
ended_behind [] calls = refl
ended_behind (receives s most u came (recv.Got count at) ∷ more) calls = ended_behind more calls
ended_behind (receives s most u came recv.End ∷ more) calls = refl
ended_behind (receives s most u came (recv.Timed at) ∷ more) calls = ended_behind more calls
ended_behind (receives s most u came (recv.Failed cause) ∷ more) calls = ended_behind more calls
ended_behind (sends s b u a ∷ more) calls = ended_behind more calls
ended_behind (shuts s ∷ more) calls = ended_behind more calls
ended_behind (closes s ∷ more) calls = ended_behind more calls
ended_behind (begins at ∷ more) calls = ended_behind more calls
ended_behind (starts l g a ∷ more) calls = ended_behind more calls
ended_behind (waits u a ∷ more) calls = ended_behind more calls
ended_behind (listens g a ∷ more) calls = ended_behind more calls
ended_behind (accepts l u a ∷ more) calls = ended_behind more calls

-- items of a socket's data
pub own_behind : (s : ℕ) (a b : List Item) → AreExchangeItems s a → AreExchangeItems s b → AreExchangeItems s (a ++ b)
own_behind s [] b h g = g
own_behind s (i ∷ a) b h g = (h.0, own_behind s a b h.1 g)

pub pushed_own : (socket : ℕ) (is_shut : Bool) (p : Pushed) → AreExchangeItems socket (pushed_items socket is_shut p)
pushed_own socket true (pushed.Sent number) = (refl, tt)
pushed_own socket false (pushed.Sent number) = tt
pushed_own socket is_shut pushed.Empty = tt
pushed_own socket is_shut (pushed.Expired number) = tt
pushed_own socket is_shut (pushed.Timed at) = tt
pushed_own socket is_shut (pushed.Failed cause) = (refl, tt)
pushed_own socket is_shut (pushed.NotSpeakable number layer) = tt
pushed_own socket is_shut pushed.NoMemory = tt

pub pulled_own : (socket : ℕ) (p : Pulled) → AreExchangeItems socket (pulled_items socket p)
pulled_own socket pulled.Got = tt
pulled_own socket pulled.Ended = (refl, tt)
pulled_own socket (pulled.Timed at) = tt
pulled_own socket (pulled.Failed cause) = (refl, tt)
pulled_own socket pulled.NoMemory = tt

pub live_own : (s : ℕ) (items t : List Item) → AreExchangeItems s items → live_sockets (items ++ t) ≡ live_sockets t
live_own s [] t h = refl
live_own s (item.Shut socket ∷ items) t h = live_own s items t h.1
live_own s (item.Ended socket ∷ items) t h = live_own s items t h.1
live_own s (item.DataFailed socket sending cause ∷ items) t h = live_own s items t h.1
live_own s (i ∷ items) t h = absurd h.0

-- what sockets show changes by calls after others
pub unchanged : (socket most : ℕ) (a : Net) → Changes socket most a a
unchanged socket most a = record { items = []; trace = refl; few = omega arith; own = tt; spare = omega arith; faults = refl; others = λ s other. refl }

pub changes_more : (socket most then all : ℕ) (a b c : Net) → most + then ≤ all → Changes socket most a b → Changes socket then b c → Changes socket all a c
changes_more socket most then all a b c few p q =
    let size = length-append q.items p.items in
    record {
      items = q.items ++ p.items;
      trace = q.trace ∙ (ap (λ v. q.items ++ v) p.trace ∙ sym (append_assoc q.items p.items a.trace));
      few = (let x = p.few in let y = q.few in omega (arith, size));
      own = own_behind socket q.items p.items q.own p.own;
      spare = (let x = p.spare in let y = q.spare in omega (arith, size));
      faults = q.faults ∙ p.faults;
      others = λ s other. q.others s other ∙ p.others s other;
    }

pub changes_by : (socket most : ℕ) (items : List Item) (call : Option TimedCall) (a b : Net) → length items ≤ most → AreExchangeItems socket items → Adds socket items call a b → Changes socket most a b
changes_by socket most items call a b few own h = record { items = items; trace = h.trace; few = few; own = own; spare = h.spare; faults = h.faults; others = h.others }

-- a socket is still live
both_left : (a b : Bool) → (a && b) ≡ true → a ≡ true
both_left true b h = refl
both_left false b h = h

pub live_of : (t : List Item) (s : ℕ) → is_connected t s ≡ true → has (live_sockets t) s ≡ true
live_of t s h =
    both_left (has (live_sockets t) s) (has (completed t) s || has (accepted t) s)
    (both_left (has (live_sockets t) s && (has (completed t) s || has (accepted t) s)) (not (has (failed t) s)) h)

pub still_live : (socket most : ℕ) (a b : Net) → is_connected a.trace socket ≡ true → Changes socket most a b → has (live_sockets b.trace) socket ≡ true
still_live socket most a b c h =
    ap (λ v. has (live_sockets v) socket) h.trace ∙ (ap (λ v. has v socket) (live_own socket h.items a.trace h.own) ∙ live_of a.trace socket c)

-- none of the items before
pub changes_last : (socket : ℕ) (a b c : Net) → b.spare ≡ a.spare → Changes socket 1 a b → Changes socket 1 b c → Changes socket 1 a c
changes_last socket a b c same p q =
    let size = length-append q.items p.items in
    record {
      items = q.items ++ p.items;
      trace = q.trace ∙ (ap (λ v. q.items ++ v) p.trace ∙ sym (append_assoc q.items p.items a.trace));
      few = (let x = p.spare in let y = q.few in omega (arith, size, same, x, y));
      own = own_behind socket q.items p.items q.own p.own;
      spare = (let x = p.spare in let y = q.spare in omega (arith, size, x, y));
      faults = q.faults ∙ p.faults;
      others = λ s other. q.others s other ∙ p.others s other;
    }

-- as many as spare has left
pub changes_within : (socket most then all : ℕ) (a b c : Net) → a.spare + then ≤ b.spare + all → Changes socket most a b → Changes socket then b c → Changes socket all a c
changes_within socket most then all a b c room p q =
    let size = length-append q.items p.items in
    record {
      items = q.items ++ p.items;
      trace = q.trace ∙ (ap (λ v. q.items ++ v) p.trace ∙ sym (append_assoc q.items p.items a.trace));
      few = (let x = p.spare in let y = q.few in omega (arith, size, room, x, y));
      own = own_behind socket q.items p.items q.own p.own;
      spare = (let x = p.spare in let y = q.spare in omega (arith, size, x, y));
      faults = q.faults ∙ p.faults;
      others = λ s other. q.others s other ∙ p.others s other;
    }

pub changes_wider : (socket most all : ℕ) (a b : Net) → most ≤ all → Changes socket most a b → Changes socket all a b
changes_wider socket most all a b wide p =
    record { items = p.items; trace = p.trace; few = (let x = p.few in omega (arith, x, wide)); own = p.own; spare = p.spare; faults = p.faults; others = p.others }
