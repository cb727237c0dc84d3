-- What accepts and served connections change, one behind the other.
use Rattle.std.proofs.Common.{◌≡◌, ◌≢◌, ◌≤◌, ◌+◌, ◌-◌, ℕ, true, List, [], ◌∷◌, ◌++◌, refl, ap, sym, subst, ◌∙◌, arith}
use Rattle.taps_socket.specs.declared.answers.AcceptAnswer.TheVariants as accept
use Rattle.taps_socket.specs.declared.item.Item.{Item}
use Rattle.taps_socket.specs.declared.item.Item.TheVariants as item
use Rattle.taps_socket.specs.LiveSockets.{live_sockets, named}
use Rattle.taps_socket.specs.Net.{Net, with_item, with_faults, after_accept}
use Rattle.taps_socket.specs.RaceSockets.{has}
use Rattle.taps_listening.specs.Accepts.{IsListening, KeepsListening}
use Rattle.taps_listening.specs.Served.{AreServingItems, KeepsServing}
use Rattle.taps_listening.proofs.Traces.{named_more, listens_behind, listens_served, listens_closed, listens_accepted}

live_served : (s : ℕ) (items t : List Item) → AreServingItems s items → live_sockets (items ++ t) ≡ live_sockets t
live_served s [] t h = refl
live_served s (item.Began at ∷ items) t h = live_served s items t h.1
live_served s (item.Shut socket ∷ items) t h = live_served s items t h.1
live_served s (item.Ended socket ∷ items) t h = live_served s items t h.1
live_served s (item.DataFailed socket sending cause ∷ items) t h = live_served s items t h.1
live_served s (i ∷ items) t h = absurd h.0

-- a live socket is live behind the calls of a connection
pub still_live : (socket most x : ℕ) (a b : Net) → KeepsServing socket most a b → has (live_sockets a.trace) x ≡ true → has (live_sockets b.trace) x ≡ true
still_live socket most x a b k h = ap (λ v. has (live_sockets v) x) k.trace ∙ (ap (λ v. has v x) (live_served socket k.items a.trace k.own) ∙ h)

pub listening_on : (l most then all : ℕ) (a b c : Net) → most + then ≤ all → KeepsListening l most a b → KeepsListening l then b c → KeepsListening l all a c
listening_on l most then all a b c few p q =
    record {
      spare = (let x = p.spare in let y = q.spare in omega (arith, x, y, few));
      grows = λ s h. q.grows s (p.grows s h);
      listening = λ h. q.listening (p.listening h);
    }

pub listening_same : (l most : ℕ) (a : Net) → KeepsListening l most a a
listening_same l most a = record { spare = omega arith; grows = λ s h. h; listening = λ h. h }

pub listening_served : (l socket most : ℕ) (a b : Net) → l ≢ socket → KeepsServing socket most a b → KeepsListening l most a b
listening_served l socket most a b ne k =
    record {
      spare = (let s = k.spare in let few = k.few in omega (arith, s, few));
      grows = λ s h. subst (λ v. has (named v) s ≡ true) (sym k.trace) (named_more k.items a.trace s h);
      listening = λ h. subst (λ v. IsListening v l) (sym k.trace) (listens_served socket l k.items a.trace ne k.own h);
    }

-- behind the close of another socket
pub listening_closed : (l socket : ℕ) (a b : Net) → l ≢ socket → b ≡ with_item a (item.Closed socket) a.told → KeepsListening l 1 a b
listening_closed l socket a b ne e =
    let trace : b.trace ≡ item.Closed socket ∷ a.trace = ap (λ (v : Net). v.trace) e in
    let spare : b.spare ≡ a.spare - 1 = ap (λ (v : Net). v.spare) e in
    record {
      spare = omega (arith, spare);
      grows = λ s h. subst (λ v. has (named v) s ≡ true) (sym trace) (named_more (item.Closed socket ∷ []) a.trace s h);
      listening = λ h. subst (λ v. IsListening v l) (sym trace) (listens_closed socket l a.trace ne h);
    }

-- a connection is served, and closed
pub listening_done : (l socket most : ℕ) (a b c : Net) → most ≤ 3 → l ≢ socket → KeepsServing socket most a b → c ≡ with_item b (item.Closed socket) b.told → KeepsListening l 4 a c
listening_done l socket most a b c few ne k e =
    listening_on l most 1 4 a b c (omega (arith, few)) (listening_served l socket most a b ne k) (listening_closed l socket b c ne e)

-- behind an accept
pub listening_accepted : (l s at until : ℕ) (a b : Net) → b ≡ with_faults (after_accept l until (accept.Accepted s at) a) b.faults → KeepsListening l 1 a b
listening_accepted l s at until a b e =
    let trace : b.trace ≡ item.Accepted l s at ∷ a.trace = ap (λ (v : Net). v.trace) e in
    let spare : b.spare ≡ a.spare - 1 = ap (λ (v : Net). v.spare) e in
    record {
      spare = omega (arith, spare);
      grows = λ x h. subst (λ v. has (named v) x ≡ true) (sym trace) (named_more (item.Accepted l s at ∷ []) a.trace x h);
      listening = λ h. subst (λ v. IsListening v l) (sym trace) (listens_accepted l s at a.trace h);
    }

pub listening_timed : (l at until : ℕ) (a b : Net) → b ≡ with_faults (after_accept l until (accept.Timed at) a) b.faults → KeepsListening l 1 a b
listening_timed l at until a b e =
    let trace : b.trace ≡ a.trace = ap (λ (v : Net). v.trace) e in
    let spare : b.spare ≡ a.spare = ap (λ (v : Net). v.spare) e in
    record {
      spare = omega (arith, spare);
      grows = λ x h. subst (λ v. has (named v) x ≡ true) (sym trace) h;
      listening = λ h. subst (λ v. IsListening v l) (sym trace) h;
    }

pub listening_faulted : (l at until : ℕ) (a b : Net) → b ≡ with_faults (after_accept l until (accept.Faulted at) a) b.faults → KeepsListening l 1 a b
listening_faulted l at until a b e =
    let trace : b.trace ≡ item.Faulted at ∷ a.trace = ap (λ (v : Net). v.trace) e in
    let spare : b.spare ≡ a.spare - 1 = ap (λ (v : Net). v.spare) e in
    record {
      spare = omega (arith, spare);
      grows = λ x h. subst (λ v. has (named v) x ≡ true) (sym trace) (named_more (item.Faulted at ∷ []) a.trace x h);
      listening = λ h. subst (λ v. IsListening v l) (sym trace) (listens_behind (item.Faulted at) a.trace l refl h);
    }
