-- What a turn of the sending adds to the calls before it, and how the sending ends.
use Rattle.std.proofs.Common.{◌≡◌, ℕ, ◌+◌, ◌<◌, ◌≤◌, Bool, true, false, if◌then◌else◌, List, [], ◌∷◌, ◌++◌, length, drop, Option, Some, None, refl, sym, ap, ◌∙◌, subst, arith, length-drop}
use Rattle.std.specs.Prelude.{Ok, Err}
use Rattle.taps_base.specs.declared.no_memory.NoMemory.{NoMemory}
use Rattle.taps_framer.specs.Layers.{Layer}
use Rattle.taps_message.specs.declared.accepted.Accepted.{Accepted}
use Rattle.taps_message.specs.Expiry.{has_expired}
use Rattle.taps_message.specs.Queues.{Queue}
use Rattle.taps_socket.specs.declared.cause.Cause.{Cause}
use Rattle.taps_socket.specs.declared.answers.SendAnswer.{SendAnswer}
use Rattle.taps_socket.specs.declared.answers.SendAnswer.TheVariants as send
use Rattle.taps_socket.specs.Calls.{Call, sends}
use Rattle.taps_connection.specs.declared.sender.Begun.{Begun}
use Rattle.taps_connection.specs.declared.sender.Sender.{Sender}
use Rattle.taps_connection.specs.declared.sender.Pushed.TheVariants as pushed
use Rattle.taps_connection.specs.Encodings.{Encoding, encoding_of}
use Rattle.taps_connection.specs.Outboxes.{Outbox, take_turn, with_rest, turn_by as stand_by}
use Rattle.taps_connection.specs.Runs.{IsRun, AllGo, EndsWith}
use Rattle.taps_connection.specs.Senders as senders
use Rattle.taps_connection.specs.Senders.{settled, settled_by, queued, idle, turn_of, turn_in, turn_if, begun_of, goes, expires, refuses, behind_by, tail_of, IsStopped, IsPushed, IsDriven, pushed_items, pushed_call, rest_of, UnlessFailed}
use Rattle.taps_connection.specs.Sound.{IsSound, count_begun}
use Rattle.taps_connection.proofs.Beginning.{none_behind}
use Rattle.taps_exchange.specs.declared.outcome.Outcome.{Outcome}
use Rattle.taps_exchange.specs.declared.outcome.Outcome.TheVariants as outcome
use Rattle.taps_exchange.specs.Turns.{stop}
use Rattle.taps_exchange.specs.Sendings.{OthersGo, ends_out, HasSent}
use Rattle.taps_framer.specs.declared.framer.Framer as framer
use Rattle.taps_chain.specs.Layers.{layers_of}
use Rattle.taps_stack.specs.StackTable.{is_stream}
use Rattle.taps_socket.specs.Net.{Net}
use Rattle.taps_connection.specs.declared.connection.Connection.{Connection}
use Rattle.taps_connection.specs.declared.sender.Pushed.{Pushed}
use Rattle.taps_connection.specs.Adds.{Adds}
use Rattle.taps_connection.specs.Conditions.{IsHeld}
use Rattle.taps_exchange.specs.Changes.{Changes}
use Rattle.taps_exchange.proofs.Behind.{changes_by, changes_last, changes_more, pushed_own, run_behind, go_behind, others_of, others_behind, no_stop, stop_behind}

-- while messages are sent, what is kept stands for the outbox after the calls
pub record SendsOn {N : Type 0} (Becomes : N → List Call → N → Type 0) (e : Encoding) (before after : N) (socket until : ℕ) (s t : Sender) : Type 0 where
  pub calls : List Call
  pub becomes : Becomes before calls after
  pub go : AllGo calls
  pub run : IsRun e socket until (settled e s) calls (settled e t)

pub sends_none : {N : Type 0} (Becomes : N → List Call → N → Type 0) (e : Encoding) (a : N) (socket until : ℕ) (s : Sender) → Becomes a [] a → SendsOn Becomes e a a socket until s s
sends_none Becomes e a socket until s b = record { calls = []; becomes = b; go = tt; run = record { asked = tt; reaches = refl } }

-- a message had its turn
sends_more : {N : Type 0} (Becomes : N → List Call → N → Type 0) (e : Encoding) (a b c : N) (socket until : ℕ) (s t u : Sender) (more : List Call) →
    ((a b c : N) (g h : List Call) → Becomes a g b → Becomes b h c → Becomes a (h ++ g) c) →
    SendsOn Becomes e a b socket until s t → Becomes b more c → AllGo more → IsRun e socket until (settled e t) more (settled e u) → SendsOn Becomes e a c socket until s u
sends_more Becomes e a b c socket until s t u more on k ran go run =
    record {
      calls = more ++ k.calls;
      becomes = on a b c k.calls more k.becomes ran;
      go = go_behind more k.calls go k.go;
      run = run_behind e socket until (settled e s) (settled e t) (settled e u) k.calls more k.run run;
    }

pub sent_more : {N : Type 0} (Becomes : N → List Call → N → Type 0) (e : Encoding) (a b c : N) (socket until : ℕ) (s t u : Sender) (number : ℕ) →
    ((a b c : N) (g h : List Call) → Becomes a g b → Becomes b h c → Becomes a (h ++ g) c) →
    SendsOn Becomes e a b socket until s t → IsDriven Becomes e b c socket until t (pushed.Sent number) u → SendsOn Becomes e a c socket until s u
sent_more Becomes e a b c socket until s t u number on k d = sends_more Becomes e a b c socket until s t u d.calls on k d.becomes d.pushed_by.1.all_go d.pushed_by.0

none_run : (e : Encoding) (socket until : ℕ) (a b : Outbox) → b ≡ a → IsRun e socket until a [] b
none_run e socket until a b same = record { asked = tt; reaches = sym same }

pub expired_more : {N : Type 0} (Becomes : N → List Call → N → Type 0) (e : Encoding) (a b c : N) (socket until : ℕ) (s t u : Sender) (number : ℕ) →
    ((a b c : N) (g h : List Call) → Becomes a g b → Becomes b h c → Becomes a (h ++ g) c) →
    SendsOn Becomes e a b socket until s t → IsDriven Becomes e b c socket until t (pushed.Expired number) u → SendsOn Becomes e a c socket until s u
expired_more Becomes e a b c socket until s t u number on k d =
    let nothing = d.pushed_by.3.nothing_called in
    sends_more Becomes e a b c socket until s t u [] on k (subst (λ v. Becomes b v c) nothing d.becomes) tt (none_run e socket until (settled e t) (settled e u) d.pushed_by.0)

-- nothing was called
still : {N : Type 0} (Becomes : N → List Call → N → Type 0) (a b c : N) (calls more : List Call) →
    ((a b c : N) (g h : List Call) → Becomes a g b → Becomes b h c → Becomes a (h ++ g) c) → more ≡ [] → Becomes a calls b → Becomes b more c → Becomes a calls c
still Becomes a b c calls more on nothing p q = on a b c calls [] p (subst (λ v. Becomes b v c) nothing q)

-- all messages had their turn
pub empty_ends : {N : Type 0} (Becomes : N → List Call → N → Type 0) (e : Encoding) (a b c : N) (socket until place : ℕ) (s t u : Sender) →
    ((a b c : N) (g h : List Call) → Becomes a g b → Becomes b h c → Becomes a (h ++ g) c) →
    SendsOn Becomes e a b socket until s t → IsDriven Becomes e b c socket until t pushed.Empty u → HasSent Becomes e a c socket until place s (Ok None) u
empty_ends Becomes e a b c socket until place s t u on k d =
    let p = d.pushed_by in
    let same : t.sent ≡ u.sent = ap (λ (v : Sender). v.sent) (sym p.2.kept) in
    let first : t.expired ≡ u.expired = ap (λ (v : Sender). v.expired) (sym p.2.kept) in
    record {
      calls = k.calls;
      becomes = still Becomes a b c k.calls d.calls on p.2.nothing_called k.becomes d.becomes;
      others_go = others_of k.calls k.go;
      box = settled e t;
      run = k.run;
      ended = record {
        ends = ap (λ v. ends_out place v (settled e t).stand) (no_stop k.calls k.go) ∙ ap (λ (v : Outbox). ends_out place None v.stand) p.0;
        all_had = λ i. ap (λ (v : Outbox). v.stand) p.0;
        sent = ap (λ (v : Outbox). v.sent) p.0 ∙ same;
        expired = ap (λ (v : Outbox). v.expired) p.0 ∙ first;
      };
    }

-- a rest of the begun message is left
pub record IsLeft (box : Outbox) (t : Sender) : Type 0 where
  pub sent : box.sent ≡ t.sent
  pub expired : box.expired ≡ t.expired

rest_left : (next : Outbox) (t : Sender) (moment number : ℕ) (ends : Bool) (rest : List ℕ) (behind : List Accepted) → 0 < length rest → IsLeft (with_rest next (record (idle t) { moment = moment }) number ends rest behind) t
rest_left next t moment number ends [] behind h = absurd (omega (arith, h))
rest_left next t moment number ends (x ∷ rest) behind h = record { sent = refl; expired = refl }

begun_left : (e : Encoding) (t : Sender) (b : Begun) → t.begun ≡ Some b → b.taken < length b.bytes → IsLeft (settled e t) t
begun_left e t b is left =
    subst (λ (v : Outbox). IsLeft v t) (sym (ap (settled_by e t) is))
    (rest_left (take_turn e t.moment (t.sent + 1) t.expired (queued t)) t t.moment b.number b.ends (drop b.taken b.bytes) (queued t) (let l = length-drop b.taken b.bytes in omega arith))

pub stopped_left : (e : Encoding) (socket until : ℕ) (s : Sender) (answer : SendAnswer) (calls : List Call) (t : Sender) → IsStopped e socket until s answer calls t → IsLeft (settled e t) t
stopped_left e socket until s answer calls t h = begun_left e t (record h.message { taken = h.taken }) (ap (λ (v : Sender). v.begun) h.kept) h.left

stop_newest : (calls : List Call) (call : Call) (o : Option Outcome) → EndsWith calls call → stop (call ∷ []) ≡ o → stop calls ≡ o
stop_newest calls call o h e = ap stop h.newest ∙ e

others_newest : (calls : List Call) (call : Call) → EndsWith calls call → OthersGo calls
others_newest calls call h = subst OthersGo (sym h.newest) h.others_go

stop_ends : {N : Type 0} (Becomes : N → List Call → N → Type 0) (e : Encoding) (a b c : N) (socket until place : ℕ) (s t u : Sender) (answer : SendAnswer) (o : Outcome) (more : List Call) →
    ((a b c : N) (g h : List Call) → Becomes a g b → Becomes b h c → Becomes a (h ++ g) c) →
    SendsOn Becomes e a b socket until s t → Becomes b more c → IsRun e socket until (settled e t) more (settled e u) → IsStopped e socket until t answer more u → stop (sends socket [] until answer ∷ []) ≡ Some o → ((bytes : List ℕ) → stop (sends socket bytes until answer ∷ []) ≡ stop (sends socket [] until answer ∷ [])) →
    HasSent Becomes e a c socket until place s (Ok (Some o)) u
stop_ends Becomes e a b c socket until place s t u answer o more on k ran run h is any =
    let left = stopped_left e socket until t answer more u h in
    let newest : stop (more ++ k.calls) ≡ Some o = stop_behind more k.calls k.go ∙ stop_newest more (sends socket (drop h.taken h.message.bytes) until answer) (Some o) h.newest (any (drop h.taken h.message.bytes) ∙ is) in
    record {
      calls = more ++ k.calls;
      becomes = on a b c k.calls more k.becomes ran;
      others_go = others_behind more k.calls (others_newest more _ h.newest) k.go;
      box = settled e u;
      run = run_behind e socket until (settled e s) (settled e t) (settled e u) k.calls more k.run run;
      ended = record {
        ends = ap (λ v. ends_out place v (settled e u).stand) newest;
        all_had = λ i. absurd (let none : Option Outcome = None in let z : Some o ≡ none = i in cc);
        sent = left.sent;
        expired = left.expired;
      };
    }

pub timed_ends : {N : Type 0} (Becomes : N → List Call → N → Type 0) (e : Encoding) (a b c : N) (socket until place : ℕ) (s t u : Sender) (at : ℕ) →
    ((a b c : N) (g h : List Call) → Becomes a g b → Becomes b h c → Becomes a (h ++ g) c) →
    SendsOn Becomes e a b socket until s t → IsDriven Becomes e b c socket until t (pushed.Timed at) u → HasSent Becomes e a c socket until place s (Ok (Some outcome.Timed)) u
timed_ends Becomes e a b c socket until place s t u at on k d =
    stop_ends Becomes e a b c socket until place s t u (send.Timed at) outcome.Timed d.calls on k d.becomes d.pushed_by.0 d.pushed_by.1 refl (λ bytes. refl)

pub failed_ends : {N : Type 0} (Becomes : N → List Call → N → Type 0) (e : Encoding) (a b c : N) (socket until place : ℕ) (s t u : Sender) (cause : Cause) →
    ((a b c : N) (g h : List Call) → Becomes a g b → Becomes b h c → Becomes a (h ++ g) c) →
    SendsOn Becomes e a b socket until s t → IsDriven Becomes e b c socket until t (pushed.Failed cause) u → HasSent Becomes e a c socket until place s (Ok (Some (outcome.DataFailed cause))) u
failed_ends Becomes e a b c socket until place s t u cause on k d =
    stop_ends Becomes e a b c socket until place s t u (send.Failed cause) (outcome.DataFailed cause) d.calls on k d.becomes d.pushed_by.0 d.pushed_by.1 refl (λ bytes. refl)

-- a layer refuses the message whose turn it is
refused_if : (e : Encoding) (s : Sender) (m : Accepted) (behind : List Accepted) (opened : Outbox) (r : Option ℕ) (number layer : ℕ) → turn_if r m.number (begun_of e s.sent m) ≡ refuses number layer → IsLeft (stand_by r (idle s) m.number behind opened) s
refused_if e s m behind opened (Some l) number layer h = record { sent = refl; expired = refl }
refused_if e s m behind opened None number layer h = cc

refused_by : (q : Bool) (e : Encoding) (s : Sender) (m : Accepted) (behind : List Accepted) (passed opened : Outbox) (number layer : ℕ) → (if q then expires m.number else turn_if (e.refusal s.sent m.message.body) m.number (begun_of e s.sent m)) ≡ refuses number layer →
    IsLeft (if q then passed else stand_by (e.refusal s.sent m.message.body) (idle s) m.number behind opened) s
refused_by true e s m behind passed opened number layer h = cc
refused_by false e s m behind passed opened number layer h = refused_if e s m behind opened (e.refusal s.sent m.message.body) number layer h

refused_in : (e : Encoding) (s : Sender) (messages : List Accepted) (number layer : ℕ) → turn_in e s.moment s.sent messages ≡ refuses number layer → IsLeft (take_turn e s.moment s.sent s.expired messages) s
refused_in e s [] number layer h = cc
refused_in e s (m ∷ behind) number layer h = refused_by (has_expired m s.moment) e s m behind _ _ number layer h

pub refused_left : (e : Encoding) (s : Sender) (number layer : ℕ) → s.begun ≡ None → turn_of e s ≡ refuses number layer → IsLeft (settled e s) s
refused_left e s number layer none h =
    subst (λ (v : Outbox). IsLeft v s) (sym (ap (settled_by e s) none)) (refused_in e s (queued s) number layer (sym (ap (senders.turn_by e s) none) ∙ h))

pub refused_ends : {N : Type 0} (Becomes : N → List Call → N → Type 0) (e : Encoding) (a b c : N) (socket until place : ℕ) (s t u : Sender) (number layer : ℕ) →
    ((a b c : N) (g h : List Call) → Becomes a g b → Becomes b h c → Becomes a (h ++ g) c) →
    SendsOn Becomes e a b socket until s t → IsDriven Becomes e b c socket until t (pushed.NotSpeakable number layer) u → HasSent Becomes e a c socket until place s (Ok (Some (outcome.NotSpeakable place number layer))) u
refused_ends Becomes e a b c socket until place s t u number layer on k d =
    let p = d.pushed_by in
    let left = refused_left e t number layer p.3.begun p.1 in
    let same : t.sent ≡ u.sent = ap (λ (v : Sender). v.sent) (sym p.3.kept) in
    record {
      calls = k.calls;
      becomes = still Becomes a b c k.calls d.calls on p.3.nothing_called k.becomes d.becomes;
      others_go = others_of k.calls k.go;
      box = settled e t;
      run = k.run;
      ended = record {
        ends = ap (λ v. ends_out place v (settled e t).stand) (no_stop k.calls k.go) ∙ ap (ends_out place None) p.0;
        all_had = λ i. absurd (let none : Option Outcome = None in let z : Some (outcome.NotSpeakable place number layer) ≡ none = i in cc);
        sent = left.sent ∙ same;
        expired = left.expired ∙ sym p.2;
      };
    }

-- memory ran out
pub memory_ends : {N : Type 0} (Becomes : N → List Call → N → Type 0) (e : Encoding) (a b c : N) (socket until place : ℕ) (s t u : Sender) (none : NoMemory) →
    ((a b c : N) (g h : List Call) → Becomes a g b → Becomes b h c → Becomes a (h ++ g) c) →
    SendsOn Becomes e a b socket until s t → IsDriven Becomes e b c socket until t pushed.NoMemory u → HasSent Becomes e a c socket until place s (Err none) u
memory_ends Becomes e a b c socket until place s t u none on k d =
    record {
      calls = k.calls;
      becomes = still Becomes a b c k.calls d.calls on d.pushed_by.1.nothing_called k.becomes d.becomes;
      others_go = others_of k.calls k.go;
      box = settled e t;
      run = k.run;
      ended = tt;
    }

-- a message goes out only where the sending side is open
goes_if : (e : Encoding) (sent : ℕ) (m : Accepted) (r : Option ℕ) (b : Begun) → turn_if r m.number (begun_of e sent m) ≡ goes b → r ≡ None
goes_if e sent m None b h = refl
goes_if e sent m (Some l) b h = cc

goes_by : (q : Bool) (e : Encoding) (sent : ℕ) (m : Accepted) (b : Begun) → (if q then expires m.number else turn_if (e.refusal sent m.message.body) m.number (begun_of e sent m)) ≡ goes b → e.refusal sent m.message.body ≡ None
goes_by true e sent m b h = cc
goes_by false e sent m b h = goes_if e sent m (e.refusal sent m.message.body) b h

not_true : (b : Bool) → (b ≡ true → ⊥) → b ≡ false
not_true true h = absurd (h refl)
not_true false h = refl

open_in : (stream : Bool) (fs : List Layer) (s : Sender) (messages : List Accepted) (b : Begun) → queued s ≡ messages → turn_in (encoding_of stream fs) s.moment s.sent messages ≡ goes b → IsSound stream fs s → s.shut ≡ false
open_in stream fs s [] b is h sound = cc
open_in stream fs s (m ∷ behind) b is h sound =
    not_true s.shut (λ x. none_behind stream fs s.sent m (record s.queue.queue { queued = behind }) s.queue.queue
    (ap (λ (v : List Accepted). record s.queue.queue { queued = v }) is) (sound.over x) (goes_by (has_expired m s.moment) (encoding_of stream fs) s.sent m b h))

open_by : (stream : Bool) (fs : List Layer) (s : Sender) (o : Option Begun) (b : Begun) → s.begun ≡ o → senders.turn_by (encoding_of stream fs) s o ≡ goes b → IsSound stream fs s → s.shut ≡ false
open_by stream fs s (Some x) b is h sound = sound.still_open (ap (λ (v : Option Begun). count_begun v) is)
open_by stream fs s None b is h sound = open_in stream fs s (queued s) b refl h sound

pub sent_open : (stream : Bool) (fs : List Layer) (socket until : ℕ) (s : Sender) (number : ℕ) (calls : List Call) (t : Sender) → IsPushed (encoding_of stream fs) socket until s (pushed.Sent number) calls t → IsSound stream fs s → s.shut ≡ false
sent_open stream fs socket until s number calls t p sound = open_by stream fs s s.begun p.1.message refl p.1.turn sound

-- fewer messages wait behind a turn
abbrev pub waiting : Sender → ℕ
waiting s = count_begun s.begun + length (queued s)

fewer_in : (e : Encoding) (moment sent : ℕ) (messages : List Accepted) → (turn_in e moment sent messages ≡ senders.nothing → ⊥) → length (tail_of messages) < length messages
fewer_in e moment sent [] h = absurd (h refl)
fewer_in e moment sent (m ∷ behind) h = omega arith

waiting_is : (t : Sender) (messages : List Accepted) → t.begun ≡ None → queued t ≡ messages → waiting t ≡ length messages
waiting_is t messages none is = (let a : count_begun t.begun ≡ 0 = ap count_begun none in let b : length (queued t) ≡ length messages = ap (λ (l : List Accepted). length l) is in omega (arith, a, b))

fewer_by : (e : Encoding) (s t : Sender) (o : Option Begun) → (senders.turn_by e s o ≡ senders.nothing → ⊥) → waiting t ≡ length (behind_by o (queued s)) → waiting t < count_begun o + length (queued s)
fewer_by e s t (Some b) h is = omega (arith, is)
fewer_by e s t None h is = (let l = fewer_in e s.moment s.sent (queued s) h in omega (arith, is, l))

pub sent_fewer : (e : Encoding) (socket until : ℕ) (s : Sender) (number : ℕ) (calls : List Call) (t : Sender) → IsPushed e socket until s (pushed.Sent number) calls t → waiting t < waiting s
sent_fewer e socket until s number calls t p =
    fewer_by e s t s.begun (λ x. let y = p.1.turn in let z : senders.nothing ≡ goes p.1.message = sym x ∙ y in cc)
    (waiting_is t (behind_by s.begun (queued s)) (ap (λ (v : Sender). v.begun) p.1.kept) (ap (λ (v : Queue). v.queued) p.1.queue))

pub expired_fewer : (e : Encoding) (socket until : ℕ) (s : Sender) (number : ℕ) (calls : List Call) (t : Sender) → IsPushed e socket until s (pushed.Expired number) calls t → waiting t < waiting s
expired_fewer e socket until s number calls t p =
    let none : t.begun ≡ None = ap (λ (v : Sender). v.begun) p.3.kept ∙ p.3.begun in
    fewer_by e s t s.begun (λ x. let y = p.1 in let z : senders.nothing ≡ expires number = sym x ∙ y in cc) (waiting_is t (behind_by s.begun (queued s)) none (ap (λ (v : Queue). v.queued) p.3.queue))

-- what a turn leaves, by what stays of a connection
pub record Turned {N : Type 0} (Becomes : N → List Call → N → Type 0) (net net' : Net) (socket : ℕ) (stream : Bool) (fs : List Layer) (has_ended : Bool) (a b : N) (until : ℕ) (s : Sender) (r : Pushed) (t : Sender) : Type 0 where
  pub driven : IsDriven Becomes (encoding_of stream fs) a b socket until s r t
  pub adds : Adds socket (pushed_items socket t.shut r) (pushed_call socket until r) net net'
  pub room : rest_of t ≤ (net'.traffic socket).room
  pub sound : IsSound stream fs t
  pub held : UnlessFailed r (IsHeld net'.trace socket stream t.shut has_ended)

pub turned : {N : Type 0} {X : Type 0} {F : X → Type 0} {S : Type 0} (Becomes : N → List Call → N → Type 0) (boxed : (x : X) → framer.Ghosts (F x)) (a b : N) (net net' : Net) (until : ℕ) (c d : Connection S X F) (r : Pushed) (t : Sender) → d ≡ record c { sender = d.sender } →
    IsDriven Becomes (encoding_of (is_stream d.stack) (layers_of boxed d.chain)) a b d.socket until d.sender r t → Adds d.socket (pushed_items d.socket t.shut r) (pushed_call d.socket until r) net net' →
    rest_of t ≤ (net'.traffic d.socket).room → IsSound (is_stream d.stack) (layers_of boxed d.chain) t → UnlessFailed r (IsHeld net'.trace d.socket (is_stream d.stack) t.shut d.receiver.ended) →
    Turned Becomes net net' c.socket (is_stream c.stack) (layers_of boxed c.chain) c.receiver.ended a b until d.sender r t
turned Becomes boxed a b net net' until c d r t kept driven adds room sound held =
    subst (λ x. Turned Becomes net net' x.socket (is_stream x.stack) (layers_of boxed x.chain) x.receiver.ended a b until x.sender r t) kept
    (record { driven = driven; adds = adds; room = room; sound = sound; held = held })

pub kept_on : {X : Type 0} {F : X → Type 0} {S : Type 0} (c d e : Connection S X F) → d ≡ record c { sender = d.sender } → e ≡ record d { sender = e.sender } → e ≡ record c { sender = e.sender }
kept_on {X} {F} {S} c d e first second =
    let put : Connection S X F → Connection S X F = λ x. record x { sender = e.sender } in
    second ∙ ap put first

-- what a turn changes of the sockets
pub few_items : (socket : ℕ) (is_shut : Bool) (p : Pushed) → length (pushed_items socket is_shut p) ≤ 1
few_items socket true (pushed.Sent number) = omega arith
few_items socket false (pushed.Sent number) = omega arith
few_items socket is_shut pushed.Empty = omega arith
few_items socket is_shut (pushed.Expired number) = omega arith
few_items socket is_shut (pushed.Timed at) = omega arith
few_items socket is_shut (pushed.Failed cause) = omega arith
few_items socket is_shut (pushed.NotSpeakable number layer) = omega arith
few_items socket is_shut pushed.NoMemory = omega arith

turn_changes : (socket until : ℕ) (is_shut : Bool) (r : Pushed) (a b : Net) → Adds socket (pushed_items socket is_shut r) (pushed_call socket until r) a b → Changes socket 1 a b
turn_changes socket until is_shut r a b h = changes_by socket 1 (pushed_items socket is_shut r) _ a b (few_items socket is_shut r) (pushed_own socket is_shut r) h

-- behind no item
pub open_changes : (socket until : ℕ) (is_shut : Bool) (r : Pushed) (a b c : Net) → b.spare ≡ a.spare → Changes socket 1 a b → Adds socket (pushed_items socket is_shut r) (pushed_call socket until r) b c → Changes socket 1 a c
open_changes socket until is_shut r a b c same p h = changes_last socket a b c same p (turn_changes socket until is_shut r b c h)

-- adding none
pub quiet_changes : (socket until : ℕ) (is_shut : Bool) (r : Pushed) (a b c : Net) → pushed_items socket is_shut r ≡ [] → Changes socket 1 a b → Adds socket (pushed_items socket is_shut r) (pushed_call socket until r) b c → Changes socket 1 a c
quiet_changes socket until is_shut r a b c none p h =
    let size : length (pushed_items socket is_shut r) ≤ 0 = (let z = ap (λ l. length l) none in omega (arith, z)) in
    changes_more socket 1 0 1 a b c (omega arith) p (changes_by socket 0 (pushed_items socket is_shut r) _ b c size (pushed_own socket is_shut r) h)

pub same_spare : (socket until : ℕ) (is_shut : Bool) (r : Pushed) (a b : Net) → pushed_items socket is_shut r ≡ [] → Adds socket (pushed_items socket is_shut r) (pushed_call socket until r) a b → b.spare ≡ a.spare
same_spare socket until is_shut r a b none h = (let z = ap (λ l. length l) none in let s = h.spare in omega (arith, z, s))

pub none_sent : (socket number : ℕ) (is_shut : Bool) → is_shut ≡ false → pushed_items socket is_shut (pushed.Sent number) ≡ []
none_sent socket number is_shut e = ap (λ v. pushed_items socket v (pushed.Sent number)) e

-- a message that was sent on in part is of an open side
pub stopped_open : (stream : Bool) (fs : List Layer) (socket until : ℕ) (s : Sender) (answer : SendAnswer) (calls : List Call) (t : Sender) → IsStopped (encoding_of stream fs) socket until s answer calls t → IsSound stream fs s → s.shut ≡ false
stopped_open stream fs socket until s answer calls t p sound = open_by stream fs s s.begun p.message refl p.turn sound
