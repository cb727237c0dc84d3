-- What a new connection has accepted of messages that it accepts one by one.
use Rattle.std.proofs.Common.{◌≡◌, ℕ, ◌+◌, ◌<◌, ◌≤◌, Bool, true, false, ◌||◌, List, [], ◌∷◌, ◌++◌, length, None, refl, ap, sym, subst, ◌∙◌, arith, append_assoc, length-append}
use Rattle.std.specs.Prelude.{max}
use Rattle.std.proofs.lemmas.Bool.{le-ltb, lt-leb}
use Rattle.std.proofs.lemmas.List.{append-nil}
use Rattle.taps_message.specs.declared.message.Message.{Message}
use Rattle.taps_message.specs.declared.accepted.Accepted.{Accepted}
use Rattle.taps_connection.specs.declared.sender.Sender.{Sender}
use Rattle.taps_message.specs.Queues.{Queue, empty_queue, push_refusal, with_message}
use Rattle.taps_exchange.specs.Accepting.{unless_refused, handed, count_bytes, HasFinalLast, AreAcceptable, numbered, AcceptsAll}

abbrev pub has_final : List Message → Bool
has_final [] = false
has_final (m ∷ messages) = m.props.is_final || has_final messages

-- a queue that accepted these at a time
abbrev pub filled : ℕ → List Message → Queue
filled at messages = record { queued = numbered 0 at messages; accepted = length messages; bytes = count_bytes messages; ended = has_final messages }

numbered_behind : (k at : ℕ) (a : List Message) (m : Message) → numbered k at (a ++ m ∷ []) ≡ numbered k at a ++ record { number = k + length a; at = at; message = m } ∷ []
numbered_behind k at [] m = (let e : k ≡ k + 0 = omega arith in ap (λ (v : ℕ). record { number = v; at = at; message = m } ∷ []) e)
numbered_behind k at (x ∷ a) m =
    let e : (k + 1) + length a ≡ k + length (x ∷ a) = omega arith in
    ap (λ v. record { number = k; at = at; message = x } ∷ v) (numbered_behind (k + 1) at a m ∙ ap (λ (v : ℕ). numbered (k + 1) at a ++ record { number = v; at = at; message = m } ∷ []) e)

bytes_behind : (a b : List Message) → count_bytes (a ++ b) ≡ count_bytes a + count_bytes b
bytes_behind [] b = omega arith
bytes_behind (x ∷ a) b = (let h = bytes_behind a b in omega arith)

final_behind : (a : List Message) (m : Message) → has_final (a ++ m ∷ []) ≡ (has_final a || m.props.is_final)
final_behind [] m = or_false m.props.is_final
  where
    or_false : (b : Bool) → (b || false) ≡ b
    or_false true = refl
    or_false false = refl
final_behind (x ∷ a) m = ap (λ v. x.props.is_final || v) (final_behind a m) ∙ or_or x.props.is_final (has_final a) m.props.is_final
  where
    or_or : (a b c : Bool) → (a || (b || c)) ≡ ((a || b) || c)
    or_or true b c = refl
    or_or false b c = refl

same_queue : (q p : Queue) → q.queued ≡ p.queued → q.accepted ≡ p.accepted → q.bytes ≡ p.bytes → q.ended ≡ p.ended → q ≡ p
same_queue q p a b c d =
    ap (λ (v : List Accepted). record { queued = v; accepted = q.accepted; bytes = q.bytes; ended = q.ended }) a
    ∙ (ap (λ (v : ℕ). record { queued = p.queued; accepted = v; bytes = q.bytes; ended = q.ended }) b
    ∙ (ap (λ (v : ℕ). record { queued = p.queued; accepted = p.accepted; bytes = v; ended = q.ended }) c
    ∙ ap (λ (v : Bool). record { queued = p.queued; accepted = p.accepted; bytes = p.bytes; ended = v }) d))

pub filled_more : (at : ℕ) (a : List Message) (m : Message) → with_message m at (filled at a) ≡ filled at (a ++ m ∷ [])
filled_more at a m =
    let size : length a + 1 ≡ length (a ++ m ∷ []) = sym (length-append a (m ∷ [])) in
    let bytes : count_bytes a + length m.body ≡ count_bytes (a ++ m ∷ []) = (let b = bytes_behind a (m ∷ []) in omega arith) in
    let place : length a ≡ 0 + length a = omega arith in
    let queued : numbered 0 at a ++ record { number = length a; at = at; message = m } ∷ [] ≡ numbered 0 at (a ++ m ∷ []) =
    ap (λ (v : ℕ). numbered 0 at a ++ record { number = v; at = at; message = m } ∷ []) place ∙ sym (numbered_behind 0 at a m) in
    same_queue (with_message m at (filled at a)) (filled at (a ++ m ∷ [])) queued size bytes (sym (final_behind a m))

-- none of those before the last is final
some_not_none : (a b : List Message) (m : Message) → a ++ m ∷ b ≡ [] → ⊥
some_not_none [] b m e = cc
some_not_none (x ∷ a) b m e = cc

not_true : (b : Bool) → (b ≡ true → ⊥) → b ≡ false
not_true true h = absurd (h refl)
not_true false h = refl

or_none : (a b : Bool) → a ≡ false → b ≡ false → (a || b) ≡ false
or_none a b e f = rw (e, f) refl

none_final : (a b : List Message) (m : Message) → HasFinalLast (a ++ m ∷ b) → has_final a ≡ false
none_final [] b m h = refl
none_final (x ∷ a) b m h = or_none x.props.is_final (has_final a) (not_true x.props.is_final (λ e. some_not_none a b m (h.0 e))) (none_final a b m h.1)

-- so the next is not refused
next_accepted : (at : ℕ) (all a b : List Message) (m : Message) → AreAcceptable all → all ≡ a ++ m ∷ b → push_refusal (filled at a) m ≡ None
next_accepted at all a b m h e =
    let k : AreAcceptable (a ++ m ∷ b) = subst AreAcceptable e h in
    let size = length-append a (m ∷ b) in
    let few : length a < 256 = (let n = k.few in omega (arith, size)) in
    let bytes = bytes_behind a (m ∷ b) in
    let short : count_bytes a + length m.body ≤ 4194304 = (let n = k.short in omega (arith, bytes)) in
    rw (none_final a b m k.final_last, lt-leb 256 (length a) few, le-ltb 4194304 (count_bytes a + length m.body) short) refl

all_handed : (at : ℕ) (all a b : List Message) → AreAcceptable all → all ≡ a ++ b → handed at (filled at a) b ≡ filled at all
all_handed at all a [] h e = ap (filled at) (sym (e ∙ append-nil a))
all_handed at all a (m ∷ b) h e =
    ap (λ v. handed at (unless_refused v (filled at a) (with_message m at (filled at a))) b) (next_accepted at all a b m h e)
    ∙ (ap (λ v. handed at v b) (filled_more at a m) ∙ all_handed at all (a ++ m ∷ []) b h (e ∙ sym (append_assoc a (m ∷ []) b)))

pub accepts_all : AcceptsAll
accepts_all at messages h = ap (λ (v : Queue). v.queued) (all_handed at messages [] messages h refl)

-- one message more is handed
pub handed_more : (at : ℕ) (q : Queue) (a : List Message) (m : Message) → handed at q (a ++ m ∷ []) ≡ unless_refused (push_refusal (handed at q a) m) (handed at q a) (with_message m at (handed at q a))
handed_more at q [] m = refl
handed_more at q (x ∷ a) m = handed_more at (unless_refused (push_refusal q x) q (with_message x at q)) a m

-- what is kept of the sending is the same but for the queue and the moment
pub hands_on : (s t u : Sender) (at : ℕ) → t ≡ record s { queue = t.queue; moment = t.moment } → u ≡ record t { queue = u.queue; moment = max t.moment at } → u ≡ record s { queue = u.queue; moment = u.moment }
hands_on s t u at first second =
    let moment : max t.moment at ≡ u.moment = sym (ap (λ (v : Sender). v.moment) second) in
    let with_moment : ℕ → Sender = λ v. record t { queue = u.queue; moment = v } in
    let put : Sender → Sender = λ x. record x { queue = u.queue; moment = u.moment } in
    second ∙ (ap with_moment moment ∙ ap put first)

pub moment_on : (s t u : Sender) (at : ℕ) → t.moment ≡ at → u ≡ record t { queue = u.queue; moment = max t.moment at } → u.moment ≡ at
moment_on s t u at here second = (let m : u.moment ≡ max t.moment at = ap (λ (v : Sender). v.moment) second in omega (arith, m, here))

pub queue_on : (at : ℕ) (a : List Message) (m : Message) (q p : Queue) → q ≡ handed at empty_queue a → p ≡ unless_refused (push_refusal q m) q (with_message m at q) → p ≡ handed at empty_queue (a ++ m ∷ [])
queue_on at a m q p e f = f ∙ (ap (λ v. unless_refused (push_refusal v m) v (with_message m at v)) e ∙ sym (handed_more at empty_queue a m))
