-- From sockets whose items are recorded to the sockets themselves, and to what is kept of a session.
use Rattle.std.proofs.Common.{◌≡◌, ℕ, List, [], ◌++◌, Some, Result, Ok, Err, refl, sym, ◌∙◌, ap, subst, inl, inr, append-nil, append_assoc}
use Rattle.std.specs.Prelude.{reverse}
use Rattle.taps_base.specs.declared.no_memory.NoMemory.{NoMemory}
use Rattle.taps_framer.specs.Layers.{Layer}
use Rattle.taps_socket.specs.declared.item.Item.{Item}
use Rattle.taps_socket.specs.Calls.{Call, items_of}
use Rattle.taps_socket.specs.Net.{Net, with_spare}
use Rattle.taps_socket.specs.Recorded.{Recorded, Records}
use Rattle.taps_socket.specs.Shows.{Shows}
use Rattle.taps_socket.specs.Shown.{items_on, spare_on, shows_spare}
use Rattle.taps_command.specs.Nets.{HasRun, SocketsState, uncalled}
use Rattle.taps_command.specs.Ready.{Ready}
use Rattle.taps_command.proofs.Running.{ran_by}
use Rattle.taps_session.specs.Raced.{IsEnded, EndsSession}
use Rattle.taps_session.specs.Session.{members_by, outcome_by, parted}
use Rattle.taps_session.specs.SessionLogs.{Held, HoldsSession, held_of, outcome_told, IsSeen, LeavesSession}
use Rattle.taps_session.specs.Sessions.{Course, closing}
use Rattle.taps_session.specs.declared.holding.Ended.{Ended}
use Rattle.taps_session.proofs.Ending.{AppendLaw}
use Rattle.taps_session.proofs.Parts.{parts}

-- recorded calls may be appended, and show what the sockets' calls show
pub records_on : {N : Type 0} (Becomes : N → List Call → N → Type 0) → AppendLaw Becomes → AppendLaw (Records Becomes)
records_on Becomes on x y z first then p q =
    record {
      becomes = on x.net y.net z.net first then p.becomes q.becomes;
      spare = spare_on first then x.spare y.spare z.spare p.spare q.spare;
    }

pub records_show : {N : Type 0} (Becomes : N → List Call → N → Type 0) (net : N → Net) → ((x y : N) (calls : List Call) → Becomes x calls y → Shows (net x) calls (net y))
    → (a b : Recorded N) (calls : List Call) → Records Becomes a calls b → Shows (with_spare (net a.net) a.spare) calls (with_spare (net b.net) b.spare)
records_show Becomes net shows a b calls h = shows_spare (net a.net) (net b.net) calls a.spare b.spare h.spare (shows a.net b.net calls h.becomes)

-- spare does not matter to what is seen of a session
same_seen : (shelf : List Layer) (ready : Ready) (c : Course) (n n' : Net) (s s' : ℕ) → IsSeen shelf ready c (with_spare n s) (with_spare n' s') → IsSeen shelf ready c n n'
same_seen shelf ready c n n' s s' h = record { items = h.items; timed = h.timed; fault = h.fault; judged = h.judged; times_rise = h.times_rise; observed = h.observed }

same_left : (shelf : List Layer) (ready : Ready) (n n' : Net) (s s' : ℕ) (calls : List Call) → LeavesSession shelf ready (uncalled (with_spare n s)) (record { net = with_spare n' s'; calls = calls })
    → LeavesSession shelf ready (uncalled n) (record { net = n'; calls = calls })
same_left shelf ready n n' s s' calls (inl same) = inl (ap (λ (v : SocketsState). record { net = with_spare v.net n'.spare; calls = v.calls }) same)
same_left shelf ready n n' s s' calls (inr begun) = inr begun

same_ended : (shelf : List Layer) (ready : Ready) (r : Result Ended NoMemory) (n n' : Net) (s s' : ℕ) (calls : List Call) → EndsSession shelf ready r (uncalled (with_spare n s)) (record { net = with_spare n' s'; calls = calls })
    → EndsSession shelf ready r (uncalled n) (record { net = n'; calls = calls })
same_ended shelf ready (Ok e) n n' s s' calls h =
    let x = h.ended in
    record {
      ended = record {
        course = x.course;
        calls = x.calls;
        session = x.session;
        seen = same_seen shelf ready x.course n n' s s' x.seen;
        raced = x.raced;
        answer = x.answer;
        members = x.members;
        outcome = x.outcome;
      };
      leaves = same_left shelf ready n n' s s' calls h.leaves;
      closed_once = h.closed_once;
    }
same_ended shelf ready (Err none) n n' s s' calls h = record { ended = tt; leaves = same_left shelf ready n n' s s' calls h.leaves; closed_once = h.closed_once }

pub unrecorded : {N : Type 0} (Becomes : N → List Call → N → Type 0) (a b : Recorded N) (n n' : Net) (shelf : List Layer) (ready : Ready) (r : Result Ended NoMemory)
    → ((calls : List Call) → Becomes a.net calls b.net → Shows n calls n')
    → HasRun (Records Becomes) a b (with_spare n a.spare) (with_spare n' b.spare) (EndsSession shelf ready r) → HasRun Becomes a.net b.net n n' (EndsSession shelf ready r)
unrecorded Becomes a b n n' shelf ready r shows h =
    record {
      calls = h.calls;
      becomes = h.becomes.becomes;
      shows = shows h.calls h.becomes.becomes;
      holds = same_ended shelf ready r n n' a.spare b.spare h.calls h.holds;
    }

-- the items behind a race are those of the closes and of the exchange
behind : (before : List Item) (c : Course) (trace : List Item) → before ≡ [] → trace ≡ items_of (closing c.answer) ++ (items_of c.exchange ++ (c.race ++ before)) → trace ≡ items_of (closing c.answer ++ c.exchange) ++ c.race
behind before c trace fresh e =
    let race : c.race ++ before ≡ c.race = ap (λ v. c.race ++ v) fresh ∙ append-nil c.race in
    e ∙ ap (λ v. items_of (closing c.answer) ++ (items_of c.exchange ++ v)) race
    ∙ sym (append_assoc (items_of (closing c.answer)) (items_of c.exchange) c.race)
    ∙ ap (λ v. v ++ c.race) (sym (items_on c.exchange (closing c.answer)))

-- what is kept is the session
kept_is : (shelf : List Layer) (ready : Ready) (e : Ended) (items : List Item) (old new : SocketsState) (s : Held) → old.net.trace ≡ [] → reverse items ≡ new.net.trace
    → s ≡ parted items e.raced (Some e.answer) (members_by e.exchanged) (outcome_told (outcome_by e.exchanged)) → (x : IsEnded shelf ready e old new) → s ≡ held_of shelf ready x.course
kept_is shelf ready e items old new s fresh recorded is x =
    let c = x.course in
    let split = recorded ∙ behind old.net.trace c new.net.trace fresh x.seen.items in
    is ∙ parts items c.race (items_of (closing c.answer ++ c.exchange)) e.raced (Some e.answer) (members_by e.exchanged) (outcome_told (outcome_by e.exchanged)) split x.raced
    ∙ rw (x.answer, x.members, x.outcome) refl

pub held : {S : Type 0} (Becomes : S → List Call → S → Type 0) (a b : S) (n n' : Net) (shelf : List Layer) (ready : Ready) (e : Ended) (items : List Item) (s : Held)
    → n.trace ≡ [] → reverse items ≡ n'.trace → s ≡ parted items e.raced (Some e.answer) (members_by e.exchanged) (outcome_told (outcome_by e.exchanged))
    → HasRun Becomes a b n n' (EndsSession shelf ready (Ok e)) → HasRun Becomes a b n n' (HoldsSession shelf ready (Ok s))
held Becomes a b n n' shelf ready e items s fresh recorded is r =
    record {
      calls = r.calls;
      becomes = r.becomes;
      shows = r.shows;
      holds = record {
        held = record {
          course = r.holds.ended.course;
          calls = r.holds.ended.calls;
          session = r.holds.ended.session;
          seen = r.holds.ended.seen;
          kept = kept_is shelf ready e items (uncalled n) (record { net = n'; calls = r.calls }) s fresh recorded is r.holds.ended;
        };
        leaves = r.holds.leaves;
        closed_once = r.holds.closed_once;
      };
    }

-- a run of sockets that were lent to a recorder is one of the sockets
pub returned : {N T : Type 0} (First : T → List Call → T → Type 0) (Becomes : N → List Call → N → Type 0) (net : N → Net) (x y : T) (a b a' b' : N) (P : SocketsState → SocketsState → Type 0)
    → a' ≡ a → b' ≡ b → ((calls : List Call) → First x calls y → Becomes a' calls b') → HasRun First x y (net a') (net b') P → HasRun Becomes a b (net a) (net b) P
returned First Becomes net x y a b a' b' P ea eb to r =
    subst (λ v. HasRun Becomes a v (net a) (net v) P) eb
    (subst (λ v. HasRun Becomes v b' (net v) (net b') P) ea (ran_by First Becomes x y a' b' (net a') (net b') P to r))

-- the session of sockets that were lent to a recorder
pub held_when : {N T : Type 0} (First : T → List Call → T → Type 0) (Becomes : N → List Call → N → Type 0) (net : N → Net) (x y : T) (a b a' b' : N) (shelf : List Layer) (ready : Ready) (e : Ended) (items : List Item) (s : Held)
    → a' ≡ a → b' ≡ b → ((calls : List Call) → First x calls y → Becomes a' calls b') → (net a).trace ≡ [] → reverse items ≡ (net b').trace → s ≡ parted items e.raced (Some e.answer) (members_by e.exchanged) (outcome_told (outcome_by e.exchanged))
    → HasRun First x y (net a') (net b') (EndsSession shelf ready (Ok e)) → HasRun Becomes a b (net a) (net b) (HoldsSession shelf ready (Ok s))
held_when First Becomes net x y a b a' b' shelf ready e items s ea eb to fresh recorded is r =
    returned First Becomes net x y a b a' b' (HoldsSession shelf ready (Ok s)) ea eb to
    (held First x y (net a') (net b') shelf ready e items s (ap (λ v. (net v).trace) ea ∙ fresh) recorded is r)
