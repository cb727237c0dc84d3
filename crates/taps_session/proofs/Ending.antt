-- From a race, and the exchange behind it, to a session.
use Rattle.std.proofs.Common.{◌≡◌, ℕ, true, List, [], ◌∷◌, ◌++◌, Option, Some, None, Ok, Err, length, refl, sym, ◌∙◌, ap, subst, inr, map}
use Rattle.taps_base.specs.Counts.{Rose}
use Rattle.taps_base.specs.declared.no_memory.NoMemory.{NoMemory}
use Rattle.taps_framer.specs.Layers.{Layer}
use Rattle.taps_message.specs.declared.accepted.Accepted.{Accepted}
use Rattle.taps_socket.specs.declared.item.Item.{Item}
use Rattle.taps_socket.specs.declared.item.Item.TheVariants as item
use Rattle.taps_socket.specs.declared.race_answer.RaceAnswer.{RaceAnswer}
use Rattle.taps_socket.specs.declared.race_answer.RaceAnswer.TheVariants as answers
use Rattle.taps_socket.specs.Calls.{Call, closes, items_of, AddEach}
use Rattle.taps_socket.specs.LawfulRace.{IsLawfulRace}
use Rattle.taps_socket.specs.LiveSockets.{given}
use Rattle.taps_socket.specs.Net.{Net}
use Rattle.taps_socket.specs.Once.{IsOnce}
use Rattle.taps_socket.specs.RaceSockets.{has, closed}
use Rattle.taps_socket.specs.RaceTrace.{last_moment}
use Rattle.taps_socket.specs.Shows.{Shows}
use Rattle.taps_socket.specs.Sides.{carries_stream}
use Rattle.taps_exchange.specs.Expiries.{TimesRise}
use Rattle.taps_exchange.specs.Exchanged.{IsExchanged, IsCutShort, HasClosed}
use Rattle.taps_exchange.specs.Members.{Member, calls_on}
use Rattle.taps_exchange.specs.Outcomes.{AreExchangeItems, IsJudged, count_by}
use Rattle.taps_exchange.specs.declared.exchanged.Exchanged.{Exchanged}
use Rattle.taps_exchange.specs.declared.outcome.Outcome.TheVariants as outcome
use Rattle.taps_command.specs.Nets.{HasRun, IsClosedOnce}
use Rattle.taps_command.specs.Ready.{Ready}
use Rattle.taps_session.specs.FileSessions.{rules_of, targets_of}
use Rattle.taps_session.specs.Raced.{closes_of, HasUnusedWinner, GoesOn, EndsSession}
use Rattle.taps_session.specs.SessionLogs.{members_told, IsSeen}
use Rattle.taps_session.specs.Sessions.{Course, winner_of, IsBegunSession, IsSessionOf}
use Rattle.taps_session.proofs.Observing.{observed, but_the_close}

-- items of an exchange give and close no socket
same_given : (s : ℕ) (items t : List Item) → AreExchangeItems s items → given (items ++ t) ≡ given t
same_given s [] t h = refl
same_given s (item.Shut x ∷ items) t h = same_given s items t h.1
same_given s (item.Ended x ∷ items) t h = same_given s items t h.1
same_given s (item.DataFailed x sending cause ∷ items) t h = same_given s items t h.1
same_given s (i ∷ items) t h = absurd h.0

same_closed : (s : ℕ) (items t : List Item) → AreExchangeItems s items → closed (items ++ t) ≡ closed t
same_closed s [] t h = refl
same_closed s (item.Shut x ∷ items) t h = same_closed s items t h.1
same_closed s (item.Ended x ∷ items) t h = same_closed s items t h.1
same_closed s (item.DataFailed x sending cause ∷ items) t h = same_closed s items t h.1
same_closed s (i ∷ items) t h = absurd h.0

-- so every socket is closed once behind them, too
closed_behind : (s x : ℕ) (items t : List Item) → AreExchangeItems s items → IsClosedOnce (item.Closed x ∷ t) → IsClosedOnce (item.Closed x ∷ (items ++ t))
closed_behind s x items t own h =
    record {
      all = λ q there. subst (λ v. has (x ∷ v) q ≡ true) (sym (same_closed s items t own)) (h.all q (subst (λ v. has v q ≡ true) (same_given s items t own) there));
      once = subst (λ v. IsOnce (x ∷ v)) (sym (same_closed s items t own)) h.once;
    }

-- what a race left, whose calls and items these are
pub record HasRace {S : Type 0} (Becomes : S → List Call → S → Type 0) (a b : S) (n n' : Net) (ready : Ready) (raced : List Call) (race : List Item) (answer : RaceAnswer) : Type 0 where
  pub becomes : Becomes a raced b
  pub each : AddEach raced race
  pub items : n'.trace ≡ race ++ n.trace
  pub lawful : IsLawfulRace (rules_of ready) 0 (targets_of ready) race answer
  pub timed : n'.timed ≡ n.timed
  pub unused : HasUnusedWinner n' answer
  pub fault : answer ≡ answers.SocketFault → Rose n.faults n'.faults
  pub closed_once : IsClosedOnce (closes_of answer ++ n'.trace)

-- calls may be appended
abbrev pub AppendLaw : {S : Type 0} → (S → List Call → S → Type 0) → Type 0
AppendLaw {S} Becomes = (x y z : S) (first then : List Call) → Becomes x first y → Becomes y then z → Becomes x (then ++ first) z

-- where the exchange was closed, its items stand before the race's
closed_trace : (socket : ℕ) (calls : List Call) (n n1 n2 : Net) (race : List Item) → n1.trace ≡ race ++ n.trace → HasClosed socket calls n1 n2 → n2.trace ≡ item.Closed socket ∷ (items_of calls ++ (race ++ n.trace))
closed_trace socket calls n n1 n2 race e h = h.trace ∙ ap (λ t. item.Closed socket ∷ (items_of calls ++ t)) e

closed_all : (socket : ℕ) (calls : List Call) (n1 n2 : Net) → IsClosedOnce (item.Closed socket ∷ n1.trace) → HasClosed socket calls n1 n2 → IsClosedOnce n2.trace
closed_all socket calls n1 n2 once h = subst IsClosedOnce (sym h.trace) (closed_behind socket socket (items_of calls) n1.trace h.own_items once)

-- an exchange was carried out
exchanged : {S : Type 0} (Becomes : S → List Call → S → Type 0) (a b c : S) (n n1 n2 : Net) (shelf : List Layer) (ready : Ready) (raced : List Call) (race : List Item) (leaf socket won count : ℕ) (x : Exchanged)
    → AppendLaw Becomes → ((calls : List Call) → Becomes a calls c → Shows n calls n2) → ((calls : List Call) → Becomes b calls c → Shows n1 calls n2) → count ≡ length race → HasRace Becomes a b n n1 ready raced race (answers.Ready leaf socket won)
    → IsExchanged Becomes b c n1 n2 (winner_of shelf ready race leaf socket) x.outcome x.sent x.heard.items
    → HasRun Becomes a c n n2 (EndsSession shelf ready (Ok (record { raced = count; answer = answers.Ready leaf socket won; exchanged = Some x })))
exchanged Becomes a b c n n1 n2 shelf ready raced race leaf socket won count x on shows shows_then counted r e =
    let m : Member = winner_of shelf ready race leaf socket in
    let course : Course = record { raced = raced; race = race; answer = answers.Ready leaf socket won; exchange = e.calls; outcome = x.outcome } in
    let exchange = e.exchange ready.pre.connection.conn_priority (map (λ (a : Accepted). a.number) m.messages) in
    let session : IsSessionOf shelf ready course = record { each = r.each; lawful = r.lawful; exchanged = exchange } in
    let becomes : Becomes a ((closes socket ∷ e.calls) ++ raced) c = on a b c raced (closes socket ∷ e.calls) r.becomes e.becomes in
    let items = closed_trace socket e.calls n n1 n2 race r.items e.changes in
    let judged : IsJudged m (calls_on m.socket e.calls) x.outcome = subst (λ v. IsJudged m v x.outcome) (sym e.own) e.judged in
    let seen : IsSeen shelf ready course n n2 = record {
      items = items;
      timed = e.timed ∙ ap (count_by x.outcome) r.timed;
      fault = λ h. cc;
      judged = (judged, tt);
      times_rise = (subst TimesRise (sym e.own) e.times_rise, tt);
      observed = (but_the_close (carries_stream n2.trace socket) (n2.traffic socket) socket e.calls (observed n1 n2 (closes socket ∷ e.calls) socket (shows_then (closes socket ∷ e.calls) e.becomes) r.unused), tt);
    } in
    let told : members_told shelf ready course ≡ record { sent = x.sent; heard = x.heard.items } ∷ [] = rw (e.own, e.sent_is, e.heard_is) refl in
    record {
      calls = (closes socket ∷ e.calls) ++ raced;
      becomes = becomes;
      shows = shows ((closes socket ∷ e.calls) ++ raced) becomes;
      holds = record {
        ended = record {
          course = course;
          calls = refl;
          session = session;
          seen = seen;
          raced = counted;
          answer = refl;
          members = sym told;
          outcome = refl;
        };
        leaves = inr (record { raced = raced; race = race; answer = answers.Ready leaf socket won; exchange = e.calls; split = refl; each = r.each; lawful = r.lawful; begun = exchange.in_turn });
        closed_once = closed_all socket e.calls n1 n2 r.closed_once e.changes;
      };
    }

-- memory cut it short
cut_short : {S : Type 0} (Becomes : S → List Call → S → Type 0) (a b c : S) (n n1 n2 : Net) (shelf : List Layer) (ready : Ready) (raced : List Call) (race : List Item) (leaf socket won : ℕ) (none : NoMemory)
    → AppendLaw Becomes → ((calls : List Call) → Becomes a calls c → Shows n calls n2) → HasRace Becomes a b n n1 ready raced race (answers.Ready leaf socket won)
    → IsCutShort Becomes b c n1 n2 (winner_of shelf ready race leaf socket)
    → HasRun Becomes a c n n2 (EndsSession shelf ready (Err none))
cut_short Becomes a b c n n1 n2 shelf ready raced race leaf socket won none on shows r e =
    let m : Member = winner_of shelf ready race leaf socket in
    let becomes : Becomes a ((closes socket ∷ e.calls) ++ raced) c = on a b c raced (closes socket ∷ e.calls) r.becomes e.becomes in
    let begun = e.in_turn ready.pre.connection.conn_priority (map (λ (a : Accepted). a.number) m.messages) in
    record {
      calls = (closes socket ∷ e.calls) ++ raced;
      becomes = becomes;
      shows = shows ((closes socket ∷ e.calls) ++ raced) becomes;
      holds = record {
        ended = tt;
        leaves = inr (record { raced = raced; race = race; answer = answers.Ready leaf socket won; exchange = e.calls; split = refl; each = r.each; lawful = r.lawful; begun = begun });
        closed_once = closed_all socket e.calls n1 n2 r.closed_once e.changes;
      };
    }

-- a session went on behind its race and came to an end
pub ended_ok : {S : Type 0} (Becomes : S → List Call → S → Type 0) (a b c : S) (n n1 n2 : Net) (shelf : List Layer) (ready : Ready) (raced : List Call) (race : List Item) (count : ℕ) (answer : RaceAnswer) (o : Option Exchanged)
    → AppendLaw Becomes → ((calls : List Call) → Becomes a calls c → Shows n calls n2) → ((calls : List Call) → Becomes b calls c → Shows n1 calls n2) → count ≡ length race → HasRace Becomes a b n n1 ready raced race answer
    → GoesOn Becomes b c n1 n2 shelf ready (targets_of ready) (last_moment race) answer (Ok o)
    → HasRun Becomes a c n n2 (EndsSession shelf ready (Ok (record { raced = count; answer = answer; exchanged = o })))
ended_ok Becomes a b c n n1 n2 shelf ready raced race count (answers.Ready leaf socket won) (Some x) on shows shows_then counted r go =
    exchanged Becomes a b c n n1 n2 shelf ready raced race leaf socket won count x on shows shows_then counted r go
ended_ok Becomes a b c n n1 n2 shelf ready raced race count (answers.Ready leaf socket won) None on shows shows_then counted r go = absurd go
ended_ok Becomes a b c n n1 n2 shelf ready raced race count answer (Some x) on shows shows_then counted r go = absurd go
ended_ok Becomes a b c n n1 n2 shelf ready raced race count answer None on shows shows_then counted r go =
    let becomes : Becomes a raced c = on a b c raced [] r.becomes go.0 in
    let session : IsSessionOf shelf ready (record { raced = raced; race = race; answer = answer; exchange = []; outcome = outcome.Done }) = record { each = r.each; lawful = r.lawful; exchanged = (refl, refl) } in
    let seen : IsSeen shelf ready (record { raced = raced; race = race; answer = answer; exchange = []; outcome = outcome.Done }) n n2 = record {
      items = ap (λ (v : Net). v.trace) go.1 ∙ r.items;
      timed = ap (λ (v : Net). v.timed) go.1 ∙ r.timed;
      fault = λ h. subst (λ (v : Net). Rose n.faults v.faults) (sym go.1) (r.fault h);
      judged = tt;
      times_rise = tt;
      observed = tt;
    } in
    let begun : IsBegunSession shelf ready raced = record { raced = raced; race = race; answer = answer; exchange = []; split = refl; each = r.each; lawful = r.lawful; begun = refl } in
    record {
      calls = raced;
      becomes = becomes;
      shows = shows raced becomes;
      holds = record {
        ended = record {
          course = record { raced = raced; race = race; answer = answer; exchange = []; outcome = outcome.Done };
          calls = refl;
          session = session;
          seen = seen;
          raced = counted;
          answer = refl;
          members = refl;
          outcome = refl;
        };
        leaves = inr begun;
        closed_once = subst (λ (v : Net). IsClosedOnce v.trace) (sym go.1) r.closed_once;
      };
    }

-- or memory cut it short
pub ended_err : {S : Type 0} (Becomes : S → List Call → S → Type 0) (a b c : S) (n n1 n2 : Net) (shelf : List Layer) (ready : Ready) (raced : List Call) (race : List Item) (answer : RaceAnswer) (none : NoMemory)
    → AppendLaw Becomes → ((calls : List Call) → Becomes a calls c → Shows n calls n2) → HasRace Becomes a b n n1 ready raced race answer
    → GoesOn Becomes b c n1 n2 shelf ready (targets_of ready) (last_moment race) answer (Err none)
    → HasRun Becomes a c n n2 (EndsSession shelf ready (Err none))
ended_err Becomes a b c n n1 n2 shelf ready raced race (answers.Ready leaf socket won) none on shows r go =
    cut_short Becomes a b c n n1 n2 shelf ready raced race leaf socket won none on shows r go
ended_err Becomes a b c n n1 n2 shelf ready raced race answer none on shows r go = absurd go
