-- A session that listened and accepted, and closed its listener, is what its calls say.
use Rattle.std.proofs.Common.{◌≡◌, ◌⊎◌, ◌≤◌, ℕ, true, List, [], ◌∷◌, ◌++◌, Some, None, nat_lt, if◌then◌else◌, refl, ap, sym, subst, ◌∙◌, arith, append_assoc}
use Rattle.std.proofs.lemmas.Bool.{lt-ltb}
use Rattle.taps_socket.specs.declared.answers.ListenAnswer.TheVariants as listen
use Rattle.taps_socket.specs.declared.cause.Cause.{Cause}
use Rattle.taps_socket.specs.declared.item.Item.{Item}
use Rattle.taps_socket.specs.Calls.{Call, begins, listens, closes, items_of}
use Rattle.taps_socket.specs.LiveSockets.{given}
use Rattle.taps_socket.specs.Net.{Net}
use Rattle.taps_socket.specs.Once.{IsOnce}
use Rattle.taps_socket.specs.RaceSockets.{has, closed}
use Rattle.taps_socket.specs.Shows.{Shows}
use Rattle.taps_exchange.specs.declared.outcome.Outcome.TheVariants as outcome
use Rattle.taps_listening.specs.declared.listened.ListenEnd.{ListenEnd}
use Rattle.taps_listening.specs.declared.listened.ListenEnd.TheVariants as ends
use Rattle.taps_listening.specs.Accepts.{IsCutBut, IsAcceptedAll, PreservesNamed}
use Rattle.taps_listening.specs.AnsweredStates.{AnsweredState}
use Rattle.taps_listening.specs.ListenRules.{ListenRules}
use Rattle.taps_listening.specs.Listened.{ClosesAll, IsListened, IsListenedShort}
use Rattle.taps_listening.specs.Listening.{beginning, accepting, stopping, stopped, Course, course_at, course_from, turn_at, connection_in, closes_if, closes_of, answered_all, AllInTurn, Goes}
use Rattle.taps_listening.specs.Serving.{Served}
use Rattle.taps_listening.proofs.Closed.{in_turn_of}
use Rattle.taps_listening.proofs.Counted.{timed_is, fault_is}
use Rattle.taps_listening.proofs.Covers.{Covers, CoversBy, all_closed, covers_after, covers_short}
use Rattle.taps_listening.proofs.Going.{goes_on, cut_on}
use Rattle.taps_listening.proofs.Onces.{once_after}

abbrev at_first : Course
at_first = course_at [] beginning

closes_all : (a b : Net) (calls : List Call) → Shows a calls b → CoversBy a.trace (items_of calls ++ a.trace) None None → ClosesAll a.trace b.trace
closes_all a b calls s k =
    record {
      all = subst (λ (t : List Item). (x : ℕ) → has (given t) x ≡ true → (has (closed t) x ≡ true) ⊎ (has (given a.trace) x ≡ true)) (sym s.trace) (all_closed a.trace (items_of calls ++ a.trace) k);
      once = λ h. subst (λ (t : List Item). IsOnce (closed t)) (sym s.trace) (once_after a.trace a.told calls s.lawful h);
    }

module _ {N : Type 0} (Becomes : N → List Call → N → Type 0) (r : ListenRules) (x z : N) (a b : Net) (shows : (calls : List Call) → Becomes x calls z → Shows a calls b) where
  pub listened : (served : List Served) (end : ListenEnd) (members : List AnsweredState) → Goes Becomes r x z at_first (course_at served (stopped end)) → answered_all r served ≡ members → PreservesNamed a b → IsListened Becomes x z a b r end members
  listened served end members g told others =
      let s = shows g.calls g.becomes in
      let ended : (course_from r at_first g.calls).phase ≡ stopped end = ap (λ (v : Course). v.phase) g.reaches in
      let covered : Covers a.trace (items_of g.calls ++ a.trace) (stopped end) = subst (Covers a.trace (items_of g.calls ++ a.trace)) ended (covers_after r a.trace g.calls g.in_turn) in
      record {
        calls = g.calls;
        becomes = g.becomes;
        exchange = record { in_turn = in_turn_of r g.calls g.in_turn; ends = ap (turn_at r) g.reaches };
        ended = ended;
        members_are = ap (λ (v : Course). answered_all r v.served) g.reaches ∙ told;
        timed = s.timed ∙ timed_is r g.calls end a.timed g.in_turn ended;
        fault = λ e. s.fault (fault_is r g.calls end g.in_turn ended e);
        others = others;
        closes_all = closes_all a b g.calls s covered;
      }

  pub listened_short : (calls : List Call) (course : Course) → AllInTurn r at_first calls → course_from r at_first calls ≡ course → Becomes x (closes_of course.phase ++ calls) z → PreservesNamed a b → IsListenedShort Becomes x z a b r
  listened_short calls course turns reaches becomes others =
      let phase : (course_from r at_first calls).phase ≡ course.phase = ap (λ (v : Course). v.phase) reaches in
      let becomes_it : Becomes x (closes_of (course_from r at_first calls).phase ++ calls) z = subst (λ p. Becomes x (closes_of p ++ calls) z) (sym phase) becomes in
      record {
        calls = calls;
        becomes = becomes_it;
        in_turn = in_turn_of r calls turns;
        others = others;
        closes_all = closes_all a b (closes_of (course_from r at_first calls).phase ++ calls) (shows (closes_of (course_from r at_first calls).phase ++ calls) becomes_it)
            (covers_short r a.trace calls (course_from r at_first calls).phase turns refl);
      }

-- the time was asked, and the target was listened on
module _ {N : Type 0} (Becomes : N → List Call → N → Type 0) (r : ListenRules) (w x y : N) (began : ℕ)
    (on : (a b c : N) (g h : List Call) → Becomes a g b → Becomes b h c → Becomes a (h ++ g) c) (time : Becomes w (begins began ∷ []) x) where
  pub begun : (s at : ℕ) → 1 ≤ r.limit → Becomes x (listens r.target (listen.Listening s at) ∷ []) y → Goes Becomes r w y at_first (course_at [] (accepting s at))
  begun s at some h =
      let more : nat_lt 0 r.limit ≡ true = lt-ltb 0 r.limit (omega arith) in
      record {
        calls = listens r.target (listen.Listening s at) ∷ begins began ∷ [];
        becomes = on w x y (begins began ∷ []) (listens r.target (listen.Listening s at) ∷ []) time h;
        in_turn = (refl, (refl, tt));
        reaches = ap (λ b. course_at [] (if b then accepting s at else stopping s (ends.Exchanged outcome.Done))) more;
      }

  pub refused : (cause : Cause) (at : ℕ) → Becomes x (listens r.target (listen.Refused cause at) ∷ []) y → Goes Becomes r w y at_first (course_at [] (stopped (ends.NotListening cause)))
  refused cause at h =
      record {
        calls = listens r.target (listen.Refused cause at) ∷ begins began ∷ [];
        becomes = on w x y (begins began ∷ []) (listens r.target (listen.Refused cause at) ∷ []) time h;
        in_turn = (refl, (refl, tt));
        reaches = refl;
      }

-- and then connections were accepted, and the listener was closed
module _ {N : Type 0} (Becomes : N → List Call → N → Type 0) (r : ListenRules) (w x y z : N) (a b : Net) (listener first : ℕ)
    (on : (a b c : N) (g h : List Call) → Becomes a g b → Becomes b h c → Becomes a (h ++ g) c) (shows : (calls : List Call) → Becomes w calls z → Shows a calls b)
    (g : Goes Becomes r w x at_first (course_at [] (accepting listener first))) (close : Becomes y (closes listener ∷ []) z) (others : PreservesNamed a b) where
  pub finished : (end : ListenEnd) (members : List AnsweredState) → IsAcceptedAll Becomes r x y listener first end members → IsListened Becomes w z a b r end members
  finished end members k =
      let closed_it : Goes Becomes r y z (course_at k.served (stopping listener end)) (course_at k.served (stopped end)) =
      record { calls = closes listener ∷ []; becomes = close; in_turn = (refl, tt); reaches = refl } in
      listened Becomes r w z a b shows k.served end members
      (goes_on Becomes r w y z at_first (course_at k.served (stopping listener end)) on
      (goes_on Becomes r w x y at_first (course_at [] (accepting listener first)) on g (course_at k.served (stopping listener end)) k.goes)
      (course_at k.served (stopped end)) closed_it) k.told others

  pub cut_short : IsCutBut Becomes r x y listener (course_at [] (accepting listener first)) → IsListenedShort Becomes w z a b r
  cut_short k =
      let q = cut_on Becomes r w x y at_first (course_at [] (accepting listener first)) on g listener k in
      let all : Becomes w ((closes listener ∷ []) ++ (closes_if (connection_in q.course.phase) ++ q.calls)) z = on w y z (closes_if (connection_in q.course.phase) ++ q.calls) (closes listener ∷ []) q.becomes close in
      let all' : Becomes w ((closes_if (Some listener) ++ closes_if (connection_in q.course.phase)) ++ q.calls) z = subst (λ v. Becomes w v z) (sym (append_assoc (closes listener ∷ []) (closes_if (connection_in q.course.phase)) q.calls)) all in
      listened_short Becomes r w z a b shows q.calls q.course q.in_turn q.reaches
      (subst (λ v. Becomes w ((closes_if v ++ closes_if (connection_in q.course.phase)) ++ q.calls) z) (sym q.listens) all') others
