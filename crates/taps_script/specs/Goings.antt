-- How scripted sockets go from call to call.
use Rattle.std.proofs.Common.{◌≡◌, ℕ, ◌≤◌, true, List, [], ◌∷◌, ◌++◌, refl, sym, ap, ◌∙◌, subst, append_assoc, append-nil}
use Rattle.std.specs.Prelude.{Some}
use Rattle.std.proofs.Math.Path.{fun_ext}
use Rattle.taps_base.specs.Counts.{Rose}
use Rattle.taps_socket.specs.Sides.{carries_stream}
use Rattle.taps_socket.specs.Calls.{Call, Request, request_of, items_by, items_of}
use Rattle.taps_socket.specs.Net.{after_call, with_faults}
use Rattle.taps_socket.specs.Shows.{Shows, IsLawful, is_faulted, grown, written_by, read_by, written_after}
use Rattle.taps_socket.specs.Shown.{shows_none, shows_on, shows_call}
use Rattle.taps_script.specs.ScriptSteps.{Step, step, link_by, link_after, clock_after, Follows}
use Rattle.taps_script.specs.Channels.{traffic_at}
use Rattle.taps_script.specs.ScriptNet.{Scripted, net_of, link_at, Represents, StaysScripted}

-- no call
pub goes_none : (a : Scripted) → StaysScripted a [] a
goes_none a = record { lines = refl; shows = shows_none (net_of a); represents = λ earlier r. r }

-- calls, and then others
pub goes_on : (a b c : Scripted) (first then : List Call) → StaysScripted a first b
    → StaysScripted b then c → StaysScripted a (then ++ first) c
goes_on a b c first then p q =
    record {
      lines = q.lines ∙ p.lines;
      shows = shows_on (net_of a) (net_of b) (net_of c) first then p.shows q.shows;
      represents = λ earlier r. subst (Represents c) (sym (append_assoc then first earlier))
          (q.represents (first ++ earlier) (p.represents earlier r));
    }

-- more room is no call
pub goes_room : (a b : Scripted) → b.lines ≡ a.lines → b.clock ≡ a.clock
    → Shows (net_of a) [] (net_of b) → StaysScripted a [] b
goes_room a b lines clock shows =
    record {
      lines = lines;
      shows = shows;
      represents = λ earlier r. record {
        follows = subst (λ l. Follows l earlier) (sym lines) r.follows;
        clock = clock ∙ (r.clock ∙ ap (λ l. clock_after l earlier) (sym lines));
        trace = shows.trace ∙ r.trace;
        written = λ q. shows.written q ∙ r.written q;
        read = λ q. shows.read q ∙ r.read q;
      };
    }

-- the link of each socket is that after the calls
links_are : (a : Scripted) (earlier : List Call) → Represents a earlier
    → (q : ℕ) → link_at a q ≡ link_after a.lines earlier q
links_are a earlier r q =
    ap (λ t. link_by a.lines t q (traffic_at a.lines a.channels q).written
    (traffic_at a.lines a.channels q).read) r.trace
    ∙ (ap (λ w. link_by a.lines (items_of earlier) q w (traffic_at a.lines a.channels q).read) (r.written q)
    ∙ ap (λ w. link_by a.lines (items_of earlier) q (written_after [] earlier q (Some [])) w) (r.read q))

same_step : (a : Scripted) (earlier : List Call) (request : Request) → Represents a earlier
    → step a.lines a.clock a.trace (link_at a) request ≡
    step a.lines (clock_after a.lines earlier) (items_of earlier) (link_after a.lines earlier) request
same_step a earlier request r =
    let links : link_at a ≡ link_after a.lines earlier = fun_ext (links_are a earlier r) in
    ap (λ at. step a.lines at a.trace (link_at a) request) r.clock
    ∙ (ap (λ t. step a.lines (clock_after a.lines earlier) t (link_at a) request) r.trace
    ∙ ap (λ l. step a.lines (clock_after a.lines earlier) (items_of earlier) l request) links)

-- one call
pub goes : (a b : Scripted) (c : Call) → b.lines ≡ a.lines → net_of b ≡ with_faults (after_call c (net_of a)) b.faults
    → IsLawful c a.trace a.told → a.faults ≤ b.faults → (is_faulted c ≡ true → Rose a.faults b.faults) →
    (let s : Step = record { clock = b.clock; call = c } in s) ≡ step a.lines a.clock a.trace (link_at a) (request_of c)
    → StaysScripted a (c ∷ []) b
goes a b c lines net lawful faults fault is =
    let shows : Shows (net_of a) (c ∷ []) (net_of b) = shows_call c (net_of a) (net_of b) net lawful faults fault in
    record { lines = lines; shows = shows; represents = λ earlier r. after shows earlier r }
  where
    after : Shows (net_of a) (c ∷ []) (net_of b) → (earlier : List Call)
        → Represents a earlier → Represents b (c ∷ earlier)
    after shows earlier r =
        (let whole : (let s : Step = record { clock = b.clock; call = c } in s) ≡
        step a.lines (clock_after a.lines earlier) (items_of earlier) (link_after a.lines earlier) (request_of c) =
        is ∙ same_step a earlier (request_of c) r in
        let on : (let s : Step = record { clock = b.clock; call = c } in s) ≡
        step b.lines (clock_after b.lines earlier) (items_of earlier) (link_after b.lines earlier) (request_of c) =
        subst (λ l. (let s : Step = record { clock = b.clock; call = c } in s) ≡ step l (clock_after l earlier)
        (items_of earlier) (link_after l earlier) (request_of c)) (sym lines) whole in
        let items : a.trace ≡ items_of earlier ++ [] = r.trace ∙ sym (append-nil (items_of earlier)) in
        record {
          follows = (ap (λ s. s.call) on, subst (λ l. Follows l earlier) (sym lines) r.follows);
          clock = ap (λ s. s.clock) on;
          trace = shows.trace ∙ (ap (λ v. v ++ a.trace) (append-nil (items_by c)) ∙ ap (λ v. items_by c ++ v) r.trace);
          written =
              λ q.
              shows.written q
              ∙ (ap (λ t. grown (carries_stream t q) (written_by c q) (traffic_at a.lines a.channels q).written) items
              ∙ ap (grown (carries_stream (items_of earlier ++ []) q) (written_by c q)) (r.written q));
          read =
              λ q.
              shows.read q
              ∙ (ap (λ t. grown (carries_stream t q) (read_by c q) (traffic_at a.lines a.channels q).read) items
              ∙ ap (grown (carries_stream (items_of earlier ++ []) q) (read_by c q)) (r.read q));
        })
