-- A connection holds its socket as before, unless a call on it failed.
use Rattle.std.proofs.Common.{◌≡◌, ℕ, Bool, true, false, ◌||◌, List, ◌∷◌, ◌++◌, refl, sym, ap, subst}
use Rattle.std.proofs.lemmas.Bool.{eq-eqb}
use Rattle.taps_socket.specs.declared.item.Item.{Item}
use Rattle.taps_socket.specs.declared.item.Item.TheVariants as item
use Rattle.taps_socket.specs.RaceSockets.{has}
use Rattle.taps_socket.specs.Sides.{shut}
use Rattle.taps_socket.specs.Calls.{Call}
use Rattle.taps_connection.specs.Conditions.{IsHeld}
use Rattle.taps_connection.specs.declared.sender.Sender.{Sender}
use Rattle.taps_connection.specs.declared.sender.Pushed.{Pushed}
use Rattle.taps_connection.specs.declared.sender.Pushed.TheVariants as pushed
use Rattle.taps_connection.specs.Encodings.{Encoding}
use Rattle.taps_connection.specs.Senders.{shut_items, pushed_items, UnlessFailed, IsPushed}

same_held : (socket : ℕ) (stream has_ended was now : Bool) (trace trace' : List Item) → trace' ≡ trace → now ≡ was → IsHeld trace socket stream was has_ended → IsHeld trace' socket stream now has_ended
same_held socket stream has_ended was now trace trace' e n h = rw (e, n) h

shut_held : (socket : ℕ) (stream has_ended was : Bool) (trace : List Item) → IsHeld trace socket stream was has_ended → IsHeld (item.Shut socket ∷ trace) socket stream true has_ended
shut_held socket stream has_ended was trace h =
    record {
      connected = h.connected;
      carries = h.carries;
      shut_by = ap (λ q. q || has (shut trace) socket) (eq-eqb socket socket refl);
      ended_by = h.ended_by;
    }

none_of : (a b : Bool) → (a || b) ≡ false → a ≡ false
none_of true b h = h
none_of false b h = refl

sent_held : (socket : ℕ) (stream has_ended was ends now : Bool) (trace trace' : List Item) → now ≡ (was || ends) → trace' ≡ shut_items now socket ++ trace → IsHeld trace socket stream was has_ended → IsHeld trace' socket stream now has_ended
sent_held socket stream has_ended was ends true trace trace' n e h = subst (λ v. IsHeld v socket stream true has_ended) (sym e) (shut_held socket stream has_ended was trace h)
sent_held socket stream has_ended was ends false trace trace' n e h = same_held socket stream has_ended was false trace trace' e (sym (none_of was ends (sym n))) h

pub held_after : (e : Encoding) (socket until : ℕ) (stream has_ended : Bool) (trace trace' : List Item) (s t : Sender) (answer : Pushed) (calls : List Call) → IsPushed e socket until s answer calls t →
    trace' ≡ pushed_items socket t.shut answer ++ trace → IsHeld trace socket stream s.shut has_ended → UnlessFailed answer (IsHeld trace' socket stream t.shut has_ended)
held_after e socket until stream has_ended trace trace' s t (pushed.Sent number) calls (r, p, one) same h = sent_held socket stream has_ended s.shut p.message.ends t.shut trace trace' (ap (λ (v : Sender). v.shut) p.kept) same h
held_after e socket until stream has_ended trace trace' s t pushed.Empty calls p same h = same_held socket stream has_ended s.shut t.shut trace trace' same (ap (λ (v : Sender). v.shut) p.2.kept) h
held_after e socket until stream has_ended trace trace' s t (pushed.Expired number) calls p same h = same_held socket stream has_ended s.shut t.shut trace trace' same (ap (λ (v : Sender). v.shut) p.3.kept) h
held_after e socket until stream has_ended trace trace' s t (pushed.Timed at) calls p same h = same_held socket stream has_ended s.shut t.shut trace trace' same (ap (λ (v : Sender). v.shut) p.1.kept) h
held_after e socket until stream has_ended trace trace' s t (pushed.Failed cause) calls p same h = tt
held_after e socket until stream has_ended trace trace' s t (pushed.NotSpeakable number layer) calls p same h = same_held socket stream has_ended s.shut t.shut trace trace' same (ap (λ (v : Sender). v.shut) p.3.kept) h
held_after e socket until stream has_ended trace trace' s t pushed.NoMemory calls (tried, p) same h = same_held socket stream has_ended s.shut t.shut trace trace' same (ap (λ (v : Sender). v.shut) p.kept) h
