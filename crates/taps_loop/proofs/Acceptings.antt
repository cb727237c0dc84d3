-- A connection is accepted: it is held, and so is the end that initiated; and the listener lives on.
use Rattle.std.proofs.Common.{◌≡◌, ◌≢◌, ℕ, ◌<◌, ◌^◌, Bool, true, false, not, ◌||◌, ◌&&◌, List, [], ◌∷◌, ◌++◌, length, None, refl, sym, ap, subst, ◌∙◌, arith, if◌then◌else◌}
use Rattle.std.specs.Prelude.{◌==◌}
use Rattle.std.specs.Option.{option_map_or}
use Rattle.std.proofs.lemmas.List.Folds.{list_any-append}
use Rattle.taps_chain.specs.ChainLaws.{AreFramers}
use Rattle.taps_framer.specs.Layers.{Layer}
use Rattle.taps_message.specs.declared.message.Message.{Message}
use Rattle.taps_stack.specs.declared.stack.Stack.{Stack}
use Rattle.taps_stack.specs.declared.target.Target.{Target}
use Rattle.taps_stack.specs.StackTable.{is_stream}
use Rattle.taps_socket.specs.declared.item.Item.{Item}
use Rattle.taps_socket.specs.declared.item.Item.TheVariants as item
use Rattle.taps_socket.specs.RaceSockets.{has, completed, closed}
use Rattle.taps_socket.specs.LiveSockets.{given, live_sockets, named, IsNewSocket}
use Rattle.taps_socket.specs.Sides.{listeners, accepted, shut, ended, failed, target_of, carries_stream, may_accept, is_connected}
use Rattle.taps_socket.proofs.Lists.{both, or_left, or_right, false_by, kept, keeps, absent}
use Rattle.taps_socket.proofs.NamedSockets.{given_named, closed_named, shut_named, ended_named, failed_named}
use Rattle.taps_socket.proofs.Unnamed.{IsAlike, unnamed_by}
use Rattle.taps_connection.specs.declared.sender.Sender.{Sender}
use Rattle.taps_connection.specs.Conditions.{IsHeld}
use Rattle.taps_connection.specs.Encodings.{encoding_of}
use Rattle.taps_connection.specs.Histories.{Represents}
use Rattle.taps_connection.specs.Outboxes.{Outbox, take_turn}
use Rattle.taps_connection.specs.Senders.{settled, queued}
use Rattle.taps_connection.specs.Unread.{Unread, first_unread}
use Rattle.taps_exchange.specs.Accepting.{accepted_of}
use Rattle.taps_exchange.specs.Exchanged.{IsFresh}
use Rattle.taps_exchange.proofs.Exchanging.{fresh_is}
use Rattle.taps_exchange.proofs.Kept.{fits_first}
use Rattle.taps_loop.specs.Loops.{Ends, count_by, sending}
use Rattle.taps_loop.specs.Sends.{HasRest}
use Rattle.taps_loop.specs.Rounds.{AreLoopItems, AreEnds, AreKept}
use Rattle.taps_loop.specs.Looped.{AreEndsOver}
use Rattle.taps_loop.proofs.Own.{same_number, other_number}
use Rattle.taps_loop.proofs.Sendings.{has_bytes, settled_count}
use Rattle.taps_loop.proofs.Closings.{live_closed, live_alike}
use Rattle.taps_loop.proofs.Moving.{live_all}

pub live_named : (t : List Item) (s : ℕ) → has (live_sockets t) s ≡ true → has (named t) s ≡ true
live_named t s h = given_named t s (kept (λ x. not (has (closed t) x)) (given t) s h).1

pub not_new : (x s : ℕ) (t : List Item) → IsNewSocket s t → has (named t) x ≡ true → x ≢ s
not_new x s t new h e = absurd (let less = new x h in omega (arith, less, e))

new_unnamed : (s : ℕ) (t : List Item) → IsNewSocket s t → has (named t) s ≡ false
new_unnamed s t new = false_by (has (named t) s) (λ h. not_new s s t new h refl)

not_false : (b : Bool) → b ≡ false → not b ≡ true
not_false b h = rw h refl

all_of : (a b c d : Bool) → a ≡ true → c ≡ true → d ≡ false → (a && (b || c) && not d) ≡ true
all_of a true c d p q r = rw (p, r) refl
all_of a false c d p q r = rw (p, q, r) refl

-- the accepted socket is connected
pub held_accepted : (l s at : ℕ) (t : List Item) → IsNewSocket s t → carries_stream t l ≡ true → IsHeld (item.Accepted l s at ∷ t) s true false false
held_accepted l s at t new carries =
    let unnamed_it = new_unnamed s t new in
    let none : has (closed t) s ≡ false = absent (has (closed t) s) (has (named t) s) (closed_named t s) unnamed_it in
    let there : has (given t ++ s ∷ []) s ≡ true = rw list_any-append (or_right (has (given t) s) _ (or_left (s == s) false (same_number s))) in
    let live : has (live_sockets (item.Accepted l s at ∷ t)) s ≡ true = keeps (λ x. not (has (closed t) x)) (given t ++ s ∷ []) s (not_false _ none) there in
    let came : has (accepted (item.Accepted l s at ∷ t)) s ≡ true = or_left (s == s) _ (same_number s) in
    let well : has (failed t) s ≡ false = absent (has (failed t) s) (has (named t) s) (failed_named t s) unnamed_it in
    record {
      connected = all_of (has (live_sockets (item.Accepted l s at ∷ t)) s) (has (completed t) s) (has (accepted (item.Accepted l s at ∷ t)) s) (has (failed t) s) live came well;
      carries = ap (λ b. option_map_or (λ (target : Target). is_stream target.stack) (if b then target_of t l else target_of t s) true) (same_number s) ∙ carries;
      shut_by = absent (has (shut t) s) (has (named t) s) (shut_named t s) unnamed_it;
      ended_by = absent (has (ended t) s) (has (named t) s) (ended_named t s) unnamed_it;
    }

-- a held socket that an item does not name is held
connected_alike : (t u : List Item) (s : ℕ) → IsAlike t u s → is_connected t s ≡ true → is_connected u s ≡ true
connected_alike t u s alike h =
    let parts = both (has (live_sockets t) s && (has (completed t) s || has (accepted t) s)) (not (has (failed t) s)) h in
    let first = both (has (live_sockets t) s) (has (completed t) s || has (accepted t) s) parts.0 in
    let live = live_alike t u s alike first.0 in
    ap (λ b. (b && (has (completed u) s || has (accepted u) s)) && not (has (failed u) s)) live
    ∙ (ap (λ b. (true && (b || has (accepted u) s)) && not (has (failed u) s)) alike.completed
    ∙ (ap (λ b. (true && (has (completed t) s || b)) && not (has (failed u) s)) alike.accepted
    ∙ (ap (λ b. (true && b) && not (has (failed u) s)) first.1
    ∙ (ap (λ b. (true && true) && not b) alike.failed ∙ parts.1))))

pub held_alike : (t u : List Item) (s : ℕ) (stream is_shut has_ended : Bool) → IsAlike t u s → IsHeld t s stream is_shut has_ended → IsHeld u s stream is_shut has_ended
held_alike t u s stream is_shut has_ended alike h =
    record {
      connected = connected_alike t u s alike h.connected;
      carries = ap (λ v. option_map_or (λ (target : Target). is_stream target.stack) v true) alike.target ∙ h.carries;
      shut_by = alike.shut ∙ h.shut_by;
      ended_by = alike.ended ∙ h.ended_by;
    }

two_but : (s l x : ℕ) → s ≢ l → s ≢ x → has (l ∷ x ∷ []) s ≡ false
two_but s l x n m = ap (λ b. b || has (x ∷ []) s) (other_number l s n) ∙ ap (λ b. b || false) (other_number x s m)

pub held_behind : (l x at s : ℕ) (t : List Item) (stream is_shut has_ended : Bool) → s ≢ l → s ≢ x → IsHeld t s stream is_shut has_ended → IsHeld (item.Accepted l x at ∷ t) s stream is_shut has_ended
held_behind l x at s t stream is_shut has_ended n m h = held_alike t (item.Accepted l x at ∷ t) s stream is_shut has_ended (unnamed_by (item.Accepted l x at) t s (two_but s l x n m)) h

-- the listener lives on
live_accepted : (l x at : ℕ) (t : List Item) → has (live_sockets t) l ≡ true → has (live_sockets (item.Accepted l x at ∷ t)) l ≡ true
live_accepted l x at t h =
    let was = kept (λ s. not (has (closed t) s)) (given t) l h in
    keeps (λ s. not (has (closed t) s)) (given t ++ x ∷ []) l was.0 (rw list_any-append (or_left (has (given t) l) _ was.1))

pub live_looped : (l from to at : ℕ) (items t : List Item) → l ≢ from → l ≢ to → AreLoopItems from to items → has (live_sockets t) l ≡ true →
    has (live_sockets (item.Closed to ∷ item.Closed from ∷ (items ++ item.Accepted l to at ∷ t))) l ≡ true
live_looped l from to at items t n m own h =
    live_closed to l (item.Closed from ∷ (items ++ item.Accepted l to at ∷ t)) m
    (live_closed from l (items ++ item.Accepted l to at ∷ t) n
    (ap (λ v. has v l) (live_all from to items (item.Accepted l to at ∷ t) own) ∙ live_accepted l to at t h))

pub may_live : (t : List Item) (l : ℕ) → may_accept t l ≡ true → has (live_sockets t) l ≡ true
may_live t l h = (both (has (live_sockets t) l) (has (listeners t) l) h).0

-- some item was added
pub some_items : (t : List Item) (s : ℕ) (stream is_shut has_ended : Bool) → IsHeld t s stream is_shut has_ended → t ≢ []
some_items t s stream is_shut has_ended h e = (let z : is_connected [] s ≡ true = subst (λ v. is_connected v s ≡ true) e h.connected in cc)

-- what is kept of both ends at the beginning
module _ (x : Ends) (from : ℕ) (stack : Stack) (to : ℕ) (accepting : Stack) (fs : List Layer) (messages : List Message) (at piece deadline : ℕ) (over : AreEndsOver x from stack to accepting fs messages at piece deadline) (apart : to ≢ from) where
  pub ends_of : AreEnds x (encoding_of (is_stream stack) fs) from (is_stream accepting) fs to piece deadline
  ends_of =
      record {
        encoding_is = over.encoding_is;
        from_is = over.from_is;
        apart = λ e. apart (sym over.to_is ∙ e);
        fixed = record {
          decoding_is = over.decoding_is;
          socket_is = over.to_is;
          piece_is = over.piece_is;
          deadline_is = over.deadline_is;
          apart = λ e. apart (sym (sym over.from_is ∙ e));
        };
      }

  pub kept_first : (s : Sender) (told : ℕ) (ended : Bool) (u : Unread) → AreFramers fs → IsFresh s → s.moment ≡ at → queued s ≡ accepted_of at messages → told ≡ at → ended ≡ false → u ≡ first_unread accepting piece (length fs) → Represents fs ended u [] [] →
      AreKept x [] (encoding_of (is_stream stack) fs) (is_stream accepting) fs piece s told ended u []
  kept_first s told ended u w fresh moment queue told_is going unread rep =
      let e = encoding_of (is_stream stack) fs in
      let sends : sending x [] ≡ settled e s =
      ap (λ v. take_turn v x.from.accepted 0 None x.from.messages) over.encoding_is
      ∙ (ap (λ v. take_turn e v 0 None x.from.messages) (over.accepted_is ∙ sym moment)
      ∙ (ap (λ v. take_turn e s.moment 0 None v) (over.messages_is ∙ sym queue) ∙ sym (fresh_is e s fresh))) in
      let none_sent : s.sent < 2 ^ 64 = (let z = fresh.sent in omega (arith, z)) in
      let rest : HasRest s.begun = subst HasRest (sym fresh.begun) tt in
      record {
        in_turn = tt;
        sends = sends;
        sent_is = ap (λ (v : Outbox). count_by v.stand v.sent) sends ∙ settled_count e (has_bytes (is_stream stack) fs w) s none_sent rest;
        hears = record {
          ended_is = going;
          receiving = record { fits = fits_first accepting fs piece u unread; represents = rep };
        };
        told_is = told_is ∙ sym over.accepted_is;
      }
