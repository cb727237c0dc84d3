-- What calls on one socket leave of the others.
use Rattle.std.proofs.Common.{◌≡◌, ℕ, Bool, true, false, not, ◌&&◌, ◌||◌, List, [], ◌∷◌, ◌++◌, Option, refl, sym, ◌∙◌, ap, subst}
use Rattle.std.specs.Prelude.{◌≢◌, ◌==◌}
use Rattle.std.specs.Option.{option_map_or}
use Rattle.std.proofs.lemmas.Bool.{eqb-true}
use Rattle.taps_framer.specs.declared.framer.Framer as framer
use Rattle.taps_stack.specs.StackTable.{is_stream}
use Rattle.taps_socket.specs.declared.item.Item.{Item}
use Rattle.taps_socket.specs.declared.item.Item.TheVariants as item
use Rattle.taps_socket.specs.declared.timed_call.TimedCall.{TimedCall}
use Rattle.taps_socket.specs.RaceSockets.{has, closed, completed}
use Rattle.taps_socket.specs.LiveSockets.{given, live_sockets, named}
use Rattle.taps_socket.specs.Sides.{accepted, failed}
use Rattle.taps_socket.specs.Net.{Net, with_spare, with_item}
use Rattle.taps_socket.proofs.Lists.{both, false_by, kept, keeps}
use Rattle.taps_socket.proofs.Unnamed.{unnamed}
use Rattle.taps_connection.specs.declared.connection.Connection.{Connection}
use Rattle.taps_connection.specs.declared.pulled.Pulled.{Pulled}
use Rattle.taps_connection.specs.declared.pulled.Pulled.TheVariants as pulled
use Rattle.taps_connection.specs.declared.sender.Pushed.{Pushed}
use Rattle.taps_connection.specs.declared.sender.Pushed.TheVariants as pushed
use Rattle.taps_connection.specs.Adds.{Adds}
use Rattle.taps_connection.specs.Conditions.{IsHeld}
use Rattle.taps_connection.specs.Inboxes.{pulled_items}
use Rattle.taps_connection.specs.Senders.{pushed_items}
use Rattle.taps_memory_rows.specs.Ends.{IsUsable, AreUsable, LeavesOthers}

not_it : (x s : ℕ) → s ≢ x → (x == s) ≡ false
not_it x s apart = false_by (x == s) (λ is. apart (sym (eqb-true x s is)))

none_of_one : (x s : ℕ) → s ≢ x → ((x == s) || false) ≡ false
none_of_one x s apart = rw (not_it x s apart) refl

-- the items of a send and of a receive name no other socket
pushed_named : (socket : ℕ) (shut : Bool) (a : Pushed) (s : ℕ) → s ≢ socket → has (named (pushed_items socket shut a)) s ≡ false
pushed_named socket true (pushed.Sent number) s apart = none_of_one socket s apart
pushed_named socket false (pushed.Sent number) s apart = refl
pushed_named socket shut pushed.Empty s apart = refl
pushed_named socket shut (pushed.Expired number) s apart = refl
pushed_named socket shut (pushed.Timed at) s apart = refl
pushed_named socket shut (pushed.Failed cause) s apart = none_of_one socket s apart
pushed_named socket shut (pushed.NotSpeakable number layer) s apart = refl
pushed_named socket shut pushed.NoMemory s apart = refl

pulled_named : (socket : ℕ) (a : Pulled) (s : ℕ) → s ≢ socket → has (named (pulled_items socket a)) s ≡ false
pulled_named socket pulled.Got s apart = refl
pulled_named socket pulled.Ended s apart = none_of_one socket s apart
pulled_named socket (pulled.Timed at) s apart = refl
pulled_named socket (pulled.Failed cause) s apart = none_of_one socket s apart
pulled_named socket pulled.NoMemory s apart = refl

-- items that do not name a socket leave it live and held
live_along : (r t : List Item) (s : ℕ) → has (named r) s ≡ false → has (live_sockets t) s ≡ true → has (live_sockets (r ++ t)) s ≡ true
live_along r t s unnamed_in h =
    let was = kept (λ v. not (has (closed t) v)) (given t) s h in
    let alike = unnamed r t s unnamed_in in
    keeps (λ v. not (has (closed (r ++ t)) v)) (given (r ++ t)) s (ap not alike.closed ∙ was.0) (alike.given ∙ was.1)

connected_by : (live live' done done' gave gave' broke broke' : Bool) → live' ≡ true → done' ≡ done → gave' ≡ gave → broke' ≡ broke → ((live && (done || gave)) && not broke) ≡ true → ((live' && (done' || gave')) && not broke') ≡ true
connected_by true live' done done' gave gave' broke broke' l d g b h = rw (l, d, g, b) h
connected_by false live' done done' gave gave' broke broke' l d g b h = absurd (cc)

held_along : (r t : List Item) (s : ℕ) (stream is_shut has_ended : Bool) → has (named r) s ≡ false → IsHeld t s stream is_shut has_ended → IsHeld (r ++ t) s stream is_shut has_ended
held_along r t s stream is_shut has_ended unnamed_in h =
    let alike = unnamed r t s unnamed_in in
    let live : has (live_sockets t) s ≡ true = (both (has (live_sockets t) s) (has (completed t) s || has (accepted t) s) (both (has (live_sockets t) s && (has (completed t) s || has (accepted t) s)) (not (has (failed t) s)) h.connected).0).0 in
    record {
      connected = connected_by (has (live_sockets t) s) (has (live_sockets (r ++ t)) s) (has (completed t) s) (has (completed (r ++ t)) s) (has (accepted t) s) (has (accepted (r ++ t)) s) (has (failed t) s) (has (failed (r ++ t)) s)
          (live_along r t s unnamed_in live) alike.completed alike.accepted alike.failed h.connected;
      carries = ap (λ o. option_map_or (λ target. is_stream target.stack) o true) alike.target ∙ h.carries;
      shut_by = alike.shut ∙ h.shut_by;
      ended_by = alike.ended ∙ h.ended_by;
    }

leaves : (socket : ℕ) (items : List Item) (call : Option TimedCall) (before mid after : Net) → mid ≡ with_spare before mid.spare → ((s : ℕ) → s ≢ socket → has (named items) s ≡ false) → Adds socket items call mid after → LeavesOthers socket before after
leaves socket items call before mid after same only adds =
    let trace : after.trace ≡ items ++ before.trace = adds.trace ∙ ap (λ (net : Net). items ++ net.trace) same in
    record {
      held = λ s stream is_shut has_ended apart h. subst (λ t. IsHeld t s stream is_shut has_ended) (sym trace) (held_along items before.trace s stream is_shut has_ended (only s apart) h);
      traffic = λ s apart. adds.others s apart ∙ ap (λ (net : Net). net.traffic s) same;
    }

pub push_leaves : (socket : ℕ) (shut : Bool) (a : Pushed) (call : Option TimedCall) (before mid after : Net) → mid ≡ with_spare before mid.spare → Adds socket (pushed_items socket shut a) call mid after → LeavesOthers socket before after
push_leaves socket shut a call before mid after same adds = leaves socket (pushed_items socket shut a) call before mid after same (pushed_named socket shut a) adds

pub pull_leaves : (socket : ℕ) (a : Pulled) (call : Option TimedCall) (before mid after : Net) → mid ≡ with_spare before mid.spare → Adds socket (pulled_items socket a) call mid after → LeavesOthers socket before after
pull_leaves socket a call before mid after same adds = leaves socket (pulled_items socket a) call before mid after same (pulled_named socket a) adds

pub close_leaves : (socket : ℕ) (before mid after : Net) → mid ≡ with_spare before mid.spare → after ≡ with_item mid (item.Closed socket) mid.told → LeavesOthers socket before after
close_leaves socket before mid after same closes =
    let trace : after.trace ≡ item.Closed socket ∷ before.trace = ap (λ (net : Net). net.trace) closes ∙ ap (λ (net : Net). item.Closed socket ∷ net.trace) same in
    record {
      held = λ s stream is_shut has_ended apart h. subst (λ t. IsHeld t s stream is_shut has_ended) (sym trace) (held_along (item.Closed socket ∷ []) before.trace s stream is_shut has_ended (none_of_one socket s apart) h);
      traffic = λ s apart. ap (λ (net : Net). net.traffic s) closes ∙ ap (λ (net : Net). net.traffic s) same;
    }

-- where nothing changed, nothing did for the others
pub same_leaves : (socket : ℕ) (net : Net) → LeavesOthers socket net net
same_leaves socket net = record { held = λ s stream is_shut has_ended apart h. h; traffic = λ s apart. refl }

-- an end on whose socket nothing was done is usable still
pub still_usable : {X : Type 0} {F : X → Type 0} {S : Type 0} (boxed : (x : X) → framer.Ghosts (F x)) (c : Connection S X F) (socket : ℕ) (before after : Net) → c.socket ≢ socket → LeavesOthers socket before after → IsUsable boxed c before → IsUsable boxed c after
still_usable boxed c socket before after apart leaves h = record {
  sending = h.sending;
  receiving = h.receiving;
  held = leaves.held c.socket (is_stream c.stack) c.sender.shut c.receiver.ended apart h.held;
  room = rw (leaves.traffic c.socket apart) h.room;
}

-- calls on one of two ends leave both usable
pub first_moved : {X : Type 0} {F : X → Type 0} {S : Type 0} (boxed : (x : X) → framer.Ghosts (F x)) (c c' d : Connection S X F) (before after : Net) → AreUsable boxed c d before → c'.socket ≡ c.socket → IsUsable boxed c' after → LeavesOthers c.socket before after → AreUsable boxed c' d after
first_moved boxed c c' d before after h same usable leaves = record {
  apart = λ e. h.apart (e ∙ same);
  one = usable;
  other = still_usable boxed d c.socket before after h.apart leaves h.other;
}

pub second_moved : {X : Type 0} {F : X → Type 0} {S : Type 0} (boxed : (x : X) → framer.Ghosts (F x)) (c d d' : Connection S X F) (before after : Net) → AreUsable boxed c d before → d'.socket ≡ d.socket → IsUsable boxed d' after → LeavesOthers d.socket before after → AreUsable boxed c d' after
second_moved boxed c d d' before after h same usable leaves = record {
  apart = λ e. h.apart (sym same ∙ e);
  one = still_usable boxed c d.socket before after (λ e. h.apart (sym e)) leaves h.one;
  other = usable;
}

-- after calls on the one the other is usable, and can be closed
pub other_usable : {X : Type 0} {F : X → Type 0} {S : Type 0} (boxed : (x : X) → framer.Ghosts (F x)) (c d : Connection S X F) (before after : Net) → AreUsable boxed c d before → LeavesOthers c.socket before after → IsUsable boxed d after
other_usable boxed c d before after h leaves = still_usable boxed d c.socket before after h.apart leaves h.other

pub other_live : {X : Type 0} {F : X → Type 0} {S : Type 0} (boxed : (x : X) → framer.Ghosts (F x)) (c d : Connection S X F) (before after : Net) → AreUsable boxed c d before → LeavesOthers c.socket before after → has (live_sockets after.trace) d.socket ≡ true
other_live boxed c d before after h leaves =
    let held : IsHeld after.trace d.socket (is_stream d.stack) d.sender.shut d.receiver.ended = (other_usable boxed c d before after h leaves).held in
    (both (has (live_sockets after.trace) d.socket) (has (completed after.trace) d.socket || has (accepted after.trace) d.socket) (both (has (live_sockets after.trace) d.socket && (has (completed after.trace) d.socket || has (accepted after.trace) d.socket)) (not (has (failed after.trace) d.socket)) held.connected).0).0

pub swapped : {X : Type 0} {F : X → Type 0} {S : Type 0} (boxed : (x : X) → framer.Ghosts (F x)) (c d : Connection S X F) (net : Net) → AreUsable boxed c d net → AreUsable boxed d c net
swapped boxed c d net h = record { apart = λ e. h.apart (sym e); one = h.other; other = h.one }
