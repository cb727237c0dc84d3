-- The accept and the exchange of both ends, and what is closed where memory runs out before them.
use Rattle.std.proofs.Common.{◌≡◌, ◌≢◌, ◌||◌, ℕ, Bool, true, false, List, [], ◌∷◌, Result, Ok, Err, refl, sym, ◌∙◌, ap, subst, inl, inr, not}
use Rattle.std.specs.Prelude.{◌==◌}
use Rattle.std.proofs.lemmas.Bool.{eqb-true}
use Rattle.taps_base.specs.declared.no_memory.NoMemory.{NoMemory}
use Rattle.taps_framer.specs.Layers.{Layer}
use Rattle.taps_message.specs.declared.message.Message.{Message}
use Rattle.taps_stack.specs.declared.stack.Stack.{Stack}
use Rattle.taps_stack.specs.declared.target.Target.{Target}
use Rattle.taps_socket.specs.declared.item.Item.{Item}
use Rattle.taps_socket.specs.declared.item.Item.TheVariants as item
use Rattle.taps_socket.specs.Calls.{Call, closes}
use Rattle.taps_socket.specs.LiveSockets.{given, live_sockets}
use Rattle.taps_socket.specs.Net.{Net, with_item}
use Rattle.taps_socket.specs.RaceSockets.{has, closed}
use Rattle.taps_socket.specs.Sides.{may_accept, listeners}
use Rattle.taps_socket.proofs.Lists.{both, kept, keeps}
use Rattle.taps_connection.specs.Listeners.{HasStopped}
use Rattle.taps_loop.specs.Looped.{HasLooped, deadline_by, ends_over}
use Rattle.taps_loop.specs.declared.looped.Looped.{Looped}
use Rattle.taps_command.specs.Places.{chain_of}
use Rattle.taps_command.specs.Ready.{Ready}
use Rattle.taps_session.specs.FileMessages.{messages_on}
use Rattle.taps_session.specs.LoopParts.{LoopsWith}
use Rattle.taps_session.specs.Loops.{ends_on}
use Rattle.taps_session.proofs.Closes.{not_closed}
use Rattle.taps_session.proofs.Ending.{AppendLaw}

apart : (x s : ℕ) (q : Bool) → (x == s) ≡ q → x ≢ s → q ≡ false
apart x s true e other = absurd (other (eqb-true x s e))
apart x s false e other = refl

neither : (p q : Bool) → p ≡ false → q ≡ false → not (p || q) ≡ true
neither p q e f = rw (e, f) refl

-- a listener is live behind the close of another socket
live_still : (t : List Item) (socket listener : ℕ) → socket ≢ listener → may_accept t listener ≡ true → has (live_sockets (item.Closed socket ∷ t)) listener ≡ true
live_still t socket listener other may =
    let live : has (live_sockets t) listener ≡ true = (both (has (live_sockets t) listener) (has (listeners t) listener) may).0 in
    keeps (λ s. not (has (socket ∷ closed t) s)) (given t) listener
    (neither (socket == listener) (has (closed t) listener) (apart socket listener (socket == listener) refl other) (not_closed t listener live))
    (kept (λ s. not (has (closed t) s)) (given t) listener live).1

pub live_behind : (n n' : Net) (socket listener told : ℕ) → socket ≢ listener → may_accept n.trace listener ≡ true → n' ≡ with_item n (item.Closed socket) told → has (live_sockets n'.trace) listener ≡ true
live_behind n n' socket listener told other may changed =
    subst (λ (v : Net). has (live_sockets v.trace) listener ≡ true) (sym changed) (live_still n.trace socket listener other may)

looped_as : {N : Type 0} (Becomes : N → List Call → N → Type 0) (before after : N) (net net' : Net) (target : Target) (stack : Stack) (listener socket until piece patience : ℕ) (r : Result Looped NoMemory) (fs fs' : List Layer) (ms ms' : List Message)
    → fs ≡ fs' → ms ≡ ms' → HasLooped Becomes (λ to since. ends_over socket stack to target.stack fs ms since piece patience) listener socket until before after net net' r
    → HasLooped Becomes (λ to since. ends_over socket stack to target.stack fs' ms' since piece patience) listener socket until before after net net' r
looped_as Becomes before after net net' target stack listener socket until piece patience r fs fs' ms ms' e f h =
    subst (λ v. HasLooped Becomes (λ to since. ends_over socket stack to target.stack fs' v since piece patience) listener socket until before after net net' r) f
    (subst (λ v. HasLooped Becomes (λ to since. ends_over socket stack to target.stack v ms since piece patience) listener socket until before after net net' r) e h)

loops_by : {N : Type 0} (Becomes : N → List Call → N → Type 0) (before after : N) (net net' : Net) (shelf : List Layer) (ready : Ready) (target : Target) (listener : ℕ) (stack : Stack) (socket : ℕ) (r : Result Looped NoMemory)
    → HasLooped Becomes (ends_on shelf ready target stack socket) listener socket (deadline_by net.told ready.pre.exchange.deadline_ms) before after net net' r
    → LoopsWith Becomes before after net net' shelf ready target listener stack socket r
loops_by Becomes before after net net' shelf ready target listener stack socket (Ok l) h = h
loops_by Becomes before after net net' shelf ready target listener stack socket (Err none) h = inl h

pub loops_with : {N : Type 0} (Becomes : N → List Call → N → Type 0) (before after : N) (net net' : Net) (shelf : List Layer) (ready : Ready) (target : Target) (listener : ℕ) (stack : Stack) (socket : ℕ) (r : Result Looped NoMemory) (fs : List Layer) (ms : List Message) (piece patience : ℕ)
    → fs ≡ chain_of shelf ready.places → ms ≡ messages_on ready.pre stack 0 → piece ≡ ready.pre.exchange.piece → patience ≡ ready.pre.exchange.deadline_ms
    → HasLooped Becomes (λ to since. ends_over socket stack to target.stack fs ms since piece patience) listener socket (deadline_by net.told patience) before after net net' r
    → LoopsWith Becomes before after net net' shelf ready target listener stack socket r
loops_with Becomes before after net net' shelf ready target listener stack socket r fs ms piece patience e f p q h =
    let own = looped_as Becomes before after net net' target stack listener socket (deadline_by net.told patience) piece patience r fs (chain_of shelf ready.places) ms (messages_on ready.pre stack 0) e f h in
    let pieces = subst (λ v. HasLooped Becomes (λ to since. ends_over socket stack to target.stack (chain_of shelf ready.places) (messages_on ready.pre stack 0) since v patience) listener socket (deadline_by net.told patience) before after net net' r) p own in
    loops_by Becomes before after net net' shelf ready target listener stack socket r
    (subst (λ v. HasLooped Becomes (λ to since. ends_over socket stack to target.stack (chain_of shelf ready.places) (messages_on ready.pre stack 0) since ready.pre.exchange.piece v) listener socket (deadline_by net.told v) before after net net' r) q pieces)

-- memory ran out before the accept
pub dropped_at : {N : Type 0} (Becomes : N → List Call → N → Type 0) (before between after : N) (net net1 net' : Net) (shelf : List Layer) (ready : Ready) (target : Target) (listener : ℕ) (stack : Stack) (socket told : ℕ) (none : NoMemory)
    → AppendLaw Becomes → net1 ≡ with_item net (item.Closed socket) told → Becomes before (closes socket ∷ []) between → HasStopped Becomes between after net1 net' listener
    → LoopsWith Becomes before after net net' shelf ready target listener stack socket (Err none)
dropped_at Becomes before between after net net1 net' shelf ready target listener stack socket told none on changed becomes stop =
    inr (record {
      becomes = on before between after (closes socket ∷ []) (closes listener ∷ []) becomes stop.becomes;
      trace = ap (λ (v : Net). v.trace) stop.changed ∙ ap (λ (v : Net). item.Closed listener ∷ v.trace) changed;
    })
