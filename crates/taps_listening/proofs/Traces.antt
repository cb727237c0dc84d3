-- A listening socket listens on behind items that are not its own; and a socket that it gives is connected.
use Rattle.std.proofs.Common.{◌≡◌, ◌≢◌, ℕ, Bool, true, false, not, ◌&&◌, ◌||◌, List, [], ◌∷◌, ◌++◌, Option, Some, refl, ap, sym, ◌∙◌, arith, if◌then◌else◌}
use Rattle.std.specs.Prelude.{◌==◌}
use Rattle.std.specs.Option.{option_map_or}
use Rattle.std.proofs.lemmas.Bool.{eqb-true, eq-eqb}
use Rattle.std.proofs.lemmas.List.Folds.{list_any-append}
use Rattle.taps_stack.specs.declared.target.Target.{Target}
use Rattle.taps_stack.specs.StackTable.{is_stream}
use Rattle.taps_socket.specs.declared.item.Item.{Item}
use Rattle.taps_socket.specs.declared.item.Item.TheVariants as item
use Rattle.taps_socket.specs.RaceSockets.{has, completed, closed}
use Rattle.taps_socket.specs.LiveSockets.{given, live_sockets, named, named_by, IsNewSocket}
use Rattle.taps_socket.specs.Sides.{listeners, accepted, shut, ended, failed, target_of}
use Rattle.taps_socket.proofs.Lists.{both, or_left, or_right, false_by, kept, keeps, absent}
use Rattle.taps_socket.proofs.NamedSockets.{closed_named, shut_named, ended_named, failed_named}
use Rattle.taps_socket.proofs.Unnamed.{IsAlike, unnamed_by, unnamed}
use Rattle.taps_connection.specs.Conditions.{IsHeld}
use Rattle.taps_listening.specs.Accepts.{IsListening}
use Rattle.taps_listening.specs.Served.{AreServingItems}

pub named_more : (items t : List Item) (s : ℕ) → has (named t) s ≡ true → has (named (items ++ t)) s ≡ true
named_more [] t s h = h
named_more (i ∷ items) t s h = rw list_any-append (or_right (has (named_by i) s) _ (named_more items t s h))

pub not_new : (x s : ℕ) (t : List Item) → IsNewSocket s t → has (named t) x ≡ true → x ≢ s
not_new x s t new h e = absurd (let less = new x h in omega (arith, less, e))

new_unnamed : (s : ℕ) (t : List Item) → IsNewSocket s t → has (named t) s ≡ false
new_unnamed s t new = false_by (has (named t) s) (λ h. not_new s s t new h refl)

same_socket : (s : ℕ) → (s == s) ≡ true
same_socket s = eq-eqb s s refl

other_socket : (a b : ℕ) → a ≢ b → (a == b) ≡ false
other_socket a b ne = false_by (a == b) (λ h. ne (eqb-true a b h))

not_false : (b : Bool) → b ≡ false → not b ≡ true
not_false b h = rw h refl

-- where a socket is alike it listens on
pub listens_alike : (t t' : List Item) (l : ℕ) → IsAlike t t' l → has (named t') l ≡ true → IsListening t l → IsListening t' l
listens_alike t t' l alike name h =
    let may = both (has (live_sockets t) l) (has (listeners t) l) h.may in
    let was = kept (λ s. not (has (closed t) s)) (given t) l may.0 in
    let live : has (live_sockets t') l ≡ true = keeps (λ s. not (has (closed t') s)) (given t') l (ap not alike.closed ∙ was.0) (alike.given ∙ was.1) in
    let on : has (listeners t') l ≡ true = alike.listens ∙ may.1 in
    record {
      may = rw (live, on) refl;
      carries = ap (λ v. option_map_or (λ (target : Target). is_stream target.stack) v true) alike.target ∙ h.carries;
      is_named = name;
    }

-- behind an item that does not name it
pub listens_behind : (i : Item) (t : List Item) (l : ℕ) → has (named_by i) l ≡ false → IsListening t l → IsListening (i ∷ t) l
listens_behind i t l h was = listens_alike t (i ∷ t) l (unnamed_by i t l h) (named_more (i ∷ []) t l was.is_named) was

-- behind the items of a connection
serving_unnamed : (socket l : ℕ) (items : List Item) → l ≢ socket → AreServingItems socket items → has (named items) l ≡ false
serving_unnamed socket l [] ne own = refl
serving_unnamed socket l (item.Began at ∷ items) ne own = serving_unnamed socket l items ne own.1
serving_unnamed socket l (item.Shut x ∷ items) ne own = rw (other_socket x l (λ e. ne (sym e ∙ own.0))) (serving_unnamed socket l items ne own.1)
serving_unnamed socket l (item.Ended x ∷ items) ne own = rw (other_socket x l (λ e. ne (sym e ∙ own.0))) (serving_unnamed socket l items ne own.1)
serving_unnamed socket l (item.DataFailed x sending cause ∷ items) ne own = rw (other_socket x l (λ e. ne (sym e ∙ own.0))) (serving_unnamed socket l items ne own.1)
serving_unnamed socket l (i ∷ items) ne own = absurd own.0

pub listens_served : (socket l : ℕ) (items t : List Item) → l ≢ socket → AreServingItems socket items → IsListening t l → IsListening (items ++ t) l
listens_served socket l items t ne own was =
    listens_alike t (items ++ t) l (unnamed items t l (serving_unnamed socket l items ne own)) (named_more items t l was.is_named) was

pub listens_closed : (socket l : ℕ) (t : List Item) → l ≢ socket → IsListening t l → IsListening (item.Closed socket ∷ t) l
listens_closed socket l t ne was = listens_behind (item.Closed socket) t l (rw (other_socket socket l (λ e. ne (sym e))) refl) was

same_either : (b : Bool) (x : Option Target) → (if b then x else x) ≡ x
same_either true x = refl
same_either false x = refl

-- behind a connection that it gave
pub listens_accepted : (l s at : ℕ) (t : List Item) → IsListening t l → IsListening (item.Accepted l s at ∷ t) l
listens_accepted l s at t h =
    let may = both (has (live_sockets t) l) (has (listeners t) l) h.may in
    let was = kept (λ x. not (has (closed t) x)) (given t) l may.0 in
    let there : has (given t ++ s ∷ []) l ≡ true = rw list_any-append (or_left (has (given t) l) _ was.1) in
    let live : has (live_sockets (item.Accepted l s at ∷ t)) l ≡ true = keeps (λ x. not (has (closed t) x)) (given t ++ s ∷ []) l was.0 there in
    record {
      may = rw (live, may.1) refl;
      carries = ap (λ v. option_map_or (λ (target : Target). is_stream target.stack) v true) (same_either (s == l) (target_of t l)) ∙ h.carries;
      is_named = or_left (l == l) _ (same_socket l);
    }

-- a new socket listens
pub listens_new : (target : Target) (s at : ℕ) (t : List Item) → is_stream target.stack ≡ true → IsNewSocket s t → IsListening (item.Listening target s at ∷ t) s
listens_new target s at t stream new =
    let none : has (closed t) s ≡ false = absent (has (closed t) s) (has (named t) s) (closed_named t s) (new_unnamed s t new) in
    let there : has (given t ++ s ∷ []) s ≡ true = rw list_any-append (or_right (has (given t) s) _ (or_left (s == s) false (same_socket s))) in
    let live : has (live_sockets (item.Listening target s at ∷ t)) s ≡ true = keeps (λ x. not (has (closed t) x)) (given t ++ s ∷ []) s (not_false _ none) there in
    let on : has (listeners (item.Listening target s at ∷ t)) s ≡ true = or_left (s == s) _ (same_socket s) in
    record {
      may = rw (live, on) refl;
      carries = ap (λ b. option_map_or (λ (target : Target). is_stream target.stack) (if b then Some target else target_of t s) true) (same_socket s) ∙ stream;
      is_named = or_left (s == s) _ (same_socket s);
    }

all_of : (a b c d : Bool) → a ≡ true → c ≡ true → d ≡ false → (a && (b || c) && not d) ≡ true
all_of a true c d p q r = rw (p, r) refl
all_of a false c d p q r = rw (p, q, r) refl

-- a new socket that it gave is connected
pub held_accepted : (l s at : ℕ) (t : List Item) → IsNewSocket s t → IsListening t l → IsHeld (item.Accepted l s at ∷ t) s true false false
held_accepted l s at t new h =
    let unnamed_it = new_unnamed s t new in
    let none : has (closed t) s ≡ false = absent (has (closed t) s) (has (named t) s) (closed_named t s) unnamed_it in
    let there : has (given t ++ s ∷ []) s ≡ true = rw list_any-append (or_right (has (given t) s) _ (or_left (s == s) false (same_socket s))) in
    let live : has (live_sockets (item.Accepted l s at ∷ t)) s ≡ true = keeps (λ x. not (has (closed t) x)) (given t ++ s ∷ []) s (not_false _ none) there in
    let came : has (accepted (item.Accepted l s at ∷ t)) s ≡ true = or_left (s == s) _ (same_socket s) in
    let well : has (failed t) s ≡ false = absent (has (failed t) s) (has (named t) s) (failed_named t s) unnamed_it in
    record {
      connected = all_of (has (live_sockets (item.Accepted l s at ∷ t)) s) (has (completed t) s) (has (accepted (item.Accepted l s at ∷ t)) s) (has (failed t) s) live came well;
      carries = ap (λ b. option_map_or (λ (target : Target). is_stream target.stack) (if b then target_of t l else target_of t s) true) (same_socket s) ∙ h.carries;
      shut_by = absent (has (shut t) s) (has (named t) s) (shut_named t s) unnamed_it;
      ended_by = absent (has (ended t) s) (has (named t) s) (ended_named t s) unnamed_it;
    }
