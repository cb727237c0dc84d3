-- What a trace tells of its sockets that goes on with another one.
use Rattle.std.proofs.Common.{◌≡◌, ℕ, Bool, true, false, not, List, [], ◌∷◌, ◌++◌, refl, ap, sym, ◌∙◌, append-nil, append_assoc}
use Rattle.std.proofs.lemmas.Bool.{not-true}
use Rattle.std.proofs.lemmas.List.Folds.{list_any-append}
use Rattle.taps_socket.specs.declared.item.How.TheVariants as how
use Rattle.taps_socket.specs.declared.item.Item.{Item}
use Rattle.taps_socket.specs.declared.item.Item.TheVariants as item
use Rattle.taps_socket.specs.RaceTrace.{IsRaceTrace}
use Rattle.taps_socket.specs.RaceSockets.{has, started, completed, broke, closed, open_sockets}
use Rattle.taps_socket.specs.LiveSockets.{given, live_sockets, named, named_by}
use Rattle.taps_socket.proofs.NamedSockets.{closed_named}
use Rattle.taps_socket.proofs.Lists.{or_left, or_right, kept, keeps, false_by}
use Rattle.taps_racer.proofs.Races.{open_parts, of_open}

-- each list is that of the one and of the other
pub started-append : (r b : List Item) → started (r ++ b) ≡ started b ++ started r
started-append [] b = sym (append-nil (started b))
started-append (item.Started leaf target s at ∷ r) b = ap (λ xs. xs ++ s ∷ []) (started-append r b) ∙ append_assoc (started b) (started r) (s ∷ [])
started-append (i ∷ r) b = started-append r b

pub given-append : (r b : List Item) → given (r ++ b) ≡ given b ++ given r
given-append [] b = sym (append-nil (given b))
given-append (item.Started leaf target s at ∷ r) b = ap (λ xs. xs ++ s ∷ []) (given-append r b) ∙ append_assoc (given b) (given r) (s ∷ [])
given-append (item.Listening target s at ∷ r) b = ap (λ xs. xs ++ s ∷ []) (given-append r b) ∙ append_assoc (given b) (given r) (s ∷ [])
given-append (item.Accepted l s at ∷ r) b = ap (λ xs. xs ++ s ∷ []) (given-append r b) ∙ append_assoc (given b) (given r) (s ∷ [])
given-append (i ∷ r) b = given-append r b

pub completed-append : (r b : List Item) → completed (r ++ b) ≡ completed r ++ completed b
completed-append [] b = refl
completed-append (item.Waited until at (how.Completed s) ∷ r) b = ap (λ xs. s ∷ xs) (completed-append r b)
completed-append (i ∷ r) b = completed-append r b

pub broke-append : (r b : List Item) → broke (r ++ b) ≡ broke r ++ broke b
broke-append [] b = refl
broke-append (item.Waited until at (how.Broke s cause) ∷ r) b = ap (λ xs. s ∷ xs) (broke-append r b)
broke-append (i ∷ r) b = broke-append r b

pub closed-append : (r b : List Item) → closed (r ++ b) ≡ closed r ++ closed b
closed-append [] b = refl
closed-append (item.Closed s ∷ r) b = ap (λ xs. s ∷ xs) (closed-append r b)
closed-append (i ∷ r) b = closed-append r b

one_named : (i : Item) (r b : List Item) → named (r ++ b) ≡ named r ++ named b → named (i ∷ (r ++ b)) ≡ named (i ∷ r) ++ named b
one_named i r b e = ap (λ xs. named_by i ++ xs) e ∙ append_more (named_by i) (named r) (named b)
  where
    append_more : (a b c : List ℕ) → a ++ (b ++ c) ≡ (a ++ b) ++ c
    append_more [] b c = refl
    append_more (x ∷ a) b c = ap (λ xs. x ∷ xs) (append_more a b c)

pub named-append : (r b : List Item) → named (r ++ b) ≡ named r ++ named b
named-append [] b = refl
named-append (i ∷ r) b = one_named i r b (named-append r b)

-- in a race the sockets that were given are those that were started
pub given_in_race : (t : List Item) → IsRaceTrace t → given t ≡ started t
given_in_race [] h = refl
given_in_race (item.Began at ∷ r) h = rw h refl
given_in_race (item.Started leaf target s at ∷ r) h = ap (λ xs. xs ++ s ∷ []) (given_in_race r h)
given_in_race (item.Refused leaf target cause at ∷ r) h = given_in_race r h
given_in_race (item.Waited until at how ∷ r) h = given_in_race r h
given_in_race (item.Closed s ∷ r) h = given_in_race r h
given_in_race (i ∷ r) h = absurd h

-- a socket that a list does not have is had by no part of it
pub not_in : (xs ys : List ℕ) (s : ℕ) → has (xs ++ ys) s ≡ false → (has xs s ≡ false) × (has ys s ≡ false)
not_in xs ys s h = (
  false_by _ (λ e. (let w : has (xs ++ ys) s ≡ true = rw list_any-append (or_left _ _ e) in cc)),
  false_by _ (λ e. (let w : has (xs ++ ys) s ≡ true = rw list_any-append (or_right (has xs s) _ e) in cc)),
)

pub neither_in : (xs ys : List ℕ) (s : ℕ) → has xs s ≡ false → has ys s ≡ false → has (xs ++ ys) s ≡ false
neither_in xs ys s x y = rw (list_any-append, x, y) refl

-- a socket of a race that was not named before is live where it is open in the race
pub opens_live : (t b : List Item) (s : ℕ) → IsRaceTrace t → has (named b) s ≡ false → has (open_sockets t) s ≡ true → has (live_sockets (t ++ b)) s ≡ true
opens_live t b s race new h =
    let p = open_parts t s h in
    let theirs : has (closed b) s ≡ false = false_by _ (λ e. (let z : has (named b) s ≡ true = closed_named b s e in cc)) in
    let there : has (given t) s ≡ true = rw (given_in_race t race) p.1 in
    keeps (λ s. not (has (closed (t ++ b)) s)) (given (t ++ b)) s (rw (closed-append, neither_in (closed t) (closed b) s (not-true _ p.0) theirs) refl) (rw (given-append, list_any-append) (or_right (has (given b) s) _ there))

pub live_opens : (t b : List Item) (s : ℕ) → has (started t) s ≡ true → has (live_sockets (t ++ b)) s ≡ true → has (open_sockets t) s ≡ true
live_opens t b s own h =
    let k = kept (λ s. not (has (closed (t ++ b)) s)) (given (t ++ b)) s h in
    let c = not_in (closed t) (closed b) s (rw closed-append at (not-true _ k.0)) in
    of_open t s (rw c.0 refl) own

pub same_bool : (p q : Bool) → (p ≡ true → q ≡ true) → (q ≡ true → p ≡ true) → p ≡ q
same_bool true q f g = sym (f refl)
same_bool false true f g = g refl
same_bool false false f g = refl
