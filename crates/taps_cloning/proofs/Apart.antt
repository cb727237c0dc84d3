-- Sockets that lawful calls close at the end are apart.
use Rattle.std.proofs.Common.{◌≡◌, ℕ, Bool, true, false, not, ◌||◌, List, [], ◌∷◌, ◌++◌, refl, sym, ◌∙◌, subst, append_assoc}
use Rattle.std.specs.Prelude.{◌==◌}
use Rattle.std.specs.List.{All}
use Rattle.std.proofs.lemmas.Bool.{eqb-true}
use Rattle.std.proofs.lemmas.List.Elements.{All-nil, All-cons, All-head, All-tail}
use Rattle.taps_socket.specs.declared.item.Item.{Item}
use Rattle.taps_socket.specs.declared.item.Item.TheVariants as item
use Rattle.taps_socket.specs.Calls.{Call, closes, items_of}
use Rattle.taps_socket.specs.LiveSockets.{live_sockets, given}
use Rattle.taps_socket.specs.RaceSockets.{has, closed}
use Rattle.taps_socket.specs.Shows.{AreLawful}
use Rattle.taps_socket.proofs.Lists.{kept, keeps}
use Rattle.taps_group.specs.Closes.{close_calls}
use Rattle.taps_cloning.specs.OwnSockets.{AreApart, HaveOwnSockets}

-- the earlier ones of lawful calls are lawful
lawful_rest : (trace : List Item) (told : ℕ) (later earlier : List Call) → AreLawful trace told (later ++ earlier) → AreLawful trace told earlier
lawful_rest trace told [] earlier h = h
lawful_rest trace told (c ∷ later) earlier h = lawful_rest trace told later earlier h.1

-- a socket that is live behind the close of another is another one, and was live before
record IsOther (s x : ℕ) (t : List Item) : Type 0 where
  differs : (s == x) ≡ false
  live : has (live_sockets t) x ≡ true

neither : (a b : Bool) → not (a || b) ≡ true → (a ≡ false) × (not b ≡ true)
neither true b h = absurd (cc)
neither false b h = (refl, h)

other : (s x : ℕ) (t : List Item) → has (live_sockets (item.Closed s ∷ t)) x ≡ true → IsOther s x t
other s x t h =
    let k = kept (λ v. not (has (s ∷ closed t) v)) (given t) x h in
    let parts = neither (s == x) (has (closed t) x) k.0 in
    record { differs = parts.0; live = keeps (λ v. not (has (closed t) v)) (given t) x parts.1 k.1 }

either_not : (a b : Bool) → a ≡ false → b ≡ false → (a || b) ≡ false
either_not true b p q = absurd (cc)
either_not false b p q = q

other_way : (q : Bool) (s x : ℕ) → (x == s) ≡ q → (s == x) ≡ false → q ≡ false
other_way true s x e h =
    let same : x ≡ s = eqb-true x s e in
    let not_so : (x == x) ≡ false = subst (λ v. (v == x) ≡ false) (sym same) h in
    let so : (x == x) ≡ true = subst (λ v. (x == v) ≡ true) (sym same) e in
    sym so ∙ not_so
other_way false s x e h = refl

abbrev AllLive : List Item → List ℕ → Type 0
AllLive t sockets = All (λ s. has (live_sockets t) s ≡ true) sockets

not_among : (s : ℕ) (t : List Item) (sockets : List ℕ) → AllLive (item.Closed s ∷ t) sockets → has sockets s ≡ false
not_among s t [] h = refl
not_among s t (x ∷ sockets) h =
    let o = other s x t (All-head (λ v. has (live_sockets (item.Closed s ∷ t)) v ≡ true) x sockets h) in
    either_not (x == s) (has sockets s) (other_way (x == s) s x refl o.differs) (not_among s t sockets (All-tail (λ v. has (live_sockets (item.Closed s ∷ t)) v ≡ true) x sockets h))

live_before : (s : ℕ) (t : List Item) (sockets : List ℕ) → AllLive (item.Closed s ∷ t) sockets → AllLive t sockets
live_before s t [] h = All-nil (λ v. has (live_sockets t) v ≡ true)
live_before s t (x ∷ sockets) h =
    All-cons (λ v. has (live_sockets t) v ≡ true) x sockets (other s x t (All-head (λ v. has (live_sockets (item.Closed s ∷ t)) v ≡ true) x sockets h)).live (live_before s t sockets (All-tail (λ v. has (live_sockets (item.Closed s ∷ t)) v ≡ true) x sockets h))

apart : (trace : List Item) (told : ℕ) (sockets : List ℕ) (earlier : List Call) → AreLawful trace told (close_calls sockets ++ earlier) → AreApart sockets (items_of earlier ++ trace)
apart trace told [] earlier h = record { once = tt; live = All-nil (λ v. has (live_sockets (items_of earlier ++ trace)) v ≡ true) }
apart trace told (s ∷ sockets) earlier h =
    let t = items_of earlier ++ trace in
    let k : AreLawful trace told (close_calls sockets ++ (closes s ∷ earlier)) = subst (AreLawful trace told) (append_assoc (close_calls sockets) (closes s ∷ []) earlier) h in
    let rest = apart trace told sockets (closes s ∷ earlier) k in
    let own = lawful_rest trace told (close_calls sockets) (closes s ∷ earlier) k in
    record {
      once = (not_among s t sockets rest.live, rest.once);
      live = All-cons (λ v. has (live_sockets t) v ≡ true) s sockets own.0 (live_before s t sockets rest.live);
    }

pub own_sockets : HaveOwnSockets
own_sockets first told trace clones earlier h = apart trace told (first ∷ _) earlier h
