-- The bytes read at each end are a prefix of those written at the other.
use Rattle.std.proofs.Common.{◌≡◌, ℕ, Bool, true, false, ◌||◌, ◌&&◌, List, [], ◌∷◌, ◌++◌, take, drop, refl, ap, sym, ◌∙◌, subst}
use Rattle.std.specs.Prelude.{map}
use Rattle.std.specs.List.{list_any}
use Rattle.std.proofs.lemmas.List.{take-append-drop}
use Rattle.taps_socket.specs.declared.item.Item.{Item}
use Rattle.taps_memory.specs.declared.link.Link.{Link}
use Rattle.taps_memory.specs.Pairs.{is_at}
use Rattle.taps_memory.specs.Sides.{Side, traffic_of}
use Rattle.taps_memory.specs.Links.{pair_of, link_has, has_link, traffic_at}
use Rattle.taps_memory.specs.Joined.{Ends, ends_of, is_socket, are_ends, IsReadFrom, AreJoinedEnds}
use Rattle.taps_memory.specs.Kept.{IsSound, AreSound, AreLinked}
use Rattle.taps_memory.proofs.Linked.{false_unless, left_true, right_true}
use Rattle.taps_memory.proofs.Traffics.{concat_piece}

both : (a b : Bool) → (a && b) ≡ true → (a ≡ true) × (b ≡ true)
both true b h = (refl, h)
both false b h = (let z : false ≡ true = h in cc)

-- of one side
read_from : (x y : Side) → IsReadFrom (traffic_of x y).written (traffic_of y x).read
read_from x y = (
  drop x.end.taken x.end.written,
  concat_piece x.end.written ∙ (sym (take-append-drop x.end.taken x.end.written) ∙ ap (λ v. v ++ drop x.end.taken x.end.written) (sym (concat_piece (take x.end.taken x.end.written)))),
)

abbrev joins : ℕ → ℕ → Link → Bool
joins s t l = is_at l.starter.end s && is_at l.acceptor.end t

some_join : (links : List Link) (s t : ℕ) → list_any (joins s t) links ≡ true → (has_link links s ≡ true) × (has_link links t ≡ true)
some_join [] s t h = (let z : false ≡ true = h in cc)
some_join (l ∷ links) s t h = by_test (joins s t l) (some_join links s t) refl h
  where
    by_test : (b : Bool) → (list_any (joins s t) links ≡ true → (has_link links s ≡ true) × (has_link links t ≡ true)) → joins s t l ≡ b → (b || list_any (joins s t) links) ≡ true → ((link_has s l || has_link links s) ≡ true) × ((link_has t l || has_link links t) ≡ true)
    by_test true ih e h =
        (let (a, b) = both (is_at l.starter.end s) (is_at l.acceptor.end t) e in (
          left_true (link_has s l) (has_link links s) (left_true (is_at l.starter.end s) (is_at l.acceptor.end s) a),
          left_true (link_has t l) (has_link links t) (right_true (is_at l.starter.end t) (is_at l.acceptor.end t) b),
        ))
    by_test false ih e h =
        (let (a, b) = ih h in (
          right_true (link_has s l) (has_link links s) a,
          right_true (link_has t l) (has_link links t) b,
        ))

-- the connection of both
own_join : (l : Link) (links : List Link) (s t : ℕ) → IsSound l → is_at l.starter.end s ≡ true → is_at l.acceptor.end t ≡ true → AreJoinedEnds (traffic_at (l ∷ links)) s t
own_join l links s t sound a b =
    let away : is_at l.starter.end t ≡ false = false_unless (is_at l.starter.end t) (λ e. (let z : true ≡ false = sym b ∙ sound.apart t e in cc)) in
    record {
      apart = λ e. (let z : true ≡ false = sym a ∙ (ap (is_at l.starter.end) e ∙ away) in cc);
      there = rw (a, away, b) (read_from l.starter l.acceptor);
      back = rw (a, away, b) (read_from l.acceptor l.starter);
    }

skip : (l : Link) (links : List Link) (s : ℕ) → ((q : ℕ) → link_has q l ≡ true → has_link links q ≡ false) → has_link links s ≡ true → traffic_at (l ∷ links) s ≡ traffic_at links s
skip l links s apart there =
    let away : link_has s l ≡ false = false_unless (link_has s l) (λ e. (let z : true ≡ false = sym there ∙ apart s e in cc)) in
    rw away refl

joined : (links : List Link) (s t : ℕ) → AreSound links → list_any (joins s t) links ≡ true → AreJoinedEnds (traffic_at links) s t
joined [] s t sound h = (let z : false ≡ true = h in absurd cc)
joined (l ∷ links) s t sound h = by_test (joins s t l) (joined links s t sound.2) refl h
  where
    by_test : (b : Bool) → (list_any (joins s t) links ≡ true → AreJoinedEnds (traffic_at links) s t) → joins s t l ≡ b → (b || list_any (joins s t) links) ≡ true → AreJoinedEnds (traffic_at (l ∷ links)) s t
    by_test true ih e h = (let (a, b) = both (is_at l.starter.end s) (is_at l.acceptor.end t) e in own_join l links s t sound.0 a b)
    by_test false ih e h =
        (let (a, b) = some_join links s t h in
        let rest = ih h in
        let at_s = skip l links s sound.1 a in
        let at_t = skip l links t sound.1 b in
        record {
          apart = rest.apart;
          there = subst (λ v. IsReadFrom v.written (traffic_at (l ∷ links) t).read) (sym at_s) (subst (λ v. IsReadFrom (traffic_at links s).written v.read) (sym at_t) rest.there);
          back = subst (λ v. IsReadFrom v.written (traffic_at (l ∷ links) s).read) (sym at_t) (subst (λ v. IsReadFrom (traffic_at links t).written v.read) (sym at_s) rest.back);
        })

any_map : (links : List Link) (s t : ℕ) → list_any (λ e. is_socket e.starter s && is_socket e.acceptor t) (map (λ l. ends_of (pair_of l)) links) ≡ list_any (joins s t) links
any_map [] s t = refl
any_map (l ∷ links) s t = ap (λ v. joins s t l || v) (any_map links s t)

pub are_joined : (trace : List Item) (n : ℕ) (links : List Link) → AreLinked trace n links → (s t : ℕ) → are_ends trace s t ≡ true → AreJoinedEnds (traffic_at links) s t
are_joined trace n links h s t e =
    joined links s t h.sound (sym (any_map links s t) ∙ (ap (list_any (λ (e : Ends). is_socket e.starter s && is_socket e.acceptor t)) h.ends ∙ e))
