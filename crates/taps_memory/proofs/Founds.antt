-- What the connection of a socket answers.
use Rattle.std.proofs.Common.{◌≡◌, ℕ, Bool, true, false, ◌||◌, List, [], ◌∷◌, refl, ap, sym, ◌∙◌, if◌then◌else◌}
use Rattle.std.specs.Prelude.{Option, None, Some, option_map, map, max}
use Rattle.std.specs.List.{list_any}
use Rattle.taps_memory.specs.declared.link.Link.{Link}
use Rattle.taps_memory.specs.Pairs.{first_of, has_end, waits_for}
use Rattle.taps_memory.specs.Links.{pair_of, link_has, link_waits, has_link}
use Rattle.taps_socket.specs.declared.item.Item.{Item}
use Rattle.taps_socket.specs.declared.answers.AcceptAnswer.TheVariants as accept
use Rattle.taps_memory.specs.MemoryAnswers.{send_in, send_answer, receive_in, receive_answer, accept_by, next_number}
use Rattle.taps_memory.specs.Memory.{Memory, state_of}
use Rattle.taps_memory.specs.Kept.{some_waits}
use Rattle.taps_memory.proofs.FirstOnes.{first_map, none_of}

pub found_pair : (links : List Link) (s : ℕ) (l : Link) → first_of (link_has s) links ≡ Some l → first_of (λ p. has_end p s) (map pair_of links) ≡ Some (pair_of l)
found_pair links s l e = first_map (λ p. has_end p s) pair_of links ∙ ap (option_map pair_of) e

pub send_found : (m : Memory) (l : Link) (s n at until : ℕ) → first_of (link_has s) m.links ≡ Some l → at ≡ m.told → send_in (Some (pair_of l)) s n at until ≡ send_answer (state_of m) s n until
send_found m l s n at until e is =
    ap (λ v. send_in (Some (pair_of l)) s n v until) is ∙ ap (λ o. send_in o s n m.told until) (sym (found_pair m.links s l e))

pub receive_found : (m : Memory) (l : Link) (s most until : ℕ) → first_of (link_has s) m.links ≡ Some l → receive_answer (state_of m) s most until ≡ receive_in (Some (pair_of l)) s most m.told until
receive_found m l s most until e = ap (λ o. receive_in o s most m.told until) (found_pair m.links s l e)

-- a socket that is an end has a connection
pub not_lost : (links : List Link) (s : ℕ) → has_link links s ≡ true → None ≡ first_of (link_has s) links → ⊥
not_lost links s there e = (let z : true ≡ false = sym there ∙ none_of (link_has s) links (sym e) in cc)

-- whether one waits
pub waits_any : (listener : ℕ) (links : List Link) → some_waits listener links ≡ list_any (link_waits listener) links
waits_any listener [] = refl
waits_any listener (l ∷ links) = ap (λ v. link_waits listener l || v) (waits_any listener links)

first_waiting : (links : List Link) (listener : ℕ) → first_of (λ p. waits_for p listener) (map pair_of links) ≡ option_map pair_of (first_of (link_waits listener) links)
first_waiting links listener = first_map (λ p. waits_for p listener) pair_of links

-- an accept, by whether one waits
abbrev some_pair : Option Link → Bool
some_pair None = false
some_pair (Some l) = true

any_first_by : (q : Bool) (l : Link) (o : Option Link) (more : Bool) → some_pair o ≡ more → some_pair (if q then Some l else o) ≡ (q || more)
any_first_by true l o more e = refl
any_first_by false l o more e = e

any_first : (listener : ℕ) (links : List Link) → some_pair (first_of (link_waits listener) links) ≡ some_waits listener links
any_first listener [] = refl
any_first listener (l ∷ links) = any_first_by (link_waits listener l) l (first_of (link_waits listener) links) (some_waits listener links) (any_first listener links)

met_by : (o : Option Link) (t : List Item) (at until : ℕ) → some_pair o ≡ true → accept_by (option_map pair_of o) t at until ≡ accept.Accepted (next_number t) at
met_by None t at until h = (let z : false ≡ true = h in absurd cc)
met_by (Some l) t at until h = refl

unmet_by : (o : Option Link) (t : List Item) (at until : ℕ) → some_pair o ≡ false → accept_by (option_map pair_of o) t at until ≡ accept.Timed (max at until)
unmet_by None t at until h = refl
unmet_by (Some l) t at until h = (let z : true ≡ false = h in absurd cc)

pub accept_met : (m : Memory) (listener until : ℕ) → some_waits listener m.links ≡ true → accept_by (first_of (λ p. waits_for p listener) (map pair_of m.links)) m.trace m.told until ≡ accept.Accepted (next_number m.trace) m.told
accept_met m listener until h = ap (λ o. accept_by o m.trace m.told until) (first_waiting m.links listener) ∙ met_by (first_of (link_waits listener) m.links) m.trace m.told until (any_first listener m.links ∙ h)

pub accept_unmet : (m : Memory) (listener until : ℕ) → some_waits listener m.links ≡ false → accept_by (first_of (λ p. waits_for p listener) (map pair_of m.links)) m.trace m.told until ≡ accept.Timed (max m.told until)
accept_unmet m listener until h = ap (λ o. accept_by o m.trace m.told until) (first_waiting m.links listener) ∙ unmet_by (first_of (link_waits listener) m.links) m.trace m.told until (any_first listener m.links ∙ h)
