-- Which member's turn it is, while one of them sends its message and the others wait.
use Rattle.std.proofs.Common.{◌≡◌, ℕ, zero, suc, ◌+◌, Bool, true, false, ◌||◌, ◌&&◌, if◌then◌else◌, List, [], ◌∷◌, Option, Some, None, refl, sym, ap, ◌∙◌, subst, arith}
use Rattle.std.specs.Prelude.{◌==◌, nat_lt}
use Rattle.std.proofs.lemmas.Bool.Decides.{nat_tests}
use Rattle.taps_message.specs.declared.accepted.Accepted.{Accepted}
use Rattle.taps_socket.specs.Calls.{Call, Request, to_send, to_shut}
use Rattle.taps_connection.specs.Outboxes.{Stand, begun, ending, refused, all_out, asks_out}
use Rattle.taps_exchange.specs.Members.{calls_on, outbox_after}
use Rattle.taps_exchange.specs.Turns.{Turn, asks, Place, stand_of, Waiting, waiting_by, is_before, sooner, next_sender, turn_sending, order_before, waiting_at}
use Rattle.taps_group_exchange.specs.Turning.{IsOfMessage}

-- of two that wait one comes after the other
abbrev pub IsAfter : Waiting → Option Waiting → Type 0
IsAfter w None = Unit {0}
IsAfter w (Some v) = is_before w v ≡ true

one_way : (p q a b : ℕ) → (nat_lt p q || ((p == q) && nat_lt a b)) ≡ true → (nat_lt q p || ((q == p) && nat_lt b a)) ≡ false
one_way p q a b h = grind (arith, nat_tests)

sooner_after : (w : Waiting) (a b : Option Waiting) → IsAfter w a → IsAfter w b → IsAfter w (sooner a b)
sooner_after w None b p q = q
sooner_after w (Some a) None p q = p
sooner_after w (Some a) (Some b) p q = by (is_before b a)
  where
    by : (t : Bool) → IsAfter w (if t then Some b else Some a)
    by true = q
    by false = p

first_sooner : (w : Waiting) (o : Option Waiting) → IsAfter w o → sooner (Some w) o ≡ Some w
first_sooner w None h = refl
first_sooner w (Some v) h = ap (λ (t : Bool). if t then Some v else Some w) (one_way w.place.priority v.place.priority w.order v.order h)

last_sooner : (w : Waiting) (o : Option Waiting) → IsAfter w o → sooner o (Some w) ≡ Some w
last_sooner w None h = refl
last_sooner w (Some v) h = ap (λ (t : Bool). if t then Some w else Some v) h

-- a member at a place waits, on a socket of its own, and has its turn after this one, if it has one
pub record Yields (calls : List Call) (w : Waiting) (place : ℕ) (q : Place) : Type 0 where
  pub apart : (w.place.member.socket == q.member.socket) ≡ false
  pub after : IsAfter w (waiting_by q place (stand_of calls q))

abbrev pub AllYield : List Call → Waiting → ℕ → List Place → Type 0
AllYield calls w place [] = Unit {0}
AllYield calls w place (q ∷ qs) = Yields calls w place q × AllYield calls w (place + 1) qs

-- it is the member at this index, and all others yield
abbrev pub Leads : List Call → Waiting → ℕ → ℕ → List Place → Type 0
Leads calls w place k [] = ⊥
Leads calls w place zero (q ∷ qs) = (q ≡ w.place) × ((place ≡ w.number) × AllYield calls w (place + 1) qs)
Leads calls w place (suc k) (q ∷ qs) = Yields calls w place q × Leads calls w (place + 1) k qs

-- calls on the leading member's socket alone change nothing of the others
pub record OnlyOn (s : ℕ) (calls later : List Call) : Type 0 where
  pub others : (t : ℕ) → (s == t) ≡ false → calls_on t later ≡ calls_on t calls

others_stand : (calls later : List Call) (w : Waiting) (place : ℕ) (q : Place) → OnlyOn w.place.member.socket calls later → Yields calls w place q → stand_of later q ≡ stand_of calls q
others_stand calls later w place q only y = ap (λ c. (outbox_after q.member c).stand) (only.others q.member.socket y.apart)

-- the one waits with the same message later
pub record StaysFirst (calls later : List Call) (w v : Waiting) : Type 0 where
  pub place : v.place ≡ w.place
  pub number : v.number ≡ w.number
  pub order : v.order ≡ w.order
  pub waits : waiting_by w.place w.number (stand_of later w.place) ≡ Some v

after_same : (w v : Waiting) (o : Option Waiting) → v.place ≡ w.place → v.order ≡ w.order → IsAfter w o → IsAfter v o
after_same w v None p o h = h
after_same w v (Some u) p o h =
    ap (λ (x : Place). nat_lt x.priority u.place.priority || ((x.priority == u.place.priority) && nat_lt v.order u.order)) p
    ∙ (ap (λ (x : ℕ). nat_lt w.place.priority u.place.priority || ((w.place.priority == u.place.priority) && nat_lt x u.order)) o ∙ h)

all_after : (calls later : List Call) (w v : Waiting) (place : ℕ) (qs : List Place) → OnlyOn w.place.member.socket calls later → StaysFirst calls later w v → AllYield calls w place qs → IsAfter v (next_sender later place qs)
all_after calls later w v place [] only s y = tt
all_after calls later w v place (q ∷ qs) only s y =
    sooner_after v (waiting_by q place (stand_of later q)) (next_sender later (place + 1) qs)
    (subst (λ st. IsAfter v (waiting_by q place st)) (sym (others_stand calls later w place q only y.0)) (after_same w v _ s.place s.order y.0.after))
    (all_after calls later w v (place + 1) qs only s y.1)

pub leads_next : (calls later : List Call) (w v : Waiting) (place k : ℕ) (qs : List Place) → OnlyOn w.place.member.socket calls later → StaysFirst calls later w v → Leads calls w place k qs → next_sender later place qs ≡ Some v
leads_next calls later w v place k [] only s l = absurd l
leads_next calls later w v place zero (q ∷ qs) only s l =
    let here : waiting_by q place (stand_of later q) ≡ Some v = subst (λ x. waiting_by x place (stand_of later x) ≡ Some v) (sym l.0) (subst (λ n. waiting_by w.place n (stand_of later w.place) ≡ Some v) (sym l.1.0) s.waits) in
    ap (λ o. sooner o (next_sender later (place + 1) qs)) here ∙ first_sooner v _ (all_after calls later w v (place + 1) qs only s l.1.1)
leads_next calls later w v place (suc k) (q ∷ qs) only s l =
    let here : IsAfter v (waiting_by q place (stand_of later q)) = subst (λ st. IsAfter v (waiting_by q place st)) (sym (others_stand calls later w place q only l.0)) (after_same w v _ s.place s.order l.0.after) in
    ap (sooner (waiting_by q place (stand_of later q))) (leads_next calls later w v (place + 1) k qs only s l.1) ∙ last_sooner v _ here

-- The leading member's next call is the next one of all.
pub leads_turn : (calls later : List Call) (w : Waiting) (place k : ℕ) (behind : List Accepted) (qs : List Place) (others : Turn) (r : Request) → order_before w.place behind ≡ w.order →
    OnlyOn w.place.member.socket calls later → Leads calls w place k qs → IsOfMessage behind (stand_of later w.place) → asks_out w.place.member.socket w.place.member.until (stand_of later w.place) ≡ Some r →
    turn_sending (next_sender later place qs) others ≡ asks r
leads_turn calls later w place k behind qs others r order only l of asked = by (stand_of later w.place) refl of asked
  where
    first : (st : Stand) (behind' : List Accepted) → stand_of later w.place ≡ st → waiting_by w.place w.number st ≡ Some (waiting_at w.place w.number st behind') → behind' ≡ behind → next_sender later place qs ≡ Some (waiting_at w.place w.number st behind')
    first st behind' is waits same = leads_next calls later w (waiting_at w.place w.number st behind') place k qs only (record {
      place = refl;
      number = refl;
      order = ap (order_before w.place) same ∙ order;
      waits = ap (waiting_by w.place w.number) is ∙ waits;
    }) l

    by : (st : Stand) → stand_of later w.place ≡ st → IsOfMessage behind st → asks_out w.place.member.socket w.place.member.until st ≡ Some r → turn_sending (next_sender later place qs) others ≡ asks r
    by (begun n ends rest tail) is m a =
        let q : to_send w.place.member.socket rest w.place.member.until ≡ r = cc in
        ap (λ o. turn_sending o others) (first (begun n ends rest tail) tail is refl m) ∙ ap asks q
    by (ending tail) is m a =
        let q : to_shut w.place.member.socket ≡ r = cc in
        ap (λ o. turn_sending o others) (first (ending tail) tail is refl m) ∙ ap asks q
    by (refused n layer tail) is m a = absurd m
    by all_out is m a = absurd m
