-- A script determines an exchange and its outcome.
use Rattle.std.proofs.Common.{◌≡◌, ◌⊎◌, inl, inr, List, [], ◌∷◌, ◌++◌, refl, ap, sym, subst, ◌∙◌, append_assoc}
use Rattle.taps_socket.specs.Calls.{Call, Request, request_of}
use Rattle.taps_exchange.specs.declared.outcome.Outcome.{Outcome}
use Rattle.taps_exchange.specs.Turns.{Turn, asks, over, IsInTurn, IsExchange}
use Rattle.taps_exchange.specs.Scripts.{Follows, ExchangeIsUnique}

-- calls go on from others
record IsLonger (calls others : List Call) : Type 0 where
  more : List Call
  call : Call
  split : calls ≡ more ++ call ∷ others

-- calls are in turn, and follow the script
record IsScripted (script : List Call → Request → Call) (turn : List Call → Turn) (calls : List Call) : Type 0 where
  in_turn : IsInTurn turn calls
  follows : Follows script calls

longer_by : (c : Call) (calls : List Call) → IsLonger (c ∷ calls) []
longer_by c [] = record { more = []; call = c; split = refl }
longer_by c (d ∷ calls) =
    let w = longer_by d calls in
    record { more = c ∷ w.more; call = w.call; split = ap (λ v. c ∷ v) w.split }

earlier : (script : List Call → Request → Call) (turn : List Call → Turn) (more calls : List Call) → IsScripted script turn (more ++ calls) → IsScripted script turn calls
earlier script turn [] calls h = h
earlier script turn (c ∷ more) calls h = earlier script turn more calls (record { in_turn = h.in_turn.1; follows = h.follows.1 })

-- after the same calls the same call comes
same_call : (script : List Call → Request → Call) (turn : List Call → Turn) (c d : Call) (calls : List Call) → IsScripted script turn (c ∷ calls) → IsScripted script turn (d ∷ calls) → c ≡ d
same_call script turn c d calls h k =
    let e : asks (request_of c) ≡ asks (request_of d) = sym h.in_turn.0 ∙ k.in_turn.0 in
    let r : request_of c ≡ request_of d = cc in
    h.follows.0 ∙ (ap (λ v. script calls v) r ∙ sym k.follows.0)

behind : (more : List Call) (c : Call) (calls others : List Call) → others ≡ more ++ c ∷ calls → (c ∷ calls ≡ others) ⊎ IsLonger others (c ∷ calls)
behind [] c calls others e = inl (sym e)
behind (d ∷ more) c calls others e =
    let w = longer_by d more in
    inr (record {
      more = w.more;
      call = w.call;
      split = e ∙ (ap (λ v. v ++ c ∷ calls) w.split ∙ append_assoc w.more (w.call ∷ []) (c ∷ calls));
    })

related : (script : List Call → Request → Call) (turn : List Call → Turn) (calls others : List Call) → IsScripted script turn calls → IsScripted script turn others → (calls ≡ others) ⊎ (IsLonger calls others ⊎ IsLonger others calls)
related script turn [] [] a b = inl refl
related script turn [] (d ∷ others) a b = inr (inr (longer_by d others))
related script turn (c ∷ calls) others a b =
    elim (related script turn calls others (record { in_turn = a.in_turn.1; follows = a.follows.1 }) b) [
      | inl e ↦ inr (inl (record { more = []; call = c; split = ap (λ v. c ∷ v) e }))
      | inr w ↦ elim w [
        | inl l ↦ inr (inl (record { more = c ∷ l.more; call = l.call; split = ap (λ v. c ∷ v) l.split }))
        | inr l ↦
            let d : IsScripted script turn (l.call ∷ calls) = earlier script turn l.more (l.call ∷ calls) (subst (IsScripted script turn) l.split b) in
            let same : c ≡ l.call = same_call script turn c l.call calls a d in
            elim (behind l.more c calls others (l.split ∙ ap (λ v. l.more ++ v ∷ calls) (sym same))) [
              | inl e ↦ inl e
              | inr k ↦ inr (inr k)
            ]
      ]
    ]

-- nothing comes behind the end
no_longer : (script : List Call → Request → Call) (turn : List Call → Turn) (calls others : List Call) (o : Outcome) → IsScripted script turn calls → turn others ≡ over o → IsLonger calls others → ⊥
no_longer script turn calls others o a e l =
    let d : IsScripted script turn (l.call ∷ others) = earlier script turn l.more (l.call ∷ others) (subst (IsScripted script turn) l.split a) in
    let x : asks (request_of l.call) ≡ over o = sym d.in_turn.0 ∙ e in
    cc

same_end : (turn : List Call → Turn) (calls others : List Call) (o p : Outcome) → others ≡ calls → turn calls ≡ over o → turn others ≡ over p → p ≡ o
same_end turn calls others o p e x y =
    let z : over p ≡ over o = sym y ∙ (ap turn e ∙ x) in
    cc

unique_alone : (script : List Call → Request → Call) (turn : List Call → Turn) (calls others : List Call) (o p : Outcome) → IsExchange turn calls o → Follows script calls → IsExchange turn others p → Follows script others → (others ≡ calls) × (p ≡ o)
unique_alone script turn calls others o p a af b bf =
    let ga : IsScripted script turn calls = record { in_turn = a.in_turn; follows = af } in
    let gb : IsScripted script turn others = record { in_turn = b.in_turn; follows = bf } in
    elim (related script turn others calls gb ga) [
      | inl e ↦ (e, same_end turn calls others o p e a.ends b.ends)
      | inr w ↦ elim w [
        | inl l ↦ absurd (no_longer script turn others calls o gb a.ends l)
        | inr l ↦ absurd (no_longer script turn calls others p ga b.ends l)
      ]
    ]

behind_follows : (script : List Call → Request → Call) (before calls : List Call) → Follows script (calls ++ before) → Follows (λ h r. script (h ++ before) r) calls
behind_follows script before [] f = tt
behind_follows script before (c ∷ calls) f = (f.0, behind_follows script before calls f.1)

pub unique : (script : List Call → Request → Call) (turn : List Call → Turn) → ExchangeIsUnique script turn
unique script turn before calls others o p a af b bf =
    unique_alone (λ k r. script (k ++ before) r) turn calls others o p a (behind_follows script before calls af) b (behind_follows script before others bf)
