-- A lawful race has at most four items for each leaf behind its beginning: an attempt, a close, and two waits.
use Rattle.std.proofs.Common.{◌≡◌, ℕ, zero, suc, ◌+◌, ◌*◌, ◌<◌, ◌≤◌, Bool, true, false, not, ◌&&◌, ◌||◌, List, [], ◌∷◌, ◌++◌, length, refl, sym, inl, inr, arith, if◌then◌else◌, length-append}
use Rattle.std.specs.Prelude.{◌==◌, filter, nat_le, nat_lt, is_none, Option, None, Some}
use Rattle.std.specs.Option.{option_or, option_map_or}
use Rattle.std.specs.Cmp.Derive.{both_true}
use Rattle.std.proofs.Math.Bool.{or-true}
use Rattle.std.proofs.lemmas.Bool.{eqb-true, eq-eqb, leb-false, le-leb, lt-ltb, ltb-true}
use Rattle.std.proofs.lemmas.Option.{slice_get_within}
use Rattle.std.proofs.lemmas.List.Elements.{filter-append}
use Rattle.taps_base.specs.declared.gap.Gap.{Gap}
use Rattle.taps_socket.specs.declared.item.How.{How}
use Rattle.taps_socket.specs.declared.item.How.TheVariants as how
use Rattle.taps_socket.specs.declared.item.Item.{Item}
use Rattle.taps_socket.specs.declared.item.Item.TheVariants as item
use Rattle.taps_socket.specs.declared.race_answer.RaceAnswer.{RaceAnswer}
use Rattle.taps_socket.specs.declared.race_answer.RaceAnswer.TheVariants as answer
use Rattle.taps_socket.specs.RaceTrace.{IsRaceTrace, tries, attempts}
use Rattle.taps_socket.specs.RaceSockets.{has, started, closed, broke, open_sockets, broken_sockets}
use Rattle.taps_socket.specs.Winner.{ready}
use Rattle.taps_socket.specs.Standing.{Standing, standing}
use Rattle.taps_socket.specs.Rules.{Rules}
use Rattle.taps_socket.specs.Over.{over, is_cancelled, is_timed_out}
use Rattle.taps_socket.specs.Turn.{is_due, gap_after, gap_end, wait_end, sooner}
use Rattle.taps_socket.specs.LawfulRace.{MayWait, IsOver}
use Rattle.taps_racer.specs.declared.command.Command.{Command}
use Rattle.taps_racer.specs.declared.command.Command.TheVariants.{Start, Wait, Close, Finish}
use Rattle.taps_racer.specs.Commands.{ComesNext}
use Rattle.taps_racer.specs.Stands.{EndsRightly}
use Rattle.taps_socket.proofs.Lists.{both, either, or_left, false_by, keeps}
use Rattle.taps_racer.proofs.Races.{Goes, before, pending_open}

-- nothing is left but to wait
abbrev pub may_wait : Rules → Standing → Bool
may_wait rules race = (length race.broken == 0) && (is_none (over rules race) && not (is_due rules race))

abbrev pub flag : Bool → ℕ
flag true = 1
flag false = 0

one_at_most : (b : Bool) → flag b ≤ 1
one_at_most true = omega arith
one_at_most false = omega arith

waited : (rules : Rules) (race : Standing) (until : ℕ) → MayWait rules race until → flag (may_wait rules race) ≡ 1
waited rules race until may = rw (may.none_broken, may.not_over, may.not_due) refl

no_wait : (b o : Bool) → o ≡ false → flag (b && o) ≡ 0
no_wait true o e = rw e refl
no_wait false o e = refl

-- after a completion or a fault the race is over
ready_over : (w fail : Option RaceAnswer) (a : RaceAnswer) (due : Bool) → (is_none (option_or (option_or w (Some a)) fail) && due) ≡ false
ready_over None fail a due = refl
ready_over (Some b) fail a due = refl

fault_over : (w : Option RaceAnswer) (a : RaceAnswer) (due : Bool) → (is_none (option_or w (Some a)) && due) ≡ false
fault_over None a due = refl
fault_over (Some b) a due = refl

-- after a break a broken socket is open
not_zero : (n : ℕ) → (suc n == 0) ≡ false
not_zero n = false_by _ (λ e. (let x : suc n ≡ 0 = eqb-true _ _ e in cc))

some_there : (xs : List ℕ) (s : ℕ) (rest : Bool) → has xs s ≡ true → flag ((length xs == 0) && rest) ≡ 0
some_there [] s rest h = cc
some_there (x ∷ xs) s rest h = rw (not_zero (length xs)) refl

-- after a wait that was reached the race is over or a leaf is due
time_over : (w : Option RaceAnswer) (f c t z a due : Bool) → (c || t) ≡ true → (is_none (option_or w (if f then Some answer.SocketFault else if c then Some answer.Closed else if t then Some answer.Timeout else if z then Some answer.NoCandidate else if a then Some answer.AllFailed else None)) && due) ≡ false
time_over (Some w) f c t z a due h = refl
time_over None true c t z a due h = refl
time_over None false true t z a due h = refl
time_over None false false true z a due h = refl
time_over None false false false z a due h = cc

neither : (a b : Bool) → (a || b) ≡ false → (a ≡ false) × (b ≡ false)
neither true b h = cc
neither false b h = (refl, h)

and-false : (b : Bool) → (b && false) ≡ false
and-false true = refl
and-false false = refl

gap_over : (T b at : ℕ) (cancel G : Option ℕ) → (option_map_or (λ c. nat_le (b + c) at) cancel false || nat_le T at) ≡ false → sooner (sooner T (option_map_or (λ c. Some (b + c)) cancel None)) G ≤ at → option_map_or (λ end. nat_le end at) G false ≡ true
gap_over T b at None None e h = let x : at < T = leb-false _ _ e in absurd (omega arith)
gap_over T b at None (Some g) e h = let x : at < T = leb-false _ _ e in le-leb _ _ (omega arith)
gap_over T b at (Some d) None e h = let x : at < b + d = leb-false _ _ (neither _ _ e).0 in let y : at < T = leb-false _ _ (neither _ _ e).1 in absurd (omega arith)
gap_over T b at (Some d) (Some g) e h = let x : at < b + d = leb-false _ _ (neither _ _ e).0 in let y : at < T = leb-false _ _ (neither _ _ e).1 in le-leb _ _ (omega arith)

there_is : (o : Option Gap) (from at : ℕ) → option_map_or (λ end. nat_le end at) (gap_after o from) false ≡ true → (g : Gap) × (o ≡ Some g)
there_is None from at h = cc
there_is (Some g) from at h = (g, refl)

reached_by : (q : Bool) (rules : Rules) (race : Standing) → (is_cancelled rules race || is_timed_out rules race) ≡ q → wait_end rules race ≤ race.last → (is_none (over rules race) && not (is_due rules race)) ≡ false
reached_by true rules race e h = time_over race.ready race.faulted (is_cancelled rules race) (is_timed_out rules race) _ _ _ e
reached_by false rules race e h =
    let reached = gap_over (race.begun + rules.timeout) race.begun race.last rules.cancel (gap_end rules race) e h in
    let gap = there_is _ _ _ reached in
    let room = slice_get_within rules.gaps race.attempts gap.0 gap.1 in
    let due : is_due rules race ≡ true = both_true (lt-ltb _ _ room) (rw reached (or-true _)) in
    rw due (and-false _)

wait_ends : (rules : Rules) (r : List Item) (until at : ℕ) (h : How) → MayWait rules (standing r) until → EndsRightly (standing r) until at h → flag (may_wait rules (standing (item.Waited until at h ∷ r))) ≡ 0
wait_ends rules r until at (how.Completed s) may right = no_wait (length (broken_sockets r) == 0) _ (ready_over (ready r) _ _ _)
wait_ends rules r until at how.Faulted may right = no_wait (length (broken_sockets r) == 0) _ (fault_over (ready r) _ _)
wait_ends rules r until at (how.Broke s cause) may right =
    some_there (broken_sockets (item.Waited until at (how.Broke s cause) ∷ r)) s _ (keeps (has (s ∷ broke r)) (open_sockets r) s (or_left _ _ (eq-eqb s s refl)) (pending_open r s right))
wait_ends rules r until at how.Reached may right =
    let end = may.end in
    let late : until ≤ at = right in
    no_wait (length (broken_sockets r) == 0) _ (reached_by _ rules (standing (item.Waited until at how.Reached ∷ r)) refl (omega arith))

-- at the beginning the race is over or its first leaf is due
no_leaf : (f c t a due : Bool) → (is_none (if f then Some answer.SocketFault else if c then Some answer.Closed else if t then Some answer.Timeout else if true then Some answer.NoCandidate else if a then Some answer.AllFailed else None) && due) ≡ false
no_leaf true c t a due = refl
no_leaf false true t a due = refl
no_leaf false false true a due = refl
no_leaf false false false a due = refl

begins : (n : ℕ) (f c t a p r : Bool) → (is_none (if f then Some answer.SocketFault else if c then Some answer.Closed else if t then Some answer.Timeout else if n == 0 then Some answer.NoCandidate else if a then Some answer.AllFailed else None) && not (nat_lt 0 n && ((true || p) || r))) ≡ false
begins zero f c t a p r = no_leaf f c t a _
begins (suc m) f c t a p r = rw (lt-ltb 0 (suc m) (omega arith)) (and-false _)

-- the open sockets by an item
grows : (p : ℕ → Bool) (xs : List ℕ) (x : ℕ) → length (filter p (xs ++ x ∷ [])) ≤ length (filter p xs) + 1
grows p xs x = rw (filter-append, length-append) (one_more (p x) (length (filter p xs)))
  where
    one_more : (q : Bool) (n : ℕ) → n + length (if q then x ∷ [] else []) ≤ n + 1
    one_more true n = omega arith
    one_more false n = omega arith

no_more_by : (q c : Bool) (y : ℕ) (xs ys : List ℕ) → length xs ≤ length ys → length (if not (q || c) then y ∷ xs else xs) ≤ length (if not c then y ∷ ys else ys)
no_more_by true true y xs ys h = h
no_more_by true false y xs ys h = omega arith
no_more_by false true y xs ys h = h
no_more_by false false y xs ys h = omega arith

no_more : (c : ℕ → Bool) (x : ℕ) (ys : List ℕ) → length (filter (λ o. not ((x == o) || c o)) ys) ≤ length (filter (λ o. not (c o)) ys)
no_more c x [] = omega arith
no_more c x (y ∷ ys) = no_more_by (x == y) (c y) y _ _ (no_more c x ys)

shrinks_by : (q c : Bool) (x y : ℕ) (xs ys : List ℕ) → (x == y) ≡ q → length xs ≤ length ys → (has ys x ≡ true → length xs < length ys) → has (if not c then y ∷ ys else ys) x ≡ true → length (if not (q || c) then y ∷ xs else xs) < length (if not c then y ∷ ys else ys)
shrinks_by true true x y xs ys e le lt h = lt h
shrinks_by false true x y xs ys e le lt h = lt h
shrinks_by true false x y xs ys e le lt h = omega arith
shrinks_by false false x y xs ys e le lt h =
    elim (either (y == x) (has ys x) h) as (λ _. suc (length xs) < suc (length ys)) [
      | inl same ↦ (let z : (x == y) ≡ true = eq-eqb x y (sym (eqb-true _ _ same)) in cc)
      | inr there ↦ (let l = lt there in omega arith)
    ]

shrinks : (c : ℕ → Bool) (x : ℕ) (ys : List ℕ) → has (filter (λ o. not (c o)) ys) x ≡ true → length (filter (λ o. not ((x == o) || c o)) ys) < length (filter (λ o. not (c o)) ys)
shrinks c x [] h = cc
shrinks c x (y ∷ ys) h = shrinks_by (x == y) (c y) x y _ _ refl (no_more c x ys) (shrinks c x ys) h

-- four items for each attempt: it, its close, and a wait for each of the two
four_each : (rules : Rules) (t : List Item) → IsRaceTrace t → Goes rules t → length t + flag (may_wait rules (standing t)) + 2 * length (open_sockets t) ≤ 1 + 4 * attempts t
four_each rules [] h g = absurd h
four_each rules (item.Began at ∷ r) h g = rw h (rw (begins (length rules.gaps) _ _ _ _ _ _) (omega arith))
four_each rules (item.Started leaf target x at ∷ r) h g =
    let n = four_each rules r h (before (item.Started leaf target x at) r g) in
    let more = grows (λ s. not (has (closed r) s)) (started r) x in
    let longer = length-append (tries r) (Some x ∷ []) in
    let idle = one_at_most (may_wait rules (standing (item.Started leaf target x at ∷ r))) in
    omega arith
four_each rules (item.Refused leaf target cause at ∷ r) h g =
    let n = four_each rules r h (before (item.Refused leaf target cause at) r g) in
    let longer = length-append (tries r) (None ∷ []) in
    let idle = one_at_most (may_wait rules (standing (item.Refused leaf target cause at ∷ r))) in
    omega arith
four_each rules (item.Waited until at how ∷ r) h g =
    let n = four_each rules r h (before (item.Waited until at how) r g) in
    let was = waited rules (standing r) until g.waits.0 in
    let now = wait_ends rules r until at how g.waits.0 g.rightly.0 in
    omega arith
four_each rules (item.Closed x ∷ r) h g =
    let n = four_each rules r h (before (item.Closed x) r g) in
    let less = shrinks (has (closed r)) x (started r) g.rightly.0 in
    let idle = one_at_most (may_wait rules (standing (item.Closed x ∷ r))) in
    omega arith
four_each rules (i ∷ r) h g = absurd h

-- a leaf is attempted once
pub few_attempts : (rules : Rules) (t : List Item) → Goes rules t → attempts t ≤ length rules.gaps
few_attempts rules [] g = omega arith
few_attempts rules (item.Started leaf target x at ∷ r) g =
    let room : attempts r < length rules.gaps = ltb-true _ _ (both _ _ g.attempts.0.due).0 in
    let longer = length-append (tries r) (Some x ∷ []) in
    omega arith
few_attempts rules (item.Refused leaf target cause at ∷ r) g =
    let room : attempts r < length rules.gaps = ltb-true _ _ (both _ _ g.attempts.0.due).0 in
    let longer = length-append (tries r) (None ∷ []) in
    omega arith
few_attempts rules (i ∷ r) g = few_attempts rules r (before i r g)

pub few_items : (rules : Rules) (t : List Item) → IsRaceTrace t → Goes rules t → length t ≤ 4 * length rules.gaps + 1
few_items rules t h g = let n = four_each rules t h g in let m = few_attempts rules t g in omega arith

-- at that number no command is left but the last
some_open : (xs : List ℕ) (s : ℕ) → has xs s ≡ true → 1 ≤ length xs
some_open [] s h = cc
some_open (x ∷ xs) s h = omega arith

pub full_is_over : (rules : Rules) (t : List Item) (c : Command) → IsRaceTrace t → Goes rules t → length t ≡ 4 * length rules.gaps + 1 → ComesNext rules (standing t) c → ((s : ℕ) → c ≡ Close s → has (open_sockets t) s ≡ true) → (a : RaceAnswer) × IsOver rules (standing t) a
full_is_over rules t (Start leaf) h g full next opens =
    let n = four_each rules t h g in
    let room : attempts t < length rules.gaps = ltb-true _ _ (both _ _ next.1.due).0 in
    absurd (omega arith)
full_is_over rules t (Wait until) h g full next opens =
    let n = four_each rules t h g in
    let m = few_attempts rules t g in
    let was = waited rules (standing t) until next in
    absurd (omega arith)
full_is_over rules t (Close s) h g full next opens =
    let n = four_each rules t h g in
    let m = few_attempts rules t g in
    let some = some_open (open_sockets t) s (opens s refl) in
    absurd (omega arith)
full_is_over rules t (Finish a) h g full next opens = (a, next)
