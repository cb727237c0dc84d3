-- The machine for IPv6 addresses reads their grammar.
use Rattle.std.proofs.Common.{◌≡◌, ℕ, ◌+◌, List, [], ◌∷◌, ◌++◌, length, Option, Some, None, Bool, true, false, cond, nat_lt, refl, ◌∙◌, inl, inr, arith, length-append}
use Rattle.std.proofs.lemmas.Bool.{cases_Bool}
use Rattle.std.proofs.lemmas.Bool.Decides.{nat_tests}
use Rattle.taps_endpoint.specs.declared.inet6.Token.{Token}
use Rattle.taps_endpoint.specs.declared.inet6.Token.TheVariants.{Start, FirstColon, Gap, Colon, Digits, Quad}
use Rattle.taps_endpoint.specs.declared.inet4.Inet4State.{Inet4State}
use Rattle.taps_endpoint.specs.declared.inet4.Before.{Before}
use Rattle.taps_endpoint.specs.declared.inet4.Before.TheVariants.{Zero, One, Two, Three}
use Rattle.taps_endpoint.specs.Machines.{Reads, run, Accepts}
use Rattle.taps_endpoint.specs.Inet4Machine.{step_inet4}
use Rattle.taps_endpoint.specs.Inet6Machine.{room, quad_fits, reading, step_inet6, fields_of, quad_of, at_end_inet6, start_inet6}
use Rattle.taps_endpoint.specs.Inet6Texts.{spread, IsInet6Text}
use Rattle.taps_endpoint.proofs.MachineRuns.{run_on}
use Rattle.taps_endpoint.proofs.Inet6Accepts.{eight_fields, accepts}
use Rattle.taps_endpoint.proofs.Inet6Sound.{Read, read_all, sound}
use Rattle.taps_endpoint.proofs.Inet4Reads.{stops_inet4}

-- Each state that is reached can be completed.

abbrev CanEnd : Option (List ℕ) → List ℕ → Token → Type 0
CanEnd front fields token = (address : List ℕ) × (rest : List ℕ) × Accepts step_inet6 at_end_inet6 (reading front fields token) rest address

-- an IPv4 text can be completed
abbrev QuadEnds : Option (List ℕ) → List ℕ → Inet4State → Type 0
QuadEnds front fields s = (two : List ℕ) × (rest : List ℕ) × (t : Inet4State) × (run step_inet6 (reading front fields (Quad s)) rest ≡ Some (reading front fields (Quad t))) × (quad_of t ≡ Some two) × (length two ≡ 2)

quad_ends : (front : Option (List ℕ)) (fields : List ℕ) (before : Before) (number : Option ℕ) → QuadEnds front fields (record { before = before; number = number })
unfolding step_inet6 step_inet4
quad_ends front fields (Three a b c) (Some n) = (_, [], _, refl, refl, refl)
quad_ends front fields (Three a b c) None = (_, 49 ∷ [], _, refl, refl, refl)
quad_ends front fields (Two a b) (Some n) = (_, 46 ∷ 49 ∷ [], _, refl, refl, refl)
quad_ends front fields (Two a b) None = (_, 49 ∷ 46 ∷ 49 ∷ [], _, refl, refl, refl)
quad_ends front fields (One a) (Some n) = (_, 46 ∷ 49 ∷ 46 ∷ 49 ∷ [], _, refl, refl, refl)
quad_ends front fields (One a) None = (_, 49 ∷ 46 ∷ 49 ∷ 46 ∷ 49 ∷ [], _, refl, refl, refl)
quad_ends front fields Zero (Some n) = (_, 46 ∷ 49 ∷ 46 ∷ 49 ∷ 46 ∷ 49 ∷ [], _, refl, refl, refl)
quad_ends front fields Zero None = (_, 49 ∷ 46 ∷ 49 ∷ 46 ∷ 49 ∷ 46 ∷ 49 ∷ [], _, refl, refl, refl)

quad_gives : (front : Option (List ℕ)) (fields two : List ℕ) → length two ≡ 2 → quad_fits front fields ≡ true → (address : List ℕ) × (fields_of front (fields ++ two) ≡ Some address)
quad_gives (Some front) fields two count fits = (_, refl)
quad_gives None fields two count fits = (fields ++ two, eight_fields (fields ++ two) (simp length-append (grind (arith, nat_tests))))

can_end : (front : Option (List ℕ)) (fields : List ℕ) (token : Token) (text : List ℕ) → Read front fields token text → CanEnd front fields token
unfolding step_inet6 at_end_inet6
can_end (Some front) fields Start text read = let none = read.is_now.1 in absurd (cc)
can_end None fields Start text read = (_, 58 ∷ 58 ∷ [], (_, refl, refl))
can_end (Some front) fields FirstColon text read = let none = read.is_now.1 in absurd (cc)
can_end None fields FirstColon text read = (_, 58 ∷ [], (_, refl, refl))
can_end (Some front) fields Gap text read = (_, [], (_, refl, refl))
can_end None fields Gap text read = let none = read.is_now.2 in absurd (cc)
can_end (Some front) fields Colon text read = (_, 48 ∷ [], (_, refl, refl))
can_end None fields Colon text read = (_, 58 ∷ [], (_, refl, refl))
can_end (Some front) fields (Digits v count quad) text read = (_, [], (_, refl, refl))
can_end None fields (Digits v count quad) text read = elim (cases_Bool (nat_lt (length fields + 1) 8)) [
  | inl lt ↦ (spread (fields ++ v ∷ []) [], 58 ∷ 58 ∷ [], (reading (Some (fields ++ v ∷ [])) [] Gap, rw lt refl, refl))
  | inr full ↦ (fields ++ v ∷ [], [], (_, refl, eight_fields (fields ++ v ∷ []) (simp length-append (grind (arith, nat_tests, read.is_now.room)))))
]
can_end front fields (Quad s) text read =
    let ends = quad_ends front fields s.before s.number in
    let (address, gives) = quad_gives front fields ends.0 ends.5 read.is_now.fits in
    (address, ends.1, (reading front fields (Quad ends.2), ends.3, rw ends.4 gives))

pub reads_inet6 : Reads IsInet6Text step_inet6 at_end_inet6 start_inet6
reads_inet6 = record {
  accepts = accepts;
  sound = sound;
  completes = λ x s runs.
      let (address, rest, all) = can_end s.front s.fields s.token x (read_all s x runs) in
      (address, rest, (all.0, run_on step_inet6 start_inet6 s x rest runs ∙ all.1, all.2));
}

either_none : {A : Type 0} (t : Bool) → ◌≡◌ {A = Option A} (cond t None None) None
either_none true = refl
either_none false = refl

-- no IPv6 text goes on with a `]`
pub stops_inet6 : (front : Option (List ℕ)) (fields : List ℕ) (token : Token) → step_inet6 (reading front fields token) 93 ≡ None
unfolding step_inet6
stops_inet6 front fields Start = refl
stops_inet6 front fields FirstColon = refl
stops_inet6 front fields Gap = either_none (nat_lt (length fields) (room front))
stops_inet6 front fields Colon = refl
stops_inet6 front fields (Digits v count quad) = either_none (nat_lt count 4)
stops_inet6 front fields (Quad s) = rw (stops_inet4 s.before s.number 93 refl refl) refl
