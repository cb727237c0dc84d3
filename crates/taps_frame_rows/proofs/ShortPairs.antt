-- The framers of the tests keep their laws.
use Rattle.std.proofs.Common.{◌≡◌, ℕ, zero, ◌+◌, ◌-◌, ◌<◌, ◌≤◌, true, false, List, [], ◌∷◌, ◌++◌, length, take, drop, slice_index, replicate, refl, ap, sym, subst, ◌∙◌, arith, length-append}
use Rattle.std.proofs.Math.Seq.{take-append_seam}
use Rattle.std.proofs.lemmas.List.{length-replicate}
use Rattle.std.proofs.lemmas.Grind.{common_steps}
use Rattle.taps_framer.specs.Scans.{Represents}
use Rattle.taps_framer.specs.declared.scan.Scan.{Scan}
use Rattle.taps_framer.specs.Layers.{IsLawful, IsWholeFrame, IsFramer, holds_whole_frame, is_viable, lives, first_frame}
use Rattle.taps_framer.specs.Sights.{IsBadPlace}
use Rattle.taps_framer.proofs.Bytes.{is_below, below_is}
use Rattle.taps_framer.proofs.Laws.{viable_when, holds_this, frame_alone}
use Rattle.taps_framer.proofs.Sights.{holds_none, dead_by, bad_here}
use Rattle.taps_framer.proofs.Prefixes.{take_drop}
use Rattle.taps_frame_rows.specs.TestFramers.{is_one, pair_bytes, pair, pair_scans, short, short_scans}

-- a pair

pub pair_viable_none : (i : ℕ) → is_viable pair i [] ≡ true
pair_viable_none i = viable_when pair i [] (0 ∷ []) (0 ∷ 255 ∷ []) refl refl refl

pub pair_viable_one : (i a : ℕ) → is_viable pair i (a ∷ []) ≡ true
pair_viable_one i a = viable_when pair i (a ∷ []) (a ∷ []) ((255 - a) ∷ []) refl refl refl

pair_viable_two : (i a : ℕ) → is_viable pair i (pair_bytes a) ≡ true
pair_viable_two i a = viable_when pair i (pair_bytes a) (a ∷ []) [] refl refl refl

pair_completes : (i a : ℕ) (x y : List ℕ) → pair_bytes a ≡ x ++ y → is_viable pair i x ≡ true
pair_completes i a [] y e = pair_viable_none i
pair_completes i a (p ∷ []) y e = pair_viable_one i p
pair_completes i a (p ∷ q ∷ []) y e =
    let g : p ∷ q ∷ [] ≡ pair_bytes a = cc in
    subst (λ (v : List ℕ). is_viable pair i v ≡ true) (sym g) (pair_viable_two i a)
pair_completes i a (p ∷ q ∷ r ∷ x) y e = absurd (cc e)

pair_fronts : (i : ℕ) (b y : List ℕ) → is_one b ≡ true → take 1 (pair_bytes (slice_index b 0) ++ y) ≡ b
pair_fronts i [] y s = absurd (cc s)
pair_fronts i (a ∷ []) y s = refl
pair_fronts i (a ∷ c ∷ b) y s = absurd (cc s)

pair_lawful : (i : ℕ) → IsLawful pair i
pair_lawful i = record {
  some = λ b s. omega arith;
  bounded = λ b s. omega arith;
  fronts = λ b y s. pair_fronts i b y s;
  completes = λ b x y s e. pair_completes i (slice_index b 0) x y e;
  begins = pair_viable_none i;
}

pub pair_is_framer : IsFramer pair
pair_is_framer = record { at = λ i h. pair_lawful i }

pair_dead : (i a b : ℕ) → (b ≡ 255 - a → ⊥) → lives pair i (a ∷ b ∷ []) ≡ false
pair_dead i a b h = dead_by pair i (a ∷ b ∷ []) (λ c y z s e. h (cc e))

pub pair_bad : (i : ℕ) (x : List ℕ) → 2 ≤ length x → (slice_index x 1 ≡ 255 - slice_index x 0 → ⊥) → (lives pair i x ≡ false) × IsBadPlace pair i x 1
pair_bad i [] n h = absurd (omega arith)
pair_bad i (a ∷ []) n h = absurd (omega arith)
pair_bad i (a ∷ b ∷ x) n h = bad_here pair i (pair_lawful i) (a ∷ b ∷ x) 1 (omega arith) (pair_viable_one i a) (pair_dead i a b h)

pub pair_holds : (i : ℕ) (x : List ℕ) → 2 ≤ length x → slice_index x 1 ≡ 255 - slice_index x 0 → holds_whole_frame pair i x ≡ true
pair_holds i [] n e = absurd (omega arith)
pair_holds i (a ∷ []) n e = absurd (omega arith)
pair_holds i (a ∷ b ∷ x) n e = (holds_this pair i (pair_lawful i) (a ∷ b ∷ x) (a ∷ []) x refl (ap (λ (v : ℕ). a ∷ v ∷ x) e)).0

pub pair_short : (i : ℕ) (x : List ℕ) → length x < 2 → (holds_whole_frame pair i x ≡ false) × (is_viable pair i x ≡ true)
pair_short i [] h = (holds_none pair i [] (λ b y s e. cc e), pair_viable_none i)
pair_short i (a ∷ []) h = (holds_none pair i (a ∷ []) (λ b y s e. cc e), pair_viable_one i a)
pair_short i (a ∷ b ∷ x) h = absurd (omega arith)

pub pair_starts : (i : ℕ) (scan : Scan) → scan.phase ≡ 0 → Represents pair pair_scans i scan []
pair_starts i scan z = record { told = z; viable = pair_viable_none i; unfinished = (pair_short i [] (omega arith)).0 }

-- the first byte of a pair
pub pair_more : (i : ℕ) (scan : Scan) (x : List ℕ) (b : ℕ) → scan.phase ≡ 0 → Represents pair pair_scans i scan x → Represents pair pair_scans i record { phase = 1; length = b; rest = 0 } (x ++ b ∷ [])
pair_more i scan [] b z h = record { told = (refl, refl); viable = pair_viable_one i b; unfinished = (pair_short i (b ∷ []) (omega arith)).0 }
pair_more i scan (a ∷ []) b z h = absurd (let t : scan.phase ≡ 1 = h.told.0 in omega arith)
pair_more i scan (a ∷ c ∷ x) b z h = absurd h.told

-- the second
pub pair_whole : (i : ℕ) (scan : Scan) (x : List ℕ) (b : ℕ) → (scan.phase ≡ 0 → ⊥) → b ≡ 255 - scan.length → Represents pair pair_scans i scan x → IsWholeFrame pair i (x ++ b ∷ [])
pair_whole i scan [] b n e h = absurd (n h.told)
pair_whole i scan (a ∷ []) b n e h =
    let t : b ≡ 255 - a = e ∙ ap (λ (v : ℕ). 255 - v) h.told.1 in
    record { spoken = refl; exact = ap (λ (v : ℕ). a ∷ v ∷ []) (sym t) }
pair_whole i scan (a ∷ c ∷ x) b n e h = absurd h.told

pub pair_wrong : (i : ℕ) (scan : Scan) (x : List ℕ) (b : ℕ) → (scan.phase ≡ 0 → ⊥) → (b ≡ 255 - scan.length → ⊥) → Represents pair pair_scans i scan x → lives pair i (x ++ b ∷ []) ≡ false
pair_wrong i scan [] b n e h = absurd (n h.told)
pair_wrong i scan (a ∷ []) b n e h = pair_dead i a b (λ t. e (t ∙ ap (λ (v : ℕ). 255 - v) (sym h.told.1)))
pair_wrong i scan (a ∷ c ∷ x) b n e h = absurd h.told

-- a length byte

short_viable : (i n : ℕ) (x : List ℕ) → length x ≤ n → n < 256 → is_viable short i (n ∷ x) ≡ true
short_viable i n x h k =
    let e : length (x ++ replicate (n - length x) 0) ≡ n = omega (arith, length-append x (replicate (n - length x) 0), length-replicate (n - length x) zero) in
    viable_when short i (n ∷ x) (x ++ replicate (n - length x) 0) (replicate (n - length x) 0) refl (rw e (is_below n 256 k)) (ap (λ (v : ℕ). v ∷ (x ++ replicate (n - length x) 0)) e)

short_viable_none : (i : ℕ) → is_viable short i [] ≡ true
short_viable_none i = viable_when short i [] [] (0 ∷ []) refl refl refl

short_completes : (i : ℕ) (b x y : List ℕ) → length b < 256 → length b ∷ b ≡ x ++ y → is_viable short i x ≡ true
short_completes i b [] y k e = short_viable_none i
short_completes i b (n ∷ x) y k e =
    let a : length b ≡ n = cc in
    let c : b ≡ x ++ y = cc in
    short_viable i n x (omega (arith, ap length c ∙ length-append x y)) (omega arith)

short_lawful : (i : ℕ) → IsLawful short i
short_lawful i = record {
  some = λ b s. omega arith;
  bounded = λ b s. let k : length b < 256 = below_is _ _ s in omega arith;
  fronts = λ b y s. take-append_seam b y;
  completes = λ b x y s e. short_completes i b x y (below_is _ _ s) e;
  begins = short_viable_none i;
}

pub short_is_framer : IsFramer short
short_is_framer = record { at = λ i h. short_lawful i }

pub short_needs : (i : ℕ) (x : List ℕ) → slice_index x 0 < 256 → length x ≤ slice_index x 0 → (holds_whole_frame short i x ≡ false) × (is_viable short i x ≡ true)
short_needs i [] k h = (holds_none short i [] (λ b y s e. cc e), short_viable_none i)
short_needs i (n ∷ x) k h = (
  holds_none short i (n ∷ x) (λ b y s e.
      let a : n ≡ length b = cc in
      let c : x ≡ b ++ y = cc in
      omega (arith, ap length c ∙ length-append b y)),
  short_viable i n x (omega arith) k,
)

pub short_whole : (i : ℕ) (x : List ℕ) → slice_index x 0 < 256 → slice_index x 0 < length x → (holds_whole_frame short i x ≡ true) × (1 + slice_index x 0 ≡ length (first_frame short i x))
short_whole i [] k h = absurd (omega arith)
short_whole i (n ∷ x) k h =
    let e : length (take n x) ≡ n = grind (arith, common_steps) in
    let r = holds_this short i (short_lawful i) (n ∷ x) (take n x) (drop n x) (rw e (is_below n 256 k)) (sym (ap (λ (v : ℕ). v ∷ (take n x ++ drop n x)) e ∙ ap (λ (v : List ℕ). n ∷ v) (take_drop n x))) in
    (r.0, omega (arith, ap length r.1, e))

pub short_starts : (i : ℕ) (scan : Scan) → scan.phase ≡ 0 → Represents short short_scans i scan []
short_starts i scan z = record { told = z; viable = short_viable_none i; unfinished = (short_needs i [] (omega arith) (omega arith)).0 }

-- the length byte
pub short_empty : (i : ℕ) (scan : Scan) (x : List ℕ) (b : ℕ) → scan.phase ≡ 0 → b ≡ 0 → Represents short short_scans i scan x → IsWholeFrame short i (x ++ b ∷ [])
short_empty i scan [] b z e h = frame_alone short i (short_lawful i) [] (b ∷ []) refl (ap (λ (v : ℕ). v ∷ []) e)
short_empty i scan (n ∷ x) b z e h = absurd (let t : scan.phase ≡ 1 = h.told.0 in omega arith)

pub short_length : (i : ℕ) (scan : Scan) (x : List ℕ) (b : ℕ) → scan.phase ≡ 0 → (b ≡ 0 → ⊥) → b < 256 → Represents short short_scans i scan x → Represents short short_scans i record { phase = 1; length = 0; rest = b } (x ++ b ∷ [])
short_length i scan [] b z n k h =
    let lt : 0 < b = omega (arith, n) in
    record {
      told = (refl, omega arith, lt, k);
      viable = short_viable i b [] (omega arith) k;
      unfinished = (short_needs i (b ∷ []) k (omega arith)).0;
    }
short_length i scan (m ∷ x) b z n k h = absurd (let t : scan.phase ≡ 1 = h.told.0 in omega arith)

-- the last byte, and one before it
pub short_last : (i : ℕ) (scan : Scan) (x : List ℕ) (b : ℕ) → (scan.phase ≡ 0 → ⊥) → scan.rest ≤ 1 → Represents short short_scans i scan x → IsWholeFrame short i (x ++ b ∷ [])
short_last i scan [] b n le h = absurd (n h.told)
short_last i scan (m ∷ x) b n le h =
    let l : length x + scan.rest ≡ m = h.told.1 in
    let r : 0 < scan.rest = h.told.2 in
    let k : m < 256 = h.told.3 in
    let e : length (x ++ b ∷ []) ≡ m = omega (arith, length-append x (b ∷ [])) in
    frame_alone short i (short_lawful i) (x ++ b ∷ []) (m ∷ (x ++ b ∷ [])) (rw e (is_below m 256 k)) (ap (λ (v : ℕ). v ∷ (x ++ b ∷ [])) (sym e))

pub short_next : (i : ℕ) (scan : Scan) (x : List ℕ) (b : ℕ) → (scan.phase ≡ 0 → ⊥) → 1 < scan.rest → Represents short short_scans i scan x →
    Represents short short_scans i record { phase = 1; length = 0; rest = scan.rest - 1 } (x ++ b ∷ [])
short_next i scan [] b n lt h = absurd (n h.told)
short_next i scan (m ∷ x) b n lt h =
    let l : length x + scan.rest ≡ m = h.told.1 in
    let k : m < 256 = h.told.3 in
    let e : length (x ++ b ∷ []) + (scan.rest - 1) ≡ m = omega (arith, length-append x (b ∷ [])) in
    let le : length (x ++ b ∷ []) ≤ m = omega (arith, length-append x (b ∷ [])) in
    record {
      told = (refl, e, omega arith, k);
      viable = short_viable i m (x ++ b ∷ []) le k;
      unfinished = (short_needs i (m ∷ (x ++ b ∷ [])) k (omega (arith, length-append x (b ∷ [])))).0;
    }
