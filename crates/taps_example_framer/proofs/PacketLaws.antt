-- Packets keep the laws of a framer.
use Rattle.std.proofs.Common.{◌≡◌, ℕ, zero, ◌+◌, ◌-◌, ◌<◌, ◌≤◌, true, false, ◌==◌, List, [], ◌∷◌, ◌++◌, length, take, drop, slice_index, replicate, refl, ap, sym, ◌∙◌, arith, length-append}
use Rattle.std.proofs.Math.Seq.{take-append_seam}
use Rattle.std.proofs.lemmas.List.{length-replicate}
use Rattle.std.proofs.lemmas.Grind.{common_steps}
use Rattle.std.proofs.lemmas.Bool.Decides.{nat_tests}
use Rattle.taps_framer.specs.Scans.{Represents}
use Rattle.taps_framer.specs.declared.scan.Scan.{Scan}
use Rattle.taps_framer.specs.Layers.{IsLawful, IsWholeFrame, IsFramer, holds_whole_frame, is_viable, lives, first_frame}
use Rattle.taps_framer.specs.Sights.{IsBadPlace}
use Rattle.taps_framer.proofs.Laws.{viable_when, holds_this, frame_alone}
use Rattle.taps_framer.proofs.Sights.{holds_none, dead_by, bad_here}
use Rattle.taps_framer.proofs.Prefixes.{take_drop}
use Rattle.taps_example_framer.specs.Packets.{filled, packet, packet_scans, is_marked}

equal_is : (a b : ℕ) → (a == b) ≡ true → a ≡ b
equal_is a b h = grind (arith, nat_tests)

is_equal : (a b : ℕ) → a ≡ b → (a == b) ≡ true
is_equal a b h = grind (arith, nat_tests)

-- what begins a packet

viable_none : (i : ℕ) → is_viable packet i [] ≡ true
viable_none i = viable_when packet i [] (filled []) (71 ∷ filled []) refl refl refl

viable_part : (i a : ℕ) (x : List ℕ) → a ≡ 71 → length x ≤ 187 → is_viable packet i (a ∷ x) ≡ true
viable_part i a x m h =
    let e : length (filled x) ≡ 187 = omega (arith, length-append x (replicate (187 - length x) 0), length-replicate (187 - length x) zero) in
    viable_when packet i (a ∷ x) (filled x) (replicate (187 - length x) 0) refl (is_equal _ _ e) (ap (λ (v : ℕ). v ∷ filled x) (sym m))

-- the laws

completes : (i : ℕ) (b x y : List ℕ) → length b ≡ 187 → 71 ∷ b ≡ x ++ y → is_viable packet i x ≡ true
completes i b [] y k e = viable_none i
completes i b (a ∷ x) y k e =
    let m : a ≡ 71 = cc in
    let c : b ≡ x ++ y = cc in
    viable_part i a x m (omega (arith, k, ap length c ∙ length-append x y))

fronts : (b y : List ℕ) → length b ≡ 187 → take 187 (b ++ y) ≡ b
fronts b y k = ap (λ (n : ℕ). take n (b ++ y)) (sym k) ∙ take-append_seam b y

packet_lawful : (i : ℕ) → IsLawful packet i
packet_lawful i = record {
  some = λ b s. omega arith;
  bounded = λ b s. let k : length b ≡ 187 = equal_is _ _ s in omega arith;
  fronts = λ b y s. fronts b y (equal_is _ _ s);
  completes = λ b x y s e. completes i b x y (equal_is _ _ s) e;
  begins = viable_none i;
}

pub packet_is_framer : IsFramer packet
packet_is_framer = record { at = λ i h. packet_lawful i }

-- what is seen at the start of a buffer

pub needs_none : (i : ℕ) (x : List ℕ) → length x ≡ 0 → (holds_whole_frame packet i x ≡ false) × (is_viable packet i x ≡ true)
needs_none i [] h = (holds_none packet i [] (λ b y s e. cc e), viable_none i)
needs_none i (a ∷ x) h = absurd (omega arith)

needs : (i : ℕ) (x : List ℕ) → is_marked x ≡ true → length x < 188 → (holds_whole_frame packet i x ≡ false) × (is_viable packet i x ≡ true)
needs i [] m h = needs_none i [] refl
needs i (a ∷ x) m h = (
  holds_none packet i (a ∷ x) (λ b y s e.
      let k : length b ≡ 187 = equal_is _ _ s in
      let c : x ≡ b ++ y = cc in
      omega (arith, k, ap length c ∙ length-append b y)),
  viable_part i a x (equal_is _ _ m) (omega arith),
)

pub needs_more : (i : ℕ) (x : List ℕ) → slice_index x 0 ≡ 71 → length x < 188 → (holds_whole_frame packet i x ≡ false) × (is_viable packet i x ≡ true)
needs_more i [] m h = needs i [] refl h
needs_more i (a ∷ x) m h = needs i (a ∷ x) (is_equal _ _ m) h

dead : (i a : ℕ) → (a ≡ 71 → ⊥) → lives packet i (a ∷ []) ≡ false
dead i a h = dead_by packet i (a ∷ []) (λ b y z s e. h (cc e))

pub bad_mark : (i : ℕ) (x : List ℕ) → (length x ≡ 0 → ⊥) → (slice_index x 0 ≡ 71 → ⊥) → (lives packet i x ≡ false) × IsBadPlace packet i x 0
bad_mark i [] n h = absurd (n refl)
bad_mark i (a ∷ x) n h = bad_here packet i (packet_lawful i) (a ∷ x) 0 (omega arith) (viable_none i) (dead i a h)

taken : (n : ℕ) (x : List ℕ) → n ≤ length x → length (take n x) ≡ n
taken n x h = grind (arith, common_steps)

pub whole : (i : ℕ) (x : List ℕ) → slice_index x 0 ≡ 71 → 188 ≤ length x → (holds_whole_frame packet i x ≡ true) × (188 ≡ length (first_frame packet i x))
whole i [] m h = absurd (omega arith)
whole i (a ∷ x) m h =
    let k : length (take 187 x) ≡ 187 = taken 187 x (omega arith) in
    let e : a ∷ x ≡ 71 ∷ (take 187 x ++ drop 187 x) = ap (λ (v : ℕ). v ∷ x) m ∙ sym (ap (λ (v : List ℕ). 71 ∷ v) (take_drop 187 x)) in
    let r = holds_this packet i (packet_lawful i) (a ∷ x) (take 187 x) (drop 187 x) (is_equal _ _ k) e in
    (r.0, omega (arith, ap length r.1, k))

-- what is seen byte by byte

pub starts : (i : ℕ) (scan : Scan) → scan.length ≡ 0 → Represents packet packet_scans i scan []
starts i scan z = record {
  told = record { counted = sym z; small = omega arith; marked = refl };
  viable = viable_none i;
  unfinished = (needs_none i [] refl).0;
}

marked_more : (x : List ℕ) (b : ℕ) → is_marked x ≡ true → ((length x ≡ 0) → b ≡ 71) → is_marked (x ++ b ∷ []) ≡ true
marked_more [] b m h = is_equal _ _ (h refl)
marked_more (a ∷ x) b m h = m

-- one byte more, which is the mark if it is the first
pub step_more : (i : ℕ) (scan next : Scan) (x : List ℕ) (b : ℕ) → ((scan.length ≡ 0) → b ≡ 71) → (scan.length ≡ 187 → ⊥) → next.length ≡ scan.length + 1 →
    Represents packet packet_scans i scan x → Represents packet packet_scans i next (x ++ b ∷ [])
step_more i scan next x b m h e r =
    let s : scan.length < 188 = r.told.small in
    let c : length x ≡ scan.length = r.told.counted in
    let k : is_marked (x ++ b ∷ []) ≡ true = marked_more x b r.told.marked (λ z. m (sym c ∙ z)) in
    let l : length (x ++ b ∷ []) ≡ next.length = omega (arith, length-append x (b ∷ []), c, e) in
    let v = needs i (x ++ b ∷ []) k (omega (arith, s, h, l, e)) in
    record { told = record { counted = l; small = omega (arith, s, h, e); marked = k }; viable = v.1; unfinished = v.0 }

pub step_whole : (i : ℕ) (scan : Scan) (x : List ℕ) (b : ℕ) → scan.length ≡ 187 → Represents packet packet_scans i scan x → IsWholeFrame packet i (x ++ b ∷ [])
step_whole i scan [] b n r = absurd (let c : 0 ≡ scan.length = r.told.counted in omega arith)
step_whole i scan (a ∷ x) b n r =
    let c : length (a ∷ x) ≡ scan.length = r.told.counted in
    let m : a ≡ 71 = equal_is _ _ r.told.marked in
    let k : length (x ++ b ∷ []) ≡ 187 = omega (arith, length-append x (b ∷ []), c) in
    frame_alone packet i (packet_lawful i) (x ++ b ∷ []) (a ∷ (x ++ b ∷ [])) (is_equal _ _ k) (ap (λ (v : ℕ). v ∷ (x ++ b ∷ [])) m)

pub step_bad : (i : ℕ) (scan : Scan) (x : List ℕ) (b : ℕ) → scan.length ≡ 0 → (b ≡ 71 → ⊥) → Represents packet packet_scans i scan x → lives packet i (x ++ b ∷ []) ≡ false
step_bad i scan [] b z h r = dead i b h
step_bad i scan (a ∷ x) b z h r = absurd (let c : length (a ∷ x) ≡ scan.length = r.told.counted in omega arith)
