-- What layer 0 has looked at.
use Rattle.std.proofs.Common.{◌≡◌, ℕ, ◌+◌, ◌-◌, ◌<◌, ◌≤◌, true, false, List, [], ◌∷◌, ◌++◌, length, take, drop, ap, sym, subst, ◌∙◌, arith, length-append, length-drop}
use Rattle.std.proofs.lemmas.Grind.{common_steps}
use Rattle.std.proofs.lemmas.List.{drop-drop, length-take-le, take-take}
use Rattle.std.proofs.Math.Seq.{take-add}
use Rattle.taps_framer.specs.Layers.{Layer, IsWholeFrame, is_viable, lives}
use Rattle.taps_framer.specs.Scans.{Represents, IsSeen, IsRun}
use Rattle.taps_framer.specs.declared.scan.Run.{Run}
use Rattle.taps_framer.specs.declared.scan.Run.TheVariants as run
use Rattle.taps_framer.specs.declared.scan.Scan.{Scan}
use Rattle.taps_framer.specs.declared.scan.Seen.{Seen}
use Rattle.taps_framer.specs.declared.scan.Seen.TheVariants as seen
use Rattle.taps_chain.specs.declared.look.Look.{Look}
use Rattle.taps_chain.specs.Looks.{IsSettled, HasLooked, HasScanned, LooksOn}

module _ (f : Layer) (scans : ℕ → Scan → List ℕ → Type 0) (k : ℕ) (x : List ℕ) (old : Look) (scan : Scan) (o : old.seen ≡ seen.More scan) (h : HasLooked f scans k x old) (bytes : List ℕ) (cut : bytes ≡ drop old.scanned x) where
  represents : Represents f scans k scan (take old.scanned x)
  represents = subst (λ (v : Seen). IsSettled f scans k (take old.scanned x) v) o h.settled

  -- the scanned bytes and some of those behind
  on : (n : ℕ) → take old.scanned x ++ take n bytes ≡ take (old.scanned + n) x
  on n = ap (λ (v : List ℕ). take old.scanned x ++ take n v) cut ∙ sym (take-add old.scanned n x)

  left : length bytes ≡ length x - old.scanned
  left = ap length cut ∙ length-drop old.scanned x

  pub looked_whole : (used : ℕ) →
      ((y : List ℕ) → Represents f scans k scan y → (1 ≤ used) × (used ≤ length bytes) × IsWholeFrame f k (y ++ take used bytes)) →
      LooksOn f scans k x old record { scanned = old.scanned + used; seen = seen.Whole }
  looked_whole used run =
      let w = run (take old.scanned x) represents in
      let P : List ℕ → Type 0 = λ v. IsWholeFrame f k v in
      record {
        looked = record { within = omega (arith, h.within, w.1, left); settled = subst P (on used) w.2 };
        forward = omega arith;
        all = tt;
      }

  pub looked_bad : (place : ℕ) →
      ((y : List ℕ) → Represents f scans k scan y → (place < length bytes) × (is_viable f k (y ++ take place bytes) ≡ true) × (lives f k (y ++ take (place + 1) bytes) ≡ false)) →
      LooksOn f scans k x old record { scanned = old.scanned + (place + 1); seen = seen.Bad }
  looked_bad place run =
      let w = run (take old.scanned x) represents in
      let n : old.scanned + (place + 1) ≤ length x = omega (arith, h.within, w.0, left) in
      let m : length (take (old.scanned + (place + 1)) x) ≡ old.scanned + (place + 1) = grind (arith, common_steps) in
      let V : List ℕ → Type 0 = λ v. is_viable f k v ≡ true in
      let D : List ℕ → Type 0 = λ v. lives f k v ≡ false in
      let e : take (old.scanned + place) x ≡ take (length (take (old.scanned + (place + 1)) x) - 1) (take (old.scanned + (place + 1)) x) = rw m (grind (arith, common_steps)) in
      record {
        looked = record {
          within = n;
          settled = (omega (arith, m), subst V (on place ∙ e) w.1, subst D (on (place + 1)) w.2);
        };
        forward = omega arith;
        all = tt;
      }

-- what is seen in the first bytes stands where more come
pub looked_longer : (f : Layer) (scans : ℕ → Scan → List ℕ → Type 0) (k : ℕ) (x : List ℕ) (n m : ℕ) → n ≤ m → (look : Look) → HasLooked f scans k (take n x) look → HasLooked f scans k (take m x) look
looked_longer f scans k x n m le look h =
    let s : length (take n x) ≤ n = grind (arith, common_steps) in
    let t : length (take n x) ≤ length (take m x) = grind (arith, common_steps) in
    let e : take look.scanned (take n x) ≡ take look.scanned (take m x) = take-take look.scanned n x (omega (arith, h.within, s)) ∙ sym (take-take look.scanned m x (omega (arith, h.within, s, le))) in
    let P : List ℕ → Type 0 = λ v. IsSettled f scans k v look.seen in
    record { within = omega (arith, h.within, t); settled = subst P e h.settled }

-- all of the first bytes are scanned, and some of those behind them are looked at
module _ (f : Layer) (scans : ℕ → Scan → List ℕ → Type 0) (k : ℕ) (x : List ℕ) (taken fed : ℕ) (old : Look) (scan : Scan) (o : old.seen ≡ seen.More scan)
    (h : HasLooked f scans k (take (fed - taken) (drop taken x)) old) (a : HasScanned (take (fed - taken) (drop taken x)) old.scanned old.seen)
    (before : taken ≤ fed) (within : fed < length x) where
  all : old.scanned ≡ fed - taken
  all =
      let w : old.scanned ≡ length (take (fed - taken) (drop taken x)) = subst (λ (v : Seen). HasScanned (take (fed - taken) (drop taken x)) old.scanned v) o a in
      w ∙ length-take-le (fed - taken) (drop taken x) (omega (arith, before, within, length-drop taken x))

  pub represents_all : Represents f scans k scan (take (fed - taken) (drop taken x))
  represents_all =
      let S : Seen → Type 0 = λ v. IsSettled f scans k (take old.scanned (take (fed - taken) (drop taken x))) v in
      let e : take old.scanned (take (fed - taken) (drop taken x)) ≡ take (fed - taken) (drop taken x) =
      ap (λ (v : ℕ). take v (take (fed - taken) (drop taken x))) all ∙ take-take (fed - taken) (fed - taken) (drop taken x) (omega arith) in
      subst (λ (v : List ℕ). Represents f scans k scan v) e (subst S o h.settled)

  pub looked_behind : (bytes : List ℕ) → bytes ≡ drop fed x → (n : ℕ) (seen : Seen) → n ≤ length bytes → IsSettled f scans k (take (fed - taken) (drop taken x) ++ take n bytes) seen →
      HasLooked f scans k (take ((fed + n) - taken) (drop taken x)) record { scanned = old.scanned + n; seen = seen }
  looked_behind bytes cut n seen few settled =
      let le : fed + n ≤ length x = omega (arith, few, within, ap length cut, length-drop fed x) in
      let m : ℕ = (fed + n) - taken in
      let c : taken + (fed - taken) ≡ fed = omega (arith, before) in
      let d : drop (fed - taken) (drop taken x) ≡ drop fed x = drop-drop (fed - taken) taken x ∙ ap (λ (v : ℕ). drop v x) c in
      let e : take (fed - taken) (drop taken x) ++ take n (drop fed x) ≡ take ((fed - taken) + n) (drop taken x) =
      ap (λ (v : List ℕ). take (fed - taken) (drop taken x) ++ take n v) (sym d) ∙ sym (take-add (fed - taken) n (drop taken x)) in
      let g : (fed - taken) + n ≡ m = omega (arith, before) in
      let t : take (old.scanned + n) (take m (drop taken x)) ≡ take ((fed - taken) + n) (drop taken x) =
      take-take (old.scanned + n) m (drop taken x) (omega (arith, all, before)) ∙ ap (λ (v : ℕ). take (v + n) (drop taken x)) all in
      let P : List ℕ → Type 0 = λ v. IsSettled f scans k v seen in
      record {
        within = omega (arith, all, before, le, length-take-le m (drop taken x) (omega (arith, before, le, length-drop taken x)));
        settled = subst P (ap (λ (v : List ℕ). take (fed - taken) (drop taken x) ++ take n v) cut ∙ e ∙ sym t) settled;
      }

-- what is seen with one byte more settles it
pub settled_by : (f : Layer) (scans : ℕ → Scan → List ℕ → Type 0) (k : ℕ) (x : List ℕ) (scan : Scan) (b : ℕ) → Represents f scans k scan x → (seen : Seen) → IsSeen f scans k (x ++ b ∷ []) seen →
    IsSettled f scans k (x ++ b ∷ []) seen
settled_by f scans k x scan b r (seen.More next) h = h
settled_by f scans k x scan b r seen.Whole h = h
settled_by f scans k x scan b r seen.Bad h =
    let n : length (x ++ b ∷ []) ≡ length x + 1 = length-append x (b ∷ []) in
    let e : x ≡ take (length (x ++ b ∷ []) - 1) (x ++ b ∷ []) = rw n (grind (arith, common_steps)) in
    (omega (arith, n), subst (λ (v : List ℕ). is_viable f k v ≡ true) e r.viable, h)

-- what a run says, by what it is
module _ (f : Layer) (scans : ℕ → Scan → List ℕ → Type 0) (k : ℕ) (x bytes : List ℕ) (r : Run) (h : IsRun f scans k x bytes r) where
  pub more_of : (scan : Scan) → r ≡ run.More scan → Represents f scans k scan (x ++ bytes)
  more_of scan e = subst (λ (v : Run). IsRun f scans k x bytes v) e h

  pub whole_of : (used : ℕ) → r ≡ run.Whole used → (1 ≤ used) × (used ≤ length bytes) × IsWholeFrame f k (x ++ take used bytes)
  whole_of used e = subst (λ (v : Run). IsRun f scans k x bytes v) e h

  pub bad_of : (place : ℕ) → r ≡ run.Bad place → (place < length bytes) × (is_viable f k (x ++ take place bytes) ≡ true) × (lives f k (x ++ take (place + 1) bytes) ≡ false)
  bad_of place e = subst (λ (v : Run). IsRun f scans k x bytes v) e h
