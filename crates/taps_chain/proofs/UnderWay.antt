-- Bytes that come in pieces: their messages so far, and the unread bytes behind them.
use Rattle.std.proofs.Common.{◌≡◌, ℕ, ◌+◌, ◌-◌, ◌<◌, ◌≤◌, List, [], ◌∷◌, ◌++◌, length, take, drop, refl, ap, sym, subst, ◌∙◌, arith, length-append, length-drop}
use Rattle.std.proofs.lemmas.List.{drop-drop, length-take-le, take-take, take_all}
use Rattle.taps_framer.specs.Layers.{Layer}
use Rattle.taps_framer.specs.declared.scan.Scan.{Scan}
use Rattle.taps_framer.proofs.Prefixes.{take_drop, take_front}
use Rattle.taps_chain.specs.Chained.{chained, IsSpoken, spelling}
use Rattle.taps_chain.specs.Heard.{needs, fails, IsEnding, IsBegun, IsHeard}
use Rattle.taps_chain.specs.ChainLaws.{AreFramers}
use Rattle.taps_framer.specs.declared.scan.Seen.{Seen}
use Rattle.taps_framer.specs.declared.scan.Seen.TheVariants as seen
use Rattle.taps_chain.specs.Looks.{HasLooked, HasScanned}
use Rattle.taps_chain.specs.Hearings.{IsHearingOf, unread_of, IsUnderWay, Waits}
use Rattle.taps_chain.specs.declared.heard.BadAt.{BadAt}
use Rattle.taps_chain.specs.declared.heard.Heard.TheVariants as heard
use Rattle.taps_chain.specs.declared.progress.Progress.{Progress}
use Rattle.taps_chain.proofs.Spelled.{begun_none, begun_more, begun_ends, begun_heard}
use Rattle.taps_chain.proofs.Delimits.{spelling_long, takes_some}
use Rattle.taps_chain.proofs.Exists.{IsHeardSome, heard_some}
use Rattle.taps_chain.proofs.Cuts.{none_needs, bad_stays}

-- memory ran out for the bytes
pub unheard : (fs : List Layer) → 0 < length fs → AreFramers fs → (x : List ℕ) → length x ≤ 4194304 → (ms : List (List ℕ)) → ms ≡ [] → (r : ℕ) → IsHearingOf fs x ms heard.NoMemory r
unheard fs n w x b ms m r =
    let z : IsHeardSome fs 0 x = heard_some fs n w 0 x (omega arith) in
    let P : List (List ℕ) → Type 0 = λ v. IsHeard fs 0 x (v ++ z.messages) z.ending z.rest in
    (z.messages, (z.ending, (z.rest, subst P (sym m) z.heard)))

-- of no bytes all are scanned
none_left : (y : List ℕ) → y ≡ [] → (scanned : ℕ) (seen : Seen) → scanned ≤ length y → HasScanned y scanned seen
none_left y e scanned (seen.More scan) h = omega (arith, h, ap length e)
none_left y e scanned seen.Whole h = tt
none_left y e scanned seen.Bad h = tt

module _ (fs : List Layer) (n : 0 < length fs) (w : AreFramers fs) (f : Layer) (scans : ℕ → Scan → List ℕ → Type 0) (x : List ℕ) (b : length x ≤ 4194304) where
  -- no byte came
  pub none_came : (p : Progress) → (p.fed ≡ 0) × (p.taken ≡ 0) × (p.index ≡ 0) → ((y : List ℕ) → HasLooked f scans 0 y p.look) → (ms : List (List ℕ)) → ms ≡ [] → Waits fs f scans x ms p
  none_came p e l ms m =
      let d : drop p.taken x ≡ x = ap (λ (v : ℕ). drop v x) e.1 in
      let z : p.fed - p.taken ≡ 0 = omega (arith, e.0) in
      let u : unread_of p x ≡ [] = ap (λ (v : ℕ). take v (drop p.taken x)) z in
      let zero_messages : length ms ≡ 0 = subst (λ (v : List (List ℕ)). length v ≡ 0) (sym m) refl in
      let g : IsBegun fs 0 x [] (drop p.taken x) = subst (λ (v : List ℕ). IsBegun fs 0 x [] v) (sym d) (begun_none fs 0 x) in
      record {
        under_way = record {
          came = omega arith;
          taken = omega arith;
          begun = subst (λ (v : List (List ℕ)). IsBegun fs 0 x v (drop p.taken x)) (sym m) g;
          index = omega (arith, e.2, zero_messages);
          looked = subst (λ (v : ℕ). HasLooked f scans v (unread_of p x) p.look) (sym e.2) (l (unread_of p x));
        };
        all = none_left (unread_of p x) u p.look.scanned p.look.seen (l (unread_of p x)).within;
        needs_more = subst (λ (v : List ℕ). IsEnding fs p.index v needs) (sym u) (none_needs fs n w p.index (omega arith));
      }

  module _ (ms : List (List ℕ)) (p : Progress) (h : IsUnderWay fs f scans x ms p) where
    held : length (unread_of p x) ≡ p.fed - p.taken
    held = length-take-le (p.fed - p.taken) (drop p.taken x) (omega (arith, h.came, h.taken, length-drop p.taken x))

    -- there are at most as many messages and bytes behind them as bytes
    pub index_bound : p.index + length (drop p.taken x) ≤ length x
    index_bound =
        let e : length x ≡ length (spelling fs 0 ms ++ drop p.taken x) = ap length h.begun.split in
        let o : length ms + length (drop p.taken x) ≤ length (spelling fs 0 ms ++ drop p.taken x) = spelling_long fs n w 0 ms (drop p.taken x) (omega arith) h.begun.spoken in
        omega (arith, h.index)

    -- more bytes came, and layer 0 has looked at them
    pub looked_on : (q : Progress) → (p.fed < q.fed) × (q.fed ≤ length x) → (q.taken ≡ p.taken) × (q.index ≡ p.index) →
        HasLooked f scans q.index (unread_of q x) q.look → IsUnderWay fs f scans x ms q
    looked_on q c o l = record {
      came = c.1;
      taken = omega (arith, c.0, o.0, h.taken);
      begun = subst (λ (v : ℕ). IsBegun fs 0 x ms (drop v x)) (sym o.0) h.begun;
      index = o.1 ∙ h.index;
      looked = l;
    }

    -- the unread bytes, and those that are still to come
    split : unread_of p x ++ drop (p.fed - p.taken) (drop p.taken x) ≡ drop p.taken x
    split = take_drop (p.fed - p.taken) (drop p.taken x)

    -- what was heard before memory ran out begins what is heard of all
    pub ends_short : (r : ℕ) → IsHearingOf fs x ms heard.NoMemory r
    ends_short r =
        let z : IsHeardSome fs p.index (drop p.taken x) = heard_some fs n w p.index (drop p.taken x) (omega (arith, index_bound)) in
        (z.messages, (z.ending, (z.rest, begun_heard fs 0 p.index x ms z.messages (drop p.taken x) z.ending z.rest (omega (arith, h.index)) h.begun z.heard)))

    -- the unread bytes are bad
    pub ends_bad : (c : BadAt) (r : ℕ) → c.message ≡ p.index → r + p.taken ≡ length x → IsEnding fs p.index (unread_of p x) (fails c.layer c.place) → IsHearingOf fs x ms (heard.Bad c) r
    ends_bad c r m e i =
        let a : IsEnding fs p.index (drop p.taken x) (fails c.layer c.place) =
        subst (λ (v : List ℕ). IsEnding fs p.index v (fails c.layer c.place)) split
        (bad_stays fs w p.index (omega (arith, index_bound)) (unread_of p x) (drop (p.fed - p.taken) (drop p.taken x)) c.layer c.place i) in
        (drop p.taken x, (begun_ends fs 0 p.index x ms (drop p.taken x) (fails c.layer c.place) (omega (arith, h.index)) h.begun a, m ∙ h.index, omega (arith, length-drop p.taken x)))

    -- a message more, whose bytes layer 0 scanned
    module _ (scanned : ℕ) (m : List ℕ) (in_unread : scanned ≤ length (unread_of p x)) (u : IsSpoken fs p.index m) (s : unread_of p x ≡ chained fs p.index m ++ drop scanned (unread_of p x)) where
      some : 0 < scanned
      some =
          let lt : length (drop scanned (unread_of p x)) < length (unread_of p x) = takes_some fs n w p.index (unread_of p x) m (drop scanned (unread_of p x)) (omega (arith, index_bound)) u s in
          omega (arith, length-drop scanned (unread_of p x))

      pub shorter : length x - (p.taken + scanned) < length x - p.taken
      shorter = omega (arith, some, held, h.came, h.taken)

      pub taken_fits : p.taken + scanned ≤ p.fed
      taken_fits = omega (arith, held, h.taken)

      pub one_more : (q : Progress) → q.taken ≡ p.taken + scanned → q.index ≡ p.index + 1 → q.fed ≡ p.fed →
          ((y : List ℕ) → HasLooked f scans q.index y q.look) → IsUnderWay fs f scans x (ms ++ m ∷ []) q
      one_more q t i c l =
          let g : length (chained fs p.index m) ≡ scanned = omega (arith, ap length s, length-append (chained fs p.index m) (drop scanned (unread_of p x)), length-drop scanned (unread_of p x)) in
          let d : take scanned (unread_of p x) ≡ chained fs p.index m = take_front (chained fs p.index m) (drop scanned (unread_of p x)) (unread_of p x) scanned s (sym g) in
          let k : take scanned (drop p.taken x) ≡ chained fs p.index m = sym (take-take scanned (p.fed - p.taken) (drop p.taken x) (omega (arith, held))) ∙ d in
          let e : drop p.taken x ≡ chained fs p.index m ++ drop (p.taken + scanned) x =
          sym (take_drop scanned (drop p.taken x)) ∙ ap (λ (v : List ℕ). v ++ drop scanned (drop p.taken x)) k ∙ ap (λ (v : List ℕ). chained fs p.index m ++ v) (drop-drop scanned p.taken x) in
          let z : IsBegun fs 0 x (ms ++ m ∷ []) (drop (p.taken + scanned) x) = begun_more fs 0 p.index x ms (drop p.taken x) m (drop (p.taken + scanned) x) (omega (arith, h.index)) h.begun u e in
          record {
            came = omega (arith, h.came);
            taken = omega (arith, taken_fits);
            begun = subst (λ (v : ℕ). IsBegun fs 0 x (ms ++ m ∷ []) (drop v x)) (sym t) z;
            index = omega (arith, i, h.index, length-append ms (m ∷ []));
            looked = l (unread_of q x);
          }

  -- more are needed, and no byte is still to come
  pub ends_needing : (ms : List (List ℕ)) (p : Progress) (r : ℕ) → Waits fs f scans x ms p → length x ≤ p.fed → r + p.taken ≡ length x → IsHearingOf fs x ms heard.Need r
  ends_needing ms p r h all e =
      let u : unread_of p x ≡ drop p.taken x = take_all (p.fed - p.taken) (drop p.taken x) (omega (arith, length-drop p.taken x)) in
      let i : IsEnding fs p.index (drop p.taken x) needs = subst (λ (v : List ℕ). IsEnding fs p.index v needs) u h.needs_more in
      (drop p.taken x, (begun_ends fs 0 p.index x ms (drop p.taken x) needs (omega (arith, h.under_way.index)) h.under_way.begun i, omega (arith, length-drop p.taken x)))
