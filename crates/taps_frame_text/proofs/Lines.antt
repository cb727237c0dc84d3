-- Lines, one behind the other.
use Rattle.std.proofs.Common.{◌≡◌, ◌<◌, ℕ, map, ◌+◌, Bool, false, true, ◌&&◌, Option, None, Some, List, [], ◌∷◌, ◌++◌, length, drop, get_or, append_assoc, refl, ap, sym, ◌∙◌}
use Rattle.std.proofs.lemmas.List.{drop_more, append-nil}
use Rattle.std.specs.Option.{is_none}
use Rattle.taps_framer.specs.Layers.{Layer}
use Rattle.taps_chain.specs.Chained.{chained, chain_refusal}
use Rattle.taps_frame_text.specs.FrameLines.{framed_line, lines_after, frame_lines, are_all_spoken}

-- the bodies before a place are all spoken, and their lines are put behind what was there
pub record IsFramedTo {A : Type 0} (fs : List Layer) (view : A → List ℕ) (bodies : List A) (first now : List ℕ) (number : ℕ) : Type 0 where
  pub put : now ++ frame_lines fs number (map view (drop number bodies)) ≡ first ++ frame_lines fs 0 (map view bodies)
  pub spoken : are_all_spoken fs number (map view (drop number bodies)) ≡ are_all_spoken fs 0 (map view bodies)

-- what stands behind a body that was not refused, and behind one that was
spoken_behind : (refusal : Option ℕ) (lines : List ℕ) → is_none refusal ≡ true → lines_after refusal lines ≡ lines
spoken_behind None lines h = refl
spoken_behind (Some l) lines h = absurd (cc h)

refused_behind : (refusal : Option ℕ) (lines : List ℕ) → is_none refusal ≡ false → lines_after refusal lines ≡ []
refused_behind None lines h = absurd (cc h)
refused_behind (Some l) lines h = refl

spoken_and : (a b : Bool) → a ≡ true → (a && b) ≡ b
spoken_and a b h = ap (λ (v : Bool). v && b) h

refused_and : (a b : Bool) → a ≡ false → (a && b) ≡ false
refused_and a b h = ap (λ (v : Bool). v && b) h

module _ {A : Type 0} (fs : List Layer) (view : A → List ℕ) (bodies : List A) (first now next : List ℕ) (number : ℕ) (body : A) where
  framed_next : number < length bodies → body ≡ get_or bodies number body → map view (drop number bodies) ≡ view body ∷ map view (drop (number + 1) bodies)
  framed_next lt is = rw (drop_more bodies number body lt, ← is) refl

  -- the line of a spoken body is put
  pub spoken_framed : number < length bodies → body ≡ get_or bodies number body → IsFramedTo fs view bodies first now number
      → next ≡ now ++ framed_line (chain_refusal fs number (view body)) number (chained fs number (view body))
      → is_none (chain_refusal fs number (view body)) ≡ true → IsFramedTo fs view bodies first next (number + 1)
  spoken_framed lt is h grown good =
      let refusal : Option ℕ = chain_refusal fs number (view body) in
      let line : List ℕ = framed_line (chain_refusal fs number (view body)) number (chained fs number (view body)) in
      let behind : List ℕ = frame_lines fs (number + 1) (map view (drop (number + 1) bodies)) in
      let e = framed_next lt is in
      let p : now ++ (line ++ lines_after refusal behind) ≡ first ++ frame_lines fs 0 (map view bodies) =
      ap (λ (v : List (List ℕ)). now ++ frame_lines fs number v) (sym e) ∙ h.put in
      record {
        put = ap (λ (v : List ℕ). v ++ behind) grown ∙ append_assoc now line behind ∙ ap (λ (v : List ℕ). now ++ (line ++ v)) (sym (spoken_behind refusal behind good)) ∙ p;
        spoken = sym (spoken_and (is_none refusal) (are_all_spoken fs (number + 1) (map view (drop (number + 1) bodies))) good) ∙ ap (λ (v : List (List ℕ)). are_all_spoken fs number v) (sym e) ∙ h.spoken;
      }

  -- the line of the first body that is refused is put, and is the last
  pub refused_framed : number < length bodies → body ≡ get_or bodies number body → IsFramedTo fs view bodies first now number
      → next ≡ now ++ framed_line (chain_refusal fs number (view body)) number (chained fs number (view body))
      → is_none (chain_refusal fs number (view body)) ≡ false
      → (next ≡ first ++ frame_lines fs 0 (map view bodies)) × (false ≡ are_all_spoken fs 0 (map view bodies))
  refused_framed lt is h grown bad =
      let refusal : Option ℕ = chain_refusal fs number (view body) in
      let line : List ℕ = framed_line (chain_refusal fs number (view body)) number (chained fs number (view body)) in
      let behind : List ℕ = frame_lines fs (number + 1) (map view (drop (number + 1) bodies)) in
      let e = framed_next lt is in
      let p : now ++ (line ++ lines_after refusal behind) ≡ first ++ frame_lines fs 0 (map view bodies) =
      ap (λ (v : List (List ℕ)). now ++ frame_lines fs number v) (sym e) ∙ h.put in (
        grown ∙ ap (λ (v : List ℕ). now ++ v) (sym (append-nil line)) ∙ ap (λ (v : List ℕ). now ++ (line ++ v)) (sym (refused_behind refusal behind bad)) ∙ p,
        sym (refused_and (is_none refusal) (are_all_spoken fs (number + 1) (map view (drop (number + 1) bodies))) bad) ∙ ap (λ (v : List (List ℕ)). are_all_spoken fs number v) (sym e) ∙ h.spoken,
      )
