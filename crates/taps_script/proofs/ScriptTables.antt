-- The tables of a script's lines after one line more.
use Rattle.std.proofs.Common.{◌≡◌, ℕ, ◌<◌, ◌^◌, Bool, true, false, ◌||◌, List, [], ◌∷◌, ◌++◌, length, length-append, arith, refl, ap, sym, ◌∙◌}
use Rattle.std.specs.Prelude.{Option, None, Some, IfSome}
use Rattle.std.specs.Option.{option_or}
use Rattle.std.specs.Ordering.{nat_cmp}
use Rattle.std.specs.BTreeSet.{BTreeSet, contains}
use Rattle.std.proofs.lemmas.List.Folds.{list_any-append}
use Rattle.taps_script.specs.declared.line.Line.{Line}
use Rattle.taps_script.specs.declared.line.Line.TheVariants.{Begin, Late, Fault, Leaf, Take, Give, Peer}
use Rattle.taps_script.specs.ScriptTexts.{LineFits, LinesFit}
use Rattle.taps_script.specs.ScriptLines.{begin_in, late_in, says_fault, is_to_fault}
use Rattle.taps_script.specs.ScriptTables.{AreTables}

begin-append : (lines : List Line) (line : Line) → begin_in (lines ++ line ∷ []) ≡ option_or (begin_in lines) (begin_in (line ∷ []))
begin-append [] line = refl
begin-append (Begin moment ∷ lines) line = refl
begin-append (Late delay ∷ lines) line = begin-append lines line
begin-append (Fault wait ∷ lines) line = begin-append lines line
begin-append (Leaf leaf fate ∷ lines) line = begin-append lines line
begin-append (Take most ∷ lines) line = begin-append lines line
begin-append (Give most ∷ lines) line = begin-append lines line
begin-append (Peer peer ∷ lines) line = begin-append lines line

late-append : (lines : List Line) (line : Line) → late_in (lines ++ line ∷ []) ≡ option_or (late_in lines) (late_in (line ∷ []))
late-append [] line = refl
late-append (Begin moment ∷ lines) line = late-append lines line
late-append (Late delay ∷ lines) line = refl
late-append (Fault wait ∷ lines) line = late-append lines line
late-append (Leaf leaf fate ∷ lines) line = late-append lines line
late-append (Take most ∷ lines) line = late-append lines line
late-append (Give most ∷ lines) line = late-append lines line
late-append (Peer peer ∷ lines) line = late-append lines line

or_false : (q : Bool) → (q || false) ≡ q
or_false true = refl
or_false false = refl

still_fits : (begin : Option ℕ) (line : Line) → LineFits line → IfSome begin (λ moment. moment < 2 ^ 63) → IfSome (option_or begin (begin_in (line ∷ []))) (λ moment. moment < 2 ^ 63)
still_fits (Some moment) line fits h = h
still_fits None (Begin moment) fits h = fits
still_fits None (Late delay) fits h = tt
still_fits None (Fault wait) fits h = tt
still_fits None (Leaf leaf fate) fits h = tt
still_fits None (Take most) fits h = tt
still_fits None (Give most) fits h = tt
still_fits None (Peer peer) fits h = tt

fits_more : (lines : List Line) (line : Line) → LinesFit lines → LineFits line → LinesFit (lines ++ line ∷ [])
fits_more [] line h fits = (fits, tt)
fits_more (l ∷ lines) line h fits = (h.0, fits_more lines line h.1 fits)

pub tables_after : (lines lines' : List Line) (line : Line) (begin begin' late late' : Option ℕ) (faults faults' : BTreeSet ℕ) → LineFits line → length lines < 4096 → AreTables lines begin late faults → lines' ≡ lines ++ line ∷ [] → begin' ≡ option_or begin (begin_in (line ∷ [])) → late' ≡ option_or late (late_in (line ∷ [])) → ((wait : ℕ) → contains nat_cmp faults' wait ≡ (contains nat_cmp faults wait || says_fault wait line)) → AreTables lines' begin' late' faults'
tables_after lines lines' line begin begin' late late' faults faults' fits few h lines_are begin_is late_is faults_are =
    rw (lines_are, begin_is, late_is) (record {
      begin_is = ap (λ b. option_or b (begin_in (line ∷ []))) h.begin_is ∙ sym (begin-append lines line);
      fits = still_fits begin line fits h.fits;
      each_fits = fits_more lines line h.each_fits fits;
      few = omega (arith, length-append lines (line ∷ []));
      late_is = ap (λ d. option_or d (late_in (line ∷ []))) h.late_is ∙ sym (late-append lines line);
      faults_are = λ wait. faults_are wait ∙ ap (λ q. q || says_fault wait line) (h.faults_are wait) ∙ sym (list_any-append (says_fault wait) lines (line ∷ []) ∙ ap (λ q. is_to_fault lines wait || q) (or_false (says_fault wait line)));
    })

pub tables_stay : (lines lines' : List Line) (begin late : Option ℕ) (faults faults' : BTreeSet ℕ) → AreTables lines begin late faults → lines' ≡ lines → ((wait : ℕ) → contains nat_cmp faults' wait ≡ contains nat_cmp faults wait) → AreTables lines' begin late faults'
tables_stay lines lines' begin late faults faults' h lines_are faults_are =
    rw lines_are (record { begin_is = h.begin_is; fits = h.fits; each_fits = h.each_fits; few = h.few; late_is = h.late_is; faults_are = λ wait. faults_are wait ∙ h.faults_are wait })
