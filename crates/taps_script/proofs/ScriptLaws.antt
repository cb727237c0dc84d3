-- A script that is read is one of its lines, and a script of some lines is read.
use Rattle.std.proofs.Common.{◌≡◌, ℕ, ◌+◌, ◌≤◌, Bool, true, false, not, ◌||◌, List, [], ◌∷◌, ◌++◌, length, append-nil, append_assoc, refl, ap, sym, ◌∙◌, subst, arith, if◌then◌else◌}
use Rattle.std.specs.Prelude.{nat_lt, filter, Option, None, Some, Result, Ok, Err, IfOk}
use Rattle.std.specs.List.{list_any}
use Rattle.std.proofs.lemmas.Bool.{ltb-false}
use Rattle.std.proofs.lemmas.Bool.Decides.{nat_tests}
use Rattle.std.proofs.lemmas.List.Folds.{list_any-append}
use Rattle.taps_script.specs.declared.line.Line.{Line}
use Rattle.taps_script.specs.declared.script_error.ScriptError.{ScriptError}
use Rattle.taps_script.specs.declared.script_error.ScriptError.TheVariants as error
use Rattle.taps_script.specs.ScriptTexts.{IsLineText}
use Rattle.taps_script.specs.ScriptReading.{line_of}
use Rattle.taps_script.specs.Scripts.{texts_of, is_passed_over, bars, are_barring, with_line, with_text, result_then, script_from, script_of, AreInOrder, AreTexts, IsScriptOf, IsMeaning}
use Rattle.taps_script.proofs.LineTexts.{line_written, line_read}

abbrev significant : List (List ℕ) → List (List ℕ)
significant texts = filter (λ text. not (is_passed_over text)) texts

-- lines with one more
pub once_more : (lines : List Line) (x : Line) → AreInOrder lines → are_barring lines x ≡ false → AreInOrder (lines ++ x ∷ [])
once_more [] x h new = (refl, tt)
once_more (l ∷ lines) x h new =
    let p = neither (bars l x) (are_barring lines x) new in
    (list_any-append (bars l) lines (x ∷ []) ∙ both_false (list_any (bars l) lines) (bars l x) h.0 p.0, once_more lines x h.1 p.1)
  where
    neither : (a b : Bool) → (a || b) ≡ false → (a ≡ false) × (b ≡ false)
    neither true b h = cc
    neither false b h = (refl, h)

    both_false : (a b : Bool) → a ≡ false → b ≡ false → (a || (b || false)) ≡ false
    both_false a b e f = rw (e, f) refl

-- texts of lines with one more
texts_more : (before front : List (List ℕ)) (lines more : List Line) → AreTexts before lines → AreTexts front more → AreTexts (before ++ front) (lines ++ more)
texts_more [] front [] more h f = f
texts_more (text ∷ before) front (line ∷ lines) more h f = (h.0, texts_more before front lines more h.1 f)
texts_more [] front (line ∷ lines) more h f = absurd h
texts_more (text ∷ before) front [] more h f = absurd h

-- what was read of some texts
record Read (lines result : List Line) (texts : List (List ℕ)) (number : ℕ) : Type 0 where
  pub spelled : (before : List (List ℕ)) → AreTexts before lines → AreTexts (before ++ significant texts) result
  pub in_order : AreInOrder result
  pub few : number + length texts ≤ 4097

then_ok : {A B E : Type 0} (f : A → Result B E) (r : Result A E) (y : B) → result_then f r ≡ Ok y → (x : A) × (r ≡ Ok x) × (f x ≡ Ok y)
then_ok f (Ok x) y e = (x, refl, e)
then_ok f (Err e') y e = let z : Err e' ≡ Ok y = e in cc

-- one text more, by whether there are too many, whether it is passed over, and by its line
record One (lines more : List Line) (text : List ℕ) (number : ℕ) : Type 0 where
  pub front : List (List ℕ)
  pub is_front : (rest : List (List ℕ)) → significant (text ∷ rest) ≡ front ++ significant rest
  pub spelled : (before : List (List ℕ)) → AreTexts before lines → AreTexts (before ++ front) more
  pub in_order : AreInOrder more
  pub few : number ≤ 4096

of_line : (lines more : List Line) (text : List ℕ) (number : ℕ) (line : Line) (q : Bool) → are_barring lines line ≡ q → AreInOrder lines → number ≤ 4096 → is_passed_over text ≡ false → IsLineText line text → (if q then Err number else Ok (lines ++ line ∷ [])) ≡ Ok more → One lines more text number
of_line lines more text number line true e order few there is h = let z : Err number ≡ Ok more = h in cc
of_line lines more text number line false e order few there is h =
    let same : lines ++ line ∷ [] ≡ more = cc in
    subst (λ more. One lines more text number) same (record {
      front = text ∷ [];
      is_front = λ rest. rw there refl;
      spelled = λ before texts. texts_more before (text ∷ []) lines (line ∷ []) texts (is, tt);
      in_order = once_more lines line order e;
      few = few;
    })

of_option : (lines more : List Line) (text : List ℕ) (number : ℕ) (o : Option Line) → line_of text ≡ o → AreInOrder lines → number ≤ 4096 → is_passed_over text ≡ false → with_line number lines o ≡ Ok more → One lines more text number
of_option lines more text number None e order few there h = let z : Err number ≡ Ok more = h in cc
of_option lines more text number (Some line) e order few there h = of_line lines more text number line (are_barring lines line) refl order few there (line_written text line e) h

of_text : (lines more : List Line) (text : List ℕ) (number : ℕ) (p q : Bool) → nat_lt 4096 number ≡ p → is_passed_over text ≡ q → AreInOrder lines → (if p then Err number else if q then Ok lines else with_line number lines (line_of text)) ≡ Ok more → One lines more text number
of_text lines more text number true q e f order h = let z : Err number ≡ Ok more = h in cc
of_text lines more text number false true e f order h =
    let same : lines ≡ more = cc in
    subst (λ more. One lines more text number) same (record {
      front = [];
      is_front = λ rest. rw f refl;
      spelled = λ before texts. subst (λ ts. AreTexts ts lines) (sym (append-nil before)) texts;
      in_order = order;
      few = ltb-false _ _ e;
    })
of_text lines more text number false false e f order h = of_option lines more text number (line_of text) refl order (ltb-false _ _ e) f h

reads : (number : ℕ) (lines result : List Line) (texts : List (List ℕ)) → AreInOrder lines → number ≤ 4097 → script_from number lines texts ≡ Ok result → Read lines result texts number
reads number lines result [] order few e =
    let same : lines ≡ result = cc in
    subst (λ result. Read lines result [] number) same (record { spelled = λ before texts. subst (λ ts. AreTexts ts lines) (sym (append-nil before)) texts; in_order = order; few = omega arith })
reads number lines result (text ∷ texts) order few e =
    let (more, first, rest) = then_ok _ (with_text number lines text) result e in
    let one = of_text lines more text number (nat_lt 4096 number) (is_passed_over text) refl refl order first in
    let small = one.few in
    let r = reads (number + 1) more result texts one.in_order (omega arith) rest in
    let all = r.few in
    record {
      spelled = λ before are. (let s : AreTexts ((before ++ one.front) ++ significant texts) result = r.spelled (before ++ one.front) (one.spelled before are) in
          subst (λ ts. AreTexts ts result) (append_assoc before one.front (significant texts) ∙ ap (λ ts. before ++ ts) (sym (one.is_front texts))) s);
      in_order = r.in_order;
      few = omega arith;
    }

pub is_script : (bytes : List ℕ) (lines : List Line) → script_of bytes ≡ Ok lines → IsScriptOf lines bytes
is_script bytes lines e =
    let r = reads 1 [] lines (texts_of bytes) tt (omega arith) e in
    let few = r.few in
    record { texts = r.spelled [] tt; in_order = r.in_order; few = omega arith }

not_many : (number : ℕ) → number ≤ 4096 → nat_lt 4096 number ≡ false
not_many number few = grind (arith, nat_tests)

-- and back
barring_none : (lines : List Line) (x : Line) (later : List Line) → AreInOrder (lines ++ x ∷ later) → are_barring lines x ≡ false
barring_none [] x later h = refl
barring_none (l ∷ lines) x later h = here (bars l x) (list_any (bars l) lines) (list_any (bars l) later) (sym (list_any-append (bars l) lines (x ∷ later)) ∙ h.0) (barring_none lines x later h.1)
  where
    here : (a b c : Bool) → (b || (a || c)) ≡ false → are_barring lines x ≡ false → (a || are_barring lines x) ≡ false
    here true true c h e = cc
    here true false c h e = cc
    here false b c h e = e

-- the first text that is not passed over is that of the first line
taken_by : (q : Bool) (number : ℕ) (lines more : List Line) (text : List ℕ) (texts : List (List ℕ)) → is_passed_over text ≡ q → AreTexts (if not q then text ∷ significant texts else significant texts) more → AreInOrder (lines ++ more) → number ≤ 4096 → ((lines' more' : List Line) → AreTexts (significant texts) more' → AreInOrder (lines' ++ more') → script_from (number + 1) lines' texts ≡ Ok (lines' ++ more')) → script_from number lines (text ∷ texts) ≡ Ok (lines ++ more)
taken_by true number lines more text texts e are order few next =
    rw (not_many number few, e) (next lines more are order)
taken_by false number lines [] text texts e are order few next = absurd are
taken_by false number lines (line ∷ more) text texts e are order few next =
    let is : line_of text ≡ Some line = line_read text line are.0 in
    let again = append_assoc lines (line ∷ []) more in
    rw (not_many number few, e, is, barring_none lines line more order) (next (lines ++ line ∷ []) more are.1 (rw again order) ∙ ap Ok again)

takes : (number : ℕ) (lines more : List Line) (texts : List (List ℕ)) → AreTexts (significant texts) more → AreInOrder (lines ++ more) → number + length texts ≤ 4097 → script_from number lines texts ≡ Ok (lines ++ more)
takes number lines [] [] are order few = ap Ok (sym (append-nil lines))
takes number lines (line ∷ more) [] are order few = absurd are
takes number lines more (text ∷ texts) are order few =
    taken_by (is_passed_over text) number lines more text texts refl are order (omega arith) (λ lines' more' s o. takes (number + 1) lines' more' texts s o (omega arith))

pub of_script : (bytes : List ℕ) (lines : List Line) → IsScriptOf lines bytes → script_of bytes ≡ Ok lines
of_script bytes lines is = let few = is.few in takes 1 [] lines (texts_of bytes) is.texts is.in_order (omega arith)

-- the same of what reads a script
pub found : {A : Type 0} (lines : A → List Line) (bytes : List ℕ) (r : Result A ScriptError) → IsMeaning lines (script_of bytes) r → IfOk r (λ x. IsScriptOf (lines x) bytes)
found lines bytes (Ok x) h = is_script bytes (lines x) h
found lines bytes (Err e) h = tt

pub only : {A : Type 0} (lines : A → List Line) (bytes : List ℕ) (r : Result A ScriptError) → IsMeaning lines (script_of bytes) r → (its : List Line) → IsScriptOf its bytes → (number : ℕ) → r ≡ Err (error.Line number) → ⊥
only lines bytes (Ok x) h its is number e = let z : Ok x ≡ Err (error.Line number) = e in cc
only lines bytes (Err error.NoMemory) h its is number e = let z : error.NoMemory ≡ error.Line number = cc in cc
only lines bytes (Err (error.Line k)) h its is number e = let good = of_script bytes its is in let bad : script_of bytes ≡ Err k = h in cc
