-- What a script means (local): its lines, or the number of the first bad one.
use Rattle.std.specs.Prelude.{◌≡◌, ◌≤◌, ℕ, ◌+◌, Bool, true, false, not, ◌||◌, ◌==◌, nat_lt, filter, length, if◌then◌else◌, List, [], ◌∷◌, ◌++◌, Option, None, Some, Result, Ok, Err}
use Rattle.std.specs.List.{list_any}
use Rattle.taps_script.specs.declared.line.PeerLine.{PeerLine}
use Rattle.taps_script.specs.declared.line.PeerLine.TheVariants.{Holds, Echo, Sends, Ends, Fails}
use Rattle.taps_script.specs.declared.line.Line.{Line}
use Rattle.taps_script.specs.declared.line.Line.TheVariants.{Begin, Late, Fault, Leaf, Take, Give, Peer}
use Rattle.taps_script.specs.declared.script_error.ScriptError.{ScriptError}
use Rattle.taps_script.specs.declared.script_error.ScriptError.TheVariants as error
use Rattle.taps_script.specs.ScriptTexts.{IsLineText}
use Rattle.taps_script.specs.ScriptReading.{line_of}

-- a byte in front of the first of these texts
abbrev pub in_front : ℕ → List (List ℕ) → List (List ℕ)
in_front b [] = (b ∷ []) ∷ []
in_front b (text ∷ texts) = (b ∷ text) ∷ texts

-- the texts of the lines, each of which ends with byte 10; the last end may be missing
abbrev pub texts_of : List ℕ → List (List ℕ)
texts_of [] = []
texts_of (b ∷ bytes) = if b == 10 then [] ∷ texts_of bytes else in_front b (texts_of bytes)

-- an empty line, or one that begins with `#`
abbrev pub is_passed_over : List ℕ → Bool
is_passed_over [] = true
is_passed_over (b ∷ text) = b == 35

-- the delay of bytes, an end or a failure of the other end
abbrev pub delay_of : PeerLine → Option ℕ
delay_of (Holds delay) = None
delay_of Echo = None
delay_of (Sends delay bytes) = Some delay
delay_of (Ends delay) = Some delay
delay_of (Fails delay cause) = Some delay

-- it holds back sends
abbrev pub is_holds : PeerLine → Bool
is_holds (Holds delay) = true
is_holds _ = false

-- it sends back what comes
abbrev pub is_echo : PeerLine → Bool
is_echo Echo = true
is_echo _ = false

-- a delay that there is, and that is below another
abbrev pub is_below : ℕ → Option ℕ → Bool
is_below delay None = false
is_below delay (Some other) = nat_lt other delay

-- a line of the other end may not follow one: there is one hold alone; an echo stands alone beside it; delays never
-- fall; and nothing follows an end or a failure
abbrev pub peer_bars : PeerLine → PeerLine → Bool
peer_bars (Holds delay) later = is_holds later
peer_bars Echo later = not (is_holds later)
peer_bars (Sends delay bytes) later = is_echo later || is_below delay (delay_of later)
peer_bars (Ends delay) later = not (is_holds later)
peer_bars (Fails delay cause) later = not (is_holds later)

-- a line may not follow another: of most there is one alone, of faults and leaves one for each number
abbrev pub bars : Line → Line → Bool
bars (Begin m) (Begin n) = true
bars (Late d) (Late e) = true
bars (Fault w) (Fault v) = w == v
bars (Leaf k f) (Leaf j g) = k == j
bars (Take m) (Take n) = true
bars (Give m) (Give n) = true
bars (Peer line) (Peer later) = peer_bars line later
bars _ _ = false

-- a line may not follow these
abbrev pub are_barring : List Line → Line → Bool
are_barring lines line = list_any (λ l. bars l line) lines

-- the lines with the one of a text, or the number of the text, where it is bad: it is that of no line, or of one that
-- may not follow these
abbrev pub with_line : ℕ → List Line → Option Line → Result (List Line) ℕ
with_line number lines None = Err number
with_line number lines (Some line) = if are_barring lines line then Err number else Ok (lines ++ line ∷ [])

-- the lines after a text with this number, counted from 1, of which there are 4096 at most
abbrev pub with_text : ℕ → List Line → List ℕ → Result (List Line) ℕ
with_text number lines text =
    if nat_lt 4096 number then Err number
    else if is_passed_over text then Ok lines
    else with_line number lines (line_of text)

-- what follows of a value
abbrev pub result_then : {A B E : Type 0} → (A → Result B E) → Result A E → Result B E
result_then f (Ok x) = f x
result_then f (Err e) = Err e

-- the lines after these and some texts, the first of them with this number
abbrev pub script_from : ℕ → List Line → List (List ℕ) → Result (List Line) ℕ
script_from number lines [] = Ok lines
script_from number lines (text ∷ texts) =
    result_then (λ more. script_from (number + 1) more texts) (with_text number lines text)

-- the lines of a script, or the number of the first bad one, counted from 1
abbrev pub script_of : List ℕ → Result (List Line) ℕ
script_of bytes = script_from 1 [] (texts_of bytes)

-- the error is a refusal of a script with this meaning, or want of memory
abbrev pub IsRefusal : Result (List Line) ℕ → ScriptError → Type 0
IsRefusal meaning (error.Line number) = meaning ≡ Err number
IsRefusal meaning error.NoMemory = Unit {0}

-- a value with these lines is what the script means, or its refusal is
abbrev pub IsMeaning : {A : Type 0} → (A → List Line) → Result (List Line) ℕ → Result A ScriptError → Type 0
IsMeaning lines meaning (Ok value) = meaning ≡ Ok (lines value)
IsMeaning lines meaning (Err e) = IsRefusal meaning e

-- no line stands behind one that it may not follow
abbrev pub AreInOrder : List Line → Type 0
AreInOrder [] = Unit {0}
AreInOrder (line ∷ later) = (list_any (bars line) later ≡ false) × AreInOrder later

-- each text is that of its line
abbrev pub AreTexts : List (List ℕ) → List Line → Type 0
AreTexts [] [] = Unit {0}
AreTexts (text ∷ texts) (line ∷ lines) = IsLineText line text × AreTexts texts lines
AreTexts _ _ = ⊥

-- these bytes are a script of these lines: theirs are the texts that are not passed over, in order, and there are 4096
-- texts at most
pub record IsScriptOf (lines : List Line) (bytes : List ℕ) : Type 0 where
  pub texts : AreTexts (filter (λ text. not (is_passed_over text)) (texts_of bytes)) lines
  pub in_order : AreInOrder lines
  pub few : length (texts_of bytes) ≤ 4096
