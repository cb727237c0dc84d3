-- The text of an entry is within one line.
use Rattle.std.proofs.Common.{◌≡◌, ℕ, ◌+◌, ◌/◌, ◌%◌, ◌≤◌, Bool, true, false, not, List, [], ◌∷◌, ◌++◌, codes, refl, subst, ◌∙◌, arith, Option, Some, None, if◌then◌else◌}
use Rattle.std.specs.Prelude.{◌==◌, nat_lt}
use Rattle.std.specs.Char.{is_ascii_digit}
use Rattle.std.specs.Cmp.Derive.{both_true}
use Rattle.std.specs.Fmt.{decimal}
use Rattle.std.specs.List.{flat_map, list_all}
use Rattle.std.proofs.lemmas.Bool.{eqb-true}
use Rattle.std.proofs.lemmas.Bool.Decides.{nat_tests}
use Rattle.std.proofs.lemmas.List.Folds.{list_all-append}
use Rattle.taps_log.specs.Entries.{Entry, IsWord, IsStart, IsHow, IsGap, IsWritten, say_leaves, say_leaf, say_began, say_started, say_waited, say_closed, say_listening, say_not_listening, say_accepted, say_faulted, say_shut, say_ended, say_failed, say_ready, say_sent, say_received, say_part, say_data_failed, say_bad_frame, say_not_speakable, say_expired, say_clone_limit, say_ends}
use Rattle.taps_log.specs.LogLines.{entry_text, cause_word, start_text, how_text, gap_text, moment_text, ending_line}
use Rattle.taps_log.specs.declared.line.Cause.{Cause}
use Rattle.taps_log.specs.declared.line.Cause.TheVariants as causes
use Rattle.taps_log.specs.declared.line.How.{How}
use Rattle.taps_log.specs.declared.line.How.TheVariants as ends
use Rattle.taps_log.specs.declared.line.Start.{Start}
use Rattle.taps_log.specs.declared.line.Start.TheVariants as starts
use Rattle.taps_log.specs.declared.line.Ending.{Ending}
use Rattle.taps_log.specs.declared.line.Ending.TheVariants as endings
use Rattle.taps_log.proofs.Numbers.{both, decimal_digits}
use Rattle.taps_text.specs.BodyLines.{hex_digit, byte_digits, hex_text}
use Rattle.taps_log_laws.specs.WholeTexts.{is_one_line, IsOneLine}

-- the digits of numbers
no_end : (b : ℕ) → is_ascii_digit b ≡ true → not (b == 10) ≡ true
no_end b digit = by_test (b == 10) refl
  where
    by_test : (q : Bool) → (b == 10) ≡ q → not q ≡ true
    by_test false e = refl
    by_test true e = (let z : is_ascii_digit 10 ≡ true = subst (λ v. is_ascii_digit v ≡ true)
        (eqb-true b 10 e) digit in cc)

digits_in_line : (ds : List ℕ) → list_all is_ascii_digit ds ≡ true → is_one_line ds ≡ true
digits_in_line [] h = refl
digits_in_line (b ∷ ds) h = let p = both (is_ascii_digit b) (list_all is_ascii_digit ds) h
    in both_true (no_end b p.0) (digits_in_line ds p.1)

number : (n : ℕ) → IsWord n → is_one_line (decimal n) ≡ true
number n h = digits_in_line (decimal n) (decimal_digits n h).digits

-- and of bytes
above : (n k : ℕ) → 11 ≤ k → (n + k == 10) ≡ false
above n k h = grind (arith, nat_tests)

digit_by : (q : Bool) (n : ℕ) → not ((if q then n + 48 else n + 87) == 10) ≡ true
digit_by true n = rw (above n 48 (omega arith)) refl
digit_by false n = rw (above n 87 (omega arith)) refl

hex_digit_in_line : (n : ℕ) → not (hex_digit n == 10) ≡ true
hex_digit_in_line n = digit_by (nat_lt n 10) n

bytes_in_line : (bytes : List ℕ) → is_one_line (flat_map byte_digits bytes) ≡ true
bytes_in_line [] = refl
bytes_in_line (b ∷ bytes) =
    both_true (hex_digit_in_line (b / 16)) (both_true (hex_digit_in_line (b % 16)) (bytes_in_line bytes))

pub hex : (bytes : List ℕ) → is_one_line (hex_text bytes) ≡ true
hex [] = refl
hex (b ∷ bytes) = bytes_in_line (b ∷ bytes)

-- a text in two parts
joined : (front rest : List ℕ) → is_one_line front ≡ true → is_one_line rest ≡ true → is_one_line (front ++ rest) ≡ true
joined front rest one two = list_all-append (λ b. not (b == 10)) front rest ∙ both_true one two

-- the parts of lines
word : (cause : Cause) → is_one_line (cause_word cause) ≡ true
word causes.Refused = refl
word causes.Unreachable = refl
word causes.Reset = refl
word causes.Memory = refl
word causes.Other = refl

start_in_line : (start : Start) (at : ℕ) → IsStart start → IsWord at
    → is_one_line (start_text start (moment_text at)) ≡ true
start_in_line (starts.Socket socket) at h f =
    joined (decimal socket) (moment_text at) (number socket h) (number at f)
start_in_line (starts.Refused cause) at h f = joined (cause_word cause) (moment_text at) (word cause) (number at f)

how_in_line : (how : How) (at : ℕ) → IsHow how → IsWord at → is_one_line (how_text how (decimal at)) ≡ true
how_in_line ends.Reached at h f = number at f
how_in_line (ends.Completed socket) at h f =
    joined (decimal socket) (moment_text at) (number socket h) (number at f)
how_in_line (ends.Broke socket cause) at h f =
    joined (decimal socket) (codes " " ++ (cause_word cause ++ moment_text at)) (number socket h)
    (joined (cause_word cause) (moment_text at) (word cause) (number at f))
how_in_line ends.Faulted at h f = number at f

gap_in_line : (gap : Option ℕ) → IsGap gap → is_one_line (gap_text gap) ≡ true
gap_in_line None h = refl
gap_in_line (Some gap) h = number gap h

ending_in_line : (ending : Ending) → is_one_line (ending_line ending) ≡ true
ending_in_line endings.NoCandidate = refl
ending_in_line endings.AllFailed = refl
ending_in_line endings.Timeout = refl
ending_in_line endings.Closed = refl
ending_in_line endings.SocketFault = refl
ending_in_line endings.Done = refl
ending_in_line endings.Timed = refl
ending_in_line endings.PeerEnded = refl
ending_in_line endings.CloneAllFailed = refl
ending_in_line endings.CloneTimeout = refl

two_in_line : (m n : ℕ) → IsWord m → IsWord n → is_one_line (decimal m ++ (codes " " ++ decimal n)) ≡ true
two_in_line m n h g = joined (decimal m) (codes " " ++ decimal n) (number m h) (number n g)

three_in_line : (l m n : ℕ) → IsWord l → IsWord m → IsWord n
    → is_one_line (decimal l ++ (codes " " ++ (decimal m ++ (codes " " ++ decimal n)))) ≡ true
three_in_line l m n h g f =
    joined (decimal l) (codes " " ++ (decimal m ++ (codes " " ++ decimal n))) (number l h) (two_in_line m n g f)

message_in_line : (member n : ℕ) (text : List ℕ) → IsWord member → IsWord n → is_one_line text ≡ true
    → is_one_line (decimal member ++ (codes " " ++ (decimal n ++ (codes " " ++ text)))) ≡ true
message_in_line member n text h g f = joined (decimal member) (codes " " ++ (decimal n ++ (codes " " ++ text)))
    (number member h) (joined (decimal n) (codes " " ++ text) (number n g) f)

-- each entry
pub entry_in_line : (entry : Entry) → IsWritten entry → IsOneLine entry → is_one_line (entry_text entry) ≡ true
entry_in_line (say_leaves count) h o = number count h
entry_in_line (say_leaf leaf place gap) h o = joined (decimal leaf) (codes " " ++ (place ++ gap_text gap))
    (number leaf h.0) (joined place (gap_text gap) o (gap_in_line gap h.1))
entry_in_line (say_began at) h o = number at h
entry_in_line (say_started leaf start at) h o =
    joined (decimal leaf) (start_text start (moment_text at)) (number leaf h.0) (start_in_line start at h.1 h.2)
entry_in_line (say_waited until how at) h o =
    joined (decimal until) (how_text how (decimal at)) (number until h.0) (how_in_line how at h.1 h.2)
entry_in_line (say_closed socket) h o = number socket h
entry_in_line (say_listening socket address at) h o = joined (decimal socket) (codes " " ++ (address ++ moment_text at))
    (number socket h.0) (joined address (moment_text at) o (number at h.1))
entry_in_line (say_not_listening cause at) h o = joined (cause_word cause) (moment_text at) (word cause) (number at h)
entry_in_line (say_accepted socket listener at) h o =
    joined (decimal socket) (codes " from " ++ (decimal listener ++ moment_text at)) (number socket h.0)
    (joined (decimal listener) (moment_text at) (number listener h.1) (number at h.2))
entry_in_line (say_faulted at) h o = number at h
entry_in_line (say_shut socket) h o = number socket h
entry_in_line (say_ended socket) h o = number socket h
entry_in_line (say_failed socket cause) h o =
    joined (decimal socket) (codes " " ++ cause_word cause) (number socket h) (word cause)
entry_in_line (say_ready leaf) h o = number leaf h
entry_in_line (say_sent member count) h o = two_in_line member count h.0 h.1
entry_in_line (say_received member n text) h o = message_in_line member n text h.0 h.1 o
entry_in_line (say_part member n text) h o = message_in_line member n text h.0 h.1 o
entry_in_line (say_data_failed cause) h o = word cause
entry_in_line (say_bad_frame message layer place) h o = three_in_line message layer place h.0 h.1 h.2
entry_in_line (say_not_speakable member n layer) h o = three_in_line member n layer h.0 h.1 h.2
entry_in_line (say_expired member n) h o = two_in_line member n h.0 h.1
entry_in_line (say_clone_limit limit) h o = number limit h
entry_in_line (say_ends ending) h o = ending_in_line ending
