-- Each line is read as what it says.
use Rattle.std.proofs.Common.{◌≡◌, ℕ, zero, suc, ◌+◌, ◌<◌, ◌≤◌, ◌^◌, Bool, true, false, not, List, [], ◌∷◌, ◌++◌, length, get_or, length-append, append_assoc, refl, ap, sym, ◌∙◌, subst, arith}
use Rattle.std.specs.Prelude.{◌==◌, Option, Some, None, codes, bytes_eq}
use Rattle.std.specs.List.{list_all}
use Rattle.std.specs.Char.{is_ascii_digit}
use Rattle.std.specs.Fmt.{decimal}
use Rattle.std.proofs.lemmas.Bool.{eqb-true, eq-eqb}
use Rattle.memchr.specs.Find.{is_byte}
use Rattle.memchr.proofs.lemmas.ValueLemmas.{IsFirstByte-value, IsLastByte-value}
use Rattle.taps_log.specs.declared.line.Cause.{Cause}
use Rattle.taps_log.specs.declared.line.Cause.TheVariants as causes
use Rattle.taps_log.specs.declared.line.How.{How}
use Rattle.taps_log.specs.declared.line.How.TheVariants as ends
use Rattle.taps_log.specs.declared.line.Start.{Start}
use Rattle.taps_log.specs.declared.line.Start.TheVariants as starts
use Rattle.taps_log.specs.declared.line.Ending.{Ending}
use Rattle.taps_log.specs.declared.line.Ending.TheVariants as endings
use Rattle.taps_log.specs.Entries.{Entry, IsWord, IsStart, IsHow, IsGap, IsWritten, say_leaves, say_leaf, say_began, say_started, say_waited, say_closed, say_listening, say_not_listening, say_accepted, say_faulted, say_shut, say_ended, say_failed, say_ready, say_sent, say_received, say_part, say_data_failed, say_bad_frame, say_not_speakable, say_expired, say_clone_limit, say_ends}
use Rattle.taps_log.specs.LogLines.{cause_word, moment_text, start_text, how_text, gap_text, entry_text}
use Rattle.taps_log.specs.Reading.{after, cut_at, up_to_space, up_to_last_space, begins_with_digit, number, number_then, number_after, two_numbers, two_numbers_after, three_numbers, three_numbers_after, moment, last_cause, cause_after, cause_then, start_socket, start_refused, start, started, completed, broke, told, how, waited, not_listening, address_at, listening, accepted, failed, received, part, session_ending, race_ending, gap, leaf_line, plan_line, ending_line, frame_line, outcome_line, exchange_line, socket_end_line, socket_line, race_line, worded_line, entry_in}
use Rattle.taps_log.proofs.Words.{before_words, take_front, drop_front}
use Rattle.taps_log.proofs.Numbers.{both, HasDigits, decimal_digits, number_read}

-- no byte of a text is a space
abbrev pub IsSpaceless : List ℕ → Type 0
IsSpaceless text = (k : ℕ) → k < length text → get_or text k 0 ≡ 32 → ⊥

digit_no_space : (b : ℕ) → is_ascii_digit b ≡ true → b ≡ 32 → ⊥
digit_no_space b h e = let z : is_ascii_digit 32 ≡ true = subst (λ v. is_ascii_digit v ≡ true) e h
    in let n : false ≡ true = z in absurd (cc)

digits_spaceless : (text : List ℕ) → list_all is_ascii_digit text ≡ true → IsSpaceless text
digits_spaceless [] h k low e = absurd (omega arith)
digits_spaceless (b ∷ text) h zero low e = digit_no_space b (both (is_ascii_digit b)
    (list_all is_ascii_digit text) h).0 e
digits_spaceless (b ∷ text) h (suc k) low e = digits_spaceless text (both (is_ascii_digit b)
    (list_all is_ascii_digit text) h).1 k (omega arith) e

other_byte : (b : ℕ) → not (b == 32) ≡ true → b ≡ 32 → ⊥
other_byte b h e = let z : not true ≡ true = subst (λ q. not q ≡ true) (eq-eqb b 32 e) h in let n : false ≡ true = z
    in absurd (cc)

word_spaceless : (text : List ℕ) → list_all (λ b. not (b == 32)) text ≡ true → IsSpaceless text
word_spaceless [] h k low e = absurd (omega arith)
word_spaceless (b ∷ text) h zero low e = other_byte b (both (not (b == 32))
    (list_all (λ b. not (b == 32)) text) h).0 e
word_spaceless (b ∷ text) h (suc k) low e = word_spaceless text (both (not (b == 32))
    (list_all (λ b. not (b == 32)) text) h).1 k (omega arith) e

cause_spaceless : (c : Cause) → IsSpaceless (cause_word c)
cause_spaceless causes.Refused = word_spaceless (codes "refused") refl
cause_spaceless causes.Unreachable = word_spaceless (codes "unreachable") refl
cause_spaceless causes.Reset = word_spaceless (codes "reset") refl
cause_spaceless causes.Memory = word_spaceless (codes "memory") refl
cause_spaceless causes.Other = word_spaceless (codes "other") refl

-- bytes before, at and behind a space
byte_before : (front rest : List ℕ) (k : ℕ) → k < length front → get_or (front ++ rest) k 0 ≡ get_or front k 0
byte_before [] rest k low = absurd (omega arith)
byte_before (b ∷ front) rest zero low = refl
byte_before (b ∷ front) rest (suc k) low = byte_before front rest k (omega arith)

byte_at : (front rest : List ℕ) (b : ℕ) → get_or (front ++ b ∷ rest) (length front) 0 ≡ b
byte_at [] rest b = refl
byte_at (x ∷ front) rest b = byte_at front rest b

byte_behind : (front rest : List ℕ) (k : ℕ) → IsSpaceless rest → length front + 1 ≤ k
    → k < length (front ++ 32 ∷ rest) → get_or (front ++ 32 ∷ rest) k 0 ≡ 32 → ⊥
byte_behind [] rest zero none low high e = absurd (omega arith)
byte_behind [] rest (suc k) none low high e = none k (omega arith) e
byte_behind (b ∷ front) rest zero none low high e = absurd (omega arith)
byte_behind (b ∷ front) rest (suc k) none low high e = byte_behind front rest k none (omega arith) (omega arith) e

cut_joined : (front rest : List ℕ) → cut_at (front ++ rest) (Some (length front)) ≡ Some (front, rest)
cut_joined front rest = rw (take_front front rest, drop_front front rest) refl

-- the first space, and the last
space_first : (front rest : List ℕ) → IsSpaceless front → up_to_space (front ++ 32 ∷ rest) ≡ Some (front, 32 ∷ rest)
unfolding up_to_space
space_first front rest none =
    let hay = front ++ 32 ∷ rest in
    let len = length-append front (32 ∷ rest) in
    let value = IsFirstByte-value (is_byte 32) hay (Some (length front)) (
      record {
        low = omega arith;
        high = omega arith;
        before = λ k low high passes. none k high (sym (byte_before front (32 ∷ rest) k high) ∙ eqb-true _ 32 passes);
      },
      eq-eqb _ 32 (byte_at front rest 32),
    ) in
    ap (cut_at hay) (sym value) ∙ cut_joined front (32 ∷ rest)

space_last : (front rest : List ℕ) → IsSpaceless rest
    → up_to_last_space (front ++ 32 ∷ rest) ≡ Some (front, 32 ∷ rest)
unfolding up_to_last_space
space_last front rest none =
    let hay = front ++ 32 ∷ rest in
    let len = length-append front (32 ∷ rest) in
    let value = IsLastByte-value (is_byte 32) hay (Some (length front)) (
      record {
        low = omega arith;
        high = omega arith;
        after = λ k low high passes. byte_behind front rest k none low high (eqb-true _ 32 passes);
      },
      eq-eqb _ 32 (byte_at front rest 32),
    ) in
    ap (cut_at hay) (sym value) ∙ cut_joined front (32 ∷ rest)

-- numbers and causes before a space
number_front : (n : ℕ) (rest : List ℕ) → n < 2 ^ 64 → number (decimal n ++ 32 ∷ rest) ≡ Some (n, 32 ∷ rest)
unfolding number
number_front n rest h = rw (
  space_first (decimal n) rest (digits_spaceless (decimal n)
      (decimal_digits n h).digits),
  number_read n h,
) refl

number_words : (n : ℕ) (words text rest : List ℕ) → n < 2 ^ 64 → after words (32 ∷ text) ≡ Some rest
    → number_then (decimal n ++ 32 ∷ text) words ≡ Some (n, rest)
unfolding number_then
number_words n words text rest h e = rw (number_front n text h, e) refl

cause_read : (c : Cause) → last_cause (cause_word c) ≡ Some c
unfolding last_cause
cause_read causes.Refused = refl
cause_read causes.Unreachable = refl
cause_read causes.Reset = refl
cause_read causes.Memory = refl
cause_read causes.Other = refl

cause_front : (c : Cause) (rest : List ℕ) → up_to_space (cause_word c ++ 32 ∷ rest) ≡ Some (cause_word c, 32 ∷ rest)
cause_front c rest = space_first (cause_word c) rest (cause_spaceless c)

cause_words : (c : Cause) (words text rest : List ℕ) → after words (32 ∷ text) ≡ Some rest
    → cause_then (cause_word c ++ 32 ∷ text) words ≡ Some (c, rest)
unfolding cause_then
cause_words c words text rest e = rw (cause_front c text, e, cause_read c) refl

-- two and three numbers
two_read : (m n : ℕ) → IsWord m → IsWord n → two_numbers (decimal m ++ (codes " " ++ decimal n)) ≡ Some (m, n)
unfolding two_numbers
two_read m n h g = rw (number_words m (codes " ") (decimal n) (decimal n) h refl, number_read n g) refl

three_read : (l m n : ℕ) → IsWord l → IsWord m → IsWord n
    → three_numbers (decimal l ++ (codes " " ++ (decimal m ++ (codes " " ++ decimal n)))) ≡ Some (l, m, n)
unfolding three_numbers
three_read l m n f h g = rw (
  number_words l (codes " ") (decimal m ++ (codes " " ++ decimal n))
      (decimal m ++ (codes " " ++ decimal n)) f refl,
  two_read m n h g,
) refl

moment_read : (at : ℕ) → IsWord at → moment (moment_text at) ≡ Some at
unfolding moment number_after
moment_read at h = number_read at h

-- a start and a wait
started_back : (leaf : ℕ) (s : Start) (at : ℕ) → IsWord leaf → IsStart s → IsWord at
    → started (decimal leaf ++ start_text s (moment_text at)) ≡ Some (say_started leaf s at)
unfolding started start start_socket start_refused
started_back leaf (starts.Socket socket) at h g f =
    rw (
      number_front leaf (codes "socket " ++ (decimal socket ++ moment_text at)) h,
      number_front socket (codes "at " ++ decimal at) g,
      moment_read at f,
    ) refl
started_back leaf (starts.Refused cause) at h g f =
    rw (
      number_front leaf (codes "refused " ++ (cause_word cause ++ moment_text at)) h,
      cause_front cause (codes "at " ++ decimal at),
      cause_read cause,
      moment_read at f,
    ) refl

waited_back : (until : ℕ) (w : How) (at : ℕ) → IsWord until → IsHow w → IsWord at
    → waited (decimal until ++ how_text w (decimal at)) ≡ Some (say_waited until w at)
unfolding waited how told completed broke
waited_back until ends.Reached at h g f = rw (
  number_front until (codes "reached " ++ decimal at) h,
  number_read at f,
) refl
waited_back until (ends.Completed socket) at h g f =
    rw (
      number_front until (codes "completed " ++ (decimal socket ++ moment_text at)) h,
      number_words socket (codes " at ") (codes "at " ++ decimal at) (decimal at) g refl,
      number_read at f,
    ) refl
waited_back until (ends.Broke socket cause) at h g f =
    rw (number_front until (codes "broke " ++ (decimal socket ++ (codes " " ++ (cause_word cause ++ moment_text at)))) h, number_words socket (codes " ") (cause_word cause ++ moment_text at) (cause_word cause ++ moment_text at) g refl, cause_words cause (codes " at ") (codes "at " ++ decimal at) (decimal at) refl, number_read at f) refl
waited_back until ends.Faulted at h g f = rw (
  number_front until (codes "faulted at " ++ decimal at) h,
  number_read at f,
) refl

-- sockets that listen, and that they gave
not_listening_back : (c : Cause) (at : ℕ) → IsWord at
    → not_listening (cause_word c ++ moment_text at) ≡ Some (say_not_listening c at)
unfolding not_listening
not_listening_back c at f = rw (
  cause_words c (codes " at ") (codes "at " ++ decimal at) (decimal at) refl,
  number_read at f,
) refl

moment_parts : (address : List ℕ) (at : ℕ) → address ++ moment_text at ≡ (address ++ codes " at") ++ 32 ∷ decimal at
moment_parts address at = sym (append_assoc address (codes " at") (32 ∷ decimal at))

address_back : (address : List ℕ) (at : ℕ) → IsWord at → address_at (address ++ moment_text at) ≡ Some (address, at)
unfolding address_at number_after
address_back address at f = rw (
  moment_parts address at,
  space_last (address ++ codes " at") (decimal at)
      (digits_spaceless (decimal at)
      (decimal_digits at f).digits),
  before_words address (codes " at"),
  number_read at f,
) refl

listening_back : (socket : ℕ) (address : List ℕ) (at : ℕ) → IsWord socket → IsWord at
    → listening (decimal socket ++ (codes " " ++ (address ++ moment_text at))) ≡ Some (say_listening socket address at)
unfolding listening
listening_back socket address at h f = rw (
  number_words socket (codes " ") (address ++ moment_text at)
      (address ++ moment_text at) h refl,
  address_back address at f,
) refl

accepted_back : (socket listener at : ℕ) → IsWord socket → IsWord listener → IsWord at
    → accepted (decimal socket ++ (codes " from " ++ (decimal listener ++ moment_text at))) ≡ Some (say_accepted socket listener at)
unfolding accepted
accepted_back socket listener at h g f = rw (
  number_words socket (codes " from ")
      (codes "from " ++ (decimal listener ++ moment_text at))
      (decimal listener ++ moment_text at) h refl,
  number_words listener (codes " at ")
      (codes "at " ++ decimal at) (decimal at) g refl,
  number_read at f,
) refl

failed_back : (socket : ℕ) (c : Cause) → IsWord socket
    → failed (decimal socket ++ (codes " " ++ cause_word c)) ≡ Some (say_failed socket c)
unfolding failed
failed_back socket c h = rw (number_words socket (codes " ") (cause_word c) (cause_word c) h refl, cause_read c) refl

received_back : (member n : ℕ) (hex : List ℕ) → IsWord member → IsWord n
    → received (decimal member ++ (codes " " ++ (decimal n ++ (codes " " ++ hex)))) ≡ Some (say_received member n hex)
unfolding received
received_back member n hex h g = rw (
  number_words member (codes " ") (decimal n ++ (codes " " ++ hex))
      (decimal n ++ (codes " " ++ hex)) h refl,
  number_words n (codes " ") hex hex g refl,
) refl

part_back : (member n : ℕ) (hex : List ℕ) → IsWord member → IsWord n
    → part (decimal member ++ (codes " " ++ (decimal n ++ (codes " " ++ hex)))) ≡ Some (say_part member n hex)
unfolding part
part_back member n hex h g = rw (
  number_words member (codes " ") (decimal n ++ (codes " " ++ hex))
      (decimal n ++ (codes " " ++ hex)) h refl,
  number_words n (codes " ") hex hex g refl,
) refl

-- a number is no word
first_digit : (text : List ℕ) → HasDigits text → (rest : List ℕ) → begins_with_digit (text ++ rest) ≡ true
first_digit text d rest = subst (λ v. begins_with_digit (v ++ rest) ≡ true) (sym d.is) d.digit

not_byte : (w b : ℕ) → is_ascii_digit b ≡ true → is_ascii_digit w ≡ false → (b == w) ≡ false
not_byte w b digit other = by_test (b == w) refl
  where
    by_test : (q : Bool) → (b == w) ≡ q → q ≡ false
    by_test false e = refl
    by_test true e = (let z : is_ascii_digit w ≡ true = subst (λ v. is_ascii_digit v ≡ true)
        (eqb-true b w e) digit in cc)

no_word : (n w : ℕ) (words rest : List ℕ) → IsWord n → is_ascii_digit w ≡ false
    → after (w ∷ words) (decimal n ++ rest) ≡ None
no_word n w words rest h other =
    let d = decimal_digits n h in
    let here : after (w ∷ words) ((d.first ∷ d.rest) ++ rest) ≡ None = rw (not_byte w d.first d.digit other) refl in
    subst (λ v. after (w ∷ words) (v ++ rest) ≡ None) (sym d.is) here

-- a leaf of the plan
gap_no_none : (n : ℕ) → IsWord n → bytes_eq (codes " +" ++ decimal n) (codes " +none") ≡ false
gap_no_none n h =
    let d = decimal_digits n h in
    let here : bytes_eq (codes " +" ++ (d.first ∷ d.rest)) (codes " +none") ≡ false =
    rw (not_byte 110 d.first d.digit refl) refl in
    subst (λ v. bytes_eq (codes " +" ++ v) (codes " +none") ≡ false) (sym d.is) here

gap_back : (g : Option ℕ) → IsGap g → gap (gap_text g) ≡ Some g
unfolding gap number_after
gap_back None h = refl
gap_back (Some n) h = rw (gap_no_none n h, number_read n h) refl

plus_spaceless : (n : ℕ) → IsWord n → IsSpaceless (codes "+" ++ decimal n)
plus_spaceless n h zero low e = other_byte 43 refl e
plus_spaceless n h (suc k) low e = digits_spaceless (decimal n) (decimal_digits n h).digits k (omega arith) e

place_back : (place : List ℕ) (g : Option ℕ) → IsGap g
    → up_to_last_space (place ++ gap_text g) ≡ Some (place, gap_text g)
place_back place None h = space_last place (codes "+none") (word_spaceless (codes "+none") refl)
place_back place (Some n) h = space_last place (codes "+" ++ decimal n) (plus_spaceless n h)

leaf_back : (leaf : ℕ) (place : List ℕ) (g : Option ℕ) → IsWord leaf → IsGap g
    → leaf_line (decimal leaf ++ (codes " " ++ (place ++ gap_text g))) ≡ Some (say_leaf leaf place g)
unfolding leaf_line
leaf_back leaf place g h f = rw (
  number_words leaf (codes " ") (place ++ gap_text g)
      (place ++ gap_text g) h refl,
  place_back place g f,
  gap_back g f,
) refl

-- the endings
ends_back : (e : Ending) → entry_in (entry_text (say_ends e)) ≡ Some (say_ends e)
unfolding entry_in worded_line race_line socket_line socket_end_line exchange_line outcome_line frame_line ending_line plan_line race_ending session_ending number_after two_numbers_after three_numbers_after cause_after
ends_back endings.NoCandidate = refl
ends_back endings.AllFailed = refl
ends_back endings.Timeout = refl
ends_back endings.Closed = refl
ends_back endings.SocketFault = refl
ends_back endings.Done = refl
ends_back endings.Timed = refl
ends_back endings.PeerEnded = refl
ends_back endings.CloneAllFailed = refl
ends_back endings.CloneTimeout = refl

-- each line
pub back : (e : Entry) → IsWritten e → entry_in (entry_text e) ≡ Some e
unfolding entry_in worded_line race_line socket_line socket_end_line exchange_line outcome_line frame_line ending_line plan_line race_ending session_ending number_after two_numbers_after three_numbers_after cause_after
back (say_leaves count) h = rw (number_read count h) refl
back (say_leaf leaf place g) h = rw (
  first_digit (decimal leaf) (decimal_digits leaf h.0)
      (codes " " ++ (place ++ gap_text g)),
  leaf_back leaf place g h.0 h.1,
) refl
back (say_began at) h = rw (number_read at h) refl
back (say_started leaf start at) h = rw (started_back leaf start at h.0 h.1 h.2) refl
back (say_waited until how at) h = rw (waited_back until how at h.0 h.1 h.2) refl
back (say_closed socket) h = rw (number_read socket h) refl
back (say_listening socket address at) h = rw (
  no_word socket 114 (codes "efused ")
      (codes " " ++ (address ++ moment_text at)) h.0 refl,
  listening_back socket address at h.0 h.1,
) refl
back (say_not_listening cause at) h = rw (not_listening_back cause at h) refl
back (say_accepted socket listener at) h = rw (accepted_back socket listener at h.0 h.1 h.2) refl
back (say_faulted at) h = rw (number_read at h) refl
back (say_shut socket) h = rw (number_read socket h) refl
back (say_ended socket) h = rw (number_read socket h) refl
back (say_failed socket cause) h = rw (failed_back socket cause h) refl
back (say_ready leaf) h = rw (number_read leaf h) refl
back (say_sent member count) h = rw (two_read member count h.0 h.1) refl
back (say_received member n hex) h = rw (received_back member n hex h.0 h.1) refl
back (say_part member n hex) h = rw (part_back member n hex h.0 h.1) refl
back (say_data_failed cause) h = rw (cause_read cause) refl
back (say_bad_frame message layer place) h = rw (three_read message layer place h.0 h.1 h.2) refl
back (say_not_speakable member n layer) h = rw (three_read member n layer h.0 h.1 h.2) refl
back (say_expired member n) h = rw (two_read member n h.0 h.1) refl
back (say_clone_limit limit) h = rw (number_read limit h) refl
back (say_ends ending) h = ends_back ending
