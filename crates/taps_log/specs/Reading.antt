-- How the line of a log is read (local): the words that it begins with tell its kind, and its numbers stand between
-- spaces.
use Rattle.std.specs.Prelude.{ℕ, ◌+◌, ◌-◌, ◌*◌, ◌^◌, Bool, false, not, ◌&&◌, ◌==◌, nat_le, if◌then◌else◌, List, [], ◌∷◌, length, take, drop, codes, bytes_eq, Option, None, Some, option_map}
use Rattle.std.specs.Option.{option_and_then, option_map_or}
use Rattle.std.specs.List.{list_all}
use Rattle.std.specs.Char.{is_ascii_digit}
use Rattle.memchr.specs.Find.{is_byte, places, first_of, last_of}
use Rattle.taps_log.specs.declared.line.Cause.{Cause}
use Rattle.taps_log.specs.declared.line.Cause.TheVariants as causes
use Rattle.taps_log.specs.declared.line.How.{How}
use Rattle.taps_log.specs.declared.line.How.TheVariants as ends
use Rattle.taps_log.specs.declared.line.Start.{Start}
use Rattle.taps_log.specs.declared.line.Start.TheVariants as starts
use Rattle.taps_log.specs.declared.line.Ending.{Ending}
use Rattle.taps_log.specs.declared.line.Ending.TheVariants as endings
use Rattle.taps_log.specs.Entries.{Entry, say_leaves, say_leaf, say_began, say_started, say_waited, say_closed, say_listening, say_not_listening, say_accepted, say_faulted, say_shut, say_ended, say_failed, say_ready, say_sent, say_received, say_part, say_data_failed, say_bad_frame, say_not_speakable, say_expired, say_clone_limit, say_ends}

-- what stands behind these words, with which a text begins
abbrev pub after : List ℕ → List ℕ → Option (List ℕ)
after [] text = Some text
after (w ∷ words) [] = None
after (w ∷ words) (b ∷ text) = if b == w then after words text else None

-- what stands before these words, with which a text ends
unfoldable pub before : List ℕ → List ℕ → Option (List ℕ)
before words text =
    if bytes_eq (drop (length text - length words) text) words
    then Some (take (length text - length words) text) else None

-- a text in two parts, of which the first has so many bytes
abbrev pub cut_at : List ℕ → Option ℕ → Option (List ℕ × List ℕ)
cut_at text place = option_map (λ i. (take i text, drop i text)) place

-- what stands before the first space, and the rest with the space; and the same of the last space
unfoldable pub up_to_space : List ℕ → Option (List ℕ × List ℕ)
up_to_space text = cut_at text (first_of (places (is_byte 32) text))

unfoldable pub up_to_last_space : List ℕ → Option (List ℕ × List ℕ)
up_to_last_space text = cut_at text (last_of (places (is_byte 32) text))

-- the value of digits that follow a number
abbrev pub value_behind : ℕ → List ℕ → ℕ
value_behind n [] = n
value_behind n (b ∷ digits) = value_behind (10 * n + (b - 48)) digits

-- no zero stands before other digits
abbrev pub has_leading_zero : List ℕ → Bool
has_leading_zero [] = false
has_leading_zero (b ∷ digits) = (b == 48) && not (length digits == 0)

-- it is a number in decimal without leading zeros
abbrev pub is_decimal : List ℕ → Bool
is_decimal text = not (length text == 0) && not (has_leading_zero text) && list_all is_ascii_digit text

-- a value, if it is of 64 bits
abbrev pub up_to_greatest : ℕ → Option ℕ
up_to_greatest value = if nat_le value (2 ^ 64 - 1) then Some value else None

-- the number that is the whole text
unfoldable pub last_number : List ℕ → Option ℕ
last_number text = if is_decimal text then up_to_greatest (value_behind 0 text) else None

-- a number up to the first space, and the rest from there
unfoldable pub number : List ℕ → Option (ℕ × List ℕ)
number text = option_and_then (λ p. option_map (λ n. (n, p.1)) (last_number p.0)) (up_to_space text)

-- a number before these words, and what stands behind them
unfoldable pub number_then : List ℕ → List ℕ → Option (ℕ × List ℕ)
number_then text words = option_and_then (λ p. option_map (λ rest. (p.0, rest)) (after words p.1)) (number text)

-- the number behind these words; and two and three numbers with spaces between them
unfoldable pub number_after : List ℕ → List ℕ → Option ℕ
number_after words text = option_and_then last_number (after words text)

unfoldable pub two_numbers : List ℕ → Option (ℕ × ℕ)
two_numbers text = option_and_then (λ p. option_map (λ n. (p.0, n)) (last_number p.1)) (number_then text (codes " "))

unfoldable pub two_numbers_after : List ℕ → List ℕ → Option (ℕ × ℕ)
two_numbers_after words text = option_and_then two_numbers (after words text)

unfoldable pub three_numbers : List ℕ → Option (ℕ × ℕ × ℕ)
three_numbers text =
    option_and_then (λ p. option_map (λ q. (p.0, q.0, q.1)) (two_numbers p.1)) (number_then text (codes " "))

unfoldable pub three_numbers_after : List ℕ → List ℕ → Option (ℕ × ℕ × ℕ)
three_numbers_after words text = option_and_then three_numbers (after words text)

-- the time with which a line ends
unfoldable pub moment : List ℕ → Option ℕ
moment text = number_after (codes " at ") text

-- the cause that is the whole text; that behind these words; and that before these words, with what stands behind them
unfoldable pub last_cause : List ℕ → Option Cause
last_cause word =
    if bytes_eq word (codes "refused") then Some causes.Refused
    else if bytes_eq word (codes "unreachable") then Some causes.Unreachable
    else if bytes_eq word (codes "reset") then Some causes.Reset
    else if bytes_eq word (codes "memory") then Some causes.Memory
    else if bytes_eq word (codes "other") then Some causes.Other
    else None

unfoldable pub cause_after : List ℕ → List ℕ → Option Cause
cause_after words text = option_and_then last_cause (after words text)

unfoldable pub cause_then : List ℕ → List ℕ → Option (Cause × List ℕ)
cause_then text words =
    option_and_then (λ p. option_and_then (λ rest. option_map (λ c. (c, rest)) (last_cause p.0)) (after words p.1))
    (up_to_space text)

-- a start
unfoldable pub start_socket : List ℕ → Option (Start × List ℕ)
start_socket text = option_map (λ p. (starts.Socket p.0, p.1)) (number text)

unfoldable pub start_refused : List ℕ → Option (Start × List ℕ)
start_refused text =
    option_and_then (λ p. option_map (λ c. (starts.Refused c, p.1)) (last_cause p.0)) (up_to_space text)

unfoldable pub start : List ℕ → Option (Start × List ℕ)
start text =
    option_map_or start_socket (after (codes " socket ") text)
    (option_and_then start_refused (after (codes " refused ") text))

unfoldable pub started : List ℕ → Option Entry
started text =
    option_and_then
    (λ p. option_and_then (λ q. option_map (λ at. say_started p.0 q.0 at) (moment q.1)) (start p.1))
    (number text)

-- a wait
unfoldable pub completed : List ℕ → Option (How × List ℕ)
completed text = option_map (λ p. (ends.Completed p.0, p.1)) (number_then text (codes " at "))

unfoldable pub broke : List ℕ → Option (How × List ℕ)
broke text =
    option_and_then (λ p. option_map (λ q. (ends.Broke p.0 q.0, q.1)) (cause_then p.1 (codes " at ")))
    (number_then text (codes " "))

unfoldable pub told : List ℕ → Option (How × List ℕ)
told text =
    option_map_or completed (after (codes " completed ") text)
    (option_and_then broke (after (codes " broke ") text))

unfoldable pub how : List ℕ → Option (How × List ℕ)
how text =
    option_map_or (λ rest. Some (ends.Reached, rest)) (after (codes " reached ") text)
    (option_map_or (λ rest. Some (ends.Faulted, rest)) (after (codes " faulted at ") text) (told text))

unfoldable pub waited : List ℕ → Option Entry
waited text =
    option_and_then
    (λ p. option_and_then (λ q. option_map (λ at. say_waited p.0 q.0 at) (last_number q.1)) (how p.1))
    (number text)

-- sockets that listen, and that they gave
unfoldable pub not_listening : List ℕ → Option Entry
not_listening text =
    option_and_then (λ p. option_map (λ at. say_not_listening p.0 at) (last_number p.1))
    (cause_then text (codes " at "))

unfoldable pub address_at : List ℕ → Option (List ℕ × ℕ)
address_at text =
    option_and_then
    (λ p. option_and_then (λ address. option_map (λ at. (address, at)) (number_after (codes " ") p.1))
    (before (codes " at") p.0))
    (up_to_last_space text)

unfoldable pub listening : List ℕ → Option Entry
listening text =
    option_and_then (λ p. option_map (λ q. say_listening p.0 q.0 q.1) (address_at p.1)) (number_then text (codes " "))

unfoldable pub accepted : List ℕ → Option Entry
accepted text =
    option_and_then
    (λ p. option_and_then (λ q. option_map (λ at. say_accepted p.0 q.0 at) (last_number q.1))
    (number_then p.1 (codes " at ")))
    (number_then text (codes " from "))

unfoldable pub failed : List ℕ → Option Entry
failed text =
    option_and_then (λ p. option_map (λ c. say_failed p.0 c) (last_cause p.1)) (number_then text (codes " "))

-- messages
unfoldable pub received : List ℕ → Option Entry
received text =
    option_and_then (λ p. option_map (λ q. say_received p.0 q.0 q.1) (number_then p.1 (codes " ")))
    (number_then text (codes " "))

unfoldable pub part : List ℕ → Option Entry
part text =
    option_and_then (λ p. option_map (λ q. say_part p.0 q.0 q.1) (number_then p.1 (codes " ")))
    (number_then text (codes " "))

-- endings
unfoldable pub session_ending : List ℕ → Option Ending
session_ending text =
    if bytes_eq text (codes "done") then Some endings.Done
    else if bytes_eq text (codes "timed") then Some endings.Timed
    else if bytes_eq text (codes "peer-ended") then Some endings.PeerEnded
    else if bytes_eq text (codes "clone-error all-failed") then Some endings.CloneAllFailed
    else if bytes_eq text (codes "clone-error timeout") then Some endings.CloneTimeout
    else None

unfoldable pub race_ending : List ℕ → Option Ending
race_ending text =
    if bytes_eq text (codes "establishment-error no-candidate") then Some endings.NoCandidate
    else if bytes_eq text (codes "establishment-error all-failed") then Some endings.AllFailed
    else if bytes_eq text (codes "establishment-error timeout") then Some endings.Timeout
    else if bytes_eq text (codes "closed") then Some endings.Closed
    else if bytes_eq text (codes "socket-fault") then Some endings.SocketFault
    else session_ending text

-- a leaf of the plan
unfoldable pub gap : List ℕ → Option (Option ℕ)
gap text =
    if bytes_eq text (codes " +none") then Some None else option_map Some (number_after (codes " +") text)

unfoldable pub leaf_line : List ℕ → Option Entry
leaf_line text =
    option_and_then
    (λ p. option_and_then (λ q. option_map (λ g. say_leaf p.0 q.0 g) (gap q.1)) (up_to_last_space p.1))
    (number_then text (codes " "))

-- the other lines, by the words that they begin with
unfoldable pub plan_line : List ℕ → Option Entry
plan_line text = option_map say_leaves (number_after (codes "leaves ") text)

unfoldable pub ending_line : List ℕ → Option Entry
ending_line text = option_map_or (λ e. Some (say_ends e)) (race_ending text) (plan_line text)

unfoldable pub frame_line : List ℕ → Option Entry
frame_line text =
    option_map_or (λ p. Some (say_bad_frame p.0 p.1 p.2)) (three_numbers_after (codes "bad-frame ") text)
    (option_map_or (λ p. Some (say_not_speakable p.0 p.1 p.2)) (three_numbers_after (codes "not-speakable ") text)
    (ending_line text))

unfoldable pub outcome_line : List ℕ → Option Entry
outcome_line text =
    option_map_or (λ c. Some (say_data_failed c)) (cause_after (codes "data-failed ") text)
    (option_map_or (λ n. Some (say_clone_limit n)) (number_after (codes "clone-error limit-reached ") text)
    (option_map_or (λ p. Some (say_expired p.0 p.1)) (two_numbers_after (codes "expired ") text) (frame_line text)))

unfoldable pub exchange_line : List ℕ → Option Entry
exchange_line text =
    option_map_or (λ p. Some (say_sent p.0 p.1)) (two_numbers_after (codes "sent ") text)
    (option_map_or received (after (codes "received ") text)
    (option_map_or part (after (codes "part ") text) (outcome_line text)))

unfoldable pub socket_end_line : List ℕ → Option Entry
socket_end_line text =
    option_map_or (λ at. Some (say_faulted at)) (number_after (codes "faulted at ") text)
    (option_map_or (λ s. Some (say_shut s)) (number_after (codes "shut ") text)
    (option_map_or (λ s. Some (say_ended s)) (number_after (codes "ended ") text)
    (option_map_or failed (after (codes "failed ") text) (exchange_line text))))

unfoldable pub socket_line : List ℕ → Option Entry
socket_line text =
    option_map_or not_listening (after (codes "listen refused ") text)
    (option_map_or listening (after (codes "listen ") text)
    (option_map_or accepted (after (codes "accept ") text) (socket_end_line text)))

unfoldable pub race_line : List ℕ → Option Entry
race_line text =
    option_map_or (λ at. Some (say_began at)) (number_after (codes "begin ") text)
    (option_map_or (λ s. Some (say_closed s)) (number_after (codes "close ") text)
    (option_map_or (λ n. Some (say_ready n)) (number_after (codes "ready ") text) (socket_line text)))

unfoldable pub worded_line : List ℕ → Option Entry
worded_line text =
    option_map_or started (after (codes "start ") text)
    (option_map_or waited (after (codes "wait ") text) (race_line text))

-- a text that begins with a digit
abbrev pub begins_with_digit : List ℕ → Bool
begins_with_digit [] = false
begins_with_digit (b ∷ text) = is_ascii_digit b

-- a line: that of a leaf of the plan begins with its number, and each other one with a word
unfoldable pub entry_in : List ℕ → Option Entry
entry_in text = if begins_with_digit text then leaf_line text else worded_line text
