-- How the texts of a script's lines are read.
use Rattle.std.specs.Prelude.{ℕ, ◌+◌, ◌-◌, ◌*◌, ◌^◌, Bool, false, not, ◌&&◌, ◌||◌, ◌==◌, nat_le, nat_lt, if◌then◌else◌, List, [], ◌∷◌, length, codes, bytes_eq, Option, None, Some, option_map, Result, Ok, Err}
use Rattle.std.specs.Option.{option_and_then}
use Rattle.std.specs.List.{list_all}
use Rattle.std.specs.Char.{is_ascii_digit}
use Rattle.hex.specs.Hex.{decode_of}
use Rattle.hex.specs.declared.error.FromHexError.{FromHexError}
use Rattle.taps_socket.specs.declared.cause.Cause.{Cause}
use Rattle.taps_socket.specs.declared.cause.Cause.TheVariants as cause
use Rattle.taps_script.specs.declared.line.Fate.{Fate}
use Rattle.taps_script.specs.declared.line.Fate.TheVariants.{Refuses, Completes, Breaks, Silent}
use Rattle.taps_script.specs.declared.line.PeerLine.{PeerLine}
use Rattle.taps_script.specs.declared.line.PeerLine.TheVariants.{Holds, Echo, Sends, Ends, Fails}
use Rattle.taps_script.specs.declared.line.Line.{Line}
use Rattle.taps_script.specs.declared.line.Line.TheVariants.{Begin, Late, Fault, Leaf, Take, Give, Peer}

-- what stands before the first such byte, and what behind it
abbrev pub split_at_byte : ℕ → List ℕ → Option (List ℕ × List ℕ)
split_at_byte mark [] = None
split_at_byte mark (b ∷ text) =
    if b == mark then Some ([], text) else option_map (λ p. (b ∷ p.0, p.1)) (split_at_byte mark text)

-- the first word, and what stands behind its space
unfoldable pub split_word : List ℕ → Option (List ℕ × List ℕ)
split_word text = split_at_byte 32 text

-- the value of digits that follow a number
abbrev pub value_behind : ℕ → List ℕ → ℕ
value_behind n [] = n
value_behind n (b ∷ digits) = value_behind (10 * n + (b - 48)) digits

-- no zero stands before other digits
abbrev pub has_leading_zero : List ℕ → Bool
has_leading_zero [] = false
has_leading_zero (b ∷ digits) = (b == 48) && not (length digits == 0)

-- it is a number in decimal without leading zeros
abbrev pub is_decimal : List ℕ → Bool
is_decimal text = not (length text == 0) && not (has_leading_zero text) && list_all is_ascii_digit text

-- a value, if it is not above the greatest
abbrev pub up_to : ℕ → ℕ → Option ℕ
up_to most value = if nat_le value most then Some value else None

-- the number, if it is one up to the greatest
unfoldable pub number_up_to : ℕ → List ℕ → Option ℕ
number_up_to most text = if is_decimal text then up_to most (value_behind 0 text) else None

-- the cause of a word
unfoldable pub cause_of : List ℕ → Option Cause
cause_of word =
    if bytes_eq word (codes "refused") then Some cause.Refused
    else if bytes_eq word (codes "unreachable") then Some cause.Unreachable
    else if bytes_eq word (codes "reset") then Some cause.Reset
    else if bytes_eq word (codes "memory") then Some cause.Memory
    else if bytes_eq word (codes "other") then Some cause.Other
    else None

-- a delay in milliseconds, or the number of a wait
unfoldable pub number_of : List ℕ → Option ℕ
number_of text = number_up_to (2 ^ 32 - 1) text

-- a delay, and behind a space a cause
unfoldable pub break_of : List ℕ → Option Fate
break_of text =
    option_and_then (λ p. option_and_then (λ delay. option_map (λ c. Breaks delay c) (cause_of p.1)) (number_of p.0))
    (split_word text)

-- the fates, by their first word
unfoldable pub fate_by : List ℕ → List ℕ → Option Fate
fate_by word rest =
    if bytes_eq word (codes "refuses") then option_map Refuses (cause_of rest)
    else if bytes_eq word (codes "completes") then option_map Completes (number_of rest)
    else if bytes_eq word (codes "breaks") then break_of rest
    else None

-- the fate of a leaf's attempt
unfoldable pub fate_of : List ℕ → Option Fate
fate_of text =
    if bytes_eq text (codes "silent") then Some Silent else option_and_then (λ p. fate_by p.0 p.1) (split_word text)

-- the number of a leaf
unfoldable pub leaf_number : List ℕ → Option ℕ
leaf_number text = number_up_to 4095 text

-- a leaf, and behind a space its fate
unfoldable pub leaf_of : List ℕ → Option Line
leaf_of text =
    option_and_then (λ p. option_and_then (λ leaf. option_map (λ fate. Leaf leaf fate) (fate_of p.1)) (leaf_number p.0))
    (split_word text)

-- from 1 to 65,536 bytes
unfoldable pub limit_of : List ℕ → Option ℕ
limit_of text = option_and_then (λ n. if n == 0 then None else Some n) (number_up_to 65536 text)

-- what decoding gave, if it gave anything
abbrev pub decoded : Result (List ℕ) FromHexError → Option (List ℕ)
decoded (Ok bytes) = Some bytes
decoded (Err e) = None

-- from 1 to 65,507 bytes, each as two hexadecimal digits of either case
unfoldable pub bytes_of : List ℕ → Option (List ℕ)
bytes_of text = if (length text == 0) || nat_lt 131014 (length text) then None else decoded (decode_of text)

-- a delay, and behind a space bytes
unfoldable pub sends_of : List ℕ → Option PeerLine
sends_of text =
    option_and_then (λ p. option_and_then (λ delay. option_map (λ bytes. Sends delay bytes) (bytes_of p.1))
    (number_of p.0)) (split_word text)

-- a delay, and behind a space a cause
unfoldable pub fails_of : List ℕ → Option PeerLine
fails_of text =
    option_and_then (λ p. option_and_then (λ delay. option_map (λ c. Fails delay c) (cause_of p.1)) (number_of p.0))
    (split_word text)

-- what the other end does besides its sends, by the first word
unfoldable pub turn_by : List ℕ → List ℕ → Option PeerLine
turn_by word rest =
    if bytes_eq word (codes "holds") then option_map Holds (number_of rest)
    else if bytes_eq word (codes "ends") then option_map Ends (number_of rest)
    else if bytes_eq word (codes "fails") then fails_of rest
    else None

-- a line on the other end, by its first word and the rest
unfoldable pub peer_by : List ℕ → List ℕ → Option PeerLine
peer_by word rest = if bytes_eq word (codes "sends") then sends_of rest else turn_by word rest

-- a line on the other end
unfoldable pub peer_of : List ℕ → Option PeerLine
peer_of text =
    if bytes_eq text (codes "echo") then Some Echo else option_and_then (λ p. peer_by p.0 p.1) (split_word text)

-- the lines but those of the other end, by their first word
unfoldable pub own_line_by : List ℕ → List ℕ → Option Line
own_line_by word rest =
    if bytes_eq word (codes "begin") then option_map Begin (number_up_to (2 ^ 63 - 1) rest)
    else if bytes_eq word (codes "late") then option_map Late (number_of rest)
    else if bytes_eq word (codes "fault") then option_map Fault (number_of rest)
    else if bytes_eq word (codes "leaf") then leaf_of rest
    else if bytes_eq word (codes "take") then option_map Take (limit_of rest)
    else if bytes_eq word (codes "give") then option_map Give (limit_of rest)
    else None

-- a line, by its first word and the rest
unfoldable pub line_by : List ℕ → List ℕ → Option Line
line_by word rest = if bytes_eq word (codes "peer") then option_map Peer (peer_of rest) else own_line_by word rest

-- a line of a script
unfoldable pub line_of : List ℕ → Option Line
line_of text = option_and_then (λ p. line_by p.0 p.1) (split_word text)
