-- The file and the script that a number generates (local). Each number that they need follows the one before it.
use Rattle.std.specs.Prelude.{ℕ, zero, suc, ◌+◌, ◌*◌, ◌/◌, ◌%◌, ◌^◌, ◌==◌, List, [], ◌∷◌, ◌++◌, codes, if◌then◌else◌}
use Rattle.std.specs.Fmt.{decimal}
use Rattle.std.specs.List.{flat_map}
use Rattle.taps_text.specs.BodyLines.{byte_digits}

-- the number that follows a number
unfoldable pub next : ℕ → ℕ
next x = (x * 1664525 + 1013904223) % 2 ^ 32

-- the number at a place, counted from 0, of those that begin with a number
unfoldable pub drawn : ℕ → ℕ → ℕ
drawn x zero = x
drawn x (suc place) = drawn (next x) place

-- the framers and the selection properties
unfoldable pub head_text : List ℕ
head_text = codes "framers = [\"len32\", \"netstring\"]\n\n[selection]\nreliability = \"avoid\"\n"
    ++ codes "preserveOrder = \"no-preference\"\ncongestionControl = \"no-preference\"\n"

-- so many paths, whose interfaces are numbered from a number on
unfoldable pub path_tables : ℕ → ℕ → List ℕ
path_tables zero place = []
path_tables (suc count) place =
    (codes "\n[[path]]\ninterface = \"p" ++ (decimal place ++ codes "\"\n")) ++ path_tables count (place + 1)

-- the remote, and where the addresses of its host begin
unfoldable pub remote_text : List ℕ
remote_text = codes "\n[[remote]]\nhost = \"h\"\nport = 9000\n\n[hosts]\nh = [\n"

-- the address at a place, by a number
unfoldable pub address_line : ℕ → ℕ → List ℕ
address_line place x = codes "    \"10.0." ++ (decimal (x % 256) ++ (codes "." ++ (decimal place ++ codes "\",\n")))

-- so many addresses from a place on, each by the next number
unfoldable pub address_lines : ℕ → ℕ → ℕ → List ℕ
address_lines zero place x = []
address_lines (suc count) place x = address_line place x ++ address_lines count (place + 1) (next x)

-- where the addresses end, and the delay between attempts, in milliseconds
unfoldable pub race_text : List ℕ
race_text = codes "]\n\n[race]\ndelay_ms = 10\n"

-- a number in eight hexadecimal digits
abbrev pub word_digits : ℕ → List ℕ
word_digits x =
    flat_map byte_digits (x / 16777216 % 256 ∷ x / 65536 % 256 ∷ x / 256 % 256 ∷ x % 256 ∷ [])

-- a message whose body is a number
unfoldable pub message_table : ℕ → List ℕ
message_table x = codes "\n[[message]]\nhex = \"" ++ (word_digits x ++ codes "\"\n")

-- so many messages, each by the next number
unfoldable pub message_tables : ℕ → ℕ → List ℕ
message_tables zero x = []
message_tables (suc count) x = message_table x ++ message_tables count (next x)

-- how many messages are expected, and how many bytes are asked for at once, by a number
unfoldable pub exchange_text : ℕ → List ℕ
exchange_text x = codes "\n[exchange]\nexpect = 256\npiece = " ++ (decimal (1 + x % 4096) ++ codes "\n")

-- what its plan comes from: eight paths, and a host of 32 addresses
unfoldable pub candidates_text : ℕ → List ℕ
candidates_text number = head_text ++ (path_tables 8 0 ++ (remote_text ++ address_lines 32 0 number))

-- what its session does: the delay between attempts, and 256 messages, of which as many are expected
unfoldable pub session_text : ℕ → List ℕ
session_text number = race_text ++ (message_tables 256 (drawn number 32) ++ exchange_text (drawn number 799))

-- the file
unfoldable pub generated_file : ℕ → List ℕ
generated_file number = candidates_text number ++ session_text number

-- what becomes of a leaf, by a number
abbrev pub fate_text : ℕ → List ℕ
fate_text y =
    if y % 3 == 0 then codes " refuses refused\n"
    else if y % 3 == 1 then codes " breaks " ++ (decimal (y / 3 % 100) ++ codes " reset\n")
    else codes " silent\n"

unfoldable pub leaf_line : ℕ → ℕ → List ℕ
leaf_line leaf y = codes "leaf " ++ (decimal leaf ++ fate_text y)

-- so many leaves from one on, each by the next number
unfoldable pub leaf_lines : ℕ → ℕ → ℕ → List ℕ
leaf_lines zero leaf x = []
leaf_lines (suc count) leaf x = leaf_line leaf x ++ leaf_lines count (leaf + 1) (next x)

-- the leaf that completes, the other end, and how many bytes a receive gives at most, by a number
unfoldable pub end_text : ℕ → List ℕ
end_text x = codes "leaf 511 completes 0\npeer echo\ngive " ++ (decimal (1 + x % 64) ++ codes "\n")

-- the script: the last of 512 leaves completes, and no other
unfoldable pub generated_script : ℕ → List ℕ
generated_script number = leaf_lines 511 0 (drawn number 288) ++ end_text (drawn number 800)
