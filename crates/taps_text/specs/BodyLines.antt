-- The lines of messages and frames, with their bytes in hexadecimal (local).
use Rattle.std.specs.Prelude.{ℕ, ◌+◌, ◌/◌, ◌%◌, nat_lt, if◌then◌else◌, List, [], ◌∷◌, ◌++◌, codes}
use Rattle.std.specs.Fmt.{decimal}
use Rattle.std.specs.List.{flat_map}

-- the character of a number below 16: `0` to `9` are 48 to 57, `a` to `f` are 97 to 102
abbrev pub hex_digit : ℕ → ℕ
hex_digit number = if nat_lt number 10 then number + 48 else number + 87

-- 1 where the character of a number below 16 is a letter, and 0 where it is not
abbrev pub letters : ℕ → ℕ
letters number = if nat_lt number 10 then 0 else 1

-- the two digits of a byte, of which the first counts sixteens
abbrev pub byte_digits : ℕ → List ℕ
byte_digits byte = hex_digit (byte / 16) ∷ hex_digit (byte % 16) ∷ []

-- the bytes in hexadecimal, and `-` for none
abbrev pub hex_text : List ℕ → List ℕ
hex_text [] = codes "-"
hex_text (byte ∷ bytes) = flat_map byte_digits (byte ∷ bytes)

-- how many messages a member sent
unfoldable pub sent_line : ℕ → ℕ → List ℕ
sent_line member count = codes "sent " ++ (decimal member ++ (codes " " ++ (decimal count ++ codes "\n")))

-- a message that a member heard, or its last part
unfoldable pub received_line : ℕ → ℕ → List ℕ → List ℕ
received_line member number body = codes "received "
    ++ (decimal member ++ (codes " " ++ (decimal number ++ (codes " " ++ (hex_text body ++ codes "\n")))))

-- a part, but the last, of a message that a member heard
unfoldable pub part_line : ℕ → ℕ → List ℕ → List ℕ
part_line member number body =
    codes "part " ++ (decimal member ++ (codes " " ++ (decimal number ++ (codes " " ++ (hex_text body ++ codes "\n")))))

-- a message that was found in a file's bytes
unfoldable pub message_line : ℕ → List ℕ → List ℕ
message_line number body = codes "message " ++ (decimal number ++ (codes " " ++ (hex_text body ++ codes "\n")))

-- how many bytes follow the messages
unfoldable pub rest_line : ℕ → List ℕ
rest_line count = codes "rest " ++ (decimal count ++ codes "\n")

-- the bytes of a message in its frames
unfoldable pub frame_line : List ℕ → List ℕ
frame_line bytes = hex_text bytes ++ codes "\n"
