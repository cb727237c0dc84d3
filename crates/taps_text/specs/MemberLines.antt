-- The lines of what the members of a session sent and heard (local).
use Rattle.std.specs.Prelude.{ℕ, ◌+◌, Bool, true, false, List, [], ◌∷◌, ◌++◌, Option, Some, None}
use Rattle.std.specs.List.{flat_map}
use Rattle.taps_message.specs.Parts.{PartState, parts_of}
use Rattle.taps_text.specs.BodyLines.{sent_line, received_line, part_line}

-- how many messages a member sent, and the bodies of those that it heard, by number
pub record MemberLog : Type 0 where
  pub sent : ℕ
  pub heard : List (List ℕ)

-- the line of a part of a message
abbrev pub line_of_part : ℕ → ℕ → Bool → List ℕ → List ℕ
line_of_part member number true bytes = received_line member number bytes
line_of_part member number false bytes = part_line member number bytes

abbrev pub part_lines : ℕ → ℕ → List PartState → List ℕ
part_lines member number parts = flat_map (λ part. line_of_part member number part.last part.bytes) parts

-- a message that a member heard: whole, or in parts of at most so many bytes
abbrev pub message_lines : Option ℕ → ℕ → ℕ → List ℕ → List ℕ
message_lines None member number body = received_line member number body
message_lines (Some most) member number body = part_lines member number (parts_of most body)

-- the messages that a member heard, numbered from a number on
abbrev pub messages_lines : Option ℕ → ℕ → ℕ → List (List ℕ) → List ℕ
messages_lines part member number [] = []
messages_lines part member number (body ∷ bodies) =
    message_lines part member number body ++ messages_lines part member (number + 1) bodies

-- how many messages a member sent, and then those that it heard
abbrev pub member_lines : Option ℕ → ℕ → MemberLog → List ℕ
member_lines part place member = sent_line place member.sent ++ messages_lines part place 0 member.heard

-- the lines of the members, by place from one on
abbrev pub members_lines : Option ℕ → ℕ → List MemberLog → List ℕ
members_lines part place [] = []
members_lines part place (member ∷ members) =
    member_lines part place member ++ members_lines part (place + 1) members
