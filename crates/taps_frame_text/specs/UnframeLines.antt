-- The lines of the messages that stand in bytes (this project's own).
use Rattle.std.specs.Prelude.{◌≡◌, ℕ, ◌+◌, ◌==◌, Bool, true, false, List, [], ◌∷◌, ◌++◌, length}
use Rattle.taps_framer.specs.Layers.{Layer}
use Rattle.taps_chain.specs.Heard.{Ending, needs, fails, IsHeard}
use Rattle.taps_text.specs.BodyLines.{message_line, rest_line}
use Rattle.taps_text.specs.OutcomeLines.{outcome_line}
use Rattle.taps_text.specs.declared.outcome.Outcome.TheVariants.{BadFrame}

-- a line for each message, numbered from a number on
abbrev pub message_lines : ℕ → List (List ℕ) → List ℕ
message_lines number [] = []
message_lines number (m ∷ ms) = message_line number m ++ message_lines (number + 1) ms

-- the line behind so many messages: how many bytes are left, or where they are bad
abbrev pub end_line : ℕ → Ending → ℕ → List ℕ
end_line message needs count = rest_line count
end_line message (fails l p) count = outcome_line (BadFrame message l p)

-- whether the messages are all of the bytes
abbrev pub is_whole : Ending → ℕ → Bool
is_whole needs count = count == 0
is_whole (fails l p) count = false

-- the bytes are heard so: messages and an end, of which there is one, and this is their text
pub record IsHeardAs (fs : List Layer) (x text : List ℕ) (whole : Bool) : Type 0 where
  pub messages : List (List ℕ)
  pub end : Ending
  pub rest : List ℕ
  pub heard : IsHeard fs 0 x messages end rest
  pub only : (ms : List (List ℕ)) (e : Ending) (r : List ℕ) → IsHeard fs 0 x ms e r →
      (ms ≡ messages) × (e ≡ end) × (r ≡ rest)
  pub printed : text ≡ message_lines 0 messages ++ end_line (length messages) end (length rest)
  pub all : whole ≡ is_whole end (length rest)

-- the bytes are one message, and none are left
abbrev pub IsOneMessage : List ℕ → List ℕ → Bool → Type 0
IsOneMessage x text whole = (text ≡ message_line 0 x ++ rest_line 0) × (whole ≡ true)

-- the text of bytes: through no layer they are one message
abbrev pub IsUnframed : List Layer → List ℕ → List ℕ → Bool → Type 0
IsUnframed [] x text whole = IsOneMessage x text whole
IsUnframed (f ∷ fs) x text whole = IsHeardAs (f ∷ fs) x text whole
