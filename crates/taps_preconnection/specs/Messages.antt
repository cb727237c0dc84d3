-- A table `message`, and the rules that the messages of a file keep together.
use Rattle.std.specs.Prelude.{ℕ, List, [], ◌∷◌, ◌++◌, Bool, false, not, ◌&&◌, ◌==◌, Option, Some, None, Result, Ok, Err, length, nat_le, codes, unwrap_or}
use Rattle.std.specs.List.{list_any}
use Rattle.toml.specs.Data.{Members}
use Rattle.taps_table.specs.Keys.{key, ◌&◌, keys_of, rule}
use Rattle.taps_table.specs.Places.{key_text, item_text}
use Rattle.taps_preconnection.specs.MessageSets.{no_set}
use Rattle.taps_preconnection.specs.PropertySets.{message_properties, set_message}
use Rattle.taps_preconnection.specs.PropertyTables.{properties}
use Rattle.taps_base.specs.Results.{◌>>=◌}
use Rattle.taps_table.specs.Values.{number_of, text_of}
use Rattle.taps_preconnection.specs.Texts.{hex_of}
use Rattle.taps_preconnection.specs.declared.message.MessageSpec.{MessageSpec}
use Rattle.taps_table.specs.declared.pre_error.PreError.{PreError}
use Rattle.taps_table.specs.declared.pre_error.PreError.TheVariants.{OutOfRange}

-- exactly one of a text and of bytes by their digits
abbrev pub one_of : List ℕ → Option (List ℕ) → Option (List ℕ) → Result (List ℕ) PreError
one_of path (Some text) None = Ok text
one_of path None (Some bytes) = Ok bytes
one_of path (Some text) (Some bytes) = Err (OutOfRange path)
one_of path None None = Err (OutOfRange path)

-- a table `message`
unfoldable pub message_at : List ℕ → Members → Result MessageSpec PreError
message_at path ms = do
  (((text, hex), member), set) ← keys_of (
      key (codes "text") text_of
      & key (codes "hex") hex_of
      & key (codes "member") (number_of 0 15)
      & properties set_message message_properties no_set
      ) path ms
  body ← one_of path text hex
  Ok (record { body = body; member = unwrap_or member 0; set = set })

-- a message to this member that says it is the last came before
unfoldable pub has_ended : List MessageSpec → ℕ → Bool
has_ended before member = list_any (λ m. (m.member == member) && unwrap_or m.set.is_final false) before

-- the text of the message at an index
abbrev pub message_text : ℕ → List ℕ
message_text index = item_text (codes "message") index

-- a message goes to a member that there is, and to none that has ended
unfoldable pub message_fits : ℕ → List MessageSpec → MessageSpec → Result (Unit {0}) PreError
message_fits clones before m = do
  _ ← rule (key_text (message_text (length before)) (codes "member")) (nat_le m.member clones)
  rule (message_text (length before)) (not (has_ended before m.member))

-- the messages after those that were looked at before
unfoldable pub messages_fit : ℕ → List MessageSpec → List MessageSpec → Result (Unit {0}) PreError
messages_fit clones before [] = Ok tt
messages_fit clones before (m ∷ ms) = message_fits clones before m >>= λ _. messages_fit clones (before ++ m ∷ []) ms
