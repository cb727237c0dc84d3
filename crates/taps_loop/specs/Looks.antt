-- What the accepted end finds in the bytes that it read (RFC 9622 section 9.3).
use Rattle.std.specs.Prelude.{◌≡◌, ℕ, ◌+◌, ◌-◌, ◌*◌, ◌<◌, ◌≤◌, Bool, false, List, length, map, take, Some, None, Result, Ok, Err}
use Rattle.taps_base.specs.declared.no_memory.NoMemory.{NoMemory}
use Rattle.taps_framer.specs.Layers.{Layer}
use Rattle.taps_connection.specs.Histories.{message, Represents}
use Rattle.taps_connection.specs.Unread.{Unread, count_given, IsWanting}
use Rattle.taps_exchange.specs.Decodings.{Decoding, enough, messages_of, decoding_of}
use Rattle.taps_exchange.specs.Hearings.{Fits, IsLacking, ends_in, to_come}
use Rattle.taps_loop.specs.declared.looked.Look.{Look}
use Rattle.taps_loop.specs.declared.looked.Look.TheVariants as look

-- what is kept of the receiving stands for the pieces that were read and the messages that were heard
pub record IsReceiving (stream : Bool) (fs : List Layer) (piece : ℕ) (ended : Bool) (u : Unread)
    (read ms : List (List ℕ)) : Type 0 where
  pub fits : Fits stream fs piece u
  pub represents : Represents fs ended u read (map message ms)

-- these are all messages in the pieces, however many are needed
abbrev pub AreAll : Decoding → List (List ℕ) → Bool → List (List ℕ) → Type 0
AreAll d read ended ms = (n : ℕ) → messages_of (d.hearing n read ended) ≡ take n ms

-- as many messages were heard as are needed; or fewer, and more bytes have to come; or what was read ends the exchange
abbrev pub IsFound : Bool → List Layer → ℕ → ℕ → List (List ℕ) → Bool → Look → Unread → List (List ℕ) → Type 0
IsFound stream fs piece needs read ended look.Enough u ms =
    IsReceiving stream fs piece ended u read ms
    × ((decoding_of stream fs).hearing needs read ended ≡ enough (take needs ms)) × (needs ≤ length ms)
IsFound stream fs piece needs read ended look.Lacks u ms =
    IsReceiving stream fs piece ended u read ms × (ended ≡ false) × IsWanting u
    × IsLacking (decoding_of stream fs) piece needs read ended u ms × (length ms < needs)
    × AreAll (decoding_of stream fs) read ended ms
IsFound stream fs piece needs read ended (look.Over o) u ms =
    (ends_in None ended ((decoding_of stream fs).hearing needs read ended) ≡ Some o) × (length ms < needs)
    × AreAll (decoding_of stream fs) read ended ms

-- so it is, or memory ran out
abbrev pub HasLooked : Bool → List Layer → ℕ → ℕ → List (List ℕ) → Bool → Result Look NoMemory → Unread →
    List (List ℕ) → Type 0
HasLooked stream fs piece needs read ended (Ok found) u ms = IsFound stream fs piece needs read ended found u ms
HasLooked stream fs piece needs read ended (Err none) u ms = Unit {0}

-- more bytes have to come, and may be asked for
abbrev pub IfLacks : Result Look NoMemory → Bool → Unread → Type 0
IfLacks (Ok look.Enough) ended u = Unit {0}
IfLacks (Ok look.Lacks) ended u = (ended ≡ false) × IsWanting u
IfLacks (Ok (look.Over o)) ended u = Unit {0}
IfLacks (Err none) ended u = Unit {0}

-- how much is still to be heard, of at most 256 messages
abbrev pub to_hear : Bool → Unread → ℕ
to_hear ended u = (256 - count_given u) * 8388612 + to_come ended u

-- no more is to be heard than before, and less if messages were given out
pub record IsNearer (ended : Bool) (before after : Unread) : Type 0 where
  pub more : count_given before ≤ count_given after
  pub less : count_given before < count_given after → to_hear ended after < to_hear ended before
  pub same : to_hear ended after ≤ to_hear ended before
