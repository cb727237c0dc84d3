-- The texts of a script's lines (local): words with one space between them, numbers in decimal without leading zeros,
-- bytes as two hexadecimal digits each.
use Rattle.std.specs.Prelude.{◌≡◌, ◌<◌, ◌≤◌, ℕ, ◌^◌, List, [], ◌∷◌, ◌++◌, codes, length, Ok}
use Rattle.std.specs.Fmt.{decimal}
use Rattle.hex.specs.Hex.{decode_of}
use Rattle.taps_socket.specs.CauseWords.{cause_word}
use Rattle.taps_script.specs.declared.line.Fate.{Fate}
use Rattle.taps_script.specs.declared.line.Fate.TheVariants.{Refuses, Completes, Breaks, Silent}
use Rattle.taps_script.specs.declared.line.PeerLine.{PeerLine}
use Rattle.taps_script.specs.declared.line.PeerLine.TheVariants.{Holds, Echo, Sends, Ends, Fails}
use Rattle.taps_script.specs.declared.line.Line.{Line}
use Rattle.taps_script.specs.declared.line.Line.TheVariants.{Begin, Late, Fault, Leaf, Take, Give, Peer}

-- the text of a fate
abbrev pub fate_text : Fate → List ℕ
fate_text (Refuses cause) = codes "refuses " ++ cause_word cause
fate_text (Completes delay) = codes "completes " ++ decimal delay
fate_text (Breaks delay cause) = codes "breaks " ++ (decimal delay ++ (codes " " ++ cause_word cause))
fate_text Silent = codes "silent"

-- hexadecimal digits of either case for 1 to 65,507 bytes
pub record IsHexOf (bytes hex : List ℕ) : Type 0 where
  pub some : 1 ≤ length hex
  pub few : length hex ≤ 131014
  pub decodes : decode_of hex ≡ Ok bytes

-- a text is what follows the word `peer` of a line
abbrev pub IsPeerText : PeerLine → List ℕ → Type 0
IsPeerText (Holds delay) text = text ≡ codes "holds " ++ decimal delay
IsPeerText Echo text = text ≡ codes "echo"
IsPeerText (Sends delay bytes) text =
    (hex : List ℕ) × IsHexOf bytes hex × (text ≡ codes "sends " ++ (decimal delay ++ (codes " " ++ hex)))
IsPeerText (Ends delay) text = text ≡ codes "ends " ++ decimal delay
IsPeerText (Fails delay cause) text = text ≡ codes "fails " ++ (decimal delay ++ (codes " " ++ cause_word cause))

-- a text spells a line
abbrev pub Spells : Line → List ℕ → Type 0
Spells (Begin moment) text = text ≡ codes "begin " ++ decimal moment
Spells (Late delay) text = text ≡ codes "late " ++ decimal delay
Spells (Fault wait) text = text ≡ codes "fault " ++ decimal wait
Spells (Leaf leaf fate) text = text ≡ codes "leaf " ++ (decimal leaf ++ (codes " " ++ fate_text fate))
Spells (Take most) text = text ≡ codes "take " ++ decimal most
Spells (Give most) text = text ≡ codes "give " ++ decimal most
Spells (Peer line) text = (rest : List ℕ) × IsPeerText line rest × (text ≡ codes "peer " ++ rest)

-- the numbers of a line fit
abbrev pub FateFits : Fate → Type 0
FateFits (Refuses cause) = Unit {0}
FateFits (Completes delay) = delay < 2 ^ 32
FateFits (Breaks delay cause) = delay < 2 ^ 32
FateFits Silent = Unit {0}

-- the numbers and bytes of a line on the other end keep their limits
abbrev pub PeerFits : PeerLine → Type 0
PeerFits (Holds delay) = delay < 2 ^ 32
PeerFits Echo = Unit {0}
PeerFits (Sends delay bytes) = (delay < 2 ^ 32) × (length bytes ≤ 65507)
PeerFits (Ends delay) = delay < 2 ^ 32
PeerFits (Fails delay cause) = delay < 2 ^ 32

-- the numbers of a line keep their limits
abbrev pub LineFits : Line → Type 0
LineFits (Begin moment) = moment < 2 ^ 63
LineFits (Late delay) = delay < 2 ^ 32
LineFits (Fault wait) = wait < 2 ^ 32
LineFits (Leaf leaf fate) = (leaf < 4096) × FateFits fate
LineFits (Take most) = (1 ≤ most) × (most ≤ 65536)
LineFits (Give most) = (1 ≤ most) × (most ≤ 65536)
LineFits (Peer line) = PeerFits line

-- those of each line do
abbrev pub LinesFit : List Line → Type 0
LinesFit [] = Unit {0}
LinesFit (line ∷ lines) = LineFits line × LinesFit lines

-- a text is that of a line
pub record IsLineText (line : Line) (text : List ℕ) : Type 0 where
  pub spelled : Spells line text
  pub fits : LineFits line
