-- What is heard of pieces, one behind the other.
use Rattle.std.specs.Prelude.{◌≡◌, ℕ, ◌-◌, ◌≤◌, List, [], ◌∷◌, ◌++◌, length, take, drop}
use Rattle.taps_framer.specs.Layers.{Layer}
use Rattle.taps_framer.specs.declared.scan.Scan.{Scan}
use Rattle.taps_chain.specs.Heard.{Ending, needs, fails, IsEnding, IsBegun, IsHeard}
use Rattle.taps_chain.specs.Looks.{HasLooked, HasScanned}
use Rattle.taps_chain.specs.declared.heard.Heard.{Heard}
use Rattle.taps_chain.specs.declared.heard.Heard.TheVariants as heard
use Rattle.taps_chain.specs.declared.progress.Progress.{Progress}

-- the lists, one behind the other
abbrev pub joined : List (List ℕ) → List ℕ
joined [] = []
joined (p ∷ ps) = p ++ joined ps

-- these are the messages of the bytes, and how their hearing ends, with so many bytes behind the messages;
-- where memory ran out they are the first of the messages
abbrev pub IsHearingOf : List Layer → List ℕ → List (List ℕ) → Heard → ℕ → Type 0
IsHearingOf fs x ms (heard.Message m) n = ⊥
IsHearingOf fs x ms heard.Need n = (rest : List ℕ) × (IsHeard fs 0 x ms needs rest × (n ≡ length rest))
IsHearingOf fs x ms (heard.Bad b) n = (rest : List ℕ) ×
    (IsHeard fs 0 x ms (fails b.layer b.place) rest × (b.message ≡ length ms) × (n ≡ length rest))
IsHearingOf fs x ms heard.NoMemory n = (more : List (List ℕ)) ×
    ((e : Ending) × ((rest : List ℕ) × IsHeard fs 0 x (ms ++ more) e rest))

-- the bytes that came and are no message's
abbrev pub unread_of : Progress → List ℕ → List ℕ
unread_of p x = take (p.fed - p.taken) (drop p.taken x)

-- the messages begin all the bytes, those that came and those still to come, and layer 0 has looked at unread ones
pub record IsUnderWay (fs : List Layer) (f : Layer) (scans : ℕ → Scan → List ℕ → Type 0)
    (x : List ℕ) (ms : List (List ℕ)) (p : Progress) : Type 0 where
  pub came : p.fed ≤ length x
  pub taken : p.taken ≤ p.fed
  pub begun : IsBegun fs 0 x ms (drop p.taken x)
  pub index : p.index ≡ length ms
  pub looked : HasLooked f scans p.index (unread_of p x) p.look

-- besides, layer 0 has looked at all that came, and more of the bytes are needed for the next message
pub record Waits (fs : List Layer) (f : Layer) (scans : ℕ → Scan → List ℕ → Type 0)
    (x : List ℕ) (ms : List (List ℕ)) (p : Progress) : Type 0 where
  pub under_way : IsUnderWay fs f scans x ms p
  pub all : HasScanned (unread_of p x) p.look.scanned p.look.seen
  pub needs_more : IsEnding fs p.index (unread_of p x) needs
