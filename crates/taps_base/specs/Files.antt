-- What contracts see of files, and what a read does to it.
use Rattle.std.specs.Prelude.{◌≡◌, ℕ, ◌<◌, ◌≤◌, List, length, ⊤, Option, Some, None, IsSomeAnd}
use Rattle.taps_base.specs.Counts.{Rose, one_more}
use Rattle.taps_base.specs.declared.files.FileAnswer.{FileAnswer}
use Rattle.taps_base.specs.declared.files.FileAnswer.TheVariants.{Bytes, TooLong, Failed, NoMemory}

-- what each name holds, where observable
abbrev pub Contents : Type 0
Contents = Option (List ℕ → Option (List ℕ))

-- the contents, how often a read failed, the name of the last that did, and how many reads were made
pub record FilesState : Type 0 where
  pub contents : Contents
  pub faults : ℕ
  pub last_failed : Option (List ℕ)
  pub reads : ℕ

-- where the contents are observable, these bytes are what the name holds
abbrev pub IsContent : Contents → List ℕ → List ℕ → Type 0
IsContent None name bytes = ⊤
IsContent (Some held) name bytes = held name ≡ Some bytes

-- where the contents are observable, the name holds more than this many bytes
abbrev pub IsLonger : Contents → List ℕ → ℕ → Type 0
IsLonger None name max = ⊤
IsLonger (Some held) name max = IsSomeAnd (held name) (λ bytes. max < length bytes)

-- no fault was counted, and the last failed name stayed
pub record IsQuiet (old new : FilesState) : Type 0 where
  pub faults : new.faults ≡ old.faults
  pub last_failed : new.last_failed ≡ old.last_failed

-- what each answer to a read of this name means
abbrev pub Means : FileAnswer → FilesState → FilesState → List ℕ → ℕ → Type 0
Means (Bytes body) old new name max = IsContent old.contents name body × (length body ≤ max) × IsQuiet old new
Means TooLong old new name max = IsLonger old.contents name max × IsQuiet old new
Means Failed old new name max = Rose old.faults new.faults × (new.last_failed ≡ Some name)
Means NoMemory old new name max = IsQuiet old new

-- one read of this name was made, and answered so
pub record Answers (answer : FileAnswer) (old new : FilesState) (name : List ℕ) (max : ℕ) : Type 0 where
  pub means : Means answer old new name max
  pub once : new.reads ≡ one_more old.reads
  pub never_falls : old.faults ≤ new.faults
  pub contents : new.contents ≡ old.contents
