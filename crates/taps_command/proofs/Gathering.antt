-- From one file to the next, and from the last file to all.
use Rattle.std.proofs.Common.{◌≡◌, ◌<◌, ◌≤◌, ◌+◌, ◌^◌, ℕ, zero, suc, List, [], ◌∷◌, option_map, Some, Ok, Err, slice_get, map, refl, ◌∙◌, ap, length, arith, add-one}
use Rattle.taps_base.specs.Files.{Contents, FilesState}
use Rattle.taps_command.specs.declared.stop.Stop.{Stop}
use Rattle.taps_command.specs.declared.stop.Stop.TheVariants as stops
use Rattle.taps_command.specs.Meanings.{Meaning}
use Rattle.taps_command.specs.Runs.{Judged, Comes, ReadsWell, HaveCome, Gathers, Steps, more}

-- the bytes of a name
pub named_at : {A B : Type 0} (view : A → B) (xs : List A) (i : ℕ) (x : A) → slice_get xs i ≡ Some x → slice_get (map view xs) i ≡ Some (view x)
named_at view [] i x h = cc
named_at view (y ∷ ys) zero x h = let same : Some y ≡ Some x = h in ap (option_map view) same
named_at view (y ∷ ys) (suc i) x h = named_at view ys i x h

-- no read was made
pub none_read : (files : FilesState) → files.reads < 2 ^ 64 → ReadsWell 0 files files
none_read files few = let same : files.reads ≡ more 0 files.reads = omega arith in record { reads = same; faults = refl; contents = refl }

more_one : (k a b c : ℕ) → b ≡ more k a → c ≡ more 1 b → c ≡ more (k + 1) a
more_one k a b c one two = omega arith

pub one_more_read : (k : ℕ) (old mid new : FilesState) → ReadsWell k old mid → ReadsWell 1 mid new → ReadsWell (k + 1) old new
one_more_read k old mid new one two =
    record { reads = more_one k old.reads mid.reads new.reads one.reads two.reads; faults = two.faults ∙ one.faults; contents = two.contents ∙ one.contents }

pub comes_on : (m : Meaning) (contents : Contents) (names : List (List ℕ)) (k : ℕ) (before value : m.Value) (name : List ℕ)
    → Comes m contents names k before → slice_get names k ≡ Some name → Judged m contents name k before (Ok value) → Comes m contents names (k + 1) value
comes_on m contents names k before value name comes named judged = rw (add-one k) (before, name, comes, named, judged)

pub goes_on : (m : Meaning) (names : List (List ℕ)) (k : ℕ) (before value : m.Value) (name : List ℕ) (old mid new : FilesState)
    → HaveCome m names k before old mid → slice_get names k ≡ Some name → Judged m mid.contents name k before (Ok value) × ReadsWell 1 mid new → HaveCome m names (k + 1) value old new
goes_on m names k before value name old mid new have named (judged, one) =
    let reads = have.reads in
    record { comes = comes_on m old.contents names k before value name have.comes named (rw (← reads.contents) judged); reads = one_more_read k old mid new have.reads one }

-- where one file gives nothing, all give nothing
pub stops_at : {A : Type 0} (m : Meaning) (view : A → m.Value) (names : List (List ℕ)) (k : ℕ) (before : m.Value) (name : List ℕ) (old mid new : FilesState) (stop : Stop)
    → HaveCome m names k before old mid → slice_get names k ≡ Some name → k < length m.readings → Steps m view name k before mid new (Err stop) → Gathers m view names old new (Err stop)
stops_at m view names k before name old mid new (stops.Refused at why) have named within (same, judged, one) =
    let comes = have.comes in
    let reads = have.reads in
    let here : Judged m old.contents name k before (Err why) = rw (← reads.contents) judged in
    rw same (record { value = before; comes = comes; name = name; named = named; judged = here }, rw (← add-one k) (one_more_read k old mid new reads one))
stops_at m view names k before name old mid new (stops.FileFault at) have named within (same, rose, last, one) =
    let comes = have.comes in
    let reads = have.reads in
    let counted : new.reads ≡ more (k + 1) old.reads = more_one k old.reads mid.reads new.reads reads.reads one in
    rw same (record {
      value = before;
      comes = comes;
      name = name;
      named = named;
      rose = rw (← reads.faults) rose;
      last_failed = last;
      reads = rw (← add-one k) counted;
    })
stops_at m view names k before name old mid new stops.SinkFault have named within step = absurd step
stops_at m view names k before name old mid new stops.NoMemory have named within (one, quiet) =
    let comes = have.comes in
    let reads = have.reads in
    let counted : new.reads ≡ more (k + 1) old.reads = more_one k old.reads mid.reads new.reads reads.reads one in
    let few : new.reads ≤ more (length m.readings) old.reads = omega arith in
    record { reads = few; faults = quiet ∙ reads.faults }
