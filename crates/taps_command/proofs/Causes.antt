-- From how a command ends to what is promised of it.
use Rattle.std.proofs.Common.{◌≡◌, ◌==◌, ◌≤◌, ◌<◌, ◌≢◌, ◌↔◌, ℕ, zero, suc, true, false, List, [], ◌∷◌, Some, Result, Ok, Err, refl, ◌∙◌, ap, length, slice_get, arith, rules}
use Rattle.taps_base.specs.Files.{FilesState}
use Rattle.taps_base.specs.Sinks.{SinkState}
use Rattle.taps_text.specs.ErrorLines.{usage_line}
use Rattle.taps_command.specs.Asked.{Asked, NoCommand, Asks, Makes, asked, IsNoCommand, IsByCause, IsRun, LeavesLawful, most_reads}
use Rattle.taps_command.specs.Makings.{Making, MakingEnds}
use Rattle.taps_command.specs.Meanings.{Meaning, HasText}
use Rattle.taps_command.specs.Runs.{World, Ends, Says, IsLawful, more, status_of}
use Rattle.taps_command.specs.Telling.{Tells}
use Rattle.taps_command.specs.declared.status.Status.{Status}
use Rattle.taps_command.specs.declared.status.Status.TheVariants as status
use Rattle.taps_command.specs.declared.stop.Stop.{Stop}
use Rattle.taps_command.specs.declared.stop.Stop.TheVariants.{Refused, FileFault, SinkFault, NoMemory}

pub no_command : (m : Meaning) (names : List (List ℕ)) (old : World) (err err' : SinkState) (s : Status) → (length names == length m.readings) ≡ false
    → s ≡ status.Usage → Tells err err' usage_line → IsRun (asked m names) old old err err' s
no_command m names old err err' s other same tells =
    let cause : IsByCause (asked m names) old old err err' s = rw other (record { status = same; untouched = refl; tells = tells }) in
    let lawful : LeavesLawful (asked m names) old.files.contents old.sockets old.sockets = rw other refl in
    record { cause = cause; lawful = lawful }

pub by_cause : (m : Meaning) (names : List (List ℕ)) (old new : World) (err err' : SinkState) (e : Result Status Stop) (s : Status) → (length names == length m.readings) ≡ true
    → Ends m names old new e → Says names err err' e → s ≡ status_of e → IsLawful m names old.files.contents old.sockets new.sockets
    → IsRun (asked m names) old new err err' s
by_cause m names old new err err' e s same ends says gives law =
    let fits : length names ≡ length m.readings = search rules in
    let cause : IsByCause (asked m names) old new err err' s = rw same (record { fits = fits; ended = e; cause = ends; says = says; status = gives }) in
    let lawful : LeavesLawful (asked m names) old.files.contents old.sockets new.sockets = rw same law in
    record { cause = cause; lawful = lawful }

pub slice_get_within : {A : Type 0} (xs : List A) (i : ℕ) (x : A) → slice_get xs i ≡ Some x → i < length xs
slice_get_within [] i x h = cc
slice_get_within (y ∷ ys) zero x h = omega arith
slice_get_within (y ∷ ys) (suc i) x h = let less = slice_get_within ys i x h in omega arith

few_in : (m : Meaning) (names : List (List ℕ)) (old new : World) (e : Result Status Stop) → length names ≡ length m.readings → Ends m names old new e
    → new.files.reads ≤ more (length m.readings) old.files.reads
few_in m names old new (Ok s) fits h = let same = h.0.reads.reads in omega arith
few_in m names old new (Err (Refused place why)) fits h =
    let less = slice_get_within m.readings place h.0.judged.reading h.0.judged.read in
    let same : new.files.reads ≡ more (suc place) old.files.reads = h.1.reads in
    omega arith
few_in m names old new (Err (FileFault place)) fits h =
    let less : place < length names = slice_get_within names place h.0.name h.0.named in
    let same : new.files.reads ≡ more (suc place) old.files.reads = h.0.reads in
    omega arith
few_in m names old new (Err SinkFault) fits h = let same = h.1.reads.reads in omega arith
few_in m names old new (Err NoMemory) fits h = h.0.reads

quiet_in : (m : Meaning) (names : List (List ℕ)) (old new : World) (e : Result Status Stop) → Ends m names old new e → status_of e ≢ status.FileFault
    → new.files.faults ≡ old.files.faults
quiet_in m names old new (Ok s) h other = h.0.reads.faults
quiet_in m names old new (Err (Refused place why)) h other = h.1.faults
quiet_in m names old new (Err (FileFault place)) h other = absurd (other refl)
quiet_in m names old new (Err SinkFault) h other = h.1.reads.faults
quiet_in m names old new (Err NoMemory) h other = h.0.faults

-- no more reads than files
pub few : (asks : Asked) (old new : World) (err err' : SinkState) (s : Status) → IsRun asks old new err err' s → new.files.reads ≤ most_reads asks old.files.reads
few NoCommand old new err err' s run = let same = ap (λ (w : World). w.files.reads) run.cause.untouched in omega arith
few (Asks m names) old new err err' s run = few_in m names old new run.cause.ended run.cause.fits run.cause.cause
few (Makes m) old new err err' s run = let same = ap (λ (f : FilesState). f.reads) run.cause.files in omega arith

-- a fault of the files has a status of its own
pub no_fault : (asks : Asked) (old new : World) (err err' : SinkState) (s : Status) → IsRun asks old new err err' s → s ≢ status.FileFault
    → new.files.faults ≡ old.files.faults
no_fault NoCommand old new err err' s run other = ap (λ (w : World). w.files.faults) run.cause.untouched
no_fault (Asks m names) old new err err' s run other =
    quiet_in m names old new run.cause.ended run.cause.cause (λ same. other (run.cause.status ∙ same))
no_fault (Makes m) old new err err' s run other = ap (λ (f : FilesState). f.faults) run.cause.files

never_usage : (m : Meaning) (names : List (List ℕ)) (old new : World) (e : Result Status Stop) → Ends m names old new e → status_of e ≡ status.Usage → ⊥
never_usage m names old new (Ok s) h same = let there : HasText status.Usage = rw same at h.1 in there
never_usage m names old new (Err (Refused place why)) h same = cc
never_usage m names old new (Err (FileFault place)) h same = cc
never_usage m names old new (Err SinkFault) h same = cc
never_usage m names old new (Err NoMemory) h same = cc

never_usage_of : (m : Making) (out out' : SinkState) (e : Result Status Stop) → MakingEnds m out out' e → status_of e ≡ status.Usage → ⊥
never_usage_of m out out' (Ok s) h same = let there : HasText status.Usage = rw same at h.1 in there
never_usage_of m out out' (Err (Refused place why)) h same = cc
never_usage_of m out out' (Err (FileFault place)) h same = cc
never_usage_of m out out' (Err SinkFault) h same = cc
never_usage_of m out out' (Err NoMemory) h same = cc

-- the status is Usage if and only if there is no such command
usage_only : (asks : Asked) (old new : World) (err err' : SinkState) (s : Status) → IsRun asks old new err err' s → s ≡ status.Usage → IsNoCommand asks
usage_only NoCommand old new err err' s run same = tt
usage_only (Asks m names) old new err err' s run same =
    absurd (never_usage m names old new run.cause.ended run.cause.cause (let back : status_of run.cause.ended ≡ status.Usage = rw run.cause.status at same in back))
usage_only (Makes m) old new err err' s run same =
    let made = run.cause.made in
    absurd (never_usage_of m old.out new.out made.ended made.cause (let back : status_of made.ended ≡ status.Usage = rw made.status at same in back))

usage_there : (asks : Asked) (old new : World) (err err' : SinkState) (s : Status) → IsRun asks old new err err' s → IsNoCommand asks → s ≡ status.Usage
usage_there NoCommand old new err err' s run none = run.cause.status
usage_there (Asks m names) old new err err' s run none = absurd none
usage_there (Makes m) old new err err' s run none = absurd none

pub usage : (asks : Asked) (old new : World) (err err' : SinkState) (s : Status) → IsRun asks old new err err' s → (s ≡ status.Usage) ↔ (IsNoCommand asks)
usage asks old new err err' s run = (usage_only asks old new err err' s run, usage_there asks old new err err' s run)
