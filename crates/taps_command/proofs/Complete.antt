-- Where the contents are told, they decide how a command ends.
use Rattle.std.proofs.Common.{◌≡◌, ◌<◌, ◌⊎◌, ℕ, zero, suc, List, [], ◌∷◌, Option, Some, Result, Ok, Err, refl, sym, ◌∙◌, ap, inl, inr, length, slice_get, arith}
use Rattle.taps_base.specs.Counts.{Rose}
use Rattle.taps_base.specs.Sinks.{SinkState}
use Rattle.taps_base.specs.declared.sink.SinkAnswer.TheVariants as answers
use Rattle.taps_text.specs.declared.refusal.Refusal.{Refusal}
use Rattle.taps_command.specs.Makings.{Making, MakingEnds, IsSettled}
use Rattle.taps_command.specs.Meanings.{Meaning, judge}
use Rattle.taps_command.specs.Runs.{World, Ends, Judged, Comes, Passes, IsRefused, Takes, status_of}
use Rattle.taps_command.specs.Asked.{Asked, NoCommand, Asks, Makes, IsRun, IsDecided, IsComplete}
use Rattle.taps_command.specs.declared.status.Status.{Status}
use Rattle.taps_command.specs.declared.status.Status.TheVariants as status
use Rattle.taps_command.specs.declared.stop.Stop.{Stop}
use Rattle.taps_command.specs.declared.stop.Stop.TheVariants.{Refused, FileFault, SinkFault, NoMemory}
use Rattle.taps_command.proofs.Causes.{slice_get_within}

some_same : {A : Type 0} (o : Option A) (x y : A) → o ≡ Some x → o ≡ Some y → x ≡ y
some_same o x y p q = let both : Some x ≡ Some y = sym p ∙ q in cc

both_pass : {A : Type 0} (x y : A) (one two : Result A Refusal) → one ≡ Ok x → two ≡ Ok y → one ≡ two → x ≡ y
both_pass x y one two p q h = cc

never_both : {A : Type 0} (x : A) (why : Refusal) → Ok x ≡ Err why → ⊥
never_both x why h = cc

-- told bytes come to one thing
one_outcome : (m : Meaning) (held : List ℕ → Option (List ℕ)) (name other : List ℕ) (place : ℕ) (value also : m.Value) (one two : Result m.Value Refusal)
    → name ≡ other → value ≡ also → Judged m (Some held) name place value one → Judged m (Some held) other place also two → one ≡ two
one_outcome m held name other place value also one two names values a b =
    let readings : a.reading ≡ b.reading = some_same (slice_get m.readings place) a.reading b.reading a.read b.read in
    let there : held name ≡ Some b.bytes = rw names b.content in
    let bytes : a.bytes ≡ b.bytes = some_same (held name) a.bytes b.bytes a.content there in
    let judged : judge a.reading value a.bytes ≡ two = rw (readings, values, bytes) b.judged in
    sym a.judged ∙ judged

-- the files before a place come to one value
one_value : (m : Meaning) (held : List ℕ → Option (List ℕ)) (names : List (List ℕ)) (k : ℕ) (value also : m.Value) → Comes m (Some held) names k value → Comes m (Some held) names k also → value ≡ also
one_value m held names zero value also a b = a ∙ sym b
one_value m held names (suc k) value also (before, name, comes, named, judged) (before', name', comes', named', judged') =
    let same = one_value m held names k before before' comes comes' in
    let called = some_same (slice_get names k) name name' named named' in
    both_pass value also (Ok value) (Ok also) refl refl (one_outcome m held name name' k before before' (Ok value) (Ok also) called same judged judged')

less_cases : (a b : ℕ) → a < suc b → (a ≡ b) ⊎ (a < b)
less_cases zero zero h = inl refl
less_cases zero (suc b) h = inr (omega arith)
less_cases (suc a) zero h = absurd (omega arith)
less_cases (suc a) (suc b) h = elim (less_cases a b (omega arith)) [ inl same ↦ inl (ap suc same) | inr less ↦ inr (omega arith) ]

-- a file that passes is not refused
not_refused : (m : Meaning) (held : List ℕ → Option (List ℕ)) (names : List (List ℕ)) (k : ℕ) (value : m.Value) (why : Refusal) → Comes m (Some held) names (suc k) value → IsRefused m (Some held) names k why → ⊥
not_refused m held names k value why (before, name, comes, named, judged) refused =
    let same = one_value m held names k before refused.value comes refused.comes in
    let called = some_same (slice_get names k) name refused.name named refused.named in
    never_both value why (one_outcome m held name refused.name k before refused.value (Ok value) (Err why) called same judged refused.judged)

-- nor is one before it
passed_before : (m : Meaning) (held : List ℕ → Option (List ℕ)) (names : List (List ℕ)) (n : ℕ) (value : m.Value) (place : ℕ) (why : Refusal) → Comes m (Some held) names n value → place < n → IsRefused m (Some held) names place why → ⊥
passed_before m held names zero value place why comes less refused = omega arith
passed_before m held names (suc n) value place why comes less refused =
    elim (less_cases place n less) [
      | inl same ↦ (let here : IsRefused m (Some held) names n why = rw (← same) refused in not_refused m held names n value why comes here)
      | inr before ↦ passed_before m held names n comes.0 place why comes.2 before refused
    ]

-- where all pass, none is refused
none_refused : (m : Meaning) (held : List ℕ → Option (List ℕ)) (names : List (List ℕ)) (value : m.Value) (place : ℕ) (why : Refusal) → Passes m (Some held) names value → IsRefused m (Some held) names place why → ⊥
none_refused m held names value place why passes refused =
    passed_before m held names (length m.readings) value place why passes (slice_get_within m.readings place refused.judged.reading refused.judged.read) refused

-- a failed write is counted
write_fails : (old new : SinkState) (text : List ℕ) → Takes answers.Failed old new text → Rose old.faults new.faults
write_fails old new [] takes = absurd (let wrong : answers.Failed ≡ answers.Taken = takes.1 in cc)
write_fails old new (byte ∷ text) takes = takes.fault refl

refused_in : (m : Meaning) (names : List (List ℕ)) (held : List ℕ → Option (List ℕ)) (old new : World) (e : Result Status Stop) (place : ℕ) (why : Refusal) → old.files.contents ≡ Some held → Ends m names old new e
    → IsRefused m (Some held) names place why → ¬ Rose old.files.faults new.files.faults → (status_of e ≡ status.Refused) ⊎ (status_of e ≡ status.NoMemory)
refused_in m names held old new (Ok s) place why told h refused quiet = absurd (none_refused m held names h.0.value place why (rw told at h.0.comes) refused)
refused_in m names held old new (Err (Refused at other)) place why told h refused quiet = inl refl
refused_in m names held old new (Err (FileFault at)) place why told h refused quiet = absurd (quiet h.0.rose)
refused_in m names held old new (Err SinkFault) place why told h refused quiet = absurd (none_refused m held names h.1.value place why (rw told at h.1.comes) refused)
refused_in m names held old new (Err NoMemory) place why told h refused quiet = inr refl

passed_in : (m : Meaning) (names : List (List ℕ)) (held : List ℕ → Option (List ℕ)) (old new : World) (e : Result Status Stop) (value : m.Value) → old.files.contents ≡ Some held → Ends m names old new e
    → Passes m (Some held) names value → ¬ Rose old.files.faults new.files.faults → ¬ Rose old.out.faults new.out.faults
    → ((text : List ℕ) × m.Prints value old.sockets new.sockets text (status_of e) × Takes answers.Taken old.out new.out text) ⊎ (status_of e ≡ status.NoMemory)
passed_in m names held old new (Ok s) value told h passes quiet quiet_out =
    let there : Passes m (Some held) names h.0.value = rw told at h.0.comes in
    let same : h.0.value ≡ value = one_value m held names (length m.readings) h.0.value value there passes in
    let prints : m.Prints value old.sockets new.sockets h.0.text s = rw same at h.0.prints in
    inl (h.0.text, prints, h.0.takes)
passed_in m names held old new (Err (Refused at why)) value told h passes quiet quiet_out = absurd (none_refused m held names value at why passes (rw told at h.0))
passed_in m names held old new (Err (FileFault at)) value told h passes quiet quiet_out = absurd (quiet h.0.rose)
passed_in m names held old new (Err SinkFault) value told h passes quiet quiet_out = absurd (quiet_out (write_fails old.out new.out h.1.text h.1.takes))
passed_in m names held old new (Err NoMemory) value told h passes quiet quiet_out = inr refl

decided : (m : Meaning) (names : List (List ℕ)) (held : List ℕ → Option (List ℕ)) (old new : World) (e : Result Status Stop) → old.files.contents ≡ Some held → Ends m names old new e → IsDecided m names held old new (status_of e)
decided m names held old new e told h =
    record {
      refused = λ place why refused quiet. refused_in m names held old new e place why told h refused quiet;
      passed = λ value passes quiet quiet_out. passed_in m names held old new e value told h passes quiet quiet_out;
    }

refused_of : (m : Making) (out out' : SinkState) (e : Result Status Stop) (why : Refusal) → MakingEnds m out out' e → m.value ≡ Err why
    → (status_of e ≡ status.Refused) ⊎ (status_of e ≡ status.NoMemory)
refused_of m out out' (Ok s) why h none = absurd (never_both h.0.value why (sym h.0.made ∙ none))
refused_of m out out' (Err (Refused place other)) why h none = inl refl
refused_of m out out' (Err (FileFault place)) why h none = absurd h
refused_of m out out' (Err SinkFault) why h none = absurd (never_both h.1.value why (sym h.1.made ∙ none))
refused_of m out out' (Err NoMemory) why h none = inr refl

made_of : (m : Making) (out out' : SinkState) (e : Result Status Stop) (value : m.Value) → MakingEnds m out out' e → m.value ≡ Ok value → ¬ Rose out.faults out'.faults
    → ((text : List ℕ) × m.Prints value text (status_of e) × Takes answers.Taken out out' text) ⊎ (status_of e ≡ status.NoMemory)
made_of m out out' (Ok s) value h there quiet =
    let same : h.0.value ≡ value = both_pass h.0.value value m.value m.value h.0.made there refl in
    let prints : m.Prints value h.0.text s = rw same at h.0.prints in
    inl (h.0.text, prints, h.0.takes)
made_of m out out' (Err (Refused place why)) value h there quiet = absurd (never_both value why (sym there ∙ h.0))
made_of m out out' (Err (FileFault place)) value h there quiet = absurd h
made_of m out out' (Err SinkFault) value h there quiet = absurd (quiet (write_fails out out' h.1.text h.1.takes))
made_of m out out' (Err NoMemory) value h there quiet = inr refl

settled : (m : Making) (out out' : SinkState) (e : Result Status Stop) → MakingEnds m out out' e → IsSettled m out out' (status_of e)
settled m out out' e h = record {
  refused = λ why none. refused_of m out out' e why h none;
  made = λ value there quiet. made_of m out out' e value h there quiet;
}

pub complete_of : (asks : Asked) (old new : World) (err err' : SinkState) (s : Status) → IsRun asks old new err err' s → IsComplete asks old new s
complete_of NoCommand old new err err' s run = tt
complete_of (Asks m names) old new err err' s run = λ held told. rw run.cause.status (decided m names held old new run.cause.ended told run.cause.cause)
complete_of (Makes m) old new err err' s run = rw run.cause.made.status (settled m old.out new.out run.cause.made.ended run.cause.made.cause)
