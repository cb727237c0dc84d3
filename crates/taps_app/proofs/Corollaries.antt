-- What single commands write, by the bytes of their files.
use Rattle.std.proofs.Common.{◌≡◌, ◌≤◌, ◌++◌, ℕ, Bool, true, false, List, [], ◌∷◌, Option, Some, None, Result, Ok, Err, refl, sym, ◌∙◌, ap, subst, inl, inr, length, leb, reverse, slice_get, codes, append-nil, String, Global}
use Rattle.std.proofs.lemmas.Bool.{cases_Bool, leb-true}
use Rattle.taps_base.specs.Files.{Contents, IsContent}
use Rattle.taps_base.specs.Sinks.{SinkState}
use Rattle.taps_base.specs.declared.sink.SinkAnswer.TheVariants as answers
use Rattle.taps_base.proofs.Results.{both_ok, ok_same}
use Rattle.taps_framer.specs.Layers.{Layer}
use Rattle.taps_script.specs.ScriptNet.{Scripted, at_first}
use Rattle.taps_script.specs.Scripts.{script_of}
use Rattle.taps_script.specs.declared.line.Line.{Line}
use Rattle.taps_preconnection.specs.declared.preconnection.Preconnection.{Preconnection}
use Rattle.taps_property.specs.declared.role.Role.TheVariants.{Initiate}
use Rattle.taps_text.specs.Log.{log_lines}
use Rattle.taps_text.specs.declared.refusal.Refusal.{Refusal}
use Rattle.taps_command.specs.Asked.{Asks, IsRun}
use Rattle.taps_app.specs.Arguments.{asked_in, asked_of}
use Rattle.taps_command.specs.Checks.{FileRules, most_bytes, most_framed, addresses_for, checked, only_file, first_file, second_file, beside}
use Rattle.taps_endpoint.specs.DerivedAddresses.{derived_addresses}
use Rattle.taps_app.specs.FilePlans.{IsPlanned, IsPlanOfFile, plan_to_run}
use Rattle.taps_session.specs.Roles.{IsRunOn}
use Rattle.taps_app.proofs.FileMeanings.{run_meaning, run_plan}
use Rattle.taps_app.specs.Frame.{frame, frame_rules, IsFramed}
use Rattle.taps_app.specs.Framings.{FramesFile, UnframesFile, IsFramingOf}
use Rattle.taps_command.specs.Meanings.{Meaning, Reading, judge, HasText}
use Rattle.taps_app.specs.Plan.{plan, plan_rules, PrintsPlan}
use Rattle.taps_command.specs.Ready.{Ready}
use Rattle.taps_command.specs.Nets.{SocketsState}
use Rattle.taps_command.specs.OneFile.{HasRead}
use Rattle.taps_app.specs.Run.{run, run_rules}
use Rattle.taps_command.specs.Runs.{World, Ends, Delivers, Judged, Passes, Takes, names_of, status_of}
use Rattle.taps_app.specs.FileRuns.{RunsFile, IsSessionOfFile}
use Rattle.taps_session.specs.FileGroups.{has_one_member}
use Rattle.taps_session.specs.FileSessions.{initiated, plan_in, plan_for, text_of}
use Rattle.taps_session.specs.GroupLogs.{held_of_group}
use Rattle.taps_session.specs.ScriptedSessions.{IsSimulatedBy}
use Rattle.taps_session.specs.SessionLogs.{Held, held_of, log_of}
use Rattle.taps_app.specs.Sim.{sim, sim_rules, scripted, or_bad_line, PrintsSimulation}
use Rattle.taps_app.specs.Simulations.{IsSimulation, IsSimulationOf}
use Rattle.taps_app.specs.Unframe.{unframe, any_bytes, PrintsMessages}
use Rattle.taps_command.specs.declared.status.Status.{Status}
use Rattle.taps_command.specs.declared.stop.Stop.{Stop}
use Rattle.taps_command.specs.declared.stop.Stop.TheVariants.{Refused, FileFault, SinkFault, NoMemory}
use Rattle.taps_command.specs.declared.two_files.TwoFiles.{TwoFiles}
use Rattle.taps_command.specs.declared.two_files.TwoFiles.TheVariants.{Nothing, File, Both}
use Rattle.taps_command.proofs.FileChecks.{file_meaning}

-- a status with a text is that of a written one
written : (m : Meaning) (names : List (List ℕ)) (old new : World) (e : Result Status Stop) → Ends m names old new e → HasText (status_of e) → Delivers m names answers.Taken old new (status_of e)
written m names old new (Ok s) h there = h.0
written m names old new (Err (Refused place why)) h there = absurd there
written m names old new (Err (FileFault place)) h there = absurd there
written m names old new (Err SinkFault) h there = absurd there
written m names old new (Err NoMemory) h there = absurd there

delivered : (m : Meaning) (names : List (List ℕ)) (old new : World) (err err' : SinkState) (s : Status) → IsRun (Asks m names) old new err err' s → HasText s → Delivers m names answers.Taken old new s
delivered m names old new err err' s run there =
    let also : HasText (status_of run.cause.ended) = subst HasText run.cause.status there in
    subst (λ (t : Status). Delivers m names answers.Taken old new t) (sym run.cause.status) (written m names old new run.cause.ended run.cause.cause also)

-- what is run of arguments that are these
as_these : (shelf : List Layer) (words these : List (List ℕ)) (old new : World) (err err' : SinkState) (s : Status) → words ≡ these → IsRun (asked_in shelf words) old new err err' s → IsRun (asked_in shelf these) old new err err' s
as_these shelf words these old new err err' s same run = subst (λ (w : List (List ℕ)). IsRun (asked_in shelf w) old new err err' s) same run

some_same : {A : Type 0} (x y : A) → Some x ≡ Some y → x ≡ y
some_same x y h = cc

-- a file that passed its checks
record IsPassed {V : Type 0} (reading : Reading V) (contents : Contents) (name : List ℕ) (before value : V) : Type 0 where
  pub bytes : List ℕ
  pub content : IsContent contents name bytes
  pub fits : length bytes ≤ reading.limit
  pub passes : reading.check before bytes ≡ Ok value

judged_within : {V : Type 0} (reading : Reading V) (before value : V) (bytes : List ℕ) → judge reading before bytes ≡ Ok value → (length bytes ≤ reading.limit) × (reading.check before bytes ≡ Ok value)
unfolding judge
judged_within reading before value bytes h = elim (cases_Bool (leb (length bytes) reading.limit)) [
  | inl few ↦ (leb-true (length bytes) reading.limit few, rw few at h)
  | inr many ↦ let wrong = rw many at h in cc
]

passed : (m : Meaning) (contents : Contents) (name other : List ℕ) (place : ℕ) (before value : m.Value) (reading : Reading m.Value) → slice_get m.readings place ≡ Some reading → Some other ≡ Some name
    → Judged m contents name place before (Ok value) → IsPassed reading contents other before value
passed m contents name other place before value reading there named judged =
    let same : judged.reading ≡ reading = some_same judged.reading reading (sym judged.read ∙ there) in
    let called : other ≡ name = some_same other name named in
    let within = judged_within judged.reading before value judged.bytes judged.judged in
    subst (λ (r : Reading m.Value). IsPassed r contents other before value) same
    (record { bytes = judged.bytes; content = rw called judged.content; fits = within.0; passes = within.1 })

-- a command with one file
abbrev only : FileRules → List Layer → (Option Ready → SocketsState → SocketsState → List ℕ → Status → Type 0) → (Option Ready → SocketsState → SocketsState → Type 0) → Meaning
only rules shelf P M = record { Value = Option Ready; start = None; readings = only_file rules shelf ∷ []; Prints = P; MayLeave = M }

record IsOnly (rules : FileRules) (shelf : List Layer) (contents : Contents) (file : List ℕ) (value : Option Ready) : Type 0 where
  pub bytes : List ℕ
  pub content : IsContent contents file bytes
  pub fits : length bytes ≤ most_bytes
  pub ready : Ready
  pub passes : checked rules shelf bytes ≡ Ok ready
  pub there : value ≡ Some ready

only_there : (rules : FileRules) (shelf : List Layer) (P : Option Ready → SocketsState → SocketsState → List ℕ → Status → Type 0) (M : Option Ready → SocketsState → SocketsState → Type 0) (contents : Contents) (file : List ℕ) (value : Option Ready)
    → Passes (only rules shelf P M) contents (file ∷ []) value → IsOnly rules shelf contents file value
only_there rules shelf P M contents file value (before, name, start, named, judged) =
    let p = passed (only rules shelf P M) contents name file 0 before value (only_file rules shelf) refl named judged in
    let (ready, passes, given) = both_ok (checked rules shelf p.bytes) (λ ready. Ok (Some ready)) value p.passes in
    record { bytes = p.bytes; content = p.content; fits = p.fits; ready = ready; passes = passes; there = sym (ok_same (Some ready) value given) }

-- a command with two
abbrev both : (B : Type 0) → FileRules → List Layer → ℕ → (List ℕ → Result B Refusal) → (TwoFiles B → SocketsState → SocketsState → List ℕ → Status → Type 0) → (TwoFiles B → SocketsState → SocketsState → Type 0) → Meaning
both B rules shelf limit check P M = record { Value = TwoFiles B; start = Nothing; readings = first_file rules shelf ∷ second_file limit check ∷ []; Prints = P; MayLeave = M }

record AreBoth {B : Type 0} (rules : FileRules) (shelf : List Layer) (limit : ℕ) (check : List ℕ → Result B Refusal) (contents : Contents) (file second : List ℕ) (value : TwoFiles B) : Type 0 where
  pub bytes : List ℕ
  pub content : IsContent contents file bytes
  pub fits : length bytes ≤ most_bytes
  pub ready : Ready
  pub passes : checked rules shelf bytes ≡ Ok ready
  pub second_bytes : List ℕ
  pub second_content : IsContent contents second second_bytes
  pub second_fits : length second_bytes ≤ limit
  pub given : B
  pub second_passes : check second_bytes ≡ Ok given
  pub there : value ≡ Both ready given

both_there : (B : Type 0) (rules : FileRules) (shelf : List Layer) (limit : ℕ) (check : List ℕ → Result B Refusal) (P : TwoFiles B → SocketsState → SocketsState → List ℕ → Status → Type 0) (M : TwoFiles B → SocketsState → SocketsState → Type 0)
    (contents : Contents) (file second : List ℕ) (value : TwoFiles B) → Passes (both B rules shelf limit check P M) contents (file ∷ second ∷ []) value → AreBoth rules shelf limit check contents file second value
both_there B rules shelf limit check P M contents file second value (between, name, (before, name', start, named', judged'), named, judged) =
    let first = passed (both B rules shelf limit check P M) contents name' file 0 before between (first_file rules shelf) refl named' judged' in
    let last = passed (both B rules shelf limit check P M) contents name second 1 between value (second_file limit check) refl named judged in
    let (ready, passes, given) = both_ok (checked rules shelf first.bytes) (λ ready. Ok (File ready)) between first.passes in
    let (got, second_passes, made) = both_ok (check last.bytes) (λ second. Ok (beside between second)) value last.passes in
    let one : File ready ≡ between = ok_same (File ready) between given in
    let two : beside between got ≡ value = ok_same (beside between got) value made in
    record {
      bytes = first.bytes;
      content = first.content;
      fits = first.fits;
      ready = ready;
      passes = passes;
      second_bytes = last.bytes;
      second_content = last.content;
      second_fits = last.fits;
      given = got;
      second_passes = second_passes;
      there = sym two ∙ ap (λ (v : TwoFiles B). beside v got) (sym one);
    }

-- a log begins with the plan's text
log_begins : (plan : List ℕ) (part : Option ℕ) (s : Held) → (rest : List ℕ) × (log_of plan part s ≡ plan ++ rest)
unfolding log_of
log_begins plan part s = (log_lines (reverse s.before) s.answer (reverse s.after) part s.members s.outcome, refl)

simulated_begins : (one : Bool) (shelf : List Layer) (ready : Ready) (lines : List Line) (text : List ℕ) (s : Status) → IsSimulatedBy one shelf ready lines text s → (rest : List ℕ) × (text ≡ text_of ready.pre (initiated ready) ++ rest)
simulated_begins true shelf ready lines text s h =
    let (rest, begins) = log_begins (text_of ready.pre (initiated ready)) ready.pre.exchange.part (held_of shelf ready h.course) in (rest, h.log ∙ begins)
simulated_begins false shelf ready lines text s h =
    let (rest, begins) = log_begins (text_of ready.pre (initiated ready)) ready.pre.exchange.part (held_of_group shelf ready h.course) in (rest, h.log ∙ begins)

planned : (rules : FileRules) (shelf : List Layer) (contents : Contents) (file bytes : List ℕ) (ready : Ready) (text rest : List ℕ) (out out' : SinkState) → ((pre : Preconnection) → rules.addresses pre ≡ addresses_for pre)
    → IsContent contents file bytes → checked rules shelf bytes ≡ Ok ready → text ≡ text_of ready.pre (initiated ready) ++ rest → Takes answers.Taken out out' text → IsPlanned contents file out out' (plan_in Initiate)
planned rules shelf contents file bytes ready text rest out out' derives content passes begins takes =
    let (read, derived) = file_meaning rules shelf bytes ready derives passes in
    record {
      bytes = bytes;
      content = content;
      meaning = ready.pre;
      read = read;
      addresses = ready.addresses;
      derived = derived;
      rest = rest;
      takes = subst (λ (t : List ℕ). Takes answers.Taken out out' t) begins takes;
    }

plan_planned : (shelf : List Layer) (file : List ℕ) (old new : World) (s : Status) → Delivers (plan shelf) (file ∷ []) answers.Taken old new s → IsPlanned old.files.contents file old.out new.out (plan_in Initiate)
plan_planned shelf file old new s h =
    let f = only_there plan_rules shelf (plan shelf).Prints (plan shelf).MayLeave old.files.contents file h.value h.comes in
    let prints : PrintsPlan f.ready h.text s = subst (HasRead (λ ready. PrintsPlan ready h.text s)) f.there h.prints in
    planned plan_rules shelf old.files.contents file f.bytes f.ready h.text [] old.out new.out (λ pre. refl) f.content f.passes (prints.0 ∙ sym (append-nil (text_of f.ready.pre (initiated f.ready)))) h.takes

session_run : (shelf : List Layer) (file : List ℕ) (old new : World) (s : Status) → Delivers (run shelf) (file ∷ []) answers.Taken old new s → RunsFile shelf old.files.contents file old.out new.out old.sockets new.sockets s
session_run shelf file old new s h =
    let f = only_there run_rules shelf (run shelf).Prints (run shelf).MayLeave old.files.contents file h.value h.comes in
    let prints : IsRunOn shelf f.ready old.sockets new.sockets h.text s = subst (HasRead (λ ready. IsRunOn shelf ready old.sockets new.sockets h.text s)) f.there h.prints in
    record { bytes = f.bytes; content = f.content; fits = f.fits; ready = f.ready; passes = f.passes; text = h.text; logged = prints; takes = h.takes }

run_planned : (shelf : List Layer) (file : List ℕ) (old new : World) (s : Status) → Delivers (run shelf) (file ∷ []) answers.Taken old new s → IsPlanned old.files.contents file old.out new.out plan_to_run
run_planned shelf file old new s h =
    let f = session_run shelf file old new s h in
    let pre = f.ready.pre in
    let r = pre.exchange.role in
    let (read, derived) = run_meaning shelf f.bytes f.ready f.passes in
    let (rest, begins) = log_begins (text_of pre (plan_for r pre f.ready.addresses)) pre.exchange.part f.logged.held in
    let all : f.text ≡ text_of pre (plan_for r pre (derived_addresses pre.hosts pre.remotes.items)) ++ rest =
    f.logged.log ∙ begins ∙ ap (λ v. text_of pre v ++ rest) (run_plan r pre f.ready.addresses derived) in
    record {
      bytes = f.bytes;
      content = f.content;
      meaning = pre;
      read = read;
      addresses = derived_addresses pre.hosts pre.remotes.items;
      derived = refl;
      rest = rest;
      takes = subst (λ (t : List ℕ). Takes answers.Taken old.out new.out t) all f.takes;
    }

pub script_there : (read : Result (List Line) ℕ) (sockets : Scripted) → or_bad_line read ≡ Ok sockets → read ≡ Ok sockets.lines
script_there (Ok lines) sockets h = let same : at_first lines ≡ sockets = ok_same (at_first lines) sockets h in ap Ok (ap (λ (x : Scripted). x.lines) same)
script_there (Err number) sockets h = cc

simulation : (shelf : List Layer) (file script : List ℕ) (old new : World) (s : Status) → Delivers (sim shelf) (file ∷ script ∷ []) answers.Taken old new s
    → IsSimulation shelf old.files.contents file script old.out new.out s
unfolding scripted
simulation shelf file script old new s h =
    let f = both_there Scripted sim_rules shelf most_bytes scripted (sim shelf).Prints (sim shelf).MayLeave old.files.contents file script h.value h.comes in
    let prints : PrintsSimulation shelf (Both f.ready f.given) h.text s = subst (λ (v : TwoFiles Scripted). PrintsSimulation shelf v h.text s) f.there h.prints in
    record {
      bytes = f.bytes;
      content = f.content;
      fits = f.fits;
      ready = f.ready;
      passes = f.passes;
      script_bytes = f.second_bytes;
      script_content = f.second_content;
      script_fits = f.second_fits;
      lines = f.given.lines;
      script_passes = script_there (script_of f.second_bytes) f.given f.second_passes;
      text = h.text;
      simulated = prints;
      takes = h.takes;
    }

sim_planned : (shelf : List Layer) (file script : List ℕ) (old new : World) (s : Status) → Delivers (sim shelf) (file ∷ script ∷ []) answers.Taken old new s → IsPlanned old.files.contents file old.out new.out (plan_in Initiate)
sim_planned shelf file script old new s h =
    let f = simulation shelf file script old new s h in
    let (rest, begins) = simulated_begins (has_one_member f.ready.pre) shelf f.ready f.lines f.text s f.simulated in
    planned sim_rules shelf old.files.contents file f.bytes f.ready f.text rest old.out new.out (λ pre. refl) f.content f.passes begins f.takes

frames : (shelf : List Layer) (file : List ℕ) (old new : World) (s : Status) → Delivers (frame shelf) (file ∷ []) answers.Taken old new s → FramesFile shelf old.files.contents file old.out new.out s
frames shelf file old new s h =
    let f = only_there frame_rules shelf (frame shelf).Prints (frame shelf).MayLeave old.files.contents file h.value h.comes in
    let prints : IsFramed shelf f.ready h.text s = subst (HasRead (λ ready. IsFramed shelf ready h.text s)) f.there h.prints in
    record { bytes = f.bytes; content = f.content; fits = f.fits; ready = f.ready; passes = f.passes; text = h.text; framed = prints; takes = h.takes }

unframes : (shelf : List Layer) (file name : List ℕ) (old new : World) (s : Status) → Delivers (unframe shelf) (file ∷ name ∷ []) answers.Taken old new s
    → UnframesFile shelf old.files.contents file name old.out new.out s
unframes shelf file name old new s h =
    let f = both_there (List ℕ) frame_rules shelf most_framed any_bytes (unframe shelf).Prints (unframe shelf).MayLeave old.files.contents file name h.value h.comes in
    let same : f.second_bytes ≡ f.given = ok_same f.second_bytes f.given f.second_passes in
    let value : h.value ≡ Both f.ready f.second_bytes = f.there ∙ ap (Both f.ready) (sym same) in
    let prints : PrintsMessages shelf (Both f.ready f.second_bytes) h.text s = subst (λ (v : TwoFiles (List ℕ)). PrintsMessages shelf v h.text s) value h.prints in
    record {
      bytes = f.bytes;
      content = f.content;
      fits = f.fits;
      ready = f.ready;
      passes = f.passes;
      framed_bytes = f.second_bytes;
      framed_content = f.second_content;
      framed_fits = f.second_fits;
      text = h.text;
      decoded = prints;
      takes = h.takes;
    }

module _ (shelf : List Layer) (words : List (String Global)) (old new : World) (err err' : SinkState) (s : Status) (ran : IsRun (asked_of shelf words) old new err err' s) where
  pub plan_of_file : IsPlanOfFile (names_of words) old.files.contents old.out new.out s
  plan_of_file = record {
    plan = λ file same there. plan_planned shelf file old new s
        (delivered (plan shelf) (file ∷ []) old new err err' s (as_these shelf (names_of words) (codes "plan" ∷ file ∷ []) old new err err' s same ran) there);
    sim = λ file script same there. sim_planned shelf file script old new s
        (delivered (sim shelf) (file ∷ script ∷ []) old new err err' s (as_these shelf (names_of words) (codes "sim" ∷ file ∷ script ∷ []) old new err err' s same ran) there);
    run = λ file same there. run_planned shelf file old new s
        (delivered (run shelf) (file ∷ []) old new err err' s (as_these shelf (names_of words) (codes "run" ∷ file ∷ []) old new err err' s same ran) there);
  }

  pub exchanged : IsSessionOfFile shelf (names_of words) old.files.contents old.out new.out old.sockets new.sockets s
  exchanged = λ file same there. session_run shelf file old new s
      (delivered (run shelf) (file ∷ []) old new err err' s (as_these shelf (names_of words) (codes "run" ∷ file ∷ []) old new err err' s same ran) there)

  pub simulated : IsSimulationOf shelf (names_of words) old.files.contents old.out new.out s
  simulated = λ file script same there. simulation shelf file script old new s
      (delivered (sim shelf) (file ∷ script ∷ []) old new err err' s (as_these shelf (names_of words) (codes "sim" ∷ file ∷ script ∷ []) old new err err' s same ran) there)

  pub framed : IsFramingOf shelf (names_of words) old.files.contents old.out new.out s
  framed = record {
    frame = λ file same there. frames shelf file old new s
        (delivered (frame shelf) (file ∷ []) old new err err' s (as_these shelf (names_of words) (codes "frame" ∷ file ∷ []) old new err err' s same ran) there);
    unframe = λ file bytes same there. unframes shelf file bytes old new s
        (delivered (unframe shelf) (file ∷ bytes ∷ []) old new err err' s (as_these shelf (names_of words) (codes "unframe" ∷ file ∷ bytes ∷ []) old new err err' s same ran) there);
  }
