-- What `gen NUMBER` writes.
use Rattle.std.proofs.Common.{◌≡◌, ℕ, List, [], ◌∷◌, Some, Result, Ok, Err, sym, ◌∙◌, ap, subst, codes, String, Global}
use Rattle.taps_base.specs.Sinks.{SinkState}
use Rattle.taps_base.specs.declared.sink.SinkAnswer.TheVariants as answers
use Rattle.taps_base.proofs.Results.{both_ok, ok_same}
use Rattle.taps_framer.specs.Layers.{Layer}
use Rattle.taps_script.specs.ScriptNet.{Scripted}
use Rattle.taps_script.specs.ScriptReading.{number_of}
use Rattle.taps_script.specs.Scripts.{script_of}
use Rattle.taps_text.specs.Generated.{generated_file, generated_script}
use Rattle.taps_command.specs.Asked.{Makes, IsRun}
use Rattle.taps_command.specs.Checks.{checked, first_value, second_value, beside}
use Rattle.taps_command.specs.Makings.{Making, IsWritten, MakingEnds}
use Rattle.taps_command.specs.Meanings.{HasText}
use Rattle.taps_command.specs.Runs.{World, names_of, status_of}
use Rattle.taps_command.specs.declared.status.Status.{Status}
use Rattle.taps_command.specs.declared.stop.Stop.{Stop}
use Rattle.taps_command.specs.declared.stop.Stop.TheVariants.{Refused, FileFault, SinkFault, NoMemory}
use Rattle.taps_command.specs.declared.two_files.TwoFiles.{TwoFiles}
use Rattle.taps_command.specs.declared.two_files.TwoFiles.TheVariants.{File, Both}
use Rattle.taps_app.specs.Arguments.{asked_in, asked_of, asked_with}
use Rattle.taps_app.specs.Gen.{gen, generated as generated_value, PrintsSummary}
use Rattle.taps_app.specs.Generations.{IsGeneration, IsGenerationOf}
use Rattle.taps_app.specs.Sim.{sim_rules, scripted}
use Rattle.taps_app.proofs.Corollaries.{script_there}

-- a status with a text is that of a written one
written : (m : Making) (out out' : SinkState) (e : Result Status Stop) → MakingEnds m out out' e → HasText (status_of e) → IsWritten m answers.Taken out out' (status_of e)
written m out out' (Ok s) h there = h.0
written m out out' (Err (Refused place why)) h there = absurd there
written m out out' (Err (FileFault place)) h there = absurd there
written m out out' (Err SinkFault) h there = absurd there
written m out out' (Err NoMemory) h there = absurd there

generation : (shelf : List Layer) (number : ℕ) (out out' : SinkState) (s : Status) → IsWritten (gen shelf number) answers.Taken out out' s → IsGeneration shelf number out out' s
unfolding generated_value scripted
generation shelf number out out' s h =
    let (file, first, second) = both_ok (first_value sim_rules shelf (generated_file number)) (λ file. second_value file (scripted (generated_script number))) h.value h.made in
    let (ready, passes, given) = both_ok (checked sim_rules shelf (generated_file number)) (λ ready. Ok (File ready)) file first in
    let (sockets, reads, made) = both_ok (scripted (generated_script number)) (λ sockets. Ok (beside file sockets)) h.value second in
    let one : File ready ≡ file = ok_same (File ready) file given in
    let two : beside file sockets ≡ h.value = ok_same (beside file sockets) h.value made in
    let there : h.value ≡ Both ready sockets = sym two ∙ ap (λ (v : TwoFiles Scripted). beside v sockets) (sym one) in
    record {
      ready = ready;
      passes = passes;
      lines = sockets.lines;
      script_passes = script_there (script_of (generated_script number)) sockets reads;
      text = h.text;
      summed_up = subst (λ (v : TwoFiles Scripted). PrintsSummary shelf number v h.text s) there h.prints;
      takes = h.takes;
    }

-- what is run of `gen` and the text of a number
made_by : (shelf : List Layer) (words : List (List ℕ)) (text : List ℕ) (number : ℕ) (old new : World) (err err' : SinkState) (s : Status) → words ≡ codes "gen" ∷ text ∷ [] → number_of text ≡ Some number → IsRun (asked_in shelf words) old new err err' s
    → IsRun (Makes (gen shelf number)) old new err err' s
made_by shelf words text number old new err err' s same asked run =
    let these : IsRun (asked_with shelf (number_of text)) old new err err' s = subst (λ (w : List (List ℕ)). IsRun (asked_in shelf w) old new err err' s) same run in
    subst (λ o. IsRun (asked_with shelf o) old new err err' s) asked these

pub generated : (shelf : List Layer) (words : List (String Global)) (old new : World) (err err' : SinkState) (s : Status) → IsRun (asked_of shelf words) old new err err' s → IsGenerationOf shelf (names_of words) old.out new.out s
generated shelf words old new err err' s run text number same asked there =
    let made = (made_by shelf (names_of words) text number old new err err' s same asked run).cause.made in
    let also : HasText (status_of made.ended) = subst HasText made.status there in
    generation shelf number old.out new.out s
    (subst (λ (t : Status). IsWritten (gen shelf number) answers.Taken old.out new.out t) (sym made.status) (written (gen shelf number) old.out new.out made.ended made.cause also))
