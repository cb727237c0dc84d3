-- From what the top call promises to what both sinks received.
use Rattle.std.proofs.Common.{◌≡◌, ◌⊎◌, ℕ, List, [], ◌∷◌, Result, Ok, Err, sym, ◌∙◌, ap, subst, inl, inr, String, Global}
use Rattle.taps_base.specs.Sinks.{SinkState, Receives}
use Rattle.taps_base.specs.declared.sink.SinkAnswer.{SinkAnswer}
use Rattle.taps_base.specs.declared.sink.SinkAnswer.TheVariants.{Taken, Failed}
use Rattle.taps_framer.specs.Layers.{Layer}
use Rattle.taps_text.specs.ErrorLines.{refused_line, fault_line, output_fault_line, no_memory_line, usage_line}
use Rattle.taps_command.specs.Asked.{Asked, NoCommand, Asks, Makes, IsNoCommand, IsByCause}
use Rattle.taps_app.specs.Arguments.{asked_of}
use Rattle.taps_command.specs.Makings.{Making, MakingEnds, SaysUnder}
use Rattle.taps_command.specs.Meanings.{Meaning, HasText}
use Rattle.taps_app.specs.Promises.{Promises}
use Rattle.taps_command.specs.Runs.{World, Ends, Says, Takes, status_of}
use Rattle.taps_command.specs.Telling.{Tells, MayTell}
use Rattle.taps_command.specs.declared.status.Status.{Status}
use Rattle.taps_command.specs.declared.status.Status.TheVariants as status
use Rattle.taps_command.specs.declared.stop.Stop.{Stop}
use Rattle.taps_command.specs.declared.stop.Stop.TheVariants.{Refused, FileFault, SinkFault, NoMemory}
use Rattle.taps.specs.Written.{IsWritten, IsWrittenAtMostOnce, HasNoText}

-- a text is written at most once
once : (answer : SinkAnswer) (old new : SinkState) (text : List ℕ) → Takes answer old new text → IsWrittenAtMostOnce old new
once answer old new [] h = inl h.0
once answer old new (byte ∷ text) h = inr (answer, byte ∷ text, h)

-- a write that failed was one of a text
failed : (old new : SinkState) (text : List ℕ) → Takes Failed old new text → Receives Failed old new text
failed old new [] h = let wrong = h.1 in cc
failed old new (byte ∷ text) h = h

-- a line is told at most once
told : (old new : SinkState) (line : List ℕ) → Tells old new line → IsWrittenAtMostOnce old new
told old new line h = inr (h.0, line, h.1)

perhaps_told : (old new : SinkState) (line : List ℕ) → MayTell old new line → IsWrittenAtMostOnce old new
perhaps_told old new line (inl same) = inl same
perhaps_told old new line (inr h) = told old new line h

-- the error output of a command that ended so
err_of : (m : Meaning) (names : List (List ℕ)) (old new : World) (err err' : SinkState) (e : Result Status Stop) → Ends m names old new e → Says names err err' e
    → IsWrittenAtMostOnce err err'
err_of m names old new err err' (Ok s) h says = inl says
err_of m names old new err err' (Err (Refused place why)) h says = perhaps_told err err' (refused_line h.0.name why) (says h.0.name h.0.named)
err_of m names old new err err' (Err (FileFault place)) h says = perhaps_told err err' (fault_line h.0.name) (says h.0.name h.0.named)
err_of m names old new err err' (Err SinkFault) h says = told err err' output_fault_line says
err_of m names old new err err' (Err NoMemory) h says = told err err' no_memory_line says

-- the output of a command that ended so
out_of : (m : Meaning) (names : List (List ℕ)) (old new : World) (e : Result Status Stop) → Ends m names old new e → IsWrittenAtMostOnce old.out new.out
out_of m names old new (Ok s) h = once Taken old.out new.out h.0.text h.0.takes
out_of m names old new (Err (Refused place why)) h = inl h.2.out
out_of m names old new (Err (FileFault place)) h = inl h.1.out
out_of m names old new (Err SinkFault) h = once Failed old.out new.out h.1.text h.1.takes
out_of m names old new (Err NoMemory) h = inl h.1

-- with a status that has a text, the text was written whole
text_of : (m : Meaning) (names : List (List ℕ)) (old new : World) (e : Result Status Stop) → Ends m names old new e → HasText (status_of e)
    → (text : List ℕ) × Takes Taken old.out new.out text
text_of m names old new (Ok s) h there = (h.0.text, h.0.takes)
text_of m names old new (Err (Refused place why)) h there = absurd there
text_of m names old new (Err (FileFault place)) h there = absurd there
text_of m names old new (Err SinkFault) h there = absurd there
text_of m names old new (Err NoMemory) h there = absurd there

fault_of : (m : Meaning) (names : List (List ℕ)) (old new : World) (e : Result Status Stop) → Ends m names old new e → status_of e ≡ status.SinkFault
    → (text : List ℕ) × Receives Failed old.out new.out text
fault_of m names old new (Ok s) h same = let wrong : HasText status.SinkFault = rw same at h.1 in absurd wrong
fault_of m names old new (Err (Refused place why)) h same = cc
fault_of m names old new (Err (FileFault place)) h same = cc
fault_of m names old new (Err SinkFault) h same = (h.1.text, failed old.out new.out h.1.text h.1.takes)
fault_of m names old new (Err NoMemory) h same = cc

-- no status has a text and has none
never_both : (s : Status) → HasText s → HasNoText s → ⊥
never_both status.Done some none = none
never_both status.Usage some none = some
never_both status.Refused some none = some
never_both status.Establishment some none = none
never_both status.Exchange some none = none
never_both status.FileFault some none = some
never_both status.SinkFault some none = none
never_both status.SocketFault some none = none
never_both status.NoMemory some none = some
never_both status.Closed some none = none

none_of : (m : Meaning) (names : List (List ℕ)) (old new : World) (e : Result Status Stop) → Ends m names old new e → HasNoText (status_of e)
    → new.out ≡ old.out
none_of m names old new (Ok s) h none = absurd (never_both s h.1 none)
none_of m names old new (Err (Refused place why)) h none = h.2.out
none_of m names old new (Err (FileFault place)) h none = h.1.out
none_of m names old new (Err SinkFault) h none = absurd none
none_of m names old new (Err NoMemory) h none = h.1

-- the same of a command that reads no file
err_under : (name : List ℕ) (err err' : SinkState) (e : Result Status Stop) → SaysUnder name err err' e → IsWrittenAtMostOnce err err'
err_under name err err' (Ok s) says = inl says
err_under name err err' (Err (Refused place why)) says = perhaps_told err err' (refused_line name why) says
err_under name err err' (Err (FileFault place)) says = perhaps_told err err' (fault_line name) says
err_under name err err' (Err SinkFault) says = told err err' output_fault_line says
err_under name err err' (Err NoMemory) says = told err err' no_memory_line says

out_made : (m : Making) (out out' : SinkState) (e : Result Status Stop) → MakingEnds m out out' e → IsWrittenAtMostOnce out out'
out_made m out out' (Ok s) h = once Taken out out' h.0.text h.0.takes
out_made m out out' (Err (Refused place why)) h = inl h.1
out_made m out out' (Err (FileFault place)) h = absurd h
out_made m out out' (Err SinkFault) h = once Failed out out' h.1.text h.1.takes
out_made m out out' (Err NoMemory) h = inl h

text_made : (m : Making) (out out' : SinkState) (e : Result Status Stop) → MakingEnds m out out' e → HasText (status_of e) → (text : List ℕ) × Takes Taken out out' text
text_made m out out' (Ok s) h there = (h.0.text, h.0.takes)
text_made m out out' (Err (Refused place why)) h there = absurd there
text_made m out out' (Err (FileFault place)) h there = absurd there
text_made m out out' (Err SinkFault) h there = absurd there
text_made m out out' (Err NoMemory) h there = absurd there

fault_made : (m : Making) (out out' : SinkState) (e : Result Status Stop) → MakingEnds m out out' e → status_of e ≡ status.SinkFault → (text : List ℕ) × Receives Failed out out' text
fault_made m out out' (Ok s) h same = let wrong : HasText status.SinkFault = rw same at h.1 in absurd wrong
fault_made m out out' (Err (Refused place why)) h same = cc
fault_made m out out' (Err (FileFault place)) h same = cc
fault_made m out out' (Err SinkFault) h same = (h.1.text, failed out out' h.1.text h.1.takes)
fault_made m out out' (Err NoMemory) h same = cc

none_made : (m : Making) (out out' : SinkState) (e : Result Status Stop) → MakingEnds m out out' e → HasNoText (status_of e) → out' ≡ out
none_made m out out' (Ok s) h none = absurd (never_both s h.1 none)
none_made m out out' (Err (Refused place why)) h none = h.1
none_made m out out' (Err (FileFault place)) h none = absurd h
none_made m out out' (Err SinkFault) h none = absurd none
none_made m out out' (Err NoMemory) h none = h

out_untouched : (old new : World) → new ≡ old → new.out ≡ old.out
out_untouched old new same = ap (λ (w : World). w.out) same

-- the same by what was asked for
written_by : (asks : Asked) (old new : World) (err err' : SinkState) (s : Status) → (s ≡ status.Usage → IsNoCommand asks) → (IsNoCommand asks → s ≡ status.Usage)
    → IsByCause asks old new err err' s → IsWritten asks old.out new.out err err' s
written_by NoCommand old new err err' s only there h =
    record {
      only_usage = only;
      usage = λ none. inl (there none);
      text = λ some. absurd (subst HasText h.status some);
      sink_fault = λ same. let wrong : status.Usage ≡ status.SinkFault = sym h.status ∙ same in cc;
      no_text = λ none. out_untouched old new h.untouched;
      out_once = inl (out_untouched old new h.untouched);
      err_once = told err err' usage_line h.tells;
    }
written_by (Asks m names) old new err err' s only there h =
    record {
      only_usage = only;
      usage = λ none. inl (there none);
      text = λ some. text_of m names old new h.ended h.cause (subst HasText h.status some);
      sink_fault = λ same. fault_of m names old new h.ended h.cause (sym h.status ∙ same);
      no_text = λ none. none_of m names old new h.ended h.cause (subst HasNoText h.status none);
      out_once = out_of m names old new h.ended h.cause;
      err_once = err_of m names old new err err' h.ended h.cause h.says;
    }
written_by (Makes m) old new err err' s only there h =
    let made = h.made in
    record {
      only_usage = only;
      usage = λ none. inl (there none);
      text = λ some. text_made m old.out new.out made.ended made.cause (subst HasText made.status some);
      sink_fault = λ same. fault_made m old.out new.out made.ended made.cause (sym made.status ∙ same);
      no_text = λ none. none_made m old.out new.out made.ended made.cause (subst HasNoText made.status none);
      out_once = out_made m old.out new.out made.ended made.cause;
      err_once = err_under m.name err err' made.ended made.says;
    }

-- what the top call promises, of both sinks
pub written : (shelf : List Layer) (words : List (String Global)) (old new : World) (err err' : SinkState) (s : Status) → Promises shelf words old new err err' s
    → IsWritten (asked_of shelf words) old.out new.out err err' s
written shelf words old new err err' s promises =
    written_by (asked_of shelf words) old new err err' s promises.usage.0 promises.usage.1 promises.status_by_cause
