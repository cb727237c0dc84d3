-- The session of scripted sockets is the one that the script determines.
use Rattle.std.proofs.Common.{◌≡◌, ◌++◌, List, [], ◌∷◌, refl, sym, ◌∙◌, ap, subst, append-nil}
use Rattle.taps_framer.specs.Layers.{Layer}
use Rattle.taps_socket.specs.declared.item.Item.{Item}
use Rattle.taps_socket.specs.declared.race_answer.RaceAnswer.{RaceAnswer}
use Rattle.taps_socket.specs.declared.race_answer.RaceAnswer.TheVariants as answers
use Rattle.taps_socket.specs.Calls.{Call, Request}
use Rattle.taps_script.specs.declared.line.Line.{Line}
use Rattle.taps_script.specs.OneRace.{GoesOneWay, IsScriptedRace}
use Rattle.taps_script.specs.ScriptNet.{Scripted, net_of, at_first, Represents, StaysScripted}
use Rattle.taps_script.specs.ScriptSteps.{Follows, answer}
use Rattle.taps_exchange.specs.Scripts as scripts
use Rattle.taps_exchange.specs.Scripts.{ExchangeIsUnique}
use Rattle.taps_exchange.specs.Turns.{Turn, turn_of}
use Rattle.taps_exchange.specs.declared.outcome.Outcome.{Outcome}
use Rattle.taps_command.specs.Nets.{HasRun}
use Rattle.taps_command.specs.Ready.{Ready}
use Rattle.taps_command.specs.Meanings.{IsPrinted}
use Rattle.taps_command.specs.declared.printed.Printed.{Printed}
use Rattle.std.specs.Prelude.{Ok}
use Rattle.taps_session.specs.FileSessions.{initiated, rules_of, targets_of, text_of}
use Rattle.taps_session.specs.ScriptedSessions.{IsScriptedSession, IsSimulated}
use Rattle.taps_session.specs.SessionLogs.{Held, log_of, status_after, IsLoggedOn, LeavesSession}
use Rattle.taps_session.specs.Sessions.{Course, calls_of, closing, members_after, role_of, IsExchangeAfter}

-- the earlier calls follow the script as all do
pub suffix : (lines : List Line) (calls earlier : List Call) → Follows lines (calls ++ earlier) → Follows lines earlier
suffix lines [] earlier h = h
suffix lines (call ∷ calls) earlier h = suffix lines calls earlier h.1

-- to follow the script's lines is to follow their answers
pub by_answers : (lines : List Line) (calls : List Call) → Follows lines calls → scripts.Follows (answer lines) calls
by_answers lines [] h = tt
by_answers lines (call ∷ calls) h = (h.0, by_answers lines calls h.1)

-- every script determines an exchange
abbrev pub UniqueLaw : Type 0
UniqueLaw = (script : List Call → Request → Call) (turn : List Call → Turn) → ExchangeIsUnique script turn

-- behind the same race the exchange is the same
same_exchange : (shelf : List Layer) (ready : Ready) (lines : List Line) (raced : List Call) (race : List Item) (x : RaceAnswer) (calls others : List Call) (o p : Outcome) → UniqueLaw
    → IsExchangeAfter ready (members_after shelf ready race x) calls o x → Follows lines (closing x ++ (calls ++ raced))
    → IsExchangeAfter ready (members_after shelf ready race x) others p x → Follows lines (closing x ++ (others ++ raced)) → (others ≡ calls) × (p ≡ o)
same_exchange shelf ready lines raced race (answers.Ready leaf socket at) calls others o p unique one follows two also =
    unique (answer lines) (turn_of (role_of ready (members_after shelf ready race (answers.Ready leaf socket at)))) raced calls others o p one (by_answers lines (calls ++ raced) follows.1) two (by_answers lines (others ++ raced) also.1)
same_exchange shelf ready lines raced race x calls others o p unique one follows two also = (two.0 ∙ sym one.0, two.1 ∙ sym one.1)

raced_by : (shelf : List Layer) (ready : Ready) (lines : List Line) (c : Course) → IsScriptedSession shelf ready lines c → IsScriptedRace lines (rules_of ready) 0 (targets_of ready) [] c.raced c.race c.answer
raced_by shelf ready lines c h =
    let behind : Follows lines (c.exchange ++ c.raced) = suffix lines (closing c.answer) (c.exchange ++ c.raced) h.follows in
    let first : Follows lines c.raced = suffix lines c.exchange c.raced behind in
    record { lawful = h.session.lawful; each = h.session.each; follows = subst (λ (v : List Call). Follows lines v) (sym (append-nil c.raced)) first }

-- two courses with these parts
parts_same : (c d : Course) → d.raced ≡ c.raced → d.race ≡ c.race → d.answer ≡ c.answer → d.exchange ≡ c.exchange → d.outcome ≡ c.outcome → d ≡ c
parts_same c d a b e f g = let same : record { raced = d.raced; race = d.race; answer = d.answer; exchange = d.exchange; outcome = d.outcome } ≡ record { raced = c.raced; race = c.race; answer = c.answer; exchange = c.exchange; outcome = c.outcome } = rw (a, b, e, f, g) refl in same

-- a script determines its session
pub only_one : (shelf : List Layer) (ready : Ready) (lines : List Line) (c d : Course) → GoesOneWay lines → UniqueLaw → IsScriptedSession shelf ready lines c → IsScriptedSession shelf ready lines d → d ≡ c
only_one shelf ready lines c d one_way unique one two =
    let (raced, race, answered) = one_way (rules_of ready) 0 (targets_of ready) [] c.raced d.raced c.race d.race c.answer d.answer (raced_by shelf ready lines c one) (raced_by shelf ready lines d two) in
    let also : IsExchangeAfter ready (members_after shelf ready c.race c.answer) d.exchange d.outcome c.answer = rw (← race, ← answered) two.session.exchanged in
    let follows : Follows lines (closing c.answer ++ (d.exchange ++ c.raced)) = rw (← raced, ← answered) two.follows in
    let (exchange, outcome) = same_exchange shelf ready lines c.raced c.race c.answer c.exchange d.exchange c.outcome d.outcome unique one.session.exchanged one.follows also follows in
    parts_same c d raced race answered exchange outcome

-- before the first call scripted sockets represent no calls
first_represents : (lines : List Line) → Represents (at_first lines) []
first_represents lines = record { follows = tt; clock = refl; trace = refl; written = λ q. refl; read = λ q. refl }

-- the calls on sockets that began by the script follow it
pub follows_all : (before after : Scripted) (calls : List Call) → before ≡ at_first before.lines → StaysScripted before calls after → Follows before.lines calls
follows_all before after calls first stays =
    let start : Represents before [] = subst (λ (s : Scripted). Represents s []) (sym first) (first_represents before.lines) in
    let now : Represents after (calls ++ []) = stays.represents [] start in
    let there : Follows before.lines (calls ++ []) = subst (λ (l : List Line). Follows l (calls ++ [])) stays.lines now.follows in
    subst (λ (c : List Call). Follows before.lines c) (append-nil calls) there

pub simulated_of : (shelf : List Layer) (ready : Ready) (before after : Scripted) (printed : Printed) → before ≡ at_first before.lines → GoesOneWay before.lines → UniqueLaw
    → HasRun StaysScripted before after (net_of before) (net_of after) (IsPrinted (IsLoggedOn shelf ready) (LeavesSession shelf ready) (Ok printed))
    → IsSimulated shelf ready before.lines printed.text.items printed.status
simulated_of shelf ready before after printed first one_way unique r =
    let logged = r.holds.prints in
    let ran = logged.ran in
    let follows : Follows before.lines (calls_of ran.course) = subst (λ (c : List Call). Follows before.lines c) ran.calls (follows_all before after r.calls first r.becomes) in
    let scripted : IsScriptedSession shelf ready before.lines ran.course = record { session = ran.session; follows = follows } in
    record {
      course = ran.course;
      scripted = scripted;
      only = λ other also. only_one shelf ready before.lines ran.course other one_way unique scripted also;
      judged = ran.seen.judged;
      times_rise = ran.seen.times_rise;
      log = logged.log ∙ ap (log_of (text_of ready.pre (initiated ready)) ready.pre.exchange.part) ran.kept;
      status = logged.status ∙ ap (λ (v : Held). status_after v.answer v.outcome) ran.kept;
    }
