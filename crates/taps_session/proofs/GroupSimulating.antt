-- The session of a group over scripted sockets is the one that the script determines.
use Rattle.std.proofs.Common.{◌≡◌, ◌++◌, ℕ, Bool, true, false, List, [], Option, Some, None, Ok, refl, sym, ◌∙◌, ap, subst, append-nil}
use Rattle.taps_framer.specs.Layers.{Layer}
use Rattle.taps_socket.specs.declared.item.Item.{Item}
use Rattle.taps_socket.specs.declared.race_answer.RaceAnswer.{RaceAnswer}
use Rattle.taps_socket.specs.declared.race_answer.RaceAnswer.TheVariants as answers
use Rattle.taps_socket.specs.Calls.{Call}
use Rattle.taps_socket.specs.RaceTrace.{last_moment}
use Rattle.taps_stack.specs.declared.target.Target.{Target}
use Rattle.taps_script.specs.declared.line.Line.{Line}
use Rattle.taps_script.specs.OneRace.{GoesOneWay, IsScriptedRace}
use Rattle.taps_script.specs.ScriptNet.{Scripted, net_of, at_first, StaysScripted}
use Rattle.taps_script.specs.ScriptSteps.{Follows}
use Rattle.taps_group_exchange.specs.GroupSessions as groups
use Rattle.taps_group_exchange.specs.GroupSessions.{IsGroupSession}
use Rattle.taps_command.specs.Meanings.{IsPrinted}
use Rattle.taps_command.specs.Nets.{HasRun}
use Rattle.taps_command.specs.Ready.{Ready}
use Rattle.taps_command.specs.declared.printed.Printed.{Printed}
use Rattle.taps_session.specs.FileGroups.{group_of}
use Rattle.taps_session.specs.FileSessions.{initiated, rules_of, targets_of, text_of}
use Rattle.taps_session.specs.Groups.{GroupBehind, GroupedCourse, IsGroupAfter, IsGroupBehind, LeavesGrouped, calls_behind, calls_of}
use Rattle.taps_session.specs.GroupLogs.{IsGrouped}
use Rattle.taps_session.specs.Roles.{IsInitiatedBy, LeavesInitiatedBy}
use Rattle.taps_session.specs.ScriptedSessions.{IsGroupSimulated, IsScriptedGroup, IsSimulatedBy}
use Rattle.taps_session.specs.SessionLogs.{Held, IsLogged, log_of, status_after}
use Rattle.taps_session.proofs.GroupUnique.{only_group}
use Rattle.taps_session.proofs.Simulating.{UniqueLaw, follows_all, simulated_of, suffix}

raced_by : (shelf : List Layer) (ready : Ready) (lines : List Line) (c : GroupedCourse) → IsScriptedGroup shelf ready lines c → IsScriptedRace lines (rules_of ready) 0 (targets_of ready) [] c.raced c.race c.answer
raced_by shelf ready lines c h =
    let first : Follows lines c.raced = suffix lines (calls_behind c.behind) c.raced h.follows in
    record { lawful = h.session.lawful; each = h.session.each; follows = subst (λ (v : List Call). Follows lines v) (sym (append-nil c.raced)) first }

some_same : {A : Type 0} (x y : A) → Some x ≡ Some y → x ≡ y
some_same x y h = cc

behind_same : (b e : GroupBehind) → e.target ≡ b.target → e.socket ≡ b.socket → e.course ≡ b.course → e ≡ b
behind_same b e t s c = let same : record { target = e.target; socket = e.socket; course = e.course } ≡ record { target = b.target; socket = b.socket; course = b.course } = rw (t, s, c) refl in same

-- two groups behind the same race
same_group : (shelf : List Layer) (ready : Ready) (lines : List Line) (raced : List Call) (race : List Item) (leaf socket : ℕ) (b e : GroupBehind) → GoesOneWay lines → UniqueLaw
    → IsGroupBehind shelf ready race leaf socket b → Follows lines (calls_behind (Some b) ++ raced) → IsGroupBehind shelf ready race leaf socket e → Follows lines (calls_behind (Some e) ++ raced) → e ≡ b
same_group shelf ready lines raced race leaf socket b e one_way unique one follows two also =
    let target : e.target ≡ b.target = some_same e.target b.target (sym two.target ∙ one.target) in
    let there : e.socket ≡ b.socket = two.first ∙ sym one.first in
    let first : IsGroupSession (group_of shelf ready b.target) e.socket (last_moment race) e.course = subst (λ (t : Target). IsGroupSession (group_of shelf ready t) e.socket (last_moment race) e.course) target two.session in
    let session : IsGroupSession (group_of shelf ready b.target) b.socket (last_moment race) e.course = subst (λ s. IsGroupSession (group_of shelf ready b.target) s (last_moment race) e.course) there first in
    let behind : Follows lines (groups.calls_of b.socket e.course ++ raced) = subst (λ s. Follows lines (groups.calls_of s e.course ++ raced)) there also in
    behind_same b e target there (only_group lines (group_of shelf ready b.target) b.socket (last_moment race) b.course e.course raced one_way unique one.session follows session behind)

same_behind : (shelf : List Layer) (ready : Ready) (lines : List Line) (raced : List Call) (race : List Item) (x : RaceAnswer) (c d : Option GroupBehind) → GoesOneWay lines → UniqueLaw
    → IsGroupAfter shelf ready race c x → Follows lines (calls_behind c ++ raced) → IsGroupAfter shelf ready race d x → Follows lines (calls_behind d ++ raced) → d ≡ c
same_behind shelf ready lines raced race (answers.Ready leaf socket at) None d one_way unique one follows two also = absurd one
same_behind shelf ready lines raced race (answers.Ready leaf socket at) (Some b) None one_way unique one follows two also = absurd two
same_behind shelf ready lines raced race (answers.Ready leaf socket at) (Some b) (Some e) one_way unique one follows two also =
    ap Some (same_group shelf ready lines raced race leaf socket b e one_way unique one follows two also)
same_behind shelf ready lines raced race x c d one_way unique one follows two also = two ∙ sym one

parts_same : (c d : GroupedCourse) → d.raced ≡ c.raced → d.race ≡ c.race → d.answer ≡ c.answer → d.behind ≡ c.behind → d ≡ c
parts_same c d a b e f = let same : record { raced = d.raced; race = d.race; answer = d.answer; behind = d.behind } ≡ record { raced = c.raced; race = c.race; answer = c.answer; behind = c.behind } = rw (a, b, e, f) refl in same

-- a script determines the session of a group
pub only_grouped : (shelf : List Layer) (ready : Ready) (lines : List Line) (c d : GroupedCourse) → GoesOneWay lines → UniqueLaw → IsScriptedGroup shelf ready lines c → IsScriptedGroup shelf ready lines d → d ≡ c
only_grouped shelf ready lines c d one_way unique one two =
    let (raced, race, answered) = one_way (rules_of ready) 0 (targets_of ready) [] c.raced d.raced c.race d.race c.answer d.answer (raced_by shelf ready lines c one) (raced_by shelf ready lines d two) in
    let also : IsGroupAfter shelf ready c.race d.behind c.answer = rw (← race, ← answered) two.session.group in
    let follows : Follows lines (calls_behind d.behind ++ c.raced) = rw (← raced) two.follows in
    parts_same c d raced race answered (same_behind shelf ready lines c.raced c.race c.answer c.behind d.behind one_way unique one.session.group one.follows also follows)

group_simulated_of : (shelf : List Layer) (ready : Ready) (before after : Scripted) (printed : Printed) → before ≡ at_first before.lines → GoesOneWay before.lines → UniqueLaw
    → HasRun StaysScripted before after (net_of before) (net_of after) (IsPrinted (IsLogged (IsGrouped shelf ready) (text_of ready.pre (initiated ready)) ready.pre.exchange.part) (LeavesGrouped shelf ready) (Ok printed))
    → IsGroupSimulated shelf ready before.lines printed.text.items printed.status
group_simulated_of shelf ready before after printed first one_way unique r =
    let logged = r.holds.prints in
    let ran = logged.ran in
    let follows : Follows before.lines (calls_of ran.course) = subst (λ (c : List Call). Follows before.lines c) ran.calls (follows_all before after r.calls first r.becomes) in
    let scripted : IsScriptedGroup shelf ready before.lines ran.course = record { session = ran.session; follows = follows } in
    record {
      course = ran.course;
      scripted = scripted;
      only = λ other also. only_grouped shelf ready before.lines ran.course other one_way unique scripted also;
      judged = ran.seen.judged;
      log = logged.log ∙ ap (log_of (text_of ready.pre (initiated ready)) ready.pre.exchange.part) ran.kept;
      status = logged.status ∙ ap (λ (v : Held). status_after v.answer v.outcome) ran.kept;
    }

-- with one member, or of a group
pub simulated_by : (one : Bool) (shelf : List Layer) (ready : Ready) (before after : Scripted) (printed : Printed) → before ≡ at_first before.lines → GoesOneWay before.lines → UniqueLaw
    → HasRun StaysScripted before after (net_of before) (net_of after) (IsPrinted (IsLogged (IsInitiatedBy one shelf ready) (text_of ready.pre (initiated ready)) ready.pre.exchange.part) (LeavesInitiatedBy one shelf ready) (Ok printed))
    → IsSimulatedBy one shelf ready before.lines printed.text.items printed.status
simulated_by true shelf ready before after printed first one_way unique r = simulated_of shelf ready before after printed first one_way unique r
simulated_by false shelf ready before after printed first one_way unique r = group_simulated_of shelf ready before after printed first one_way unique r
