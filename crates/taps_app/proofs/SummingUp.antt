-- The summary of a session on scripted sockets is that of the one that the script determines.
use Rattle.std.proofs.Common.{◌≡◌, ℕ, Bool, true, false, List, Some, Ok, ◌∙◌, ap, subst, length, reverse}
use Rattle.taps_candidate.specs.Plan.{RankedPlan}
use Rattle.taps_candidate.specs.declared.plan.Plan as candidate
use Rattle.taps_framer.specs.Layers.{Layer}
use Rattle.taps_socket.specs.Calls.{Call}
use Rattle.taps_script.specs.OneRace.{GoesOneWay}
use Rattle.taps_script.specs.ScriptNet.{Scripted, net_of, at_first, StaysScripted}
use Rattle.taps_script.specs.ScriptSteps.{Follows}
use Rattle.taps_text.specs.Summary.{summary_lines}
use Rattle.taps_command.specs.Nets.{HasRun}
use Rattle.taps_command.specs.Ready.{Ready}
use Rattle.taps_command.specs.declared.printed.Printed.{Printed}
use Rattle.taps_session.specs.FileSessions.{initiated, IsPlanFor}
use Rattle.taps_app.specs.Gen.{received, summary_text, summary_text_of_group, IsGroupSummedUp, IsSummedUp, IsSummedUpBy}
use Rattle.taps_session.specs.Groups as groups
use Rattle.taps_session.specs.GroupLogs.{HoldsGrouped, members_behind, outcome_behind}
use Rattle.taps_session.specs.Roles.{HoldsInitiatedBy}
use Rattle.taps_session.specs.ScriptedSessions.{IsScriptedGroup, IsScriptedSession}
use Rattle.taps_session.specs.SessionLogs.{Held, HoldsSession, members_told, outcome_told, status_after}
use Rattle.taps_session.specs.Sessions.{calls_of}
use Rattle.taps_session.proofs.GroupSimulating.{only_grouped}
use Rattle.taps_session.proofs.Simulating.{UniqueLaw, follows_all, only_one}

-- the summary of what is kept of a session
abbrev kept_summary : ℕ → ℕ → Held → List ℕ
kept_summary number leaves s = summary_lines number leaves (reverse s.before) s.answer (received s.members) s.outcome

summed_up_of : (shelf : List Layer) (number : ℕ) (ready : Ready) (plan : candidate.Plan) (before after : Scripted) (s : Held) (printed : Printed) → before ≡ at_first before.lines → GoesOneWay before.lines → UniqueLaw → IsPlanFor ready (initiated ready) plan
    → printed.text.items ≡ summary_lines number (length plan.leaves.items) (reverse s.before) s.answer (received s.members) s.outcome → printed.status ≡ status_after s.answer s.outcome
    → HasRun StaysScripted before after (net_of before) (net_of after) (HoldsSession shelf ready (Ok s)) → IsSummedUp shelf number ready before.lines printed.text.items printed.status
unfolding summary_text
summed_up_of shelf number ready plan before after s printed first one_way unique planned text status r =
    let held = r.holds.held in
    let follows : Follows before.lines (calls_of held.course) = subst (λ (c : List Call). Follows before.lines c) held.calls (follows_all before after r.calls first r.becomes) in
    let scripted : IsScriptedSession shelf ready before.lines held.course = record { session = held.session; follows = follows } in
    let leaves : length plan.leaves.items ≡ length (initiated ready).leaves = ap (λ (p : RankedPlan). length p.leaves) planned.ranked in
    record {
      course = held.course;
      scripted = scripted;
      only = λ other also. only_one shelf ready before.lines held.course other one_way unique scripted also;
      judged = held.seen.judged;
      times_rise = held.seen.times_rise;
      summary = text ∙ ap (λ (h : Held). kept_summary number (length plan.leaves.items) h) held.kept
          ∙ ap (λ n. summary_lines number n (reverse held.course.race) (Some held.course.answer) (received (members_told shelf ready held.course)) (outcome_told held.course.outcome)) leaves;
      status = status ∙ ap (λ (h : Held). status_after h.answer h.outcome) held.kept;
    }

-- so of a session of a group
group_summed_up : (shelf : List Layer) (number : ℕ) (ready : Ready) (plan : candidate.Plan) (before after : Scripted) (s : Held) (printed : Printed) → before ≡ at_first before.lines → GoesOneWay before.lines → UniqueLaw → IsPlanFor ready (initiated ready) plan
    → printed.text.items ≡ summary_lines number (length plan.leaves.items) (reverse s.before) s.answer (received s.members) s.outcome → printed.status ≡ status_after s.answer s.outcome
    → HasRun StaysScripted before after (net_of before) (net_of after) (HoldsGrouped shelf ready (Ok s)) → IsGroupSummedUp shelf number ready before.lines printed.text.items printed.status
unfolding summary_text_of_group
group_summed_up shelf number ready plan before after s printed first one_way unique planned text status r =
    let held = r.holds.held in
    let follows : Follows before.lines (groups.calls_of held.course) = subst (λ (c : List Call). Follows before.lines c) held.calls (follows_all before after r.calls first r.becomes) in
    let scripted : IsScriptedGroup shelf ready before.lines held.course = record { session = held.session; follows = follows } in
    let leaves : length plan.leaves.items ≡ length (initiated ready).leaves = ap (λ (p : RankedPlan). length p.leaves) planned.ranked in
    record {
      course = held.course;
      scripted = scripted;
      only = λ other also. only_grouped shelf ready before.lines held.course other one_way unique scripted also;
      judged = held.seen.judged;
      summary = text ∙ ap (λ (h : Held). kept_summary number (length plan.leaves.items) h) held.kept
          ∙ ap (λ n. summary_lines number n (reverse held.course.race) (Some held.course.answer) (received (members_behind shelf ready held.course.race held.course.behind)) (outcome_behind held.course.behind)) leaves;
      status = status ∙ ap (λ (h : Held). status_after h.answer h.outcome) held.kept;
    }

pub summed_up_by : (one : Bool) (shelf : List Layer) (number : ℕ) (ready : Ready) (plan : candidate.Plan) (before after : Scripted) (s : Held) (printed : Printed) → before ≡ at_first before.lines → GoesOneWay before.lines → UniqueLaw → IsPlanFor ready (initiated ready) plan
    → printed.text.items ≡ summary_lines number (length plan.leaves.items) (reverse s.before) s.answer (received s.members) s.outcome → printed.status ≡ status_after s.answer s.outcome
    → HasRun StaysScripted before after (net_of before) (net_of after) (HoldsInitiatedBy one shelf ready (Ok s)) → IsSummedUpBy one shelf number ready before.lines printed.text.items printed.status
summed_up_by true shelf number ready plan before after s printed first one_way unique planned text status r = summed_up_of shelf number ready plan before after s printed first one_way unique planned text status r
summed_up_by false shelf number ready plan before after s printed first one_way unique planned text status r = group_summed_up shelf number ready plan before after s printed first one_way unique planned text status r
