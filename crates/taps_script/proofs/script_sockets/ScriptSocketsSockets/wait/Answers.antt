use Rattle.std.proofs.Common.{refl}
use Rattle.taps_socket.specs.Calls.{waits}
use Rattle.taps_script.specs.ScriptNet.{net_of, after_wait}
use Rattle.taps_script.specs.Goings.{goes}
use Rattle.taps_script.proofs.Lawfuls.{ends_in_time, rose, no_fewer}
use Rattle.taps_script.proofs.script_sockets.ScriptSocketsSockets.wait.Goals as goal

pub returns-clause-how : goal.returns-clause-how
returns-clause-how c =
    let a = c.args.self.now in
    let answer = c.wait_answer-answer.result in
    rw c.note_wait.ensures (c.wait_answer-answer.ensures.ends (net_of (after_wait a c.args.until answer)) refl)

pub returns-clause-becomes : goal.returns-clause-becomes
returns-clause-becomes c =
    let a = c.args.self.now in
    let answer = c.wait_answer-answer.result in
    let b = after_wait a c.args.until answer in
    let ends = c.wait_answer-answer.ensures.ends (net_of b) refl in
    rw c.note_wait.ensures (goes a b (waits c.args.until answer) refl refl (c.wait_answer-answer.ensures.next, ends_in_time answer.how c.args.until answer.at (net_of a) (net_of b) ends)
    (no_fewer answer.how a.faults) (rose answer.how c.args.until answer.at (net_of a) (net_of b) ends) (rw c.wait_answer-answer.ensures.answer refl))
