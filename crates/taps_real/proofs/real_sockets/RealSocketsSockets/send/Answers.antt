use Rattle.std.proofs.Common.{ap, ◌∙◌}
use Rattle.taps_socket.specs.declared.answers.SendAnswer.TheVariants.{Sent}
use Rattle.taps_socket.specs.Net.{after_send}
use Rattle.taps_real.specs.Tables.{net_of}
use Rattle.taps_real.proofs.Answered.{sent}
use Rattle.taps_real.proofs.real_sockets.RealSocketsSockets.send.Goals as goal

pub returns-in-Sent-clause-net : goal.returns-in-Sent-clause-net
returns-in-Sent-clause-net g c =
    c.note_sent.ensures c.args.bytes.now c.args.until c.in-Sent.ensures.0.within
    ∙ ap (λ v. after_send c.args.socket c.args.bytes.now c.args.until (Sent c.in-Sent.count c.in-Sent.at) (net_of v)) c.self.view_is

pub returns-in-Sent-clause-becomes : goal.returns-in-Sent-clause-becomes
returns-in-Sent-clause-becomes g c =
    sent (net_of c.args.self.now) (net_of c.note_sent.new.self) c.args.socket c.args.until c.in-Sent.count c.in-Sent.at c.args.bytes.now (returns-in-Sent-clause-net g c)
    (record { may = c.requires.may; some = c.requires.some; datagram = c.requires.datagram; bounded = c.requires.until; answered = c.in-Sent.ensures })
