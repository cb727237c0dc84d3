use Rattle.std.proofs.Common.{◌≡◌, length, length-take, arith}
use Rattle.std.specs.Prelude.{take}
use Rattle.taps_real.specs.Tables.{net_of}
use Rattle.taps_real.proofs.Answered.{got_after, received}
use Rattle.taps_real.proofs.real_sockets.RealSocketsSockets.recv.Goals as goal

pub returns-in-Got-clause-net : goal.returns-in-Got-clause-net
returns-in-Got-clause-net g c =
    got_after _ c.args.self.now c.note_got.new.self c.args.socket c.args.until c.in-Got.count c.in-Got.at (take c.in-Got.count c.receive_in_rounds-answer.new.out) c.self.view_is c.note_got.ensures

pub returns-in-Got-clause-becomes : goal.returns-in-Got-clause-becomes
returns-in-Got-clause-becomes g c =
    let count = c.in-Got.count in
    let out = c.receive_in_rounds-answer.new.out in
    let within = c.in-Got.ensures.answer.0.within in
    let same = c.receive_in_rounds-answer.ensures.length in
    let got : length (take count out) ≡ count = omega (arith, length-take count out, same) in
    received (net_of c.args.self.now) (net_of c.note_got.new.self) c.args.socket (length c.args.out.now) c.args.until count c.in-Got.at (take count out) (returns-in-Got-clause-net g c)
    (record { may = c.requires.may; some = c.requires.some; datagram = c.requires.datagram; bounded = c.requires.until; answered = c.in-Got.ensures.answer; got = got })
