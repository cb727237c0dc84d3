use Rattle.std.proofs.Common.{subst}
use Rattle.taps_socket.specs.declared.item.Item.TheVariants as item
use Rattle.taps_socket.specs.Net.{IsGiven}
use Rattle.taps_real.specs.Tables.{net_of}
use Rattle.taps_real.proofs.Answered.{given_after, same_faults, accepted}
use Rattle.taps_real.proofs.real_sockets.RealSocketsSockets.accept.Goals as goal

pub returns-in-Ok-clause-net : goal.returns-in-Ok-clause-net
returns-in-Ok-clause-net g c =
    same_faults _ _ (given_after _ c.args.self.now c.note_accepted.new.self (item.Accepted c.args.listener c.in-Some.socket c.in-Ok.at) c.in-Ok.at _ c.self.view_is c.note_accepted.ensures)

pub returns-in-Ok-clause-becomes : goal.returns-in-Ok-clause-becomes
returns-in-Ok-clause-becomes g c =
    let net = given_after _ c.args.self.now c.note_accepted.new.self (item.Accepted c.args.listener c.in-Some.socket c.in-Ok.at) c.in-Ok.at _ c.self.view_is c.note_accepted.ensures in
    accepted (net_of c.args.self.now) (net_of c.note_accepted.new.self) c.args.listener c.args.until c.in-Some.socket c.in-Ok.at net c.requires.may c.requires.until c.in-Ok.ensures.came
    (subst (λ v. IsGiven c.in-Some.socket (net_of v)) c.self.view_is c.in-Some.ensures.given)
