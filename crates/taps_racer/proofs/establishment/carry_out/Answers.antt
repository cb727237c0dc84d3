use Rattle.std.proofs.Common.{◌≡◌, ◌<◌, ap, length, ◌∙◌, sym, refl, arith}
use Rattle.taps_socket.specs.Calls.{begins as begins_at}
use Rattle.taps_socket.proofs.Added.{added_one, added_on}
use Rattle.taps_racer.proofs.UnderWay.{close_live, has_room, grown}
use Rattle.taps_racer.proofs.CarriedOut.{begins, carried_out}
use Rattle.taps_racer.proofs.establishment.carry_out.Goals as goal

pub race-init : goal.race-init
race-init g c =
    record {
      race = begins c.begin-racing.result c.args.racer.rules c.args.first c.args.targets.now (g.N.Sockets.net c.args.net.now) (g.N.Sockets.net c.now-at.new.self) c.now-at.result c.begin-racing.ensures.run c.begin-racing.ensures.rules c.requires.leaves c.requires.idle c.requires.room c.now-at.ensures.net;
      becomes = added_one g.N.Sockets.Becomes _ _ _ _ (begins_at c.now-at.result) _ refl (ap (λ n. n.trace) c.now-at.ensures.net) c.now-at.ensures.becomes;
    }

pub start-requires : goal.start-requires
start-requires g c = has_room _ _ _ _ _ _ _ (sym c.next.ensures.command ∙ c.in-Start.is) (λ h. h) c.race.invariant.race

pub wait-requires : goal.wait-requires
wait-requires g c = has_room _ _ _ _ _ _ _ (sym c.next.ensures.command ∙ c.in-Wait.is) (λ h. h) c.race.invariant.race

pub close-requires-clause-room : goal.close-requires-clause-room
close-requires-clause-room g c = has_room _ _ _ _ _ _ _ (sym c.next.ensures.command ∙ c.in-Close.is) (λ h. h) c.race.invariant.race

pub close-requires-clause-live : goal.close-requires-clause-live
close-requires-clause-live g c = close_live _ _ _ _ _ _ _ (sym c.next.ensures.command ∙ c.in-Close.is) c.race.invariant.race

pub race-preserved-in-Start : goal.race-preserved-in-Start
race-preserved-in-Start g c =
    let under = c.race.invariant.race.1 in
    let gaps : length c.race.racing.rules.gaps ≡ length c.args.targets.now = ap (λ r. length r.gaps) under.same_rules ∙ under.leaves in
    let within : c.in-Start.leaf < length c.args.targets.now = omega (arith, c.in-Start.ensures.leaf c.in-Start.leaf refl) in
    record {
      race = c.start.ensures.goes_on (sym c.next.ensures.command ∙ c.in-Start.is) _ _ _ _ refl c.target_of-target.ensures c.race.invariant.race;
      becomes = added_on g.N.Sockets.Becomes _ _ _ _ _ _ g.met.N.Sockets.becomes_on c.race.invariant.becomes c.start.ensures.becomes;
    }

pub race-smaller-in-Start : goal.race-smaller-in-Start
race-smaller-in-Start g c = let few = grown _ _ _ _ _ _ c.race.invariant.race in let one = c.start.ensures.one in omega arith

pub race-smaller-in-Wait : goal.race-smaller-in-Wait
race-smaller-in-Wait g c = let few = grown _ _ _ _ _ _ c.race.invariant.race in let one = c.wait.ensures.one in omega arith

pub race-smaller : goal.race-smaller
race-smaller g c = let few = grown _ _ _ _ _ _ c.race.invariant.race in let one = c.close.ensures.one in omega arith

pub race-preserved-in-Wait : goal.race-preserved-in-Wait
race-preserved-in-Wait g c =
    record {
      race = c.wait.ensures.goes_on (sym c.next.ensures.command ∙ c.in-Wait.is) _ _ _ _ c.race.invariant.race;
      becomes = added_on g.N.Sockets.Becomes _ _ _ _ _ _ g.met.N.Sockets.becomes_on c.race.invariant.becomes c.wait.ensures.becomes;
    }

pub race-preserved : goal.race-preserved
race-preserved g c =
    record {
      race = c.close.ensures.goes_on (sym c.next.ensures.command ∙ c.in-Close.is) _ _ _ _ c.race.invariant.race;
      becomes = added_on g.N.Sockets.Becomes _ _ _ _ _ _ g.met.N.Sockets.becomes_on c.race.invariant.becomes c.close.ensures.becomes;
    }

pub returns-in-Finish-clause-race : goal.returns-in-Finish-clause-race
returns-in-Finish-clause-race g c = carried_out _ _ _ _ _ _ _ _ (sym c.next.ensures.command ∙ c.in-Finish.is) c.finish.ensures c.race.invariant.race
