use Rattle.std.proofs.Common.{◌<◌, length, arith}
use Rattle.taps_group.proofs.Seeking.{numbered_at, sought, sought_some, sought_none}
use Rattle.taps_group.proofs.group.Group.next_sender.Goals as goal

pub waiting-requires : goal.waiting-requires
waiting-requires g c =
    let within : c.loop-place.place < length c.args.self.now.members.items = omega (arith, c.len-place-end.ensures, c.loop-place-test.true) in
    numbered_at _ c.args.self.now c.loop-place.place c.index.result.now c.requires.sound within c.index.ensures

pub loop-place-preserved : goal.loop-place-preserved
loop-place-preserved g c =
    let within : c.loop-place.place < length c.args.self.now.members.items = omega (arith, c.len-place-end.ensures, c.loop-place-test.true) in
    sought _ c.args.self.now c.loop-place.place c.index.result.now c.loop-place.first c.waiting.result c.sooner-first.result c.requires.sound within c.index.ensures c.waiting.ensures c.sooner-first.ensures c.loop-place.invariant

pub returns-in-Some : goal.returns-in-Some
returns-in-Some g c = sought_some c.args.self.now c.loop-place.place c.len-place-end.result c.loop-place.first c.in-Some.waiting c.len-place-end.ensures c.loop-place-test.false c.loop-place.auto.place-end c.in-Some.is c.loop-place.invariant

pub returns-in-None : goal.returns-in-None
returns-in-None g c = sought_none c.args.self.now c.loop-place.place c.len-place-end.result c.loop-place.first c.len-place-end.ensures c.loop-place-test.false c.loop-place.auto.place-end c.in-None.is c.loop-place.invariant
