use Rattle.std.proofs.Common.{◌+◌, ◌<◌, length, take, drop, refl, sym, arith, length-take}
use Rattle.taps_frames.specs.Stuffed.{stuff}
use Rattle.taps_frames.proofs.StuffedRuns.{stuff_run, spelled_run, joined, joined_run, length_plain, length_run}
use Rattle.taps_frames.proofs.stuffed.write_run.Goals as goal

pub put-requires : goal.put-requires
put-requires c =
    let h = c.plain_run-run.ensures.within in
    let r = c.requires.room in
    record { room = omega (arith, h, r, length-take c.plain_run-run.result c.args.rest.now, length_plain c.args.rest.now c.plain_run-run.result c.plain_run-run.ensures.plain h) }

pub returns-then-run-rest-clause-items : goal.returns-then-run-rest-clause-items
returns-then-run-rest-clause-items c =
    let x = c.args.rest.now in
    let r = c.plain_run-run.result in
    joined_run c.args.out.now.items c.put.new.out.items (take r x) (stuff (drop r x)) (stuff x) (stuff_run x r c.plain_run-run.ensures.plain) c.put.ensures.items

pub returns-then-run-rest-clause-len : goal.returns-then-run-rest-clause-len
returns-then-run-rest-clause-len c =
    let h = c.plain_run-run.ensures.within in
    let l = c.put.ensures.len in
    omega (arith, h, l, length-take c.plain_run-run.result c.args.rest.now, length_plain c.args.rest.now c.plain_run-run.result c.plain_run-run.ensures.plain h)

pub put-requires-2 : goal.put-requires-2
put-requires-2 c =
    let x = c.args.rest.now in
    let r = c.plain_run-run.result in
    let h : r < length x = let w = c.plain_run-run.ensures.within in omega (arith, w) in
    let e = spelled_run x r _ c.spelling.result h refl (sym c.spelling.ensures) c.plain_run-run.ensures.plain in
    let l = c.put.ensures.len in
    let k = c.put.ensures.capacity in
    let m = c.requires.room in
    record { room = omega (arith, h, k, l, m, length-take r x, length_run x r c.spelling.result e (omega arith)) }

pub returns-clause-items : goal.returns-clause-items
returns-clause-items c =
    let x = c.args.rest.now in
    let r = c.plain_run-run.result in
    let h : r < length x = let w = c.plain_run-run.ensures.within in omega (arith, w) in
    let e = spelled_run x r _ c.spelling.result h refl (sym c.spelling.ensures) c.plain_run-run.ensures.plain in
    joined c.args.out.now.items c.put.new.out.items c.put-2.new.out.items (take r x) c.spelling.result (stuff (drop (r + 1) x)) (stuff x) e c.put.ensures.items c.put-2.ensures.items

pub returns-clause-len : goal.returns-clause-len
returns-clause-len c =
    let x = c.args.rest.now in
    let r = c.plain_run-run.result in
    let h : r < length x = let w = c.plain_run-run.ensures.within in omega (arith, w) in
    let e = spelled_run x r _ c.spelling.result h refl (sym c.spelling.ensures) c.plain_run-run.ensures.plain in
    let l = c.put.ensures.len in
    let k = c.put-2.ensures.len in
    omega (arith, h, k, l, length-take r x, length_run x r c.spelling.result e (omega arith))
