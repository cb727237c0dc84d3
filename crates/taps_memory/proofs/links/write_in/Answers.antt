use Rattle.std.proofs.Common.{◌≡◌, true, false, sym, ◌∙◌, arith}
use Rattle.taps_memory.specs.Links.{link_has, sent_link}
use Rattle.taps_memory.proofs.FirstOnes.{found, not_found}
use Rattle.taps_memory.proofs.links.write_in.Goals as goal

pub write_at-requires-clause-place : goal.write_at-requires-clause-place
write_at-requires-clause-place c = let w = (found (link_has c.args.socket) c.args.links.now.items c.in-Some.place (sym c.place_of.ensures ∙ c.in-Some.is)).within in omega arith

pub write_at-requires-clause-room : goal.write_at-requires-clause-room
write_at-requires-clause-room c = let f = found (link_has c.args.socket) c.args.links.now.items c.in-Some.place (sym c.place_of.ensures ∙ c.in-Some.is) in rw f.there (rw f.first at c.requires.room)

pub write_at-requires-clause-free : goal.write_at-requires-clause-free
write_at-requires-clause-free c = let f = found (link_has c.args.socket) c.args.links.now.items c.in-Some.place (sym c.place_of.ensures ∙ c.in-Some.is) in rw f.there (rw f.first at c.requires.free)

pub unreachable-requires : goal.unreachable-requires
unreachable-requires c =
    let n = (not_found (link_has c.args.socket) c.args.links.now.items (sym c.place_of.ensures ∙ c.in-None.is)).none in
    let z : false ≡ true = sym n ∙ c.requires.found in
    absurd cc

pub returns-clause-links : goal.returns-clause-links
returns-clause-links c =
    let f = found (link_has c.args.socket) c.args.links.now.items c.in-Some.place (sym c.place_of.ensures ∙ c.in-Some.is) in
    c.write_at.ensures.set f.one f.there ∙ sym (f.changed (sent_link c.args.socket c.args.bytes.now c.args.at))
