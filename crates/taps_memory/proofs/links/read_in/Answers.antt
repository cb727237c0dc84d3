use Rattle.std.proofs.Common.{◌≡◌, true, false, sym, ◌∙◌, arith}
use Rattle.taps_memory.specs.Links.{link_has, read_link}
use Rattle.taps_memory.proofs.FirstOnes.{found, not_found}
use Rattle.taps_memory.proofs.links.read_in.Goals as goal

pub read_at-requires : goal.read_at-requires
read_at-requires c = let w = (found (link_has c.args.socket) c.args.links.now.items c.in-Some.place (sym c.place_of.ensures ∙ c.in-Some.is)).within in omega arith

pub unreachable-requires : goal.unreachable-requires
unreachable-requires c =
    let n = (not_found (link_has c.args.socket) c.args.links.now.items (sym c.place_of.ensures ∙ c.in-None.is)).none in
    let z : false ≡ true = sym n ∙ c.requires in
    absurd cc

pub returns-clause-count : goal.returns-clause-count
returns-clause-count c = let f = found (link_has c.args.socket) c.args.links.now.items c.in-Some.place (sym c.place_of.ensures ∙ c.in-Some.is) in rw f.first (rw f.there at c.read_at.ensures.count)

pub returns-clause-out : goal.returns-clause-out
returns-clause-out c = let f = found (link_has c.args.socket) c.args.links.now.items c.in-Some.place (sym c.place_of.ensures ∙ c.in-Some.is) in rw f.first (rw f.there at c.read_at.ensures.out)

pub returns-clause-links : goal.returns-clause-links
returns-clause-links c =
    let f = found (link_has c.args.socket) c.args.links.now.items c.in-Some.place (sym c.place_of.ensures ∙ c.in-Some.is) in
    c.read_at.ensures.set f.one f.there ∙ sym (f.changed (read_link c.args.socket c.read_at.result))
