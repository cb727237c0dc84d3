use Rattle.std.proofs.Common.{sym, ◌∙◌, arith}
use Rattle.taps_memory.specs.Links.{link_has, closed_link}
use Rattle.taps_memory.proofs.FirstOnes.{found, not_found}
use Rattle.taps_memory.proofs.links.close_in.Goals as goal

pub close_at-requires : goal.close_at-requires
close_at-requires c = let w = (found (link_has c.args.socket) c.args.links.now.items c.in-Some.place (sym c.place_of.ensures ∙ c.in-Some.is)).within in omega arith

pub returns-in-Some-clause-links : goal.returns-in-Some-clause-links
returns-in-Some-clause-links c =
    let f = found (link_has c.args.socket) c.args.links.now.items c.in-Some.place (sym c.place_of.ensures ∙ c.in-Some.is) in
    c.close_at.ensures.set f.one f.there ∙ sym (f.changed (closed_link c.args.socket))

pub returns-in_default-clause-links : goal.returns-in_default-clause-links
returns-in_default-clause-links c = sym ((not_found (link_has c.args.socket) c.args.links.now.items (sym c.place_of.ensures ∙ c.in_default.is)).changed (closed_link c.args.socket))
