use Rattle.std.proofs.Common.{sym, ◌∙◌, arith}
use Rattle.taps_memory.specs.Links.{link_has, shut_link}
use Rattle.taps_memory.proofs.FirstOnes.{found, not_found}
use Rattle.taps_memory.proofs.links.shut_in.Goals as goal

pub shut_at-requires : goal.shut_at-requires
shut_at-requires c = let w = (found (link_has c.args.socket) c.args.links.now.items c.in-Some.place (sym c.place_of.ensures ∙ c.in-Some.is)).within in omega arith

pub returns-in-Some-clause-links : goal.returns-in-Some-clause-links
returns-in-Some-clause-links c =
    let f = found (link_has c.args.socket) c.args.links.now.items c.in-Some.place (sym c.place_of.ensures ∙ c.in-Some.is) in
    c.shut_at.ensures.set f.one f.there ∙ sym (f.changed (shut_link c.args.socket))

pub returns-in_default-clause-links : goal.returns-in_default-clause-links
returns-in_default-clause-links c = sym ((not_found (link_has c.args.socket) c.args.links.now.items (sym c.place_of.ensures ∙ c.in_default.is)).changed (shut_link c.args.socket))
