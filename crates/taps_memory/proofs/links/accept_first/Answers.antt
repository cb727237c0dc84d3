use Rattle.std.proofs.Common.{sym, ◌∙◌, arith}
use Rattle.taps_memory.specs.Links.{link_waits, accepted_link}
use Rattle.taps_memory.proofs.FirstOnes.{found, not_found}
use Rattle.taps_memory.proofs.links.accept_first.Goals as goal

pub accept_at-requires : goal.accept_at-requires
accept_at-requires c = let w = (found (link_waits c.args.listener) c.args.links.now.items c.in-Some.place (sym c.place_waiting.ensures ∙ c.in-Some.is)).within in omega arith

pub returns-in-Some-clause-links : goal.returns-in-Some-clause-links
returns-in-Some-clause-links c =
    let f = found (link_waits c.args.listener) c.args.links.now.items c.in-Some.place (sym c.place_waiting.ensures ∙ c.in-Some.is) in
    c.accept_at.ensures.set f.one f.there ∙ sym (f.changed (accepted_link c.args.socket))

pub returns-in_default-clause-links : goal.returns-in_default-clause-links
returns-in_default-clause-links c = sym ((not_found (link_waits c.args.listener) c.args.links.now.items (sym c.place_waiting.ensures ∙ c.in_default.is)).changed (accepted_link c.args.socket))
