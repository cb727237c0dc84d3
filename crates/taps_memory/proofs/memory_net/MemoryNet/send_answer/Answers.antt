use Rattle.std.proofs.Common.{◌≡◌, ◌∙◌, subst, sym}
use Rattle.std.specs.Prelude.{None, Some}
use Rattle.taps_memory.specs.Pairs.{first_of}
use Rattle.taps_memory.specs.Links.{link_has}
use Rattle.taps_memory.proofs.Founds.{not_lost, send_found}
use Rattle.taps_memory.proofs.memory_net.MemoryNet.send_answer.Goals as goal

pub unreachable-requires : goal.unreachable-requires
unreachable-requires c = not_lost c.args.self.now.links c.args.socket c.requires.found (subst (λ v. None ≡ first_of (link_has c.args.socket) v.links) c.self.view_is (rw c.in-None.is at c.link_of.ensures))

pub returns-clause-answer : goal.returns-clause-answer
returns-clause-answer c =
    c.send_by.ensures ∙ send_found c.args.self.now c.in-Some.link.now c.args.socket c.args.count _ c.args.until (subst (λ v. first_of (link_has c.args.socket) v.links ≡ Some c.in-Some.link.now) c.self.view_is (sym (rw c.in-Some.is at c.link_of.ensures))) c.time-at.ensures.told
