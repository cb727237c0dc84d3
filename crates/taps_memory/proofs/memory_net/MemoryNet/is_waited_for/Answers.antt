use Rattle.std.proofs.Common.{sym, ◌∙◌, ap}
use Rattle.taps_memory.specs.Links.{link_waits}
use Rattle.taps_memory.specs.Kept.{some_waits}
use Rattle.taps_memory.proofs.FirstOnes.{found, not_found}
use Rattle.taps_memory.proofs.Founds.{waits_any}
use Rattle.taps_memory.proofs.memory_net.MemoryNet.is_waited_for.Goals as goal

pub returns-in-Some : goal.returns-in-Some
returns-in-Some c =
    let s = c.self.inside in
    sym (ap (λ v. some_waits c.args.listener v.links) (sym c.self.view_is) ∙ (waits_any c.args.listener s.links.items ∙ (found (link_waits c.args.listener) s.links.items c.in-Some.place (sym c.place_waiting.ensures ∙ c.in-Some.is)).any))

pub returns-in-None : goal.returns-in-None
returns-in-None c =
    let s = c.self.inside in
    sym (ap (λ v. some_waits c.args.listener v.links) (sym c.self.view_is) ∙ (waits_any c.args.listener s.links.items ∙ (not_found (link_waits c.args.listener) s.links.items (sym c.place_waiting.ensures ∙ c.in-None.is)).none))
