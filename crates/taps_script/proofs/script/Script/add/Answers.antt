use Rattle.std.proofs.Common.{◌∙◌, ap, sym, subst, length, ◌<◌, ◌++◌, ◌∷◌, []}
use Rattle.taps_script.proofs.ScriptTables.{tables_after, tables_stay}
use Rattle.taps_script.proofs.script.Script.add.Goals as goal

pub invariant_of-self-in_err-note_fault : goal.invariant_of-self-in_err-note_fault
invariant_of-self-in_err-note_fault c = tables_stay c.self.inside.lines.items _ _ _ c.self.inside.faults _ c.self.invariant c.reserve.ensures.items c.in_err-note_fault.ensures.err

pub invariant_of-self-2 : goal.invariant_of-self-2
invariant_of-self-2 c =
    let few : length c.self.inside.lines.items < 4096 = subst (λ v. length v < 4096) (sym c.self.view_is) c.requires.few in
    tables_after c.self.inside.lines.items _ c.args.line c.self.inside.begin _ c.self.inside.late _ c.self.inside.faults _ c.requires.fits few c.self.invariant (c.add.ensures.items ∙ ap (λ xs. xs ++ c.args.line ∷ []) c.reserve.ensures.items) c.begin_after-self-inside.ensures c.late_after-self-inside.ensures c.in_ok-note_fault.ensures.ok
