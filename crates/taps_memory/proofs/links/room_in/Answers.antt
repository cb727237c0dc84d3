use Rattle.std.proofs.Common.{◌≡◌, true, false, sym, ◌∙◌, arith}
use Rattle.std.specs.Prelude.{Result, Ok, Err, OnOk}
use Rattle.taps_memory.specs.Links.{link_has, roomy_link}
use Rattle.taps_memory.proofs.FirstOnes.{found, not_found}
use Rattle.taps_memory.proofs.links.room_in.Goals as goal

pub room_at-requires : goal.room_at-requires
room_at-requires c = let w = (found (link_has c.args.socket) c.args.links.now.items c.in-Some.place (sym c.place_of.ensures ∙ c.in-Some.is)).within in omega arith

pub unreachable-requires : goal.unreachable-requires
unreachable-requires c =
    let n = (not_found (link_has c.args.socket) c.args.links.now.items (sym c.place_of.ensures ∙ c.in-None.is)).none in
    let z : false ≡ true = sym n ∙ c.requires in
    absurd cc

pub returns-clause-ok : goal.returns-clause-ok
returns-clause-ok c =
    let f = found (link_has c.args.socket) c.args.links.now.items c.in-Some.place (sym c.place_of.ensures ∙ c.in-Some.is) in
    where_ok c.room_at.result (λ set. set f.one f.there ∙ sym (f.changed (roomy_link c.args.socket c.args.bytes))) c.room_at.ensures.ok
  where
    where_ok : {T E P Q : Type 0} (r : Result T E) → (P → Q) → OnOk r P → OnOk r Q
    where_ok (Ok x) f h = f h
    where_ok (Err e) f h = h
