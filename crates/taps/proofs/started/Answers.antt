use Rattle.std.proofs.Common.{refl}
use Rattle.taps.specs.contracts.put as contract
use Rattle.taps.proofs.Nine.{at_vtable, from_none}
use Rattle.taps.proofs.started.OwnLists as own
use Rattle.taps.proofs.started.Goals as goal

pub put-requires : goal.put-requires
put-requires c = at_vtable (λ v x. (((contract.dyn-1-ghosts (own.own-1, own.lawful-own-1)).0.entry v).1.layer x).name) _ _ _ _ c.into_dyn_box.ensures.0 (λ y. refl)

pub put-requires-2 : goal.put-requires-2
put-requires-2 c = at_vtable (λ v x. (((contract.dyn-1-ghosts (own.own-1, own.lawful-own-1)).0.entry v).1.layer x).name) _ _ _ _ c.into_dyn_box-in_ok-new-2.ensures.0 (λ y. refl)

pub put-requires-3 : goal.put-requires-3
put-requires-3 c = at_vtable (λ v x. (((contract.dyn-1-ghosts (own.own-1, own.lawful-own-1)).0.entry v).1.layer x).name) _ _ _ _ c.into_dyn_box-in_ok-new-3.ensures.0 (λ y. refl)

pub put-requires-4 : goal.put-requires-4
put-requires-4 c = at_vtable (λ v x. (((contract.dyn-1-ghosts (own.own-1, own.lawful-own-1)).0.entry v).1.layer x).name) _ _ _ _ c.into_dyn_box-in_ok-new-4.ensures.0 (λ y. refl)

pub put-requires-5 : goal.put-requires-5
put-requires-5 c = at_vtable (λ v x. (((contract.dyn-1-ghosts (own.own-1, own.lawful-own-1)).0.entry v).1.layer x).name) _ _ _ _ c.into_dyn_box-in_ok-new-5.ensures.0 (λ y. refl)

pub put-requires-6 : goal.put-requires-6
put-requires-6 c = at_vtable (λ v x. (((contract.dyn-1-ghosts (own.own-1, own.lawful-own-1)).0.entry v).1.layer x).name) _ _ _ _ c.into_dyn_box-in_ok-new-6.ensures.0 (λ y. refl)

pub put-requires-7 : goal.put-requires-7
put-requires-7 c = at_vtable (λ v x. (((contract.dyn-1-ghosts (own.own-1, own.lawful-own-1)).0.entry v).1.layer x).name) _ _ _ _ c.into_dyn_box-in_ok-new-7.ensures.0 (λ y. refl)

pub put-requires-9 : goal.put-requires-9
put-requires-9 c = at_vtable (λ v x. (((contract.dyn-1-ghosts (own.own-1, own.lawful-own-1)).0.entry v).1.layer x).name) _ _ _ _ c.into_dyn_box-in_ok-new-9.ensures.0 (λ y. refl)

pub run_nine-requires : goal.run_nine-requires
run_nine-requires c = record { nine = rw (c.in_ok-put-9.ensures, c.in_ok-put-8.ensures, c.in_ok-put-7.ensures, c.in_ok-put-6.ensures, c.in_ok-put-5.ensures, c.in_ok-put-4.ensures, c.in_ok-put-3.ensures, c.in_ok-put-2.ensures, c.in_ok-put.ensures) (from_none _ _ _ _ _ _ _ _ _ _ _ c.new-shelf.ensures.items) }
