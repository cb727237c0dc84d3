-- The meaning and the plan of a file that passes the checks of a run.
use Rattle.std.proofs.Common.{◌≡◌, ℕ, List, Result, Ok, Err, refl, ap, subst, inl, inr, length, leb}
use Rattle.std.proofs.lemmas.Bool.{cases_Bool}
use Rattle.taps_base.proofs.Results.{both_ok, ok_same}
use Rattle.taps_endpoint.specs.declared.address.Address.{Address}
use Rattle.taps_endpoint.specs.DerivedAddresses.{derived_addresses}
use Rattle.taps_framer.specs.Layers.{Layer}
use Rattle.taps_preconnection.specs.File.{preconnection_of}
use Rattle.taps_preconnection.specs.declared.exchange.RunRole.{RunRole}
use Rattle.taps_preconnection.specs.declared.exchange.RunRole.TheVariants as role
use Rattle.taps_preconnection.specs.declared.preconnection.Preconnection.{Preconnection}
use Rattle.taps_property.specs.declared.role.Role.TheVariants.{Initiate}
use Rattle.taps_table.specs.declared.pre_error.PreError.{PreError}
use Rattle.taps_command.specs.Checks.{or_refused, at_most_32, addresses_for, addressed, shelved, valued, checked}
use Rattle.taps_command.specs.Places.{places_on}
use Rattle.taps_command.specs.Ready.{Ready}
use Rattle.taps_session.specs.FileSessions.{plan_in, plan_for}
use Rattle.taps_app.specs.Run.{addresses_as, addresses_to_run, run_rules}

read_there : (read : Result Preconnection PreError) (pre : Preconnection) → or_refused read ≡ Ok pre → read ≡ Ok pre
read_there (Ok found) pre h = cc
read_there (Err refused) pre h = cc

few_there : (all addresses : List Address) → at_most_32 all ≡ Ok addresses → addresses ≡ all
few_there all addresses h = elim (cases_Bool (leb (length all) 32)) [ inl few ↦ let kept = rw few at h in cc | inr many ↦ let wrong = rw many at h in cc ]

derived_in : (pre : Preconnection) (addresses : List Address) → addresses_for pre ≡ Ok addresses → addresses ≡ derived_addresses pre.hosts pre.remotes.items
unfolding addresses_for
derived_in pre addresses h = few_there (derived_addresses pre.hosts pre.remotes.items) addresses h

-- the meaning of its bytes, and its addresses
pub run_meaning : (shelf : List Layer) (bytes : List ℕ) (ready : Ready) → checked run_rules shelf bytes ≡ Ok ready
    → (preconnection_of bytes ≡ Ok ready.pre) × (addresses_to_run ready.pre ≡ Ok ready.addresses)
unfolding checked valued shelved addressed
run_meaning shelf bytes ready judged =
    let (pre, read, more) = both_ok (valued bytes) (λ pre. shelved run_rules shelf pre) ready judged in
    let (places, framers, rest) = both_ok (places_on shelf pre.framers.items) (λ places. addressed run_rules pre places) ready more in
    let (addresses, found, given) = both_ok (run_rules.addresses pre) (λ addresses. Ok (record { pre = pre; places = places; addresses = addresses })) ready rest in
    let made : record { pre = pre; places = places; addresses = addresses } ≡ ready = ok_same (record { pre = pre; places = places; addresses = addresses }) ready given in
    let meant : preconnection_of bytes ≡ Ok pre = read_there (preconnection_of bytes) pre read in
    subst (λ (r : Ready). (preconnection_of bytes ≡ Ok r.pre) × (addresses_to_run r.pre ≡ Ok r.addresses)) made (meant, found)

-- its plan is that over the derived addresses
pub run_plan : (r : RunRole) (pre : Preconnection) (addresses : List Address) → addresses_as r pre ≡ Ok addresses → plan_for r pre addresses ≡ plan_for r pre (derived_addresses pre.hosts pre.remotes.items)
run_plan role.Initiate pre addresses h = ap (plan_in Initiate pre) (derived_in pre addresses h)
run_plan role.Listen pre addresses h = refl
run_plan role.Loop pre addresses h = ap (plan_in Initiate pre) (derived_in pre addresses h)
