-- From the checks of FILE to what its bytes give.
use Rattle.std.proofs.Common.{◌≡◌, ℕ, List, Result, Ok, Err, refl, sym, ◌∙◌, subst, inl, inr, length, leb}
use Rattle.std.proofs.lemmas.Bool.{cases_Bool}
use Rattle.taps_base.proofs.Results.{both_ok, ok_same}
use Rattle.taps_endpoint.specs.declared.address.Address.{Address}
use Rattle.taps_endpoint.specs.DerivedAddresses.{derived_addresses}
use Rattle.taps_framer.specs.Layers.{Layer}
use Rattle.taps_preconnection.specs.File.{preconnection_of}
use Rattle.taps_table.specs.declared.pre_error.PreError.{PreError}
use Rattle.taps_preconnection.specs.declared.preconnection.Preconnection.{Preconnection}
use Rattle.taps_text.specs.declared.refusal.Refusal.{Refusal}
use Rattle.taps_command.specs.Checks.{FileRules, or_refused, at_most_32, addresses_for, addressed, shelved, valued, checked}
use Rattle.taps_command.specs.Meanings.{Returns}
use Rattle.taps_command.specs.Places.{places_on}
use Rattle.taps_command.specs.Ready.{Ready}
use Rattle.taps_command.specs.declared.stop.Unready.{Unready}
use Rattle.taps_command.specs.declared.stop.Unready.TheVariants as unready

pub checked_on : (rules : FileRules) (shelf : List Layer) (bytes : List ℕ) (pre : Preconnection) (result : Result Ready Unready) → valued bytes ≡ Ok pre
    → Returns (λ ready. ready) (shelved rules shelf pre) result → Returns (λ ready. ready) (checked rules shelf bytes) result
unfolding checked
checked_on rules shelf bytes pre result read returns =
    let same : checked rules shelf bytes ≡ shelved rules shelf pre = rw read refl in
    subst (λ (outcome : Result Ready Refusal). Returns (λ (ready : Ready). ready) outcome result) (sym same) returns

pub checked_not : (rules : FileRules) (shelf : List Layer) (bytes : List ℕ) (why : Refusal) → valued bytes ≡ Err why → checked rules shelf bytes ≡ Err why
unfolding checked
checked_not rules shelf bytes why read = rw read refl

pub shelved_on : (rules : FileRules) (shelf : List Layer) (pre : Preconnection) (places : List ℕ) (result : Result Ready Unready) → places_on shelf pre.framers.items ≡ Ok places
    → Returns (λ ready. ready) (addressed rules pre places) result → Returns (λ ready. ready) (shelved rules shelf pre) result
unfolding shelved
shelved_on rules shelf pre places result found returns =
    let same : shelved rules shelf pre ≡ addressed rules pre places = rw found refl in
    subst (λ (outcome : Result Ready Refusal). Returns (λ (ready : Ready). ready) outcome result) (sym same) returns

shelved_not : (rules : FileRules) (shelf : List Layer) (pre : Preconnection) (why : Refusal) → places_on shelf pre.framers.items ≡ Err why → shelved rules shelf pre ≡ Err why
unfolding shelved
shelved_not rules shelf pre why found = rw found refl

pub shelved_stop : (rules : FileRules) (shelf : List Layer) (pre : Preconnection) (stop : Unready)
    → (let r : Result (List ℕ) Unready = Err stop in Returns (λ places. places) (places_on shelf pre.framers.items) r)
    → (let r : Result Ready Unready = Err stop in Returns (λ ready. ready) (shelved rules shelf pre) r)
shelved_stop rules shelf pre (unready.Refused why) h = shelved_not rules shelf pre why h
shelved_stop rules shelf pre unready.NoMemory h = tt

read_there : (read : Result Preconnection PreError) (pre : Preconnection) → or_refused read ≡ Ok pre → read ≡ Ok pre
read_there (Ok found) pre h = cc
read_there (Err refused) pre h = cc

few_there : (all addresses : List Address) → at_most_32 all ≡ Ok addresses → addresses ≡ all
few_there all addresses h = elim (cases_Bool (leb (length all) 32)) [ inl few ↦ let kept = rw few at h in cc | inr many ↦ let wrong = rw many at h in cc ]

derived_in : (pre : Preconnection) (addresses : List Address) → addresses_for pre ≡ Ok addresses → addresses ≡ derived_addresses pre.hosts pre.remotes.items
unfolding addresses_for
derived_in pre addresses h = few_there (derived_addresses pre.hosts pre.remotes.items) addresses h

-- the meaning and the addresses of a file that passes its checks, where addresses are derived
pub file_meaning : (rules : FileRules) (shelf : List Layer) (bytes : List ℕ) (ready : Ready) → ((pre : Preconnection) → rules.addresses pre ≡ addresses_for pre) → checked rules shelf bytes ≡ Ok ready
    → (preconnection_of bytes ≡ Ok ready.pre) × (ready.addresses ≡ derived_addresses ready.pre.hosts ready.pre.remotes.items)
unfolding checked valued shelved addressed
file_meaning rules shelf bytes ready derives judged =
    let (pre, read, more) = both_ok (valued bytes) (λ pre. shelved rules shelf pre) ready judged in
    let (places, framers, rest) = both_ok (places_on shelf pre.framers.items) (λ places. addressed rules pre places) ready more in
    let (addresses, found, given) = both_ok (rules.addresses pre) (λ addresses. Ok (record { pre = pre; places = places; addresses = addresses })) ready rest in
    let made : record { pre = pre; places = places; addresses = addresses } ≡ ready = ok_same (record { pre = pre; places = places; addresses = addresses }) ready given in
    let meant : preconnection_of bytes ≡ Ok pre = read_there (preconnection_of bytes) pre read in
    let there : addresses ≡ derived_addresses pre.hosts pre.remotes.items = derived_in pre addresses (sym (derives pre) ∙ found) in
    subst (λ (r : Ready). (preconnection_of bytes ≡ Ok r.pre) × (r.addresses ≡ derived_addresses r.pre.hosts r.pre.remotes.items)) made (meant, there)
