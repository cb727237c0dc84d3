-- A map from texts to lists, seen as a table of hosts.
use Rattle.std.proofs.Common.{◌≡◌, ℕ, List, [], ◌∷◌, true, false, cond, Option, Some, None, String, Bor, map, refl, ap, inl, inr, string_bytes, string_eq, bytes_eq}
use Rattle.std.specs.Prelude.{option_map, option_copied}
use Rattle.std.specs.Map.{lookup}
use Rattle.std.proofs.lemmas.Bool.{cases_Bool}
use Rattle.std.proofs.lemmas.Slice.Eq.{bytes_eq-Decides}
use Rattle.taps_base.specs.Lists.{ListState}
use Rattle.indexmap.specs.IndexMap.{insert_entry}
use Rattle.taps_endpoint.specs.declared.address.Ip.{Ip}
use Rattle.taps_endpoint.specs.Hosts.{find_host, put_host}

-- the entries, as contracts see them
abbrev pub table : {Y : Type 0} → List (String Y × ListState Ip) → List (List ℕ × List Ip)
table entries = map (λ entry. (string_bytes entry.0, entry.1.items)) entries

pub found : {Y : Type 0} (name : List ℕ) (entries : List (String Y × ListState Ip)) → option_map (λ (ips : ListState Ip). ips.items) (lookup (λ k. bytes_eq name (string_bytes k)) entries) ≡ find_host (table entries) name
found name [] = refl
found name (entry ∷ entries) = elim (cases_Bool (bytes_eq name (string_bytes entry.0))) [
  | inl here ↦ rw here refl
  | inr other ↦ rw other (found name entries)
]

pub copied : (r : Option (Bor (ListState Ip))) → option_map (λ (ips : Bor (ListState Ip)). ips.now.items) r ≡ option_map (λ (ips : ListState Ip). ips.items) (option_copied r)
copied None = refl
copied (Some ips) = refl

put : {Y : Type 0} (key : String Y) (ips : ListState Ip) (entries : List (String Y × ListState Ip)) → table (insert_entry string_eq entries key ips) ≡ put_host (table entries) (string_bytes key) ips.items
put key ips [] = refl
put key ips (entry ∷ entries) = elim (cases_Bool (bytes_eq (string_bytes key) (string_bytes entry.0))) [
  | inl here ↦ rw here refl
  | inr other ↦ rw other (ap (λ (more : List (List ℕ × List Ip)). (string_bytes entry.0, entry.1.items) ∷ more) (put key ips entries))
]

pub put_so : {Y : Type 0} (key : String Y) (ips : ListState Ip) (entries after : List (String Y × ListState Ip)) (hosts : List (List ℕ × List Ip)) (name : List ℕ) → after ≡ insert_entry string_eq entries key ips → string_bytes key ≡ name → table entries ≡ hosts
    → table after ≡ put_host hosts name ips.items
put_so key ips entries after hosts name is bytes seen = rw (is, ← bytes, ← seen) (put key ips entries)

same_bytes : (name : List ℕ) → bytes_eq name name ≡ true
same_bytes name = (bytes_eq-Decides name name).1 refl

pub find_put : (hosts : List (List ℕ × List Ip)) (name : List ℕ) (ips : List Ip) → find_host (put_host hosts name ips) name ≡ Some ips
find_put [] name ips = rw (same_bytes name) refl
find_put (entry ∷ hosts) name ips = elim (cases_Bool (bytes_eq name entry.0)) [
  | inl here ↦ rw (here, here) refl
  | inr other ↦ rw (other, other) (find_put hosts name ips)
]

pub find_other : (hosts : List (List ℕ × List Ip)) (name : List ℕ) (ips : List Ip) (other : List ℕ) → bytes_eq other name ≡ false → find_host (put_host hosts name ips) other ≡ find_host hosts other
find_other [] name ips other apart = rw apart refl
find_other (entry ∷ hosts) name ips other apart = elim (cases_Bool (bytes_eq name entry.0)) [
  | inl here ↦
      let is : name ≡ entry.0 = (bytes_eq-Decides name entry.0).0 here in
      let away : bytes_eq other entry.0 ≡ false = rw is at apart in
      rw here (rw away refl)
  | inr there ↦ rw there (ap (cond (bytes_eq other entry.0) (Some entry.1)) (find_other hosts name ips other apart))
]
