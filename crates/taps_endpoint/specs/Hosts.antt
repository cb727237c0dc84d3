-- A table of hosts: names, each with its addresses. Names compare by their bytes.
use Rattle.std.specs.Prelude.{ℕ, List, [], ◌∷◌, Option, Some, None, bytes_eq, if◌then◌else◌}
use Rattle.taps_endpoint.specs.declared.address.Ip.{Ip}

-- the addresses that a name has
abbrev pub find_host : List (List ℕ × List Ip) → List ℕ → Option (List Ip)
find_host [] name = None
find_host (entry ∷ more) name = if bytes_eq name entry.0 then Some entry.1 else find_host more name

-- the table after a name was given these addresses; a new name goes last
abbrev pub put_host : List (List ℕ × List Ip) → List ℕ → List Ip → List (List ℕ × List Ip)
put_host [] name ips = (name, ips) ∷ []
put_host (entry ∷ more) name ips =
    if bytes_eq name entry.0 then (entry.0, ips) ∷ more else entry ∷ put_host more name ips
