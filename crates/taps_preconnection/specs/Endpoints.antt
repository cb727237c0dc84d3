-- The tables `local`, `remote` and `hosts`.
use Rattle.std.specs.Prelude.{ℕ, List, [], Option, Some, None, Result, Ok, Err, codes, nat_le, if◌then◌else◌}
use Rattle.toml.specs.Data.{Data, Members, no_members, member}
use Rattle.taps_endpoint.specs.Hosts.{put_host}
use Rattle.taps_endpoint.specs.declared.address.Address.{Address}
use Rattle.taps_endpoint.specs.declared.address.Ip.{Ip}
use Rattle.taps_endpoint.specs.declared.local.Local.{Local}
use Rattle.taps_endpoint.specs.declared.remote.Remote.{Remote}
use Rattle.taps_endpoint.specs.declared.remote.Remote.TheVariants.{Literal, Host}
use Rattle.taps_table.specs.Documents.{count_members}
use Rattle.taps_table.specs.Keys.{key, ◌&◌, keys_of, in_byte_order}
use Rattle.taps_table.specs.Places.{key_text}
use Rattle.taps_base.specs.Results.{◌>>=◌}
use Rattle.taps_table.specs.Values.{Reader, number_of, name_at, name_of, array_of, each}
use Rattle.taps_preconnection.specs.Texts.{address_of, ip_of}
use Rattle.taps_table.specs.declared.pre_error.PreError.{PreError}
use Rattle.taps_table.specs.declared.pre_error.PreError.TheVariants.{OutOfRange, TooMany}

-- a table `local`
unfoldable pub local_at : List ℕ → Members → Result Local PreError
local_at path ms = do
  (interface, address) ← keys_of (
      key (codes "interface") name_of
      & key (codes "address") address_of
      ) path ms
  Ok (record { interface = interface; address = address })

-- a port other than 0
abbrev pub port_of : Reader ℕ
port_of = number_of 1 65535

-- an address alone, or a host with its port
abbrev pub remote_from : List ℕ → Option Address → Option (List ℕ) → Option ℕ → Result Remote PreError
remote_from path (Some address) None None = Ok (Literal address)
remote_from path None (Some host) (Some port) = Ok (Host host port)
remote_from path address host port = Err (OutOfRange path)

-- a table `remote`
unfoldable pub remote_at : List ℕ → Members → Result Remote PreError
remote_at path ms = do
  ((address, host), port) ← keys_of (
      key (codes "address") address_of
      & key (codes "host") name_of
      & key (codes "port") port_of
      ) path ms
  remote_from path address host port

-- the hosts before, and one more after them, whose key is a name
unfoldable pub host_at : List ℕ → List ℕ → Data → List (List ℕ × List Ip) → Result (List (List ℕ × List Ip)) PreError
host_at path key d before = do
  name ← name_at (key_text path key) key
  ips ← array_of 32 (each ip_of) (key_text path key) d
  Ok (put_host before name ips.items)

-- the hosts before, and those of the members
unfoldable pub hosts_after : List ℕ → Members → List (List ℕ × List Ip) → Result (List (List ℕ × List Ip)) PreError
hosts_after path no_members before = Ok before
hosts_after path (member key d ms) before = host_at path key d before >>= λ after. hosts_after path ms after

-- at most 64 hosts, which are read in byte order of their names
unfoldable pub hosts_at : List ℕ → Members → Result (List (List ℕ × List Ip)) PreError
hosts_at path ms = if nat_le (count_members ms) 64 then hosts_after path (in_byte_order ms) []
    else Err (TooMany path (count_members ms))
