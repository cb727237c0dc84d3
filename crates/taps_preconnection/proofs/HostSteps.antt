-- Reading the hosts of a table one after the other, as a loop does.
use Rattle.std.proofs.Common.{◌≡◌, ℕ, List, Result, Ok}
use Rattle.toml.specs.Data.{Data, Members, member}
use Rattle.taps_endpoint.specs.declared.address.Ip.{Ip}
use Rattle.taps_preconnection.specs.Endpoints.{host_at, hosts_after}
use Rattle.taps_table.specs.Refusals.{Refuses}
use Rattle.taps_table.specs.declared.pre_error.PreError.{PreError}
use Rattle.taps_table.proofs.Refusals.{refuses_on}

module _ (path key : List ℕ) (d : Data) (ms : Members) (before : List (List ℕ × List Ip)) (total : Result (List (List ℕ × List Ip)) PreError) where
  pub host_read : (after : List (List ℕ × List Ip)) → hosts_after path (member key d ms) before ≡ total → host_at path key d before ≡ Ok after → hosts_after path ms after ≡ total
  unfolding hosts_after
  host_read after so_far h = rw h at so_far

  pub host_refused : (e : PreError) → hosts_after path (member key d ms) before ≡ total → Refuses e (host_at path key d before) → Refuses e total
  unfolding hosts_after
  host_refused e so_far h = refuses_on e (host_at path key d before) _ total h so_far
