-- What a path offers, and where it leads (RFC 9622 sections 6.2.11 and 6.2.12; flags and comparison by name are
-- local).
use Rattle.std.specs.Prelude.{ℕ, List, Bool, false, Option, Some, None, bytes_eq, slice_index_or}
use Rattle.taps_endpoint.specs.declared.address.Family.{Family}
use Rattle.taps_endpoint.specs.declared.address.Family.TheVariants.{Inet4, Inet6, Unix}
use Rattle.taps_preconnection.specs.Paths.{any_path}
use Rattle.taps_preconnection.specs.declared.path.Path.{Path}
use Rattle.taps_preconnection.specs.declared.preconnection.Preconnection.{Preconnection}

-- the path at a place
abbrev pub path_of : Preconnection → ℕ → Path
path_of pre place = slice_index_or pre.paths.items place any_path

-- the name is the path's own, where it has one
abbrev pub has_name : Option (List ℕ) → List ℕ → Bool
has_name None name = false
has_name (Some own) name = bytes_eq own name

-- the path has this interface
abbrev pub offers_interface : Path → List ℕ → Bool
offers_interface path name = has_name (Some path.interface) name

-- the path has this provisioning domain
abbrev pub offers_pvd : Path → List ℕ → Bool
offers_pvd path name = has_name path.pvd name

-- the path leads to addresses of this family
abbrev pub leads_to : Path → Family → Bool
leads_to path Inet4 = path.inet4
leads_to path Inet6 = path.inet6
leads_to path Unix = path.unix
