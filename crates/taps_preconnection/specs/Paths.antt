-- A table `path`, and the path of a file that declares none.
use Rattle.std.specs.Prelude.{ℕ, List, [], ◌∷◌, Bool, true, false, Option, Some, None, Result, Ok, codes, unwrap_or}
use Rattle.std.specs.List.{list_any}
use Rattle.toml.specs.Data.{Members}
use Rattle.taps_base.specs.Lists.{ListState, filled}
use Rattle.taps_endpoint.specs.Families.{is_same_family}
use Rattle.taps_endpoint.specs.declared.address.Family.{Family}
use Rattle.taps_endpoint.specs.declared.address.Family.TheVariants.{Inet4, Inet6, Unix}
use Rattle.taps_table.specs.Keys.{key, ◌&◌, keys_of, present}
use Rattle.taps_base.specs.Results.{◌>>=◌}
use Rattle.taps_table.specs.Values.{name_of, flag_of, array_of, each}
use Rattle.taps_table.specs.Words.{word_of}
use Rattle.taps_preconnection.specs.Words.{family_words}
use Rattle.taps_preconnection.specs.declared.path.Path.{Path}
use Rattle.taps_table.specs.declared.pre_error.PreError.{PreError}

-- the family is one of these
abbrev pub is_among : List Family → Family → Bool
is_among families family = list_any (is_same_family family) families

-- a path that says no families reaches each
unfoldable pub reaches : Option (ListState Family) → Family → Bool
reaches None family = true
reaches (Some families) family = is_among families.items family

-- a table `path`
unfoldable pub path_at : List ℕ → Members → Result Path PreError
path_at path ms = do
  (((interface, pvd), temporary), families) ← keys_of (
      key (codes "interface") name_of
      & key (codes "pvd") name_of
      & key (codes "temporary") flag_of
      & key (codes "families") (array_of 3 (each (word_of family_words)))
      ) path ms
  interface ← present path interface
  Ok (record {
    interface = interface;
    pvd = pvd;
    temporary = unwrap_or temporary false;
    inet4 = reaches families Inet4;
    inet6 = reaches families Inet6;
    unix = reaches families Unix;
  })

-- the path of a file that declares none
abbrev pub any_path : Path
any_path = record { interface = codes "any"; pvd = None; temporary = false; inet4 = true; inet6 = true; unix = true }

-- the paths, or the one of a file that declares none
abbrev pub or_any : List Path → ListState Path → ListState Path
or_any [] paths = filled (any_path ∷ [])
or_any (path ∷ more) paths = paths

-- the paths that a file declares, or else that one
abbrev pub some_path : Option (ListState Path) → ListState Path
some_path None = filled (any_path ∷ [])
some_path (Some paths) = or_any paths.items paths
