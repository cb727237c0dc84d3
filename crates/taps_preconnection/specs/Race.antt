-- The table `race`.
use Rattle.std.specs.Prelude.{ℕ, List, None, Result, Ok, codes, unwrap_or}
use Rattle.toml.specs.Data.{Members}
use Rattle.taps_table.specs.Keys.{key, ◌&◌, keys_of}
use Rattle.taps_base.specs.Results.{◌>>=◌}
use Rattle.taps_table.specs.Values.{number_of}
use Rattle.taps_table.specs.Words.{word_of}
use Rattle.taps_preconnection.specs.Words.{mode_words}
use Rattle.taps_table.specs.declared.pre_error.PreError.{PreError}
use Rattle.taps_preconnection.specs.declared.race.Mode.TheVariants.{Staggered}
use Rattle.taps_preconnection.specs.declared.race.RacePlan.{RacePlan}

-- the race of a file that says nothing of it
abbrev pub default_race : RacePlan
default_race = record { mode = Staggered; delay_ms = 250; timeout_ms = 30000; cancel_ms = None }

-- the table `race`
unfoldable pub race_at : List ℕ → Members → Result RacePlan PreError
race_at path ms = do
  (((mode, delay), timeout), cancel) ← keys_of (
      key (codes "mode") (word_of mode_words)
      & key (codes "delay_ms") (number_of 10 2000)
      & key (codes "timeout_ms") (number_of 1 3600000)
      & key (codes "cancel_ms") (number_of 0 3600000)
      ) path ms
  Ok (record {
    mode = unwrap_or mode default_race.mode;
    delay_ms = unwrap_or delay default_race.delay_ms;
    timeout_ms = unwrap_or timeout default_race.timeout_ms;
    cancel_ms = cancel;
  })
