-- The table `exchange`.
use Rattle.std.specs.Prelude.{ℕ, ◌+◌, List, [], Bool, true, false, ◌||◌, ◌==◌, None, Result, Ok, length, nat_le, codes, unwrap_or}
use Rattle.toml.specs.Data.{Members}
use Rattle.taps_base.specs.Lists.{filled}
use Rattle.taps_table.specs.Keys.{key, ◌&◌, keys_of, rule}
use Rattle.taps_table.specs.Places.{key_text}
use Rattle.taps_base.specs.Results.{◌>>=◌}
use Rattle.taps_table.specs.Values.{number_of, array_of, each}
use Rattle.taps_table.specs.Words.{word_of}
use Rattle.taps_preconnection.specs.Words.{role_words}
use Rattle.taps_preconnection.specs.declared.exchange.Exchange.{Exchange}
use Rattle.taps_preconnection.specs.declared.exchange.RunRole.{RunRole}
use Rattle.taps_preconnection.specs.declared.exchange.RunRole.TheVariants.{Initiate, Listen, Loop}
use Rattle.taps_table.specs.declared.pre_error.PreError.{PreError}

-- the role is `initiate`
abbrev pub is_initiate : RunRole → Bool
is_initiate Initiate = true
is_initiate Listen = false
is_initiate Loop = false

-- the exchange of a file that says nothing of it
abbrev pub default_exchange : Exchange
default_exchange = record {
  role = Initiate;
  expect = 0;
  deadline_ms = 10000;
  piece = 4096;
  part = None;
  clones = 0;
  priorities = filled [];
  connections = 1;
}

-- only the role `initiate` has clones, and each priority is one of a member that there may be
unfoldable pub exchange_rules : List ℕ → Exchange → Result Exchange PreError
exchange_rules path exchange = do
  _ ← rule (key_text path (codes "clones")) (is_initiate exchange.role || (exchange.clones == 0))
  _ ← rule (key_text path (codes "priorities")) (nat_le (length exchange.priorities.items) (exchange.clones + 1))
  Ok exchange

-- the table `exchange`
unfoldable pub exchange_at : List ℕ → Members → Result Exchange PreError
exchange_at path ms = do
  (((((((role, expect), deadline), piece), part), clones), priorities), connections) ← keys_of (
      key (codes "role") (word_of role_words)
      & key (codes "expect") (number_of 0 256)
      & key (codes "deadline_ms") (number_of 1 3600000)
      & key (codes "piece") (number_of 1 65536)
      & key (codes "part") (number_of 1 1048576)
      & key (codes "clones") (number_of 0 15)
      & key (codes "priorities") (array_of 16 (each (number_of 0 4294967295)))
      & key (codes "connections") (number_of 1 16)
      ) path ms
  exchange_rules path (record {
    role = unwrap_or role default_exchange.role;
    expect = unwrap_or expect default_exchange.expect;
    deadline_ms = unwrap_or deadline default_exchange.deadline_ms;
    piece = unwrap_or piece default_exchange.piece;
    part = part;
    clones = unwrap_or clones default_exchange.clones;
    priorities = unwrap_or priorities default_exchange.priorities;
    connections = unwrap_or connections default_exchange.connections;
  })
