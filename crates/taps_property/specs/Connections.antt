-- The properties of a connection (RFC 9622 section 8.1; names, kinds and defaults are local).
use Rattle.std.specs.Prelude.{List, [], ◌∷◌, ◌++◌, false, None, codes}
use Rattle.taps_property.specs.Properties.{Row, row}
use Rattle.taps_property.specs.declared.capacity.Capacity.TheVariants as capacity
use Rattle.taps_property.specs.declared.conn_state.ConnState.TheVariants.{Establishing}
use Rattle.taps_property.specs.declared.connection_props.ConnectionProps.{ConnectionProps}
use Rattle.taps_property.specs.declared.kind.Kind.TheVariants.{Flag, Number, Limit, Scheduler, Capacity, Policy, State}
use Rattle.taps_property.specs.declared.kind.NoLimit.TheVariants.{FullCoverage, Disabled, Unlimited}
use Rattle.taps_property.specs.declared.policy.Policy.TheVariants.{Handover}
use Rattle.taps_property.specs.declared.scheduler.Scheduler.TheVariants.{WeightedFairQueueing}

-- those that can be set
abbrev pub connection_settings : List (Row ConnectionProps)
connection_settings =
    row (codes "recvChecksumLen") (Limit FullCoverage)
    (λ c. c.recv_checksum_len) (λ v c. record c { recv_checksum_len = v })
    ∷ row (codes "connPriority") Number (λ c. c.conn_priority) (λ v c. record c { conn_priority = v })
    ∷ row (codes "connTimeout") (Limit Disabled) (λ c. c.conn_timeout) (λ v c. record c { conn_timeout = v })
    ∷ row (codes "keepAliveTimeout") (Limit Disabled)
    (λ c. c.keep_alive_timeout) (λ v c. record c { keep_alive_timeout = v })
    ∷ row (codes "connScheduler") Scheduler (λ c. c.conn_scheduler) (λ v c. record c { conn_scheduler = v })
    ∷ row (codes "connCapacityProfile") Capacity (λ c. c.conn_capacity_profile)
    (λ v c. record c { conn_capacity_profile = v })
    ∷ row (codes "multipathPolicy") Policy (λ c. c.multipath_policy) (λ v c. record c { multipath_policy = v })
    ∷ row (codes "minSendRate") (Limit Unlimited) (λ c. c.min_send_rate) (λ v c. record c { min_send_rate = v })
    ∷ row (codes "minRecvRate") (Limit Unlimited) (λ c. c.min_recv_rate) (λ v c. record c { min_recv_rate = v })
    ∷ row (codes "maxSendRate") (Limit Unlimited) (λ c. c.max_send_rate) (λ v c. record c { max_send_rate = v })
    ∷ row (codes "maxRecvRate") (Limit Unlimited) (λ c. c.max_recv_rate) (λ v c. record c { max_recv_rate = v })
    ∷ row (codes "groupConnLimit") (Limit Unlimited)
    (λ c. c.group_conn_limit) (λ v c. record c { group_conn_limit = v })
    ∷ row (codes "isolateSession") Flag (λ c. c.isolate_session) (λ v c. record c { isolate_session = v })
    ∷ []

-- and the one that is only read
abbrev pub connection_table : List (Row ConnectionProps)
connection_table =
    connection_settings ++ row (codes "connState") State (λ c. c.conn_state) (λ v c. record c { conn_state = v }) ∷ []

-- what a connection has where an application says nothing
abbrev pub default_connection : ConnectionProps
default_connection = record {
  recv_checksum_len = None;
  conn_priority = 100;
  conn_timeout = None;
  keep_alive_timeout = None;
  conn_scheduler = WeightedFairQueueing;
  conn_capacity_profile = capacity.Default;
  multipath_policy = Handover;
  min_send_rate = None;
  min_recv_rate = None;
  max_send_rate = None;
  max_recv_rate = None;
  group_conn_limit = None;
  isolate_session = false;
  conn_state = Establishing;
}
