-- The properties that a file gives a message, over those that the message has by default (RFC 9622 section 9.1.3).
use Rattle.std.specs.Prelude.{List, [], ◌∷◌, Some, None, codes, unwrap_or}
use Rattle.taps_property.specs.Properties.{Setting, setting}
use Rattle.taps_property.specs.declared.kind.Kind.TheVariants.{Flag, Number, Limit, Capacity}
use Rattle.taps_property.specs.declared.kind.NoLimit.TheVariants.{FullCoverage, Infinite}
use Rattle.taps_property.specs.declared.message_props.MessageProps.{MessageProps}
use Rattle.taps_preconnection.specs.declared.message_set.MessageSet.{MessageSet}

-- how each property of a message is set
abbrev pub set_table : List (Setting MessageSet)
set_table =
    setting (codes "msgLifetime") (Limit Infinite) (λ v m. record m { msg_lifetime = Some v })
    ∷ setting (codes "msgPriority") Number (λ v m. record m { msg_priority = Some v })
    ∷ setting (codes "msgOrdered") Flag (λ v m. record m { msg_ordered = Some v })
    ∷ setting (codes "safelyReplayable") Flag (λ v m. record m { safely_replayable = Some v })
    ∷ setting (codes "final") Flag (λ v m. record m { is_final = Some v })
    ∷ setting (codes "msgChecksumLen") (Limit FullCoverage) (λ v m. record m { msg_checksum_len = Some v })
    ∷ setting (codes "msgReliable") Flag (λ v m. record m { msg_reliable = Some v })
    ∷ setting (codes "msgCapacityProfile") Capacity (λ v m. record m { msg_capacity_profile = Some v })
    ∷ setting (codes "noFragmentation") Flag (λ v m. record m { no_fragmentation = Some v })
    ∷ setting (codes "noSegmentation") Flag (λ v m. record m { no_segmentation = Some v })
    ∷ []

-- a file that gives none
abbrev pub no_set : MessageSet
no_set = record {
  msg_lifetime = None;
  msg_priority = None;
  msg_ordered = None;
  safely_replayable = None;
  is_final = None;
  msg_checksum_len = None;
  msg_reliable = None;
  msg_capacity_profile = None;
  no_fragmentation = None;
  no_segmentation = None;
}

-- each property as it is given, or else as it was
abbrev pub applied : MessageProps → MessageSet → MessageProps
applied props given = record {
  msg_lifetime = unwrap_or given.msg_lifetime props.msg_lifetime;
  msg_priority = unwrap_or given.msg_priority props.msg_priority;
  msg_ordered = unwrap_or given.msg_ordered props.msg_ordered;
  safely_replayable = unwrap_or given.safely_replayable props.safely_replayable;
  is_final = unwrap_or given.is_final props.is_final;
  msg_checksum_len = unwrap_or given.msg_checksum_len props.msg_checksum_len;
  msg_reliable = unwrap_or given.msg_reliable props.msg_reliable;
  msg_capacity_profile = unwrap_or given.msg_capacity_profile props.msg_capacity_profile;
  no_fragmentation = unwrap_or given.no_fragmentation props.no_fragmentation;
  no_segmentation = unwrap_or given.no_segmentation props.no_segmentation;
}
