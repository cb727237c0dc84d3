-- The properties of a message (RFC 9622 section 9.1.3; names, kinds and defaults are local).
use Rattle.std.specs.Prelude.{List, [], ◌∷◌, Bool, false, None, codes}
use Rattle.taps_property.specs.Properties.{Row, row}
use Rattle.taps_property.specs.declared.capacity.Capacity.{Capacity as CapacityProfile}
use Rattle.taps_property.specs.declared.kind.Kind.TheVariants.{Flag, Number, Limit, Capacity}
use Rattle.taps_property.specs.declared.kind.NoLimit.TheVariants.{FullCoverage, Infinite}
use Rattle.taps_property.specs.declared.message_props.MessageProps.{MessageProps}

-- all of them, in order
abbrev pub message_table : List (Row MessageProps)
message_table =
    row (codes "msgLifetime") (Limit Infinite) (λ m. m.msg_lifetime) (λ v m. record m { msg_lifetime = v })
    ∷ row (codes "msgPriority") Number (λ m. m.msg_priority) (λ v m. record m { msg_priority = v })
    ∷ row (codes "msgOrdered") Flag (λ m. m.msg_ordered) (λ v m. record m { msg_ordered = v })
    ∷ row (codes "safelyReplayable") Flag (λ m. m.safely_replayable) (λ v m. record m { safely_replayable = v })
    ∷ row (codes "final") Flag (λ m. m.is_final) (λ v m. record m { is_final = v })
    ∷ row (codes "msgChecksumLen") (Limit FullCoverage)
    (λ m. m.msg_checksum_len) (λ v m. record m { msg_checksum_len = v })
    ∷ row (codes "msgReliable") Flag (λ m. m.msg_reliable) (λ v m. record m { msg_reliable = v })
    ∷ row (codes "msgCapacityProfile") Capacity (λ m. m.msg_capacity_profile)
    (λ v m. record m { msg_capacity_profile = v })
    ∷ row (codes "noFragmentation") Flag (λ m. m.no_fragmentation) (λ v m. record m { no_fragmentation = v })
    ∷ row (codes "noSegmentation") Flag (λ m. m.no_segmentation) (λ v m. record m { no_segmentation = v })
    ∷ []

-- over a stack that keeps order and delivers reliably or not, on a connection of this capacity profile
abbrev pub default_message : Bool → Bool → CapacityProfile → Bool → MessageProps
default_message ordered reliable capacity replayable = record {
  msg_lifetime = None;
  msg_priority = 100;
  msg_ordered = ordered;
  safely_replayable = replayable;
  is_final = false;
  msg_checksum_len = None;
  msg_reliable = reliable;
  msg_capacity_profile = capacity;
  no_fragmentation = false;
  no_segmentation = false;
}
