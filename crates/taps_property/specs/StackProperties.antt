-- The properties of stacks, in order (RFC 9622 section 6.2).
use Rattle.std.specs.Prelude.{ℕ, List, [], ◌∷◌}
use Rattle.taps_property.specs.declared.stack_property.StackProperty.{StackProperty}
use Rattle.taps_property.specs.declared.stack_property.StackProperty.TheVariants.{Reliability, PreserveMsgBoundaries, PerMsgReliability, PreserveOrder, ZeroRttMsg, Multistreaming, FullChecksumSend, FullChecksumRecv, CongestionControl, KeepAlive, SoftErrorNotify, ActiveReadBeforeSend}

-- all of them, in order
abbrev pub stack_properties : List StackProperty
stack_properties = Reliability ∷ PreserveMsgBoundaries ∷ PerMsgReliability ∷ PreserveOrder ∷ ZeroRttMsg ∷
    Multistreaming ∷ FullChecksumSend ∷ FullChecksumRecv ∷ CongestionControl ∷
    KeepAlive ∷ SoftErrorNotify ∷ ActiveReadBeforeSend ∷ []

-- a property's place in it
abbrev pub stack_place : StackProperty → ℕ
stack_place Reliability = 0
stack_place PreserveMsgBoundaries = 1
stack_place PerMsgReliability = 2
stack_place PreserveOrder = 3
stack_place ZeroRttMsg = 4
stack_place Multistreaming = 5
stack_place FullChecksumSend = 6
stack_place FullChecksumRecv = 7
stack_place CongestionControl = 8
stack_place KeepAlive = 9
stack_place SoftErrorNotify = 10
stack_place ActiveReadBeforeSend = 11
