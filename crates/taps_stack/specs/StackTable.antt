-- What each stack offers, and which families it carries (this project's own table over RFC 9622 section 6.2).
use Rattle.std.specs.Prelude.{ℕ, List, [], ◌∷◌, Bool, true, false}
use Rattle.taps_endpoint.specs.declared.address.Family.{Family}
use Rattle.taps_endpoint.specs.declared.address.Family.TheVariants as family
use Rattle.taps_property.specs.declared.stack_property.StackProperty.{StackProperty}
use Rattle.taps_property.specs.declared.stack_property.StackProperty.TheVariants.{Reliability, PreserveMsgBoundaries, PerMsgReliability, PreserveOrder, ZeroRttMsg, Multistreaming, FullChecksumSend, FullChecksumRecv, CongestionControl, KeepAlive, SoftErrorNotify, ActiveReadBeforeSend}
use Rattle.taps_stack.specs.declared.stack.Stack.{Stack}
use Rattle.taps_stack.specs.declared.stack.Stack.TheVariants.{Tcp, Unix, Udp}

-- the stacks in their order
abbrev pub stacks : List Stack
stacks = Tcp ∷ Unix ∷ Udp ∷ []

-- a stack's place in it
abbrev pub stack_place : Stack → ℕ
stack_place Tcp = 0
stack_place Unix = 1
stack_place Udp = 2

-- what a stream of bytes offers
abbrev pub stream_offers : StackProperty → Bool
stream_offers Reliability = true
stream_offers PreserveMsgBoundaries = false
stream_offers PerMsgReliability = false
stream_offers PreserveOrder = true
stream_offers ZeroRttMsg = false
stream_offers Multistreaming = false
stream_offers FullChecksumSend = true
stream_offers FullChecksumRecv = true
stream_offers CongestionControl = true
stream_offers KeepAlive = false
stream_offers SoftErrorNotify = false
stream_offers ActiveReadBeforeSend = true

-- what datagrams offer
abbrev pub datagrams_offer : StackProperty → Bool
datagrams_offer Reliability = false
datagrams_offer PreserveMsgBoundaries = true
datagrams_offer PerMsgReliability = false
datagrams_offer PreserveOrder = false
datagrams_offer ZeroRttMsg = false
datagrams_offer Multistreaming = false
datagrams_offer FullChecksumSend = true
datagrams_offer FullChecksumRecv = true
datagrams_offer CongestionControl = false
datagrams_offer KeepAlive = false
datagrams_offer SoftErrorNotify = false
datagrams_offer ActiveReadBeforeSend = false

-- what each stack offers
abbrev pub offers : Stack → StackProperty → Bool
offers Tcp property = stream_offers property
offers Unix property = stream_offers property
offers Udp property = datagrams_offer property

-- the families of addresses that each stack carries
abbrev pub carries : Stack → Family → Bool
carries Tcp family.Inet4 = true
carries Tcp family.Inet6 = true
carries Tcp family.Unix = false
carries Unix family.Inet4 = false
carries Unix family.Inet6 = false
carries Unix family.Unix = true
carries Udp family.Inet4 = true
carries Udp family.Inet6 = true
carries Udp family.Unix = false

-- the stack carries a stream of bytes
abbrev pub is_stream : Stack → Bool
is_stream Tcp = true
is_stream Unix = true
is_stream Udp = false
