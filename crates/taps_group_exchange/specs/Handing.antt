-- Which messages the members of a group accept of those that they are handed, and in which order (RFC 9622 section
-- 9.2).
use Rattle.std.specs.Prelude.{◌==◌, ℕ, List, [], ◌∷◌, ◌++◌, filter, map, Option, Some, None}
use Rattle.taps_message.specs.declared.message.Message.{Message}
use Rattle.taps_message.specs.declared.queued.PushError.{PushError}
use Rattle.taps_message.specs.Queues.{Queue, empty_queue, push_refusal}
use Rattle.taps_exchange.specs.Accepting.{handed}
use Rattle.taps_group_exchange.specs.declared.addressed.Addressed.{Addressed}

-- the messages of a member, by its place, in their order
abbrev pub messages_for : ℕ → List Addressed → List Message
messages_for place addressed =
    map (λ (a : Addressed). a.message) (filter (λ (a : Addressed). a.member == place) addressed)

-- what a member's queue holds once the members were handed these messages at a time
abbrev pub queue_of : ℕ → List Addressed → ℕ → Queue
queue_of at addressed place = handed at empty_queue (messages_for place addressed)

-- the place of a message's member, unless it is refused
abbrev pub place_unless : Option PushError → ℕ → List ℕ
place_unless (Some refusal) place = []
place_unless None place = place ∷ []

-- for each message that is accepted behind earlier ones, in their order, the place of its member
abbrev pub order_behind : ℕ → List Addressed → List Addressed → List ℕ
order_behind at earlier [] = []
order_behind at earlier (a ∷ addressed) =
    place_unless (push_refusal (queue_of at earlier a.member) a.message) a.member
    ++ order_behind at (earlier ++ a ∷ []) addressed

abbrev pub order_of : ℕ → List Addressed → List ℕ
order_of at addressed = order_behind at [] addressed
