-- What a client leaves that races, and then exchanges messages over the winner's socket.
use Rattle.std.specs.Prelude.{◌≡◌, ◌⊎◌, ℕ, List, slice_get, Some, Result, Ok, Err}
use Rattle.std.specs.Option.{option_map}
use Rattle.taps_base.specs.declared.no_memory.NoMemory.{NoMemory}
use Rattle.taps_framer.specs.Layers.{Layer}
use Rattle.taps_message.specs.declared.message.Message.{Message}
use Rattle.taps_stack.specs.declared.stack.Stack.{Stack}
use Rattle.taps_socket.specs.declared.race_answer.RaceAnswer.{RaceAnswer}
use Rattle.taps_socket.specs.declared.race_answer.RaceAnswer.TheVariants.{Ready}
use Rattle.taps_socket.specs.Calls.{Call}
use Rattle.taps_socket.specs.Net.{Net, with_spare}
use Rattle.taps_exchange.specs.declared.exchanged.Exchanged as exchanges
use Rattle.taps_exchange.specs.Accepting.{accepted_of}
use Rattle.taps_exchange.specs.Exchanged.{member_over, HasExchanged}
use Rattle.taps_exchange.specs.Members.{Member}
use Rattle.taps_example_client.specs.declared.client.Called.{Called}
use Rattle.taps_example_client.specs.declared.client.Called.TheVariants.{NoWinner, Exchanged}
use Rattle.taps_example_client.specs.declared.plan.Planned.{Planned}
use Rattle.taps_example_client.specs.Races.{HasRaced}

-- what a client wants: messages sent through these layers, and so many heard, up to a time
pub record Wants : Type 0 where
  pub layers : List Layer
  pub messages : List Message
  pub needs : ℕ
  pub until : ℕ

abbrev pub wants : List Layer → List Message → ℕ → ℕ → Wants
wants layers messages needs until = record { layers = layers; messages = messages; needs = needs; until = until }

-- its connection over a socket of a stack, which accepts the messages at a time
abbrev pub member_of : Wants → ℕ → Stack → ℕ → Member
member_of w socket stack at = member_over socket stack w.layers (accepted_of at w.messages) at w.needs 4096 w.until

-- the messages were exchanged over the winner's socket, whose stack is that of its leaf, and then it was closed
pub record Exchanges {N : Type 0} (show : N → Net) (Becomes : N → List Call → N → Type 0) (planned : Planned)
    (w : Wants) (leaf socket at : ℕ) (raced after : N) (result : Result exchanges.Exchanged NoMemory) : Type 0 where
  pub stack : Stack
  pub of_leaf : option_map (λ l. l.target.stack) (slice_get planned.plan.leaves.items leaf) ≡ Some stack
  pub exchanged : HasExchanged Becomes raced after (show raced) (show after) (member_of w socket stack at) result

-- behind a race with this answer messages are exchanged over the winner's socket, if there is one
abbrev pub GoesOn : {N : Type 0} → (N → Net) → (N → List Call → N → Type 0) → Planned → Wants → RaceAnswer → N → N →
    Result Called NoMemory → Type 0
GoesOn show Becomes planned w (Ready leaf socket at) raced after (Ok (Exchanged e)) =
    Exchanges show Becomes planned w leaf socket at raced after (Ok e)
GoesOn show Becomes planned w (Ready leaf socket at) raced after (Ok (NoWinner answer)) = ⊥
GoesOn show Becomes planned w (Ready leaf socket at) raced after (Err none) =
    Exchanges show Becomes planned w leaf socket at raced after (Err none)
GoesOn show Becomes planned w answer raced after result = (after ≡ raced) × (result ≡ Ok (NoWinner answer))

-- the race of a plan was carried out, and so it went on
pub record IsCall {N : Type 0} (show : N → Net) (Becomes : N → List Call → N → Type 0) (planned : Planned) (w : Wants)
    (before after : N) (result : Result Called NoMemory) : Type 0 where
  pub raced : N
  pub answer : RaceAnswer
  pub race : HasRaced planned (show before) (show raced) answer
  pub goes_on : GoesOn show Becomes planned w answer raced after result

-- so it is, or want of memory let nothing begin
abbrev pub HasCalled : {N : Type 0} → (N → Net) → (N → List Call → N → Type 0) → Planned → Wants → N → N →
    Result Called NoMemory → Type 0
HasCalled show Becomes planned w before after (Ok called) = IsCall show Becomes planned w before after (Ok called)
HasCalled show Becomes planned w before after (Err none) =
    (show after ≡ with_spare (show before) (show after).spare) ⊎ IsCall show Becomes planned w before after (Err none)
