-- What a racer makes of events.
use Rattle.std.specs.Prelude.{ℕ, Bool, true, if◌then◌else◌, List, [], ◌∷◌, ◌++◌, map, Some}
use Rattle.std.specs.Option.{option_or}
use Rattle.taps_socket.specs.declared.item.How.{How}
use Rattle.taps_socket.specs.declared.item.How.TheVariants.{Reached, Completed, Broke, Faulted}
use Rattle.taps_socket.specs.declared.race_answer.RaceAnswer.TheVariants.{Ready}
use Rattle.taps_socket.specs.Winner.{place_of}
use Rattle.taps_racer.specs.declared.attempt.State.TheVariants as state
use Rattle.taps_racer.specs.declared.attempt.Attempt.TheVariants as attempt
use Rattle.taps_racer.specs.declared.event.Told.{Told}
use Rattle.taps_racer.specs.declared.event.Told.TheVariants.{Started, Refused, Waited, Closed}
use Rattle.taps_racer.specs.Attempts.{socket_of, marked}
use Rattle.taps_racer.specs.Kept.{Kept, standing_of}
use Rattle.taps_racer.specs.Commands.{command_of}
use Rattle.taps_racer.specs.Events.{answers}

-- what is kept after a wait that was told at a moment
abbrev pub after_wait : Kept → ℕ → How → Kept
after_wait kept at Reached = record kept { last = at }
after_wait kept at (Completed socket) =
    record kept {
      last = at;
      ready = option_or kept.ready (Some (Ready (place_of socket (map socket_of kept.attempts)) socket at));
      attempts = map (marked socket state.Completed) kept.attempts;
    }
after_wait kept at (Broke socket cause) =
    record kept { last = at; attempts = map (marked socket state.Broken) kept.attempts }
after_wait kept at Faulted = record kept { last = at; faulted = true }

-- what is kept after a used event
abbrev pub after : Kept → Told → Kept
after kept (Started leaf socket at) =
    record kept { last = at; last_attempt = at; attempts = kept.attempts ++ attempt.Started socket state.Pending ∷ [] }
after kept (Refused leaf cause at) =
    record kept { last = at; last_attempt = at; attempts = kept.attempts ++ attempt.Refused ∷ [] }
after kept (Waited until at how) = after_wait kept at how
after kept (Closed socket) = record kept { attempts = map (marked socket state.Closed) kept.attempts }

-- the event answers the command
abbrev pub is_used : Kept → Told → Bool
is_used kept event = answers (standing_of kept) (command_of kept) event

-- what is kept after any event
abbrev pub heard : Kept → Told → Kept
heard kept event = if is_used kept event then after kept event else kept

-- what a racer keeps after some events, one after another
abbrev pub heard_all : Kept → List Told → Kept
heard_all kept [] = kept
heard_all kept (event ∷ events) = heard_all (heard kept event) events

-- those of them that it uses
abbrev pub used_of : Kept → List Told → List Told
used_of kept [] = []
used_of kept (event ∷ events) =
    if is_used kept event then event ∷ used_of (heard kept event) events else used_of (heard kept event) events
