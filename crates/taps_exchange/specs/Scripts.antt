-- Scripted sockets: what comes of a request is a function of the calls before it.
use Rattle.std.specs.Prelude.{◌≡◌, List, [], ◌∷◌, ◌++◌}
use Rattle.taps_socket.specs.Calls.{Call, Request, request_of}
use Rattle.taps_exchange.specs.declared.outcome.Outcome.{Outcome}
use Rattle.taps_exchange.specs.Turns.{Turn, IsExchange}

-- each call, with its answer, is what comes of its request
abbrev pub Follows : (List Call → Request → Call) → List Call → Type 0
Follows script [] = Unit {0}
Follows script (call ∷ earlier) = (call ≡ script earlier (request_of call)) × Follows script earlier

-- a script determines an exchange and its outcome, also behind the same earlier calls, as those of a race
abbrev pub ExchangeIsUnique : (List Call → Request → Call) → (List Call → Turn) → Type 0
ExchangeIsUnique script turn = (earlier calls others : List Call) (o p : Outcome) →
    IsExchange turn calls o → Follows script (calls ++ earlier) →
    IsExchange turn others p → Follows script (others ++ earlier) → (others ≡ calls) × (p ≡ o)
