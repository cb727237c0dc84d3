-- How sockets in memory go from call to call.
use Rattle.std.proofs.Common.{List, [], ◌++◌, refl, sym, ◌∙◌, subst, append_assoc}
use Rattle.taps_socket.specs.Calls.{Call}
use Rattle.taps_socket.specs.Shown.{shows_none, shows_on}
use Rattle.taps_memory.specs.Memory.{Memory, net_of, Represents, StaysMemory}

-- no call
pub goes_none : (a : Memory) → StaysMemory a [] a
goes_none a = record { setting = refl; shows = shows_none (net_of a); represents = λ earlier r. r }

-- calls, and then others
pub goes_on : (a b c : Memory) (first then : List Call) → StaysMemory a first b
    → StaysMemory b then c → StaysMemory a (then ++ first) c
goes_on a b c first then p q =
    record {
      setting = q.setting ∙ p.setting;
      shows = shows_on (net_of a) (net_of b) (net_of c) first then p.shows q.shows;
      represents = λ earlier r. subst (Represents c) (sym (append_assoc then first earlier))
          (q.represents (first ++ earlier) (p.represents earlier r));
    }
