-- What a command says of the searches that found it.
use Rattle.std.proofs.Common.{◌≡◌, ℕ, Bool, true, false, refl, subst, if◌then◌else◌}
use Rattle.std.specs.Prelude.{min, Option, None, Some}
use Rattle.std.specs.List.{reduce}
use Rattle.std.specs.Option.{option_map_or}
use Rattle.taps_socket.specs.declared.race_answer.RaceAnswer.{RaceAnswer}
use Rattle.taps_socket.specs.Standing.{Standing, losers}
use Rattle.taps_socket.specs.Rules.{Rules}
use Rattle.taps_socket.specs.Over.{over}
use Rattle.taps_socket.specs.Turn.{is_due, wait_end}
use Rattle.taps_racer.specs.declared.command.Command.{Command}
use Rattle.taps_racer.specs.declared.command.Command.TheVariants.{Start, Wait, Close, Finish}
use Rattle.taps_racer.specs.Commands.{command}

-- an answer o, the smallest loser l, the smallest broken socket b, whether the leaf n is due, and the end of a wait
abbrev pub Says : Option RaceAnswer → Option ℕ → Option ℕ → Bool → ℕ → ℕ → Command → Type 0
Says o l b due n end (Start leaf) = (o ≡ None) × (b ≡ None) × (due ≡ true) × (leaf ≡ n)
Says o l b due n end (Wait until) = (o ≡ None) × (b ≡ None) × (due ≡ false) × (until ≡ end)
Says None l b due n end (Close s) = b ≡ Some s
Says (Some a) l b due n end (Close s) = l ≡ Some s
Says o l b due n end (Finish a) = (o ≡ Some a) × (l ≡ None)

says : (o : Option RaceAnswer) (l b : Option ℕ) (due : Bool) (n end : ℕ) → Says o l b due n end (option_map_or (λ a. option_map_or (λ s. Close s) l (Finish a)) o (option_map_or (λ s. Close s) b (if due then Start n else Wait end)))
says (Some a) (Some s) b due n end = refl
says (Some a) None b due n end = (refl, refl)
says None l (Some s) due n end = refl
says None l None true n end = (refl, refl, refl, refl)
says None l None false n end = (refl, refl, refl, refl)

abbrev pub SaysOf : Rules → Standing → Command → Type 0
SaysOf rules race c = Says (over rules race) (reduce min (losers race)) (reduce min race.broken) (is_due rules race) race.attempts (wait_end rules race) c

pub says_of : (rules : Rules) (race : Standing) (c : Command) → command rules race ≡ c → SaysOf rules race c
says_of rules race c e = subst (SaysOf rules race) e (says (over rules race) (reduce min (losers race)) (reduce min race.broken) (is_due rules race) race.attempts (wait_end rules race))

-- the command of a close, by whether the race is over
pub closes_by : {P : Type 0} (o : Option RaceAnswer) (l b : Option ℕ) (due : Bool) (n end s : ℕ) → Says o l b due n end (Close s) → (b ≡ Some s → P) → (l ≡ Some s → P) → P
closes_by None l b due n end s h broken loser = broken h
closes_by (Some a) l b due n end s h broken loser = loser h
