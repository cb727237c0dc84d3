use Rattle.std.proofs.Common.{◌≡◌, List, not, subst, ap}
use Rattle.std.specs.Prelude.{min, Option, Some, None}
use Rattle.std.specs.List.{filter, filter_map, reduce}
use Rattle.std.specs.Option.{option_map_or}
use Rattle.taps_socket.specs.Winner.{is_winner}
use Rattle.taps_racer.specs.declared.attempt.Attempt.{Attempt}
use Rattle.taps_racer.specs.declared.command.Command.TheVariants.{Close, Finish}
use Rattle.taps_racer.specs.Attempts.{open_socket}
use Rattle.taps_racer.specs.Commands.{ending}
use Rattle.taps_racer.specs.Kept.{standing_of}
use Rattle.taps_racer.proofs.race.Race.ending.Goals as goal

pub returns-in-Some : goal.returns-in-Some
returns-in-Some c =
    let found = subst (λ (xs : List Attempt). Some c.in-Some.socket ≡ reduce min (filter (λ s. not (is_winner c.self.inside.ready s)) (filter_map open_socket xs))) c.deref.ensures.value c.in-Some.ensures in
    subst (λ k. Close c.in-Some.socket ≡ ending (standing_of k) c.args.answer) c.self.view_is (ap (λ o. option_map_or (λ s. Close s) o (Finish c.args.answer)) found)

pub returns-in-None : goal.returns-in-None
returns-in-None c =
    let found = subst (λ (xs : List Attempt). None ≡ reduce min (filter (λ s. not (is_winner c.self.inside.ready s)) (filter_map open_socket xs))) c.deref.ensures.value c.in-None.ensures in
    subst (λ k. Finish c.args.answer ≡ ending (standing_of k) c.args.answer) c.self.view_is (ap (λ o. option_map_or (λ s. Close s) o (Finish c.args.answer)) found)
