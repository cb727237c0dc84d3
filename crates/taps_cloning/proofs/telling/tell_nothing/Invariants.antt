use Rattle.std.proofs.Common.{◌≡◌, ◌≤◌, ◌-◌, length}
use Rattle.taps_cloning.specs.Telling.{TellNothing}
use Rattle.taps_cloning.proofs.telling.tell_nothing.Given as goal

abbrev pub invariant-telling : goal.invariant-telling
invariant-telling l =
    record {
      few : l.place ≤ l.members;
      count : length l.told.items ≡ l.place;
      room : l.members - l.place ≤ l.told.spare;
      nothing : TellNothing l.told.items;
    }

abbrev pub decreases-telling : goal.decreases-telling
decreases-telling l = l.members - l.place
