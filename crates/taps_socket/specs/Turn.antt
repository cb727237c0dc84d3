-- Whose turn it is in a race (RFC 9623 section 4.3.2, RFC 8305 section 5; the rules in detail are this project's own).
use Rattle.std.specs.Prelude.{ℕ, ◌+◌, Bool, false, ◌&&◌, ◌||◌, ◌==◌, nat_le, nat_lt, min, length, slice_get, Option, None, Some}
use Rattle.std.specs.Option.{option_map_or}
use Rattle.taps_base.specs.declared.gap.Gap.{Gap}
use Rattle.taps_base.specs.declared.gap.Gap.TheVariants.{After}
use Rattle.taps_socket.specs.Rules.{Rules}
use Rattle.taps_socket.specs.Standing.{Standing}

-- the end of a gap that begins at a moment, if it has one
abbrev pub gap_after : Option Gap → ℕ → Option ℕ
gap_after (Some (After gap)) from = Some (from + gap)
gap_after _ from = None

-- the end of the next leaf's gap, counted from the newest attempt, if there is such a leaf and such an end
abbrev pub gap_end : Rules → Standing → Option ℕ
gap_end rules race = gap_after (slice_get rules.gaps race.attempts) race.last_attempt

-- the next leaf is due: there is one, and it is the first, or no socket is pending, or its gap was told as passed
abbrev pub is_due : Rules → Standing → Bool
is_due rules race =
    nat_lt race.attempts (length rules.gaps)
    && ((race.attempts == 0) || (length race.pending == 0)
    || option_map_or (λ end. nat_le end race.last) (gap_end rules race) false)

-- the lesser of a moment and one that may be missing
abbrev pub sooner : ℕ → Option ℕ → ℕ
sooner moment other = option_map_or (λ end. min moment end) other moment

-- when the application gives the race up, if it does
abbrev pub cancel_end : Rules → Standing → Option ℕ
cancel_end rules race = option_map_or (λ cancel. Some (race.begun + cancel)) rules.cancel None

-- the moment up to which a wait goes: the least of the race's end, the application's end and the end of the next leaf's
-- gap
abbrev pub wait_end : Rules → Standing → ℕ
wait_end rules race = sooner (sooner (race.begun + rules.timeout) (cancel_end rules race)) (gap_end rules race)
