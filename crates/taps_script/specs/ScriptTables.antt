-- What is kept beside the lines of a script.
use Rattle.std.specs.Prelude.{◌≡◌, ◌<◌, ◌≤◌, ◌^◌, ℕ, List, length, Option, IfSome}
use Rattle.std.specs.Ordering.{nat_cmp}
use Rattle.std.specs.BTreeSet.{BTreeSet, contains}
use Rattle.taps_script.specs.declared.line.Line.{Line}
use Rattle.taps_script.specs.ScriptTexts.{LinesFit}
use Rattle.taps_script.specs.ScriptLines.{begin_in, late_in, is_to_fault}

-- it is what the lines say
pub record AreTables (lines : List Line) (begin late : Option ℕ) (faults : BTreeSet ℕ) : Type 0 where
  pub begin_is : begin ≡ begin_in lines
  pub fits : IfSome begin (λ moment. moment < 2 ^ 63)
  pub late_is : late ≡ late_in lines
  pub each_fits : LinesFit lines
  pub few : length lines ≤ 4096
  pub faults_are : (wait : ℕ) → contains nat_cmp faults wait ≡ is_to_fault lines wait
