-- Ends of harts as the checker of all endings tells them, and endings that are news.
use Rattle.std.specs.Prelude.{◌≡◌, ℕ, true, All, Contains, List, Option, Some, is_some, map}
use Rattle.ending_judge.specs.JudgedEndings.{ending_in, stop_of}
use Rattle.endings_table.specs.declared.fence_need.Need.{Need}
use Rattle.endings_table.specs.declared.fence_need.Need.TheVariants.{Needed, Waits}
use Rattle.endings_table.specs.declared.found_ending.FoundEnding.{FoundEnding}
use Rattle.hart_step.specs.declared.hart.Stop.{Stop}
use Rattle.hart_ends.specs.declared.ends.HartEnd.{HartEnd}

abbrev pub stop_told : HartEnd → Option Stop
stop_told e = Some e.stop

abbrev pub output_told : HartEnd → List ℕ
output_told e = e.output.items

-- an ending, in which all harts stop, is none of the others
pub record HasNews (es others : List FoundEnding) : Type 0 where
  pub ending : FoundEnding
  pub there : Contains es ending
  pub stopped : All (λ s. is_some s ≡ true) (map stop_of ending.ends.items)
  pub is_new : Contains (map ending_in others) (ending_in ending) → ⊥

-- they show so much of the need of a fence
abbrev pub AreNews : List FoundEnding → List FoundEnding → Need → Type 0
AreNews es others Needed = HasNews es others
AreNews es others Waits = Unit {0}
AreNews es others need = ⊥
