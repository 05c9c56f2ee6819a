-- How a run ends.
use Rattle.std.specs.Prelude.{ℕ, ◌==◌, ◌&&◌, Bool, false, List}
use Rattle.plan_hunt.specs.declared.hart_ending.HartEnding.{HartEnding}
use Rattle.plan_hunt.specs.declared.hart_ending.HartEnding.TheVariants.{Loops, Runs, Stopped}

pub record Ended : Type 0 where
  pub stops : List HartEnding
  pub output : List ℕ
  pub seen : List ℕ

abbrev pub ended : List HartEnding → List ℕ → List ℕ → Ended
ended stops output seen = record { stops = stops; output = output; seen = seen }

-- whether a hart exited with 0
abbrev pub ends_well : HartEnding → Bool
ends_well Runs = false
ends_well Loops = false
ends_well (Stopped s) = (s.code == 1) && (s.value == 0)
