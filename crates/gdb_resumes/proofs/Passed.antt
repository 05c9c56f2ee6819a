-- What is told in the rounds that a search has passed lies in the recording, and is told of a hart that there is.
use Rattle.std.proofs.Common.{◌≡◌, ℕ, ◌-◌, ◌≤◌, Option, Some, subst, arith}
use Rattle.machine.specs.Machine.{Running}
use Rattle.watching.specs.declared.watchpoint.Way.{Way}
use Rattle.watching.specs.declared.watchpoint.Way.TheVariants.{On, Back}
use Rattle.past_harts.specs.declared.point.Point.{Point}
use Rattle.round_steps.specs.declared.told.Told.{Told}
use Rattle.round_steps.specs.declared.points.Telling.{Telling}
use Rattle.gdb_runs.specs.declared.debugged.Debugged.{Debugged}
use Rattle.gdb_runs.specs.Sessions.{IsWithin, recorded_of}
use Rattle.gdb_runs.proofs.Recording.{IsBegun, next_within, previous_within}
use Rattle.gdb_resumes.specs.Searches.{IsPassed, left_of}

module _ (d : Debugged) (m : Running) (b : IsBegun d m) (t : Telling) (here : Point) (x : Told) where
  pub left_within : (way : Way) (n : ℕ) → n ≤ d.timeline.rounds → Some x ≡ left_of (recorded_of m d) way n t here → IsWithin d x.point
  left_within On n few e = next_within d m b t here x n (d.timeline.rounds - n) (omega (arith, few)) e
  left_within Back n few e = previous_within d m b t here x n few e

  pub passed_within : (way : Way) (n to : ℕ) → n ≤ d.timeline.rounds → (found : Option Told) → found ≡ Some x → IsPassed (recorded_of m d) way n to t here found → IsWithin d x.point
  passed_within way n to few found is passed =
      left_within way n few (subst (λ (o : Option Told). IsPassed (recorded_of m d) way n to t here o) is passed)
