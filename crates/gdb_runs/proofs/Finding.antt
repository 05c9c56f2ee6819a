-- What is found is the nearest point at which something is told that is asked for.
use Rattle.std.proofs.Common.{◌≡◌, Option, Result}
use Rattle.std.specs.Prelude.{IfOk}
use Rattle.std.proofs.lemmas.Result.{IfOk-weaker}
use Rattle.watching.specs.declared.watchpoint.Way.{Way}
use Rattle.past_harts.specs.declared.point.Point.{Point}
use Rattle.round_steps.specs.declared.told.Told.{Told}
use Rattle.round_steps.specs.declared.points.Telling.{Telling}
use Rattle.gdb_runs.specs.Wanted.{AsksFor, Finds, Wanted, nearest_of}
use Rattle.gdb_runs.specs.Sessions.{Recorded}

pub nearest_found : (r : Recorded) (way : Way) (w : Wanted) (here : Point) (telling : Telling) → AsksFor w telling →
    {E : Type 0} (res : Result (Option Told) E) → IfOk res (λ x. x ≡ nearest_of r way telling here) → IfOk res (λ x. Finds r way w here x)
nearest_found r way w here telling asks res same =
    IfOk-weaker res (λ x. x ≡ nearest_of r way telling here) (λ x. Finds r way w here x) (λ x e. record { telling = telling; asks = asks; is = e }) same
