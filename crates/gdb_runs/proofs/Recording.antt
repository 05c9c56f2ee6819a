-- What is told in a recording lies in it, and is told of a hart that there is.
use Rattle.std.proofs.Common.{◌≡◌, ℕ, ◌+◌, ◌-◌, ◌≤◌, length, Option, Some, None, sym, ap, subst, ◌∙◌, arith}
use Rattle.std.specs.Prelude.{IfSome, min}
use Rattle.machine.specs.Machine.{Running, after_rounds}
use Rattle.machine.specs.Untraced.{IsUntraced, Untraced}
use Rattle.watching.specs.declared.watchpoint.Way.{Way}
use Rattle.watching.specs.declared.watchpoint.Way.TheVariants.{On, Back}
use Rattle.past_harts.specs.declared.point.Point.{Point}
use Rattle.round_steps.specs.declared.told.Told.{Told}
use Rattle.round_steps.specs.declared.points.Telling.{Telling}
use Rattle.round_steps.specs.Points.{next_point_of, previous_point_of}
use Rattle.gdb_runs.specs.declared.debugged.Debugged.{Debugged}
use Rattle.gdb_runs.specs.Wanted.{nearest_of}
use Rattle.gdb_runs.specs.Sessions.{IsWithin, recorded_of}
use Rattle.gdb_runs.proofs.Harts.{IsOfHart, harts_after, next_of_hart, previous_of_hart}
use Rattle.gdb_runs.proofs.Within.{IsIn, next_is_in, previous_is_in, rounds_after}

-- the run that is looked at begins with no round done, and has so many harts
pub record IsBegun (d : Debugged) (m : Running) : Type 0 where
  pub rounds : m.state.rounds ≡ 0
  pub harts : length m.state.harts ≡ d.harts

pub begun : (d : Debugged) (m : Running) → IsUntraced m d.timeline.start → d.start ≡ d.timeline.start → d.start.rounds ≡ 0 → d.harts ≡ length d.start.harts → IsBegun d m
begun d m is start fresh all = record {
  rounds = sym is.rounds ∙ ap (λ (u : Untraced). u.rounds) (sym start) ∙ fresh;
  harts = ap length (sym is.harts) ∙ ap (λ (u : Untraced). length u.harts) (sym start) ∙ sym all;
}

module _ (d : Debugged) (m : Running) (b : IsBegun d m) (t : Telling) (here : Point) (x : Told) where
  pub next_within : (n k : ℕ) → n + k ≤ d.timeline.rounds → Some x ≡ next_point_of t.asked t.watches.items (after_rounds n m) k here → IsWithin d x.point
  next_within n k few e =
      let late = after_rounds n m in
      let in' : IsIn late.state.rounds k x = subst (λ (o : Option Told). IfSome o (IsIn late.state.rounds k)) (sym e) (next_is_in t.asked t.watches.items late here k) in
      let of : IsOfHart (length late.state.harts) x = subst (λ (o : Option Told). IfSome o (IsOfHart (length late.state.harts))) (sym e) (next_of_hart t.asked t.watches.items late here k) in
      let counted = rounds_after n m in
      let harts = harts_after n m in
      record { rounds = omega (arith, in'.1, b.rounds); hart = omega (arith, of, b.harts) }

  pub previous_within : (n : ℕ) → n ≤ d.timeline.rounds → Some x ≡ previous_point_of t.asked t.watches.items m n here → IsWithin d x.point
  previous_within n few e =
      let in' : IsIn m.state.rounds n x = subst (λ (o : Option Told). IfSome o (IsIn m.state.rounds n)) (sym e) (previous_is_in t.asked t.watches.items m here n) in
      let of : IsOfHart (length m.state.harts) x = subst (λ (o : Option Told). IfSome o (IsOfHart (length m.state.harts))) (sym e) (previous_of_hart t.asked t.watches.items m here n) in
      record { rounds = omega (arith, in'.1, b.rounds); hart = omega (arith, of, b.harts) }

  pub nearest_within : (way : Way) → here.moment.rounds ≤ d.timeline.rounds → Some x ≡ nearest_of (recorded_of m d) way t here → IsWithin d x.point
  nearest_within On few e = next_within here.moment.rounds (d.timeline.rounds - here.moment.rounds) (omega (arith, few)) e
  nearest_within Back few e = previous_within (min d.timeline.rounds (here.moment.rounds + 1)) (omega arith) e

-- what is found, if there is something
pub found_within : (d : Debugged) (m : Running) → IsBegun d m → (t : Telling) (here : Point) (way : Way) → here.moment.rounds ≤ d.timeline.rounds → (found : Option Told) →
    found ≡ nearest_of (recorded_of m d) way t here → IfSome found (λ (x : Told). IsWithin d x.point)
found_within d m b t here way few None e = tt
found_within d m b t here way few (Some x) e = nearest_within d m b t here x way few e
