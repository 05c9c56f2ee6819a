-- A hart makes one access an instruction at most.
use Rattle.std.proofs.Common.{ℕ, zero, suc, ◌+◌, ◌≤◌, Bool, true, false, cond, Option, Some, None, List, length, arith, length-append}
use Rattle.std.specs.Prelude.{option_to_list}
use Rattle.round_schedule.specs.declared.access.Access.{Access}
use Rattle.round_schedule.specs.declared.access.Stepped.{Stepped}
use Rattle.round_schedule.specs.declared.access.Stepped.TheVariants.{Done, Waits, Stopped}
use Rattle.round_schedule.specs.Schedule.{Words, HartRound, StepOutcome as Left, Progress, by_answer, ended, next_of, round_from, went}
use Rattle.hart_step.specs.declared.hart.Hart.{Hart}
use Rattle.hart_step.specs.Console.{ConsoleState}

one_access : (a : Option Access) → length (option_to_list a) ≤ 1
one_access None = omega arith
one_access (Some a) = omega arith

answered : (y : Stepped) (p : Progress Hart) (o : Left Hart) (f : Progress Hart → HartRound Hart) (n : ℕ) → ((q : Progress Hart) → length (f q).last.accesses ≤ length q.accesses + n) →
    length (by_answer y p o f).last.accesses ≤ length p.accesses + suc n
answered (Done a) p o f n h = omega (arith, h (went p o a), length-append p.accesses (option_to_list a), one_access a)
answered Waits p o f n h = omega arith
answered (Stopped code) p o f n h = omega arith

either : (b : Bool) (k : ℕ) (x y : HartRound Hart) → length x.last.accesses ≤ k → length y.last.accesses ≤ k → length (cond b x y).last.accesses ≤ k
either true k x y l m = l
either false k x y l m = m

pub few_of_round : (W : Words Hart ConsoleState) (bs : List ℕ) (n : ℕ) (p : Progress Hart) → length (round_from W bs n p).last.accesses ≤ length p.accesses + n
unfolding round_from
few_of_round W bs zero p = omega arith
few_of_round W bs (suc n) p =
    either (W.stopped p.hart) (length p.accesses + suc n) (ended p false) _ (omega arith) (answered (next_of W bs p).answer p (next_of W bs p) (round_from W bs n) n (few_of_round W bs n))
