use Rattle.std.proofs.Common.{◌≡◌, ◌≤◌, ℕ, get_or, take}
use Rattle.round_schedule.specs.Schedule.{hart_rounds}
use Rattle.hart_step.specs.Words.{words_of}
use Rattle.guest_rounds.specs.HartEnds.{AreEndsOf}
use Rattle.hart_rounds.specs.declared.hart_end.HartEnd.{HartEnd}
use Rattle.guest_rounds.proofs.parallel.rounds_in_place.Given as goal

abbrev pub invariant-loop-number : goal.invariant-loop-number
invariant-loop-number g l = record {
  done : AreEndsOf l.start.logs l.start.memory (hart_rounds (words_of l.start.memory.code) l.start.memory.bytes l.start.quotas (take l.number l.start.harts)) (take l.number l.ends);
  rest : (k : ℕ) (o : HartEnd) → l.number ≤ k → get_or l.ends k o ≡ get_or l.fn.ends k o;
}
