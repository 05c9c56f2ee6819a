use Rattle.std.proofs.Common.{◌≡◌, ◌<◌, ℕ, false, true, slice_index_or}
use Rattle.plan_hunt.specs.Endings.{ends_well}
use Rattle.plan_hunt.specs.declared.hart_ending.HartEnding.{HartEnding}
use Rattle.fence_trials.specs.Well.{goes_on}
use Rattle.fence_trials.proofs.state.first_failed.Given as goal

-- those that were looked at and have stopped are well
abbrev pub invariant-loop-number : goal.invariant-loop-number
invariant-loop-number l = (i : ℕ) (d : HartEnding) → i < l.number → goes_on (slice_index_or l.harts i d) ≡ false → ends_well (slice_index_or l.harts i d) ≡ true
