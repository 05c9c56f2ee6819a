use Rattle.std.proofs.Common.{◌≡◌, ◌+◌, false}
use Rattle.plan_hunt.specs.Extents.{IsTally}
use Rattle.plan_hunt.specs.Slots.{AreSlots}
use Rattle.plan_hunt.proofs.block.finish.Given as goal

-- the table of the plans so far, and the slots
abbrev pub invariant-loop-index : goal.invariant-loop-index
invariant-loop-index g l = record {
  done : l.tally.done ≡ l.initial.tally.done + l.index;
  going : l.tally.is_over ≡ false;
  tally : IsTally (g.Q.Runs.ends l.runs) l.extent l.tally.is_over l.tally.done l.tally.rows.items;
  slots : AreSlots (g.Q.Runs.ends l.runs) (l.extent.first + l.initial.tally.done) l.slots;
}
