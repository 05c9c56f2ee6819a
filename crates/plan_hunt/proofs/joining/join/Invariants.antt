use Rattle.std.proofs.Common.{◌≡◌, ℕ, ◌+◌, ◌^◌, ◌<◌, ◌++◌}
use Rattle.std.specs.Vec.Iter.{into_iter_items}
use Rattle.plan_hunt.specs.Endings.{Ended}
use Rattle.plan_hunt.specs.Joining.{IsPart}
use Rattle.plan_hunt.specs.Tables.{IsTable}
use Rattle.plan_hunt.proofs.joining.join.Given as goal

-- the rows that were joined and those that are left make up the table; the first are joined
abbrev pub invariant-loop-other : goal.invariant-loop-other
invariant-loop-other l = record {
  left : l.yielded ++ into_iter_items l.other-iterator ≡ l.fn.others.items;
  part : (ends : ℕ → Ended) (first n m : ℕ) → IsTable ends first n l.fn.rows.items → IsTable ends (first + n) m l.fn.others.items → n + m < 2 ^ 32 → IsPart ends first n m l.yielded l.rows.items;
}
