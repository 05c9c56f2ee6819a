use Rattle.std.proofs.Common.{◌≡◌, ◌++◌, take, map}
use Rattle.plan_hunt.proofs.changing.add_copies.Given as goal

-- the copies so far
abbrev pub invariant-loop-other : goal.invariant-loop-other
invariant-loop-other l = map (λ r. r.items) l.rows.items ≡ map (λ r. r.items) l.fn.rows.items ++ map (λ r. r.items) (take l.other-index l.others)
