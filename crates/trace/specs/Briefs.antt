-- Plain loads and stores and fences in brief.
use Rattle.std.specs.Prelude.{ℕ, ◌+◌, ◌%◌, ◌^◌, List}
use Rattle.std.specs.List.{flat_map}
use Rattle.round_schedule.specs.declared.access.Access.{Access}
use Rattle.round_schedule.specs.declared.access.Access.TheVariants as accesses
use Rattle.trace.specs.declared.brief_access.BriefAccess.{BriefAccess}
use Rattle.trace.specs.declared.brief_access.BriefAccess.TheVariants as briefs

-- the access, whose place is counted from a base
abbrev pub widened : ℕ → BriefAccess → Access
widened base (briefs.Load w p a v) = accesses.Load w ((base + p) % 2 ^ 64) a v
widened base (briefs.Store w p a v) = accesses.Store w ((base + p) % 2 ^ 64) a v
widened base (briefs.Fence p b a m) = accesses.Fence b a m ((base + p) % 2 ^ 64)

-- the accesses of groups, one group after another
abbrev pub in_turn : List (List Access) → List Access
in_turn groups = flat_map (λ group. group) groups
