use Rattle.std.proofs.Common.{ℕ, ◌<◌, ◌^◌, List, Vec, Global, arith, map, subst, sym}
use Rattle.plan_hunt.specs.Steps.{size}
use Rattle.plan_hunt.proofs.Sizes.{size_fits}
use Rattle.plan_hunt.proofs.draft.Draft.size.Goals as goal

pub size-requires : goal.size-requires
size-requires c =
    subst (λ (xs : List (Vec ℕ Global)). size (map (λ r. r.items) xs) < 2 ^ 64) (sym c.deref.ensures.value)
    (omega (arith, size_fits c.self.inside.harts (map (λ r. r.items) c.self.inside.rows.items) c.self.invariant.some_harts c.self.invariant.few_harts c.self.invariant.accepted))
