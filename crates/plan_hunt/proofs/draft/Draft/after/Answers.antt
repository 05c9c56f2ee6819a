use Rattle.std.proofs.Common.{◌≡◌, ℕ, ◌<◌, ◌≤◌, List, Vec, Global, length, map, arith, ap, ◌∙◌}
use Rattle.std.proofs.lemmas.Grind.{common_steps}
use Rattle.std.proofs.lemmas.List.{length-map}
use Rattle.round_planner.specs.Quotas.{planned}
use Rattle.plan_hunt.specs.Steps.{rows_after}
use Rattle.plan_hunt.specs.Tried.{IsDraft}
use Rattle.plan_hunt.specs.declared.step.Step.{Step}
use Rattle.plan_hunt.proofs.Accepted.{after_accepted}
use Rattle.plan_hunt.proofs.draft.Draft.after.Goals as goal

abbrev quotas : List (Vec ℕ Global) → List (List ℕ)
quotas rows = map (λ (r : Vec ℕ Global). r.items) rows

drafted : (harts budget : ℕ) (s : Step) (rows next : List (Vec ℕ Global)) → IsDraft (planned harts (quotas rows) budget) → s.row < length rows → quotas next ≡ rows_after s (quotas rows) → 1 ≤ length next →
    IsDraft (planned harts (quotas next) budget)
drafted harts budget s rows next h l e some = record {
  some_harts = h.some_harts;
  few_harts = h.few_harts;
  some_rows = omega (arith, some, length-map next (λ (r : Vec ℕ Global). r.items));
  accepted = rw e (after_accepted harts s (quotas rows) (omega (arith, l, length-map rows (λ (r : Vec ℕ Global). r.items))) h.accepted);
  some_budget = h.some_budget;
  few_budget = h.few_budget;
}

pub invariant_of-smaller : goal.invariant_of-smaller
invariant_of-smaller c =
    let within : c.args.step.row < length c.self.inside.rows.items = omega (arith, c.if-step-len.false) in
    let some : 1 ≤ length c.in-Ok.rows.items = grind (arith, common_steps) in
    drafted c.self.inside.harts c.self.inside.budget c.args.step c.self.inside.rows.items c.in-Ok.rows.items c.self.invariant within
    (c.in-Ok.ensures ∙ ap (λ (xs : List (Vec ℕ Global)). rows_after c.args.step (quotas xs)) c.deref.ensures.value) some

pub invariant_of-smaller-2 : goal.invariant_of-smaller-2
invariant_of-smaller-2 c =
    let within : c.args.step.row < length c.self.inside.rows.items = omega (arith, c.if-step-len.false) in
    let some : 1 ≤ length c.in-Ok.rows.items = grind (arith, common_steps) in
    drafted c.self.inside.harts c.self.inside.budget c.args.step c.self.inside.rows.items c.in-Ok.rows.items c.self.invariant within
    (c.in-Ok.ensures ∙ ap (λ (xs : List (Vec ℕ Global)). rows_after c.args.step (quotas xs)) c.deref.ensures.value) some
