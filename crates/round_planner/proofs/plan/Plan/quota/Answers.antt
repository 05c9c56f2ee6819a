use Rattle.std.proofs.Common.{◌<◌, ◌%◌, ◌-◌, length, ap, inl, inr, arith}
use Rattle.std.proofs.lemmas.List.{length-map}
use Rattle.round_planner.proofs.Checks.{quota_at, row_at_size}
use Rattle.round_planner.proofs.plan.Plan.quota.Goals as goal

pub index-requires-else-len-eq1 : goal.index-requires-else-len-eq1
index-requires-else-len-eq1 c =
    let rows = c.self.inside.rows in
    let counted = length-map rows.items (λ r. r.items) in
    let i : (c.args.round - 1) % c.len.result < length rows.items = omega (arith, c.len.ensures, counted, rows.ok.0, c.self.invariant.some_rows) in
    let size = row_at_size (λ r. r.items) c.self.inside.harts rows.items _ _ c.index-row.result.now c.self.invariant.sized i c.index-row.ensures in
    let same = ap (λ p. p.harts) c.self.view_is in
    elim size [
      | inl one ↦ absurd (c.if-len-eq1.false (omega (arith, one, c.len-2.ensures, c.index-row.result.now.ok.0)))
      | inr each ↦ omega (arith, each, same, c.index-row.result.now.ok.0, c.requires.hart)
    ]

pub returns-then-len-eq1-clause-in_range : goal.returns-then-len-eq1-clause-in_range
returns-then-len-eq1-clause-in_range c =
    let rows = c.self.inside.rows in
    let counted = length-map rows.items (λ r. r.items) in
    let i : (c.args.round - 1) % c.len.result < length rows.items = omega (arith, c.len.ensures, counted, rows.ok.0, c.self.invariant.some_rows) in
    quota_at (λ r. r.items) rows.items _ _ c.index-row.result.now 0 _ c.index.result.now c.self.invariant.in_range i c.index-row.ensures
    (omega (arith, c.if-len-eq1.true, c.len-2.ensures, c.index-row.result.now.ok.0)) c.index.ensures

pub returns-else-len-eq1-clause-in_range : goal.returns-else-len-eq1-clause-in_range
returns-else-len-eq1-clause-in_range c =
    let rows = c.self.inside.rows in
    let counted = length-map rows.items (λ r. r.items) in
    let i : (c.args.round - 1) % c.len.result < length rows.items = omega (arith, c.len.ensures, counted, rows.ok.0, c.self.invariant.some_rows) in
    let size = row_at_size (λ r. r.items) c.self.inside.harts rows.items _ _ c.index-row.result.now c.self.invariant.sized i c.index-row.ensures in
    let same = ap (λ p. p.harts) c.self.view_is in
    let within : c.args.hart < length c.index-row.result.now.items = elim size [
      | inl one ↦ absurd (c.if-len-eq1.false (omega (arith, one, c.len-2.ensures, c.index-row.result.now.ok.0)))
      | inr each ↦ omega (arith, each, same, c.requires.hart)
    ] in
    quota_at (λ r. r.items) rows.items _ _ c.index-row.result.now c.args.hart _ c.index-else-len-eq1.result.now c.self.invariant.in_range i c.index-row.ensures
    within c.index-else-len-eq1.ensures
