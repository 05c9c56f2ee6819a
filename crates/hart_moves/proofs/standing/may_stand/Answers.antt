use Rattle.std.proofs.Common.{◌≡◌, ◌+◌, ◌<◌, true, IsTrue, ap, sym, ◌∙◌, subst, arith}
use Rattle.round_schedule.specs.declared.access.Access.{Access}
use Rattle.memory_order.specs.Operations.{covers}
use Rattle.memory_order.specs.declared.registers.Registers.{Registers}
use Rattle.pages.specs.Memory.{width_bytes}
use Rattle.rule_checker.specs.CarriedBounds.{AllowedBy}
use Rattle.run_bounds.specs.Bounds.{carried_of}
use Rattle.hart_states.specs.States.{state_of}
use Rattle.hart_moves.proofs.Found.{covers_at, stands_as}
use Rattle.hart_moves.proofs.standing.may_stand.Goals as goal

pub returns-then-not-allows_kind : goal.returns-then-not-allows_kind
returns-then-not-allows_kind c = λ v same does at stands.
    let s = stands_as (state_of c.args.state.now) v c.args.coming.now.instruction c.args.access.now c.args.time same (does ∙ sym c.requires.access) at stands in
    let yes : IsTrue c.allows_kind.result = c.allows_kind.ensures.1 s.kinds in
    cc

pub returns-then-not-allows_dependencies : goal.returns-then-not-allows_dependencies
returns-then-not-allows_dependencies c = λ v same does at stands.
    let s = stands_as (state_of c.args.state.now) v c.args.coming.now.instruction c.args.access.now c.args.time same (does ∙ sym c.requires.access) at stands in
    let yes : IsTrue c.allows_dependencies.result = c.allows_dependencies.ensures.1
    (subst (λ (u : Registers). AllowedBy (carried_of c.args.state.now.carried) u c.args.access.now c.args.time) (sym c.requires.coming.used) s.carried) in
    cc

pub returns-then-stores : goal.returns-then-stores
returns-then-stores c = λ v same does at stands.
    let o = c.args.coming.now.operation in
    let s = stands_as (state_of c.args.state.now) v c.args.coming.now.instruction c.args.access.now c.args.time same (does ∙ sym c.requires.access) at stands in
    c.stands_behind.ensures (λ k d l.
    let w : k < width_bytes o.width = omega (arith, l) in
    let there : covers c.args.access.now (o.address + k) ≡ true = ap (λ (y : Access). covers y (o.address + k)) c.requires.access ∙ covers_at o k w in
    let low = s.touched (o.address + k) (sym c.stores.ensures ∙ c.if-stores.true) there in
    let touched = c.requires.coming.span.touched k d w in
    omega (arith, low, touched))
