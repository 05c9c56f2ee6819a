use Rattle.std.proofs.Common.{◌≡◌, ◌↔◌, ℕ, ◌+◌, ◌-◌, ◌*◌, ◌/◌, ◌<◌, ◌≤◌, true, false, length, sym, ◌∙◌, ap, subst, arith}
use Rattle.std.proofs.Math.Nat.{div-mul-le_self, mul-le-mul_right}
use Rattle.round_planner.specs.Quotas.{Planned, quotas_of}
use Rattle.machine.specs.Machine.{Running, after_rounds}
use Rattle.machine.specs.Untraced.{IsAfter, IsUntraced, Untraced}
use Rattle.serial_phase.specs.Decided.{are_alike, comes_back_within, is_back_in}
use Rattle.hunter.specs.Finding.{Moves}
use Rattle.hunter.proofs.Rounds.{at_none, at_some, then_after}
use Rattle.hunter.proofs.Turns.{asked_before, is_back, never_back}
use Rattle.hunter.proofs.looking.look_from.Goals as goal

pub returns-in_default-clause-run : goal.returns-in_default-clause-run
returns-in_default-clause-run g c =
    let r = c.row_count-rows.result in
    let k = c.args.rounds / r in
    let whole : k * r + (c.args.rounds - k * r) ≡ c.args.rounds = omega (arith, div-mul-le_self c.args.rounds r) in
    let back : IsAfter (k * r) c.args.machine.now c.go_back.new.machine = at_none c.in_ok-turn.field-0 _ _ c.in_default.is c.in_ok-turn.ensures.run in
    subst (λ (n : ℕ). IsAfter n c.args.machine.now c.go_on.new.machine) whole
    (then_after (k * r) (c.args.rounds - k * r) c.args.machine.now c.go_back.new.machine c.go_on.new.machine back c.in_ok-go_on.ensures.run)

pub returns-in_default-clause-back : goal.returns-in_default-clause-back
returns-in_default-clause-back g c = λ m is.
    let r = c.row_count-rows.result in
    let k = c.args.rounds / r in
    let same : r ≡ length m.plan.rows = c.row_count-rows.ensures.rows ∙ ap (λ (p : Planned). length p.rows) (c.plan.ensures ∙ is.plan) in
    let moves : Moves r (k + 1) m = at_none c.in_ok-turn.field-0 _ _ c.in_default.is (c.in_ok-turn.ensures.first m is) in
    subst (λ (n : ℕ). comes_back_within m.code m.plan.budget (quotas_of m.plan) n m.state c.args.rounds ≡ false) same
    (never_back m.code m.plan.budget (quotas_of m.plan) r (k + 1) c.args.rounds m.state (omega (arith, c.row_count-rows.ensures.some_rows)) moves (omega arith))

pub returns-then-branch-clause-run : goal.returns-then-branch-clause-run
returns-then-branch-clause-run g c =
    let r = c.row_count-rows.result in
    let k = c.args.rounds / r in
    let t = c.in-Some.turn in
    let ran = at_some c.in_ok-turn.field-0 t _ _ c.in-Some.is c.in_ok-turn.ensures.run in
    let whole : t * r + (c.args.rounds - t * r) ≡ c.args.rounds = omega (arith, div-mul-le_self c.args.rounds r, mul-le-mul_right {m = t} {n = k} r ran.1) in
    subst (λ (n : ℕ). IsAfter n c.args.machine.now c.go_on-then-branch.new.machine) whole
    (then_after (t * r) (c.args.rounds - t * r) c.args.machine.now c.go_back.new.machine c.go_on-then-branch.new.machine ran.2 c.in_ok-go_on-2.ensures.run)

pub returns-then-branch-clause-back : goal.returns-then-branch-clause-back
returns-then-branch-clause-back g c = λ m is.
    let r = c.row_count-rows.result in
    let t = c.in-Some.turn in
    let same : r ≡ length m.plan.rows = c.row_count-rows.ensures.rows ∙ ap (λ (p : Planned). length p.rows) (c.plan.ensures ∙ is.plan) in
    let moves = at_some c.in_ok-turn.field-0 t _ _ c.in-Some.is (c.in_ok-turn.ensures.first m is) in
    let start = subst (λ (u : Untraced). IsUntraced m u) (sym c.requires.start) is in
    subst (λ (n : ℕ). comes_back_within m.code m.plan.budget (quotas_of m.plan) n m.state c.args.rounds ≡ false) same
    (asked_before m.code m.plan.budget (quotas_of m.plan) r t c.args.rounds m.state moves.0 (sym (c.in_ok-asks_within.ensures m start) ∙ c.if-branch.true))

pub returns-clause-back : goal.returns-clause-back
returns-clause-back g c = λ m is.
    let r = c.row_count-rows.result in
    let t = c.in-Some.turn in
    let same : r ≡ length m.plan.rows = c.row_count-rows.ensures.rows ∙ ap (λ (p : Planned). length p.rows) (c.plan.ensures ∙ is.plan) in
    let moves = at_some c.in_ok-turn.field-0 t _ _ c.in-Some.is (c.in_ok-turn.ensures.first m is) in
    let start = subst (λ (u : Untraced). IsUntraced m u) (sym c.requires.start) is in
    subst (λ (n : ℕ). is_back_in m.code m.plan.budget (quotas_of m.plan) n m.state (t * r) ≡ true) same
    (is_back m.code m.plan.budget (quotas_of m.plan) r t m.state moves.1 (sym (c.in_ok-asks_within.ensures m start) ∙ c.if-branch.false))
