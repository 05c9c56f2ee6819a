use Rattle.std.proofs.Common.{◌≡◌, ◌<◌, ◌∙◌, ℕ, List, ap, ap₂, arith, drop, inl, inr, length, refl, subst}
use Rattle.execution_checker.proofs.Followed.{at_none}
use Rattle.ending_judge.specs.JudgedEndings.{IsPutOut}
use Rattle.ending_judge.proofs.Outputs.{one_step}
use Rattle.ending_judge.proofs.following.take_told.Goals as goal

pub returns-in_ok-put_out-in-None-clause-told : goal.returns-in_ok-put_out-in-None-clause-told
returns-in_ok-put_out-in-None-clause-told c =
    let q = c.args.execution.now.standing in
    let r = c.take_step.new.self.standing in
    let old = c.args.outputs.now in
    let new = c.put_out.new.outputs in
    let more : length q.events < length r.events = omega (arith, c.if-events-done.true, ap length c.events.ensures, ap length c.events-in-None.ensures) in
    let put : c.from-then-events-done.result.now ≡ drop (length q.console.output) r.console.output =
    c.from-then-events-done.ensures ∙ ap₂ (λ (n : ℕ) (bs : List ℕ). drop n bs) (ap length c.output.ensures) c.output-then-events-done.ensures in
    let told : IsPutOut c.args.step.hart (drop (length q.console.output) r.console.output) old new =
    subst (λ (h : ℕ). IsPutOut h (drop (length q.console.output) r.console.output) old new) c.from.ensures
    (subst (λ (bs : List ℕ). IsPutOut c.from.result bs old new) put c.in_ok-put_out-in-None.ensures) in
    λ image p like none was.
    one_step image c.args.step p q r old new (at_none c.in_ok-fault.field-0 _ _ c.in-None.is c.in_ok-fault.ensures.took image like) (inl (more, told)) was

pub returns-else-events-done-clause-told : goal.returns-else-events-done-clause-told
returns-else-events-done-clause-told c =
    let q = c.args.execution.now.standing in
    let r = c.take_step.new.self.standing in
    λ image p like none was.
    one_step image c.args.step p q r c.args.outputs.now c.args.outputs.now (at_none c.in_ok-fault.field-0 _ _ c.in-None.is c.in_ok-fault.ensures.took image like)
    (inr (omega (arith, c.if-events-done.false, ap length c.events.ensures, ap length c.events-in-None.ensures), refl)) was
