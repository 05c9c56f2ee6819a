use Rattle.std.proofs.Common.{◌≡◌, ◌∙◌, ℕ, List, ap, arith, get_or, length, subst, sym}
use Rattle.std.specs.Global.{Vec}
use Rattle.execution.specs.Executions.{Takes}
use Rattle.execution.proofs.Answering.{like_itself}
use Rattle.execution_checker.proofs.Followed.{at_none, no_step}
use Rattle.ending_judge.specs.JudgedEndings.{AreOutputs}
use Rattle.ending_judge.proofs.Lists.{written_back}
use Rattle.ending_judge.proofs.Outputs.{as_many, none_yet}
use Rattle.ending_judge.proofs.following.follow_told.Goals as goal

pub loop-index-init : goal.loop-index-init
loop-index-init c =
    let p = c.args.execution.now in
    record {
      like = like_itself p.memory;
      told = none_yet p.memory p.standing c.in_ok-outputs.outputs.items (c.in_ok-outputs.ensures.count ∙ ap length c.harts.ensures.harts) c.in_ok-outputs.ensures.none;
    }

pub loop-index-preserved : goal.loop-index-preserved
loop-index-preserved c =
    let m = c.args.execution.now.memory in
    let start = c.args.execution.now.standing in
    let i = c.loop-index.invariant in
    let q = c.loop-index.execution.standing in
    let r = c.take_told.new.execution.standing in
    let old = c.loop-index.outputs.items in
    let new = c.take_told.new.outputs in
    let step = get_or c.args.script.now c.loop-index.index no_step in
    let here = c.deref_mut.ensures.value in
    let taken : Takes m step q r = at_none c.in_ok-take_told.field-0 _ _ c.in-None.is c.in_ok-take_told.ensures.took m i.like in
    let told : AreOutputs m start r new =
    c.in_ok-take_told.ensures.told m start i.like c.in-None.is (subst (λ (os : List (Vec ℕ)). AreOutputs m start q os) (sym here) i.told) in
    let many : length new ≡ length old = told.count ∙ as_many m step q r taken ∙ sym i.told.count in
    record {
      like = c.in_ok-take_told.ensures.like m i.like;
      told = subst (λ (os : List (Vec ℕ)). AreOutputs m start r os)
          (sym (written_back c.loop-index.outputs.len new old (omega (arith, c.deref_mut.ensures.len, ap length here)) many)) told;
    }
