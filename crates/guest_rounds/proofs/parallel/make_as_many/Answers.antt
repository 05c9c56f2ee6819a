use Rattle.std.proofs.Common.{◌≡◌, ℕ, List, get_or, length, rules, sym, ap, ◌∙◌, subst, arith}
use Rattle.std.proofs.lemmas.List.{get_or_default}
use Rattle.hart_step.specs.declared.hart.Hart.{Hart}
use Rattle.guest_rounds.specs.HartEnds.{StoppedStay, harts_of}
use Rattle.hart_rounds.specs.declared.hart_end.HartEnd.{HartEnd}
use Rattle.guest_rounds.proofs.StoppedHarts.{ends_front_stay, stay_push}
use Rattle.guest_rounds.proofs.parallel.make_as_many.Goals as goal

pub loop-number-init : goal.loop-number-init
loop-number-init c = record {
  count = search rules;
  kept = subst (λ (os : List HartEnd). StoppedStay c.args.start.now.harts (harts_of os)) (sym c.truncate.ensures.items) (ends_front_stay _ c.args.start.now.harts c.args.ends.now.items c.requires);
}

pub loop-number-preserved : goal.loop-number-preserved
loop-number-preserved c = record {
  count = search rules;
  kept = subst (λ (os : List HartEnd). StoppedStay c.args.start.now.harts (harts_of os)) (sym c.in_ok-push.ensures.items)
      (let o : HartEnd = c.at_rest.result in
      let hs = c.args.start.now.harts in
      let n = c.loop-number.number in
      let is : o.hart ≡ get_or c.harts-harts.result.now n o.hart = ap (λ (x : HartEnd). x.hart) c.at_rest.ensures ∙ get_or_default c.harts-harts.result.now n _ o.hart (omega arith) in
      let size : length c.loop-number.ends.items ≡ n = omega (arith, c.loop-number.invariant.count, c.loop-number.ends.ok) in
      stay_push hs c.loop-number.ends.items o (ap (λ (k : ℕ). get_or hs k o.hart) size ∙ ap (λ (xs : List Hart). get_or xs n o.hart) (sym c.harts-harts.ensures.harts) ∙ sym is) c.loop-number.invariant.kept);
}
