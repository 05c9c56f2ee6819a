use Rattle.std.proofs.Common.{◌++◌, ◌∷◌, [], ℕ, List, get_or, map, take, Option, Some, ap, sym, ◌∙◌, refl, arith}
use Rattle.std.proofs.lemmas.List.{length-set, map_more, take_all, take_more_set}
use Rattle.hart_states.proofs.registers.all_known.Goals as goal

pub loop-r-preserved : goal.loop-r-preserved
loop-r-preserved c = record {
  size = length-set c.loop-r.registers c.loop-r.r (Some (get_or c.args.numbers.now c.loop-r.r 0)) ∙ c.loop-r.invariant.size;
  same =
      let size = c.loop-r.invariant.size in
      take_more_set c.loop-r.registers c.loop-r.r (Some (get_or c.args.numbers.now c.loop-r.r 0)) (omega (arith, size))
      ∙ ap (λ (s : List (Option ℕ)). s ++ (Some (get_or c.args.numbers.now c.loop-r.r 0)) ∷ []) c.loop-r.invariant.same
      ∙ ap (λ (y : Option ℕ). map (λ (n : ℕ). Some n) (take c.loop-r.r c.args.numbers.now) ++ y ∷ []) refl
      ∙ sym (map_more (λ (n : ℕ). Some n) c.args.numbers.now c.loop-r.r 0 (omega arith));
}

pub returns : goal.returns
returns c =
    let size = c.loop-r.invariant.size in
    sym (take_all c.loop-r.r c.loop-r.registers (omega (arith, size))) ∙ c.loop-r.invariant.same
    ∙ ap (λ (s : List ℕ). map (λ (n : ℕ). Some n) s) (take_all c.loop-r.r c.args.numbers.now (omega arith))
