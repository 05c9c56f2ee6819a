use Rattle.std.proofs.Common.{◌++◌, ◌∷◌, [], ℕ, List, map, take, unwrap_or, Option, None, ap, sym, ◌∙◌, arith}
use Rattle.std.proofs.lemmas.List.{length-set, map_more, take_all, take_more_set}
use Rattle.hart_states.proofs.registers.filled.Goals as goal

pub loop-r-preserved : goal.loop-r-preserved
loop-r-preserved c = record {
  size = length-set c.loop-r.numbers c.loop-r.r c.unwrap_or.result ∙ c.loop-r.invariant.size;
  same =
      let size = c.loop-r.invariant.size in
      take_more_set c.loop-r.numbers c.loop-r.r c.unwrap_or.result (omega (arith, size))
      ∙ ap (λ (s : List ℕ). s ++ c.unwrap_or.result ∷ []) c.loop-r.invariant.same
      ∙ ap (λ (y : ℕ). map (λ (o : Option ℕ). unwrap_or o 0) (take c.loop-r.r c.args.registers.now) ++ y ∷ []) c.unwrap_or.ensures
      ∙ sym (map_more (λ (o : Option ℕ). unwrap_or o 0) c.args.registers.now c.loop-r.r None (omega arith));
}

pub returns : goal.returns
returns c =
    let size = c.loop-r.invariant.size in
    sym (take_all c.loop-r.r c.loop-r.numbers (omega (arith, size))) ∙ c.loop-r.invariant.same
    ∙ ap (λ (s : List (Option ℕ)). map (λ (o : Option ℕ). unwrap_or o 0) s) (take_all c.loop-r.r c.args.registers.now (omega arith))
