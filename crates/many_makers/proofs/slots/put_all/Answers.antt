use Rattle.std.proofs.Common.{◌∙◌}
use Rattle.std.proofs.lemmas.List.Elements.{All-rest}
use Rattle.many_makers.specs.Slots.{IsMade}
use Rattle.many_makers.proofs.slots.put_all.Goals as goal

pub loop-made-preserved : goal.loop-made-preserved
loop-made-preserved g c = record {
  count = c.put.ensures.count ∙ c.loop-made.invariant.count;
  slots = c.put.ensures.slots;
  left = All-rest (IsMade (λ k r. g.M.Fn.post c.args.make.now (k, tt) r)) _ _ _ c.in-Some.ensures.steps.0 c.loop-made.invariant.left;
}
