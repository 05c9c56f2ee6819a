use Rattle.std.proofs.Common.{sym, ◌∙◌}
use Rattle.execution_file.proofs.Doing.{said_next, said_there}
use Rattle.execution_file.proofs.parts.are_said.Goals as goal

pub loop-i-preserved : goal.loop-i-preserved
loop-i-preserved c =
    said_next c.args.parts.now c.args.did.now c.loop-i.i c.index-parts-i.result c.index-did-i.result c.loop-i-test.true c.if-parts-did.false c.index-parts-i.is c.index-did-i.is
    (c.is_said.ensures.0 c.if-not-is_said.false) c.loop-i.invariant

pub returns-then-not-is_said : goal.returns-then-not-is_said
returns-then-not-is_said c = (
  λ yes. cc,
  λ same. sym c.if-not-is_said.true ∙ c.is_said.ensures.1
      (said_there c.args.parts.now c.args.did.now c.loop-i.i c.index-parts-i.result c.index-did-i.result c.loop-i-test.true c.if-parts-did.false c.index-parts-i.is c.index-did-i.is same),
)
