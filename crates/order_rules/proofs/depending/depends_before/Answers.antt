use Rattle.std.proofs.Common.{◌≡◌, true, false, arith}
use Rattle.order_rules.proofs.Following.{operand_earlier}
use Rattle.order_rules.proofs.depending.depends_before.Goals as goal
use Rattle.order_rules.proofs.depending.depends_before.Goals.{then-m-a-via-then-m-a, then-m-a-via-else-m-a+then-m-b}

pub returns-then-m-a : goal.returns-then-m-a
returns-then-m-a c = (
  (λ f. absurd (let g : false ≡ true = f in cc)),
  (λ p. absurd (elim c.then-m-a.branch [
    | then-m-a-via-then-m-a w ↦ let l = operand_earlier c.args.instructions.now c.args.events.now c.args.a c.args.m p.1 in omega (arith, l, w.if-m-a.true)
    | then-m-a-via-else-m-a+then-m-b w ↦ let l = p.0.earlier in omega (arith, l, w.if-m-b.true)
  ])),
)
