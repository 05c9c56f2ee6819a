use Rattle.std.proofs.Common.{◌∙◌, ap, arith, length, sym, ℕ, get_or, ◌<◌, ◌^◌, List, subst}
use Rattle.kept_states.proofs.Ranges.{have_doubles}
use Rattle.kept_states.proofs.keeping.copied_registers.Goals as goal

pub returns-in-Ok-clause-ranges : goal.returns-in-Ok-clause-ranges
returns-in-Ok-clause-ranges c = have_doubles 31 1 _ (ap length c.in-Ok.ensures.items ∙ c.requires) (subst (λ (xs : List ℕ). (k : ℕ) → get_or xs k 0 < 2 ^ 64) (sym c.in-Ok.ensures.items) (λ k. omega (arith, c.type_inv.registers k)))
