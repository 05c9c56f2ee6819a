use Rattle.std.proofs.Common.{◌≡◌, ℕ, ap, ◌∙◌, get_or, inl, inr, arith}
use Rattle.std.proofs.lemmas.Bool.{cases_lt}
use Rattle.all_endings.specs.StoreLists.{has_byte, no_store}
use Rattle.hart_states.specs.States.{listed}
use Rattle.list_suffixes.specs.Staying.{stays_at}
use Rattle.ending_nodes.proofs.staying.has_to_stay.Goals as goal

pub loop-before-preserved : goal.loop-before-preserved
loop-before-preserved c = λ j x l stay has met. elim (cases_lt j c.loop-before.before) [
  | inl small ↦ c.loop-before.invariant j x small stay has met
  | inr large ↦
      let here : c.loop-before.before ≡ j = omega (arith, l, large) in
      c.stays_over.ensures c.if-stays_over.false (ap (stays_at c.args.stays.now) here ∙ stay) x (ap (λ (n : ℕ). has_byte (get_or (listed c.args.list.now) n no_store) x) here ∙ has) met
]

pub returns : goal.returns
returns c = λ no j x l stay has met. c.loop-before.invariant j x (let over = c.loop-before-test.false in omega (arith, l, over)) stay has met
