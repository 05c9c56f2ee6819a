use Rattle.std.proofs.Common.{◌≡◌, ◌++◌, drop}
use Rattle.round_planner.specs.PlanText.{rest_text}
use Rattle.round_planner.proofs.text.write_rest.Given as goal

-- what is left makes up the text
abbrev pub invariant-loop-number : goal.invariant-loop-number
invariant-loop-number l = l.text.items ++ rest_text (drop l.number-index l.numbers) ≡ l.fn.text.items ++ rest_text l.numbers
