use Rattle.std.proofs.Common.{length, map}
use Rattle.clap.specs.Words.{app_of, with_rule}
use Rattle.command_options.specs.Options.{row_told, rule_told}
use Rattle.command_options.proofs.Chains.{Grows}
use Rattle.command_options.proofs.rows.with_rows.Given as goal

abbrev pub invariant-loop-rest : goal.invariant-loop-rest
invariant-loop-rest l = Grows (λ app row. with_rule app (rule_told row)) (app_of l.initial.command) l.command (map row_told l.rows) (map row_told l.rest)

abbrev pub decreases-loop-rest : goal.decreases-loop-rest
decreases-loop-rest l = length l.rest
