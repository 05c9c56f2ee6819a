use Rattle.std.proofs.Common.{map}
use Rattle.clap.specs.Words.{app_of, with_rule}
use Rattle.command_options.specs.Options.{row_told, rule_told}
use Rattle.command_options.proofs.Chains.{grows, one_argument}
use Rattle.command_options.proofs.rows.with_rows.Goals as goal

pub loop-rest-preserved : goal.loop-rest-preserved
loop-rest-preserved c =
    grows row_told (λ app row. with_rule app (rule_told row)) (app_of c.args.command) c.loop-rest.command c.in_ok-command.command (map row_told c.args.rows.now) c.loop-rest.rest.now _
    c.in-len1-up.len_at_least c.loop-rest.invariant
    (one_argument c.loop-rest.command c.told.result c.in_ok-command.command _ c.loop-rest.invariant.local c.told.ensures.rule c.told.ensures.local c.in_ok-command.ensures)
