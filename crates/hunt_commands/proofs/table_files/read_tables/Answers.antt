use Rattle.std.proofs.Common.{arith}
use Rattle.std.proofs.lemmas.Result.{err_from_is_err_and}
use Rattle.hunt_commands.proofs.TableFiles.{read_more, untabled_so}
use Rattle.hunt_commands.proofs.table_files.read_tables.Goals as goal

pub returns-in_err-read_table_of-clause-errors : goal.returns-in_err-read_table_of-clause-errors
returns-in_err-read_table_of-clause-errors g c =
    let p = err_from_is_err_and c.from_residual.result c.from_residual.ensures.1 in
    rw (p.1, p.2) (untabled_so (g.W.World.files c.args.world.now) c.args.paths.now c.loop-path.path-index _ c.loop-path.tables.items _ (omega arith) c.loop-path.invariant c.in_err-read_table_of.ensures.errors)

pub loop-path-preserved : goal.loop-path-preserved
loop-path-preserved g c =
    let f = c.in_ok-read_table_of.ensures in
    rw c.in_ok-push.ensures.items (read_more _ c.args.paths.now c.loop-path.path-index _ c.loop-path.tables.items _ (omega arith) f.path f.held c.loop-path.invariant)
