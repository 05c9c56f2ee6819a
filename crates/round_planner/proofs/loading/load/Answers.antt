use Rattle.round_planner.specs.Settings.{StandsIn}
use Rattle.round_planner.proofs.Good.{refused_for_memory}
use Rattle.round_planner.proofs.loading.load.Goals as goal

pub returns-clause-taken : goal.returns-clause-taken
returns-clause-taken c = refused_for_memory (StandsIn c.args.format c.args.file.now c.args.pages) c.load_as.result c.load_as.ensures.errors
