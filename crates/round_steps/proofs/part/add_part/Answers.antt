use Rattle.moments.proofs.Parts.{shows_through}
use Rattle.round_steps.proofs.part.add_part.Goals as goal

pub hits_in_part-requires-clause-shows : goal.hits_in_part-requires-clause-shows
hits_in_part-requires-clause-shows c = shows_through c.args.pages.now.memory c.new-view.result c.args.code.now.first c.args.code.now.instructions c.new-view.ensures c.requires.shows
