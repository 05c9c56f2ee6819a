use Rattle.dethart.proofs.Answered.{finished}
use Rattle.dethart.proofs.commands.finish_command.Goals as goal

pub returns-in-Ok : goal.returns-in-Ok
returns-in-Ok g c = finished c.put_answer-answer.result _ c.finish.result c.finish.ensures.done c.finish.ensures.refused c.put_answer-answer.ensures
