use Rattle.command_line.proofs.Texts.{text_or}
use Rattle.command_line.proofs.given.text_of.Goals as goal

pub returns : goal.returns
returns c = text_or c.text_given.result _ _ _ c.unwrap_or.ensures c.text_given.ensures
