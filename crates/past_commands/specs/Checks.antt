-- What is told of an execution that was checked.
use Rattle.std.specs.Prelude.{◌≡◌}
use Rattle.execution_commands.specs.Verdicts.{IsVerdictText, verdict_status}
use Rattle.execution_scripts.specs.declared.checking.Checked.{Checked}
use Rattle.past_commands.specs.declared.answer.Answer.{Answer}

-- what `check` prints of it, with its status
pub record IsCheckAnswer (c : Checked) (a : Answer) : Type 0 where
  pub text : IsVerdictText c a.text
  pub status : a.status ≡ verdict_status c.finding
