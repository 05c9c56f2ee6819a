use Rattle.weak_commands.proofs.places.fence_at.Goals as goal

pub returns : goal.returns
returns c = (c.instruction_of.result, c.instruction_of.ensures, c.of_kind.ensures)
