use Rattle.all_endings.proofs.DecodedRegisters.{all_registers_are}
use Rattle.all_endings.proofs.laws.registers_are_registers.Goals as goal

pub returns : goal.returns
returns c = all_registers_are
