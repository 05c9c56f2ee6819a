use Rattle.std.proofs.Common.{arith}
use Rattle.run_places.proofs.Told.{all_told}
use Rattle.run_places.proofs.ahead.registers_tell.Goals as goal

pub returns-clause-tells : goal.returns-clause-tells
returns-clause-tells c = λ yes. all_told c.args.told.now c.args.teller.now c.loop-register.register (omega arith) c.loop-register.invariant
