use Rattle.std.proofs.Common.{None, arith}
use Rattle.std.proofs.lemmas.List.{take-replicate, get_or-replicate}
use Rattle.round_schedule.proofs.reservations.Reservations.new.Goals as goal

pub invariant_of-result : goal.invariant_of-result
invariant_of-result c = (c.requires, λ _ h low. get_or-replicate 64 h None None (omega arith))

pub returns : goal.returns
returns c = take-replicate c.args.harts 64 None c.requires
