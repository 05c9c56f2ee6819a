use Rattle.run_places.proofs.KnownBytes.{own_of_both, own_of_none}
use Rattle.run_places.proofs.bounds.own_ahead.Goals as goal

pub returns-in-None-None : goal.returns-in-None-None
returns-in-None-None c = λ yes. own_of_none c.args.a c.args.b c.in-None-None.is-0 c.in-None-None.is-1

pub returns-in-Some-Some : goal.returns-in-Some-Some
returns-in-Some-Some c = λ yes. own_of_both c.args.a c.args.b c.in-Some-Some.o c.in-Some-Some.p c.in-Some-Some.is-0 c.in-Some-Some.is-1 (c.stored_ahead.ensures yes)
