use Rattle.std.proofs.Common.{[]}
use Rattle.watching.specs.Events.{bytes_there}
use Rattle.watching.proofs.EventsTell.{untouched_none}
use Rattle.watching.proofs.hits.touches_some.Goals as goal

pub returns-clause-none : goal.returns-clause-none
returns-clause-none c = λ untouched bytes.
    untouched_none c.args.watches.now (bytes_there c.args.event.now bytes) [] c.args.event.now untouched
