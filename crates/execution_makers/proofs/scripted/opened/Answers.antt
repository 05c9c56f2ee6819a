use Rattle.execution_scripts.proofs.Counted.{as_many_opened}
use Rattle.execution_makers.proofs.scripted.opened.Goals as goal

pub returns : goal.returns
returns c =
    let guest = c.args.guest.now in
    as_many_opened c.in_ok-image.image guest.input.now guest.harts c.in_ok-execution.execution.standing c.in_ok-execution.ensures.standing
