use Rattle.hunter.proofs.Runs.{shrunk_so}
use Rattle.hunter.proofs.shrinking.shrink.Goals as goal

pub returns-clause-shrunk : goal.returns-clause-shrunk
returns-clause-shrunk g c =
    let guest = c.in_ok-guest in
    shrunk_so c.args.settings.now guest.guest.settings.now c.args.image.now c.args.input.now guest.guest.input.now guest.guest.image c.args.number c.in_ok-shrunk.field-0
    guest.ensures.settings guest.ensures.input guest.ensures.image c.in_ok-shrunk.ensures
