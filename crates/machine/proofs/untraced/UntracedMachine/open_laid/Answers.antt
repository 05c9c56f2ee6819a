use Rattle.std.proofs.Common.{length, ap, ◌∙◌}
use Rattle.guest_rounds.specs.Guests.{Guest}
use Rattle.guest_rounds.proofs.OpeningGuest.{length-opening}
use Rattle.machine.proofs.Opened.{opened}
use Rattle.machine.proofs.untraced.UntracedMachine.open_laid.Goals as goal

pub begin-requires : goal.begin-requires
begin-requires c = ap (λ (g : Guest). length g.harts) c.in_ok-guest.ensures ∙ length-opening _ c.harts.result 0 c.harts.result ∙ c.harts.ensures.harts

pub returns-clause-machine : goal.returns-clause-machine
returns-clause-machine c = opened c.args.laid.now c.args.input.items c.args.plan c.harts.result c.in_ok-guest.guest c.begin.result c.harts.ensures.harts c.in_ok-guest.ensures c.begin.ensures
