use Rattle.std.proofs.Common.{codes, refl}
use Rattle.std.specs.Fmt.{decimal}
use Rattle.picture.proofs.Chains.{last}
use Rattle.picture.proofs.bands.stopped_before.Goals as goal

pub returns : goal.returns
returns c = last c.args.line.now (codes "stopped before round ") _ _ (decimal c.args.round) _ _ c.in_ok-text.ensures c.decimal.ensures refl
