use Rattle.std.proofs.Common.{arith}
use Rattle.kept_states.proofs.Ranges.{stop_fits}
use Rattle.kept_states.proofs.keeping.hart_summary_of.Goals as goal

pub returns-clause-ranges : goal.returns-clause-ranges
returns-clause-ranges c =
    let fits = stop_fits c.args.hart.now.stop c.requires (omega (arith, c.value.ensures, c.doubleword-3.ensures.range.0)) in
    grind (arith, c.doubleword.ensures, c.doubleword-2.ensures, c.doubleword-3.ensures, c.code.ensures, c.value.ensures, fits)
