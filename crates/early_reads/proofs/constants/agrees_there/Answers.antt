use Rattle.std.proofs.Common.{ℕ, get_or, Option, None, sym, subst}
use Rattle.all_endings.specs.Locality.{set_view}
use Rattle.early_reads.specs.declared.early_point.EarlyPoint.{EarlyPoint}
use Rattle.early_reads.specs.Checking.{constants_in}
use Rattle.early_reads.specs.EarlyMaps.{Agrees}
use Rattle.early_reads.proofs.Numbers.{agrees_self}
use Rattle.early_reads.proofs.constants.agrees_there.Goals as goal

pub returns-in-Some : goal.returns-in-Some
returns-in-Some c = λ held.
    let w = c.args.state.now.registers in
    let p = c.are_there.ensures held w None (agrees_self w) (λ n l e f. absurd (cc)) in
    let here = subst (λ (r : ℕ). Agrees (get_or c.args.points.now c.in-Some.index c.index-points-index.result).constants (set_view w r None)) c.new.ensures p in
    subst (λ (o : Option EarlyPoint). Agrees (constants_in o) w) (sym (c.in-Some.ensures.1 c.index-points-index.result)) here
