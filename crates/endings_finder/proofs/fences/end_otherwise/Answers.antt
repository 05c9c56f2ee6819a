use Rattle.std.proofs.Common.{◌∙◌, sym, arith}
use Rattle.std.proofs.lemmas.Bool.{false≢true}
use Rattle.ending_judge.specs.JudgedEndings.{stop_of}
use Rattle.endings_finder.proofs.Needs.{alike_at}
use Rattle.endings_finder.proofs.fences.end_otherwise.Goals as goal

pub returns-then-not-stops_alike : goal.returns-then-not-stops_alike
returns-then-not-stops_alike c = λ yes same.
    let alike = alike_at stop_of c.args.ends.now c.args.others.now c.loop-index.index _ _ (omega arith) (omega arith) same in
    false≢true (sym c.if-not-stops_alike.true ∙ c.stops_alike.ensures.1 alike)
