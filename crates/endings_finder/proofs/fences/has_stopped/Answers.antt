use Rattle.std.proofs.Common.{◌≡◌, true, is_some, arith}
use Rattle.std.proofs.lemmas.List.Elements.{All-map}
use Rattle.ending_judge.specs.JudgedEndings.{stop_of}
use Rattle.endings_finder.proofs.fences.has_stopped.Goals as goal

pub returns : goal.returns
returns c = λ yes. All-map (λ s. is_some s ≡ true) stop_of c.args.ends.now (λ k d l. c.loop-end.invariant k d (omega (arith, l, c.loop-end-test.false)))
