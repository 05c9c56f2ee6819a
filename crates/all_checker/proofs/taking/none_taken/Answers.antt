use Rattle.std.proofs.Common.{[]}
use Rattle.all_checker.proofs.taking.none_taken.Goals as goal

pub returns-clause-first : goal.returns-clause-first
returns-clause-first c = λ fresh owns k image.
    let have = c.in_ok-add.ensures.have owns k image c.args.harts.now in
    (have.0, have.1, have.2 [] (c.in_ok-first.ensures owns k image fresh))
