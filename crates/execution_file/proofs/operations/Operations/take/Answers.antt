use Rattle.execution_file.specs.Views.{turn_view}
use Rattle.execution_file.proofs.NamedTurns.{left_of, only_first, only_number, says_first, says_number, takes_number}
use Rattle.execution_file.proofs.operations.Operations.take.Goals as goal

pub returns-in-Some : goal.returns-in-Some
returns-in-Some c = λ t g are.
    let u = turn_view c.args.turn.now in
    let n = c.in-Some.number in
    takes_number t g u n c.args.self.now c.name.new.self c.name.result are c.name.ensures.indexes c.name.ensures.next (λ a l is. says_number t g u n c.in-Some.is a is) (only_number t g u n c.in-Some.is)
    c.name.ensures.named

pub returns-in-None : goal.returns-in-None
returns-in-None c = λ t g are.
    let u = turn_view c.args.turn.now in
    let f = c.first_left-number in
    let left = left_of t g u.hart f.result c.args.self.now f.new.self are f.ensures.indexes f.ensures.named f.ensures.passed f.ensures.left f.ensures.next in
    takes_number t g u f.result f.new.self c.name-in-None.new.self c.name-in-None.result left.0 c.name-in-None.ensures.indexes c.name-in-None.ensures.next
    (says_first t g u f.result f.new.self c.in-None.is left.0 left.1) (only_first t g u f.result f.new.self c.in-None.is left.0 left.1) c.name-in-None.ensures.named
