use Rattle.std.proofs.Common.{◌≡◌, Bool, IfErr, subst, sym, true}
use Rattle.program_files.specs.Failures.{HasFailed}
use Rattle.view_commands.specs.Drawings.{IsEndBy, is_of_execution}
use Rattle.view_commands.proofs.pictures.draw_given.Goals as goal

pub returns-then-is_of_execution-clause-errors : goal.returns-then-is_of_execution-clause-errors
returns-then-is_of_execution-clause-errors g c =
    let asked = c.args.asked.now in
    let given = c.args.given.now in
    let image = given.program.image.items in
    let failed = HasFailed g.O.Sink.failures g.O.Output.is_stuck c.args.out.now c.draw_execution.new.out in
    let is : is_of_execution asked image ≡ true = cc (c.deref.ensures.value, c.is_of_execution.ensures, c.if-is_of_execution.ensures) in
    subst (λ (b : Bool). IfErr c.draw_execution.result (IsEndBy b asked image given.plan.text.items given.plan.budget failed)) (sym is)
    (rw c.deref-then-is_of_execution.ensures.value at c.draw_execution.ensures.errors)
