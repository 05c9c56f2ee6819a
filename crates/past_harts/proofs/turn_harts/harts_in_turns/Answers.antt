use Rattle.std.proofs.Common.{List, Vec, Global, ap, map}
use Rattle.hart_step.specs.declared.hart.Hart.{Hart}
use Rattle.past_harts.specs.declared.turn_harts.Kept.{Kept}
use Rattle.past_harts.proofs.turn_harts.harts_in_turns.Goals as goal

pub returns-clause-turns : goal.returns-clause-turns
returns-clause-turns g c = λ m is.
    let first : Kept = record { alloc = c.allocator-alloc.result; turns = c.new.result; along = c.new-2.result } in
    let items : Vec Hart Global → List Hart = λ xs. xs.items in
    let known = c.in_ok-visit_turns.ensures.turns m is first (ap (map items) c.new.ensures.items, c.new-2.ensures.items) in
    known.0
