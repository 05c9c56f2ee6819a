use Rattle.hart_moves.proofs.moving.other_moves.Goals as goal

pub returns : goal.returns
returns c = λ opening v same doing stands.
    c.in_ok-add_successor.ensures.adds v (c.in_ok-choice.ensures.found c.in_default.not-Ecall c.args.hart _ opening v same doing)
