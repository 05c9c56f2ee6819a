use Rattle.std.proofs.Common.{not}
use Rattle.hart_states.specs.States.{listed, state_of}
use Rattle.early_reads.specs.Checking.{map_of}
use Rattle.late_spots.proofs.Settling.{all_behind, not_owing}
use Rattle.late_spots.proofs.opening.goes_behind.Goals as goal

pub returns : goal.returns
returns c = λ held.
    let own = c.if-not-has_own_listed.false in
    all_behind (map_of c.args.points.now) c.args.against.now.hart c.args.stays.now (listed c.args.against.now.list.now) (not c.does_none-owes.result) (state_of c.args.state.now) c.args.access.now
    (c.does_none_laid.ensures c.if-not-does_none_laid.false) (λ pays. c.does_none-owes.ensures (not_owing c.does_none-owes.result pays)) (c.has_own_listed.ensures.listed own) (c.has_own_listed.ensures.within own)
    (c.opens_passed.ensures held)
