use Rattle.std.proofs.Common.{◌∷◌, List, subst}
use Rattle.pages.specs.declared.access.Store.{Store}
use Rattle.store_buffer.specs.Covered.{stores_of}
use Rattle.commit_phase.proofs.Breaking.{Breaking, breaking_next}
use Rattle.commit_phase.proofs.buffer.break_others.Goals as goal

pub loop-byte-preserved : goal.loop-byte-preserved
loop-byte-preserved c =
    let at : Breaking c.args.hart (stores_of c.args.buffer.now) (c.in-Some.byte ∷ stores_of c.next.new.self) c.args.reservations.now c.loop-byte.reservations =
    subst (λ (rest : List Store). Breaking c.args.hart (stores_of c.args.buffer.now) rest c.args.reservations.now c.loop-byte.reservations) c.in-Some.ensures.steps c.loop-byte.invariant.breaking in
    record { breaking = breaking_next c.args.hart (stores_of c.args.buffer.now) (stores_of c.next.new.self) c.in-Some.byte c.args.reservations.now c.loop-byte.reservations c.break_by.new.self c.break_by.ensures at }
