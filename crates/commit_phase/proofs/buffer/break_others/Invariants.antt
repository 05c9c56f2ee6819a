use Rattle.store_buffer.specs.Covered.{stores_of}
use Rattle.commit_phase.proofs.Breaking.{Breaking}
use Rattle.commit_phase.proofs.buffer.break_others.Given as goal

abbrev pub invariant-loop-byte : goal.invariant-loop-byte
invariant-loop-byte l = record { breaking : Breaking l.hart (stores_of l.fn.buffer) (stores_of l.byte-iterator) l.fn.reservations l.reservations }
