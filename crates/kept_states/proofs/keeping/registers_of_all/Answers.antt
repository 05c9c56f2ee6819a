use Rattle.std.proofs.Common.{arith, ℕ}
use Rattle.std.specs.Global.{Vec}
use Rattle.std.specs.Int.{w64}
use Rattle.recording.specs.Fields.{each}
use Rattle.recording.specs.Grammar.{any}
use Rattle.kept_states.specs.Summaries.{registers_of}
use Rattle.kept_states.proofs.Checkpoint.{have_seen, one_more_seen}
use Rattle.kept_states.proofs.keeping.registers_of_all.Goals as goal

pub loop-place-preserved : goal.loop-place-preserved
loop-place-preserved c = (
  rw c.in_ok-add_registers.ensures.ok (one_more_seen (λ (r : Vec ℕ). r.items) registers_of c.loop-place.all.items c.in_ok-registers_of.field-0 c.args.harts.now c.loop-place.place _ c.loop-place-test.true c.in_ok-registers_of.ensures.registers c.loop-place.invariant.0),
  rw c.in_ok-add_registers.ensures.ok (have_seen (λ (r : Vec ℕ). r.items) c.loop-place.place 0 c.loop-place.place (λ i. each 31 1 (λ x. any w64)) c.loop-place.all.items c.in_ok-registers_of.field-0 (omega arith) c.loop-place.invariant.1 c.in_ok-registers_of.ensures.ranges),
)
