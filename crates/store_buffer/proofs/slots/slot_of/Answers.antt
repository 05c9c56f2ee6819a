use Rattle.std.proofs.Common.{ℕ, ◌-◌, ap, bit_and}
use Rattle.store_buffer.specs.Slots.{slot}
use Rattle.store_buffer.proofs.slots.slot_of.Goals as goal

pub returns-clause-value : goal.returns-clause-value
unfolding slot
returns-clause-value c = ap (λ (s : ℕ). bit_and s (c.args.count - 1)) c.rotate_left-spread.ensures
