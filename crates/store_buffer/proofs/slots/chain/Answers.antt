use Rattle.std.proofs.Common.{None, get_or, refl}
use Rattle.store_buffer.specs.Slots.{line_in, number_in}
use Rattle.store_buffer.proofs.LineChains.{chaining_on}
use Rattle.store_buffer.proofs.slots.chain.Goals as goal

pub loop-index-preserved : goal.loop-index-preserved
loop-index-preserved c =
    let ms = c.loop-index.lines in
    let latest = c.loop-index.latest in
    let k = c.loop-index.index in
    let s = c.slot_of-slot.result in
    let low = c.loop-index-test.true in
    let room = c.requires.room in
    chaining_on k c.args.lines.now ms c.args.latest.now latest c.loop-index.invariant room low s c.slot_of-slot.ensures.value c.slot_of-slot.ensures.low
    (record { number = number_in ms k; before = get_or latest s None; line = line_in ms k }) refl refl refl
