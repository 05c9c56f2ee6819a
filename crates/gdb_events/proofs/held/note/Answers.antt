use Rattle.std.proofs.Common.{◌<◌, length, sym, ap, ◌∙◌, Option, arith}
use Rattle.round_schedule.specs.declared.span.Span.{Span}
use Rattle.round_schedule.specs.Held.{held_from}
use Rattle.round_schedule.proofs.Holding.{held-append}
use Rattle.gdb_events.proofs.held.note.Goals as goal

pub returns-clause-tied : goal.returns-clause-tied
returns-clause-tied c = λ t tied. record {
  each = λ h low.
      let before : h < length c.args.reservations.now.items = omega (arith, low, c.loop-hart.invariant.count) in
      let within : h < c.loop-hart.hart = omega (arith, low) in
      c.loop-hart.invariant.done h within
      ∙ ap (λ (s : Option Span). held_from h s c.args.events.now) (tied.each h before)
      ∙ sym (held-append h t c.args.events.now);
}
