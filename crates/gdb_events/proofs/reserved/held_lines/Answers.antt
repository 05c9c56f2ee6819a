use Rattle.std.proofs.Common.{ℕ, ◌++◌, List, Option, ap, sym, ◌∙◌, add-one}
use Rattle.round_schedule.specs.declared.span.Span.{Span}
use Rattle.round_schedule.specs.Reservations.{entry}
use Rattle.gdb_events.specs.Reserved.{held_lines, span_line}
use Rattle.gdb_events.proofs.reserved.held_lines.Goals as goal

pub loop-hart-init : goal.loop-hart-init
unfolding held_lines
loop-hart-init c = λ t tied. c.new-text.ensures.items

pub loop-hart-preserved : goal.loop-hart-preserved
unfolding held_lines
loop-hart-preserved c = λ t tied.
    let h = c.loop-hart.hart in
    c.in_ok-add_span.ensures
    ∙ ap (λ (xs : List ℕ). xs ++ span_line h (entry c.args.reservations.now h)) (c.loop-hart.invariant t tied)
    ∙ ap (λ (s : Option Span). held_lines t h ++ span_line h s) (tied.each h c.loop-hart-test.true)
    ∙ ap (held_lines t) (sym (add-one h))
