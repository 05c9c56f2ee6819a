use Rattle.std.proofs.Common.{◌≡◌, ◌≤◌, ◌+◌, ◌-◌, map}
use Rattle.recording.specs.Fields.{taken_each}
use Rattle.recording.specs.Grammar.{hart_summary}
use Rattle.recording.specs.Views.{hart_view}
use Rattle.recording.proofs.Loops.{with_front}
use Rattle.recording.proofs.lists.harts_at.Given as goal

abbrev pub invariant-loop : goal.invariant-loop
invariant-loop l = (l.counter ≤ l.count) × (with_front (map (hart_view) l.harts.items) (taken_each (l.count - l.counter) (0 + l.counter) (λ i. hart_summary) l.rest) ≡ taken_each l.count 0 (λ i. hart_summary) l.bytes)
