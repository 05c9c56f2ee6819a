use Rattle.std.proofs.Common.{◌≡◌, map, take}
use Rattle.recording.specs.Fields.{HaveEach}
use Rattle.recording.specs.Grammar.{hart_summary}
use Rattle.recording.specs.Views.{hart_view}
use Rattle.kept_states.specs.Summaries.{hart_summary_of}
use Rattle.kept_states.proofs.keeping.summaries_of.Given as goal

abbrev pub invariant-loop-place : goal.invariant-loop-place
invariant-loop-place l = (map hart_view l.summaries.items ≡ map hart_summary_of (take l.place l.harts)) × HaveEach l.place 0 (λ i. hart_summary) (map hart_view l.summaries.items)
