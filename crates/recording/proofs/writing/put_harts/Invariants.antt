use Rattle.std.proofs.Common.{◌≡◌, ◌++◌, drop, map}
use Rattle.recording.specs.Fields.{spelled_each}
use Rattle.recording.specs.Grammar.{hart_summary}
use Rattle.recording.specs.Views.{hart_view}
use Rattle.recording.proofs.writing.put_harts.Given as goal

abbrev pub invariant-loop-hart : goal.invariant-loop-hart
invariant-loop-hart l = l.text.items ++ spelled_each l.hart-index (λ _. hart_summary) (drop l.hart-index (map hart_view l.harts)) ≡ l.fn.text.items ++ spelled_each 0 (λ _. hart_summary) (map hart_view l.harts)
