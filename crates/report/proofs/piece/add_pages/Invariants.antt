use Rattle.std.proofs.Common.{◌≡◌, ◌-◌}
use Rattle.report.specs.Blocks.{pages_text}
use Rattle.report.proofs.piece.add_pages.Given as goal

abbrev pub invariant-loop-page : goal.invariant-loop-page
invariant-loop-page l = l.line ≡ pages_text l.pages.memory.bytes l.first (l.page - l.first)
