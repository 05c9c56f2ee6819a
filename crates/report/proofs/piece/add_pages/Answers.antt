use Rattle.std.proofs.Common.{◌≡◌, ◌*◌, ◌++◌, ◌∙◌, ◌-◌, ◌≤◌, List, ℕ, ap, arith, drop, sym}
use Rattle.pages.specs.Flat.{page_bytes}
use Rattle.report.specs.Blocks.{pages_text}
use Rattle.report_lines.specs.Rows.{memory_rows}
use Rattle.report.proofs.InBlocks.{page_after, pages_past}
use Rattle.report_lines.proofs.MemoryRows.{no_rows}
use Rattle.report.proofs.piece.add_pages.Goals as goal

pub loop-page-init : goal.loop-page-init
loop-page-init c =
    let none : c.args.first - c.args.first ≡ 0 = omega arith in
    let bs = c.args.pages.now.memory.bytes in
    c.requires ∙ sym (ap (pages_text bs c.args.first) none ∙ no_rows (4096 * c.args.first) (drop (4096 * c.args.first) bs))

pub loop-page-preserved : goal.loop-page-preserved
loop-page-preserved c =
    let bs = c.args.pages.now.memory.bytes in
    c.in_ok-page_lines.ensures
    ∙ ap (λ (z : List ℕ). z ++ memory_rows (4096 * c.loop-page.page) (page_bytes bs c.loop-page.page) 256) c.loop-page.invariant
    ∙ sym (page_after bs c.args.first c.loop-page.page c.loop-page.auto.page)

pub returns : goal.returns
returns c =
    let bs = c.args.pages.now.memory.bytes in
    let done = c.loop-page.page - c.args.first in
    c.loop-page.invariant
    ∙ pages_past bs c.args.first c.args.count done c.count.result c.min-page-end.result c.count.ensures.bytes (omega arith) (omega arith) (λ le. let up : c.loop-page.page ≤ c.min-page-end.result = c.loop-page.auto.page-end le in omega arith)
