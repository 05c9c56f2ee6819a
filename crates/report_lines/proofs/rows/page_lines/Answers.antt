use Rattle.std.proofs.Common.{◌++◌, ◌*◌, ◌∙◌, List, ℕ, ap, append-nil, length, sym}
use Rattle.report_lines.specs.Rows.{memory_rows}
use Rattle.report_lines.proofs.MemoryRows.{blank_page, length-page}
use Rattle.report_lines.proofs.rows.page_lines.Goals as goal

pub page_rows-requires-clause-length : goal.page_rows-requires-clause-length
page_rows-requires-clause-length c = ap length c.in-Some.ensures.bytes ∙ length-page c.args.pages.now.memory.bytes c.args.page c.requires.bytes

pub returns-in-None : goal.returns-in-None
returns-in-None c =
    sym (ap (λ (z : List ℕ). c.args.line.now ++ z) (ap (λ (bs : List ℕ). memory_rows (4096 * c.args.page) bs 256) (c.in-None.ensures.bytes c.requires.page) ∙ blank_page (4096 * c.args.page)) ∙ append-nil c.args.line.now)
