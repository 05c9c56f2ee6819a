use Rattle.std.proofs.Common.{◌++◌, ◌+◌, ◌*◌, ◌∙◌, ◌≡◌, List, ℕ, take, drop, ap, sym, append_assoc, append-nil, arith}
use Rattle.report_lines.specs.Rows.{memory_row, memory_rows}
use Rattle.report_lines.proofs.MemoryRows.{no_rows, rows_more}
use Rattle.report_lines.proofs.rows.page_rows.Goals as goal

more : (old mid new bs : List ℕ) (a m : ℕ) → mid ≡ old ++ memory_rows a bs m → new ≡ mid ++ memory_row (a + 16 * m) (take 16 (drop (16 * m) bs)) → new ≡ old ++ memory_rows a bs (m + 1)
more old mid new bs a m e f =
    let row = memory_row (a + 16 * m) (take 16 (drop (16 * m) bs)) in
    f ∙ ap (λ (z : List ℕ). z ++ row) e ∙ append_assoc old (memory_rows a bs m) row ∙ ap (λ (z : List ℕ). old ++ z) (sym (rows_more m a bs))

row_of : (line new d : List ℕ) (a k : ℕ) → k ≡ 16 → new ≡ line ++ memory_row a (take k d) → new ≡ line ++ memory_row a (take 16 d)
row_of line new d a k e h = h ∙ ap (λ (n : ℕ). line ++ memory_row a (take n d)) e

pub loop-row-init : goal.loop-row-init
loop-row-init c = sym (ap (λ (z : List ℕ). c.args.line.now ++ z) (no_rows c.args.address c.args.page.now) ∙ append-nil c.args.line.now)

pub loop-row-preserved : goal.loop-row-preserved
loop-row-preserved c = more _ _ _ c.args.page.now c.args.address c.loop-row.row c.loop-row.invariant (row_of _ _ _ _ _ (omega arith) c.in_ok-memory_row.ensures)
