-- The lines of events and of memory, block after block.
use Rattle.std.proofs.Common.{◌≡◌, ℕ, zero, suc, ◌+◌, ◌*◌, ◌-◌, ◌/◌, ◌≤◌, min, inl, inr, List, [], ◌++◌, codes, length, take, drop, refl, sym, ap, ◌∙◌, append_assoc, append-nil, arith, length-drop}
use Rattle.std.proofs.Math.Seq.{take-add}
use Rattle.std.proofs.lemmas.Bool.{cases_lt}
use Rattle.std.proofs.lemmas.List.{drop-drop, drop_all, take-append-drop, take_all}
use Rattle.std.specs.Fmt.{decimal}
use Rattle.round_schedule.specs.declared.event.Event.{Event}
use Rattle.hart_step.specs.declared.hart.Hart.{Hart}
use Rattle.pages.specs.Flat.{page_bytes}
use Rattle.report.specs.Blocks.{block_text, body_text, middle_text, pages_text, start_text}
use Rattle.report.specs.Report.{events_text, harts_text, head_text, memory_text, output_text, report_text, trace_text}
use Rattle.report_lines.specs.Rows.{memory_row, memory_rows}
use Rattle.report.proofs.Parts.{events-append}
use Rattle.report_lines.proofs.MemoryRows.{rows-add, rows-take}

-- one block more
pub blocks_more : (es : List Event) (i : ℕ) → events_text (take (1024 * (i + 1)) es) ≡ events_text (take (1024 * i) es) ++ block_text es (1024 * i)
blocks_more es i =
    let far : 1024 * (i + 1) ≡ 1024 * i + 1024 = omega arith in
    ap (λ (k : ℕ). events_text (take k es)) far ∙ ap events_text (take-add (1024 * i) 1024 es) ∙ events-append (take (1024 * i) es) (take 1024 (drop (1024 * i) es))

-- one block, with those before it and those after it
pub blocks_left : (es : List Event) (i : ℕ) → events_text es ≡ (events_text (take (1024 * i) es) ++ block_text es (1024 * i)) ++ events_text (drop (1024 * (i + 1)) es)
blocks_left es i =
    let k = 1024 * (i + 1) in
    ap events_text (sym (take-append-drop k es)) ∙ events-append (take k es) (drop k es) ∙ ap (λ (z : List ℕ). z ++ events_text (drop k es)) (blocks_more es i)

-- so many blocks have all events
pub all_blocks : (es : List Event) (n : ℕ) → length es ≤ 1024 * n → events_text (take (1024 * n) es) ≡ events_text es
all_blocks es n l = ap events_text (take_all (1024 * n) es l)

no_bytes : (n a : ℕ) → memory_rows a [] n ≡ []
unfolding memory_rows memory_row
no_bytes zero a = refl
no_bytes (suc n) a = no_bytes n (a + 16)

-- past the last byte there are no lines
pub rows_past : (m n a : ℕ) (bs : List ℕ) → m ≤ n → length bs ≤ 16 * m → memory_rows a bs n ≡ memory_rows a bs m
rows_past m n a bs within all =
    let more : n ≡ m + (n - m) = omega arith in
    ap (memory_rows a bs) more ∙ rows-add m (n - m) a bs
    ∙ ap (λ (z : List ℕ). memory_rows a bs m ++ z) (ap (λ (z : List ℕ). memory_rows (a + 16 * m) z (n - m)) (drop_all (16 * m) bs all) ∙ no_bytes (n - m) (a + 16 * m))
    ∙ append-nil (memory_rows a bs m)

-- one page more, from the first of a piece on
pub page_after : (bs : List ℕ) (first page : ℕ) → first ≤ page →
    pages_text bs first (page + 1 - first) ≡ pages_text bs first (page - first) ++ memory_rows (4096 * page) (page_bytes bs page) 256
unfolding page_bytes
page_after bs first page le =
    let a = 4096 * first in
    let m = 256 * (page - first) in
    let more : 256 * (page + 1 - first) ≡ m + 256 = omega arith in
    let here : a + 16 * m ≡ 4096 * page = omega arith in
    ap (memory_rows a (drop a bs)) more ∙ rows-add m 256 a (drop a bs)
    ∙ ap (λ (k : ℕ). memory_rows a (drop a bs) m ++ memory_rows k (drop (16 * m) (drop a bs)) 256) here
    ∙ ap (λ (z : List ℕ). memory_rows a (drop a bs) m ++ memory_rows (4096 * page) z 256) (drop-drop (16 * m) a bs ∙ ap (λ (k : ℕ). drop k bs) here)
    ∙ ap (λ (z : List ℕ). memory_rows a (drop a bs) m ++ z) (sym (rows-take 256 (4096 * page) (drop (4096 * page) bs)))

-- the pages of a piece up to this end have all its lines, where it has no more or no more are left
pub pages_past : (bs : List ℕ) (first count done pages end : ℕ) → 4096 * pages ≡ length bs → end ≡ min (first + count) pages → end ≤ first + done → (first ≤ end → first + done ≤ end) →
    pages_text bs first done ≡ pages_text bs first count
pages_past bs first count done pages end whole is past within =
    let a = 4096 * first in
    elim (cases_lt end first) [
      | inl none ↦
          rows_past 0 (256 * done) a (drop a bs) (omega arith) (omega (arith, length-drop a bs))
          ∙ sym (rows_past 0 (256 * count) a (drop a bs) (omega arith) (omega (arith, length-drop a bs)))
      | inr some ↦
          let up : first + done ≤ end = within some in
          elim (cases_lt done count) [
            | inr over ↦ let same : done ≡ count = omega arith in ap (pages_text bs first) same
            | inl more ↦ sym (rows_past (256 * done) (256 * count) a (drop a bs) (omega arith) (omega (arith, length-drop a bs)))
          ]
    ]

-- one piece of memory more
pub pages_more : (bs : List ℕ) (first count : ℕ) → memory_rows 0 bs (256 * (first + count)) ≡ memory_rows 0 bs (256 * first) ++ pages_text bs first count
pages_more bs first count =
    let more : 256 * (first + count) ≡ 256 * first + 256 * count = omega arith in
    let here : 0 + 16 * (256 * first) ≡ 4096 * first = omega arith in
    let far : 16 * (256 * first) ≡ 4096 * first = omega arith in
    ap (memory_rows 0 bs) more ∙ rows-add (256 * first) (256 * count) 0 bs
    ∙ ap (λ (k : ℕ). memory_rows 0 bs (256 * first) ++ memory_rows k (drop (16 * (256 * first)) bs) (256 * count)) here
    ∙ ap (λ (k : ℕ). memory_rows 0 bs (256 * first) ++ memory_rows (4096 * first) (drop k bs) (256 * count)) far

-- the lines of memory after so many pages
pub rest_after : List ℕ → ℕ → List ℕ
rest_after bs p = memory_rows (0 + 16 * (256 * p)) (drop (16 * (256 * p)) bs) (length bs / 16)

-- one piece of memory, with those before it and those after it
pub pieces_left : (bs : List ℕ) (first count pages : ℕ) → 4096 * pages ≡ length bs →
    memory_rows 0 bs (length bs / 16) ≡ (memory_rows 0 bs (256 * first) ++ pages_text bs first count) ++ rest_after bs (first + count)
unfolding rest_after
pieces_left bs first count pages whole =
    let all = length bs / 16 in
    sym (rows_past all (256 * (first + count) + all) 0 bs (omega arith) (omega arith)) ∙ rows-add (256 * (first + count)) all 0 bs
    ∙ ap (λ (z : List ℕ). z ++ memory_rows (0 + 16 * (256 * (first + count))) (drop (16 * (256 * (first + count))) bs) all) (pages_more bs first count)

-- so many pages have all lines
pub all_pieces : (bs : List ℕ) (first pages : ℕ) → 4096 * pages ≡ length bs → pages ≤ first → memory_rows 0 bs (256 * first) ≡ memory_rows 0 bs (length bs / 16)
all_pieces bs first pages whole past = rows_past (length bs / 16) (256 * first) 0 bs (omega arith) (omega arith)

regroup_head : (start harts pages rows output : List ℕ) → start ++ harts ++ pages ++ rows ++ output ≡ start ++ harts ++ (pages ++ rows) ++ output
regroup_head start harts pages rows output = simp append_assoc

-- what stands before the events is the lines of memory and the output, with what stands before them
pub whole_head : (rounds : ℕ) (harts : List Hart) (bs output : List ℕ) →
    start_text rounds harts bs ++ memory_rows 0 bs (length bs / 16) ++ output_text output ≡ head_text rounds harts bs output
unfolding head_text memory_text start_text
whole_head rounds harts bs output =
    regroup_head (codes "rounds " ++ decimal rounds ++ codes "\n") (harts_text 0 harts) (codes "memory " ++ decimal (length bs / 4096) ++ codes "\n") (memory_rows 0 bs (length bs / 16)) (output_text output)

regroup : (start harts pages rows output count es end : List ℕ) →
    start ++ harts ++ pages ++ (rows ++ (output ++ count) ++ es) ++ end ≡ (start ++ harts ++ (pages ++ rows) ++ output) ++ (count ++ es) ++ end
regroup start harts pages rows output count es end = simp append_assoc

-- a report is what is put in blocks, with what stands before it and after it
pub whole_report : (rounds : ℕ) (harts : List Hart) (bs output : List ℕ) (es : List Event) →
    start_text rounds harts bs ++ body_text bs output es ++ codes "end\n" ≡ report_text rounds harts bs output es
unfolding report_text head_text memory_text trace_text start_text body_text middle_text
whole_report rounds harts bs output es =
    regroup (codes "rounds " ++ decimal rounds ++ codes "\n") (harts_text 0 harts) (codes "memory " ++ decimal (length bs / 4096) ++ codes "\n") (memory_rows 0 bs (length bs / 16)) (output_text output)
    (codes "trace " ++ decimal (length es) ++ codes "\n") (events_text es) (codes "end\n")
