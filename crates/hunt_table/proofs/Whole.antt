-- A table is read from its text.
use Rattle.std.proofs.Common.{◌≡◌, ◌≢◌, inl, inr, ℕ, ◌-◌, ◌^◌, ◌<◌, Bool, true, false, List, [], ◌∷◌, ◌++◌, Option, Some, None, length, drop, min, refl, sym, ◌∙◌, ap, append_assoc, arith}
use Rattle.std.specs.Prelude.{codes}
use Rattle.std.specs.Fmt.{decimal}
use Rattle.std.proofs.lemmas.List.{drop-drop}
use Rattle.hunt_table.specs.Text.{IsTextOf, endings_text, header_text, plans_line, program_line, table_text, table_text_by, weak_word}
use Rattle.hunt_table.specs.Programs.{fingerprint}
use Rattle.hunt_table.specs.declared.fingerprint.Fingerprint.{Fingerprint}
use Rattle.hunt_table.specs.declared.header.Header.{Header}
use Rattle.report_lines.specs.Text.{hex}
use Rattle.hunt_table.specs.declared.seen_range.SeenRange.{SeenRange}
use Rattle.plan_hunt.specs.declared.row.Row.{Row}
use Rattle.hunt_table.specs.Reading.{Told, checksum_at, contents, endings_at, last_ranges, number_at, program_at, rows_of, table_at, told, weak_at, word_at}
use Rattle.hunt_table.specs.Told.{IsSame, IsTold, IsToldProgram}
use Rattle.hunt_table.specs.declared.table.Table.{Table}
use Rattle.hunt_table.proofs.EndingsAgain.{endings_again, with_ranges}
use Rattle.hunt_table.proofs.Numbers.{hex_at_front, number_again, word_again}

rows-with : (ranges : List SeenRange) (rows : List Row) → rows_of (with_ranges ranges rows) ≡ rows
rows-with ranges [] = refl
rows-with ranges (r ∷ rs) = ap (λ (v : List Row). r ∷ v) (rows-with ranges rs)

last-with : (before ranges : List SeenRange) (r : Row) (rows : List Row) → last_ranges before (with_ranges ranges (r ∷ rows)) ≡ ranges
last-with before ranges r [] = refl
last-with before ranges r (q ∷ rows) = last-with ranges ranges q rows

last_is : (ranges : List SeenRange) (rows : List Row) → (rows ≡ [] → ranges ≡ []) → last_ranges [] (with_ranges ranges rows) ≡ ranges
last_is ranges [] none = sym (none refl)
last_is ranges (r ∷ rows) none = last-with [] ranges r rows

twelve : (a b c d e f g h p i j k r : List ℕ) → (((a ++ b ++ c ++ d) ++ e ++ f ++ g ++ h) ++ p ++ i ++ j ++ k) ++ r ≡ a ++ (b ++ (c ++ (d ++ (e ++ (f ++ (g ++ (h ++ (p ++ (i ++ (j ++ (k ++ r)))))))))))
twelve a b c d e f g h p i j k r = simp append_assoc

line_parts : (a b c d e r : List ℕ) → ((a ++ b ++ c ++ d) ++ e) ++ r ≡ a ++ (b ++ (c ++ (d ++ (e ++ r))))
line_parts a b c d e r = simp append_assoc

abbrev told_of : Header → List Row → Told
told_of h rows = record { is_weak = h.is_weak; seed = h.seed; first = h.first; count = h.count; program = h.program; ranges = h.ranges.items; rows = rows }

-- the seed, and whether the hunt is weak
abbrev seed_at : List ℕ → ℕ × (Bool × List ℕ)
seed_at bs = ((number_at bs).0, weak_at (number_at bs).1)

-- weak or not, the next line follows
seed_again : (weak : Bool) (seed : ℕ) (lines : List ℕ) → seed < 2 ^ 64 → seed_at (decimal seed ++ (weak_word weak ++ 10 ∷ lines)) ≡ (seed, (weak, 10 ∷ lines))
seed_again true seed lines small = ap (λ (p : ℕ × List ℕ). (p.0, weak_at p.1)) (number_again seed 32 (drop 1 (codes " weak") ++ 10 ∷ lines) small refl)
seed_again false seed lines small = ap (λ (p : ℕ × List ℕ). (p.0, weak_at p.1)) (number_again seed 10 lines small refl)

checksum_again : (n c : ℕ) (rest : List ℕ) → c < 2 ^ 32 → checksum_at n (hex 8 c ++ 10 ∷ rest) ≡ (Some (fingerprint n c), rest)
checksum_again n c rest small =
    let front = hex_at_front 8 c (10 ∷ rest) (omega (arith, small)) (omega (arith, small)) in
    let after : drop 9 (hex 8 c ++ 10 ∷ rest) ≡ rest = sym (drop-drop 1 8 (hex 8 c ++ 10 ∷ rest)) ∙ ap (drop 1) front.1 in
    let kept : min c (2 ^ 32 - 1) ≡ c = omega (arith, small) in
    ap (λ (k : ℕ). (Some (fingerprint n (min k (2 ^ 32 - 1))), drop 9 (hex 8 c ++ 10 ∷ rest))) front.0
    ∙ ap (λ (k : ℕ). (Some (fingerprint n k), drop 9 (hex 8 c ++ 10 ∷ rest))) kept
    ∙ ap (λ (v : List ℕ). (Some (fingerprint n c), v)) after

-- whether a program is told or not, the number of endings follows
program_again : (program : Option Fingerprint) (endings : List ℕ) → IsToldProgram program →
    program_at (program_line program ++ (codes "endings " ++ endings)) ≡ (program, codes "endings " ++ endings)
unfolding program_line program_at
program_again None endings h = refl
program_again (Some p) endings h =
    let after : List ℕ = codes "endings " ++ endings in
    ap program_at (line_parts (codes "program ") (decimal p.length) (codes " crc ") (hex 8 p.checksum) (codes "\n") after)
    ∙ ap (λ (q : ℕ × List ℕ). checksum_at q.0 (drop 5 q.1)) (number_again p.length 32 (drop 1 (codes " crc ") ++ (hex 8 p.checksum ++ 10 ∷ after)) h.0 refl)
    ∙ checksum_again p.length p.checksum after h.1

table_again : (marked : Bool) (h : Header) (rows : List Row) → IsTold h rows → table_at (table_text_by marked h rows) ≡ told_of h rows
unfolding table_text_by header_text plans_line table_at
table_again marked h rows t =
    let n : ℕ = length rows in
    let after : List ℕ = endings_text h.is_weak marked h.ranges.items 1 rows ++ codes "end\n" in
    let endings : List ℕ = decimal n ++ 10 ∷ after in
    let lines : List ℕ = program_line h.program ++ (codes "endings " ++ endings) in
    let seed : List ℕ = decimal h.seed ++ (weak_word h.is_weak ++ 10 ∷ lines) in
    let count : List ℕ = decimal h.count ++ (codes " seed " ++ seed) in
    let parts =
    append_assoc (header_text h.is_weak h.seed h.first h.count h.program n) (endings_text h.is_weak marked h.ranges.items 1 rows) (codes "end\n")
    ∙ twelve (codes "plans ") (decimal h.first) (codes " ") (decimal h.count) (codes " seed ") (decimal h.seed) (weak_word h.is_weak) (codes "\n") (program_line h.program) (codes "endings ") (decimal n) (codes "\n") after in
    let E : ℕ → ℕ → ℕ → Bool → Option Fingerprint → ℕ × List ℕ → Told = λ first count seed weak program p. told first count seed weak program (endings_at p.0 (drop 1 p.1)).0 in
    let F : ℕ → ℕ → ℕ → Bool → Option Fingerprint × List ℕ → Told = λ first count seed weak p. E first count seed weak p.0 (number_at (drop 8 p.1)) in
    let G : ℕ → ℕ → ℕ × (Bool × List ℕ) → Told = λ first count p. F first count p.0 p.1.0 (program_at (drop 1 p.1.1)) in
    let H : ℕ → ℕ × List ℕ → Told = λ first p. G first p.0 (seed_at (drop 6 p.1)) in
    ap table_at parts
    ∙ ap (λ (p : ℕ × List ℕ). H p.0 (word_at (drop 1 p.1))) (word_again h.first 32 count t.first refl)
    ∙ ap (H h.first) (word_again h.count 32 (drop 1 (codes " seed ") ++ seed) t.count refl)
    ∙ ap (G h.first h.count) (seed_again h.is_weak h.seed lines t.seed)
    ∙ ap (F h.first h.count h.seed h.is_weak) (program_again h.program endings t.program)
    ∙ ap (E h.first h.count h.seed h.is_weak h.program) (number_again n 10 after t.few_endings refl)
    ∙ ap (λ (p : List (Row × List SeenRange) × List ℕ). told h.first h.count h.seed h.is_weak h.program p.0) (endings_again h.is_weak marked h.ranges.items rows (codes "end\n") t.few_endings t.ranges t.rows)
    ∙ ap (λ (v : List SeenRange). record { is_weak = h.is_weak; seed = h.seed; first = h.first; count = h.count; program = h.program; ranges = v; rows = rows_of (with_ranges h.ranges.items rows) }) (last_is h.ranges.items rows t.no_ending)
    ∙ ap (λ (v : List Row). record { is_weak = h.is_weak; seed = h.seed; first = h.first; count = h.count; program = h.program; ranges = h.ranges.items; rows = v }) (rows-with h.ranges.items rows)

-- what was read of a table's text is that table
told_again : (h : Header) (rows : List Row) (t : Table) (text : List ℕ) → IsTold h rows → IsTextOf h rows text → contents t ≡ table_at text → contents t ≡ told_of h rows
told_again h rows t text good (inl e) read = read ∙ ap table_at e ∙ table_again true h rows good
told_again h rows t text good (inr e) read = read ∙ ap table_at e ∙ table_again false h rows good

pub is_same : (h : Header) (rows : List Row) (t : Table) (text : List ℕ) → IsTold h rows → IsTextOf h rows text → contents t ≡ table_at text → IsSame h rows t
is_same h rows t text good e read =
    let same : contents t ≡ told_of h rows = told_again h rows t text good e read in
    record {
      is_weak = ap (λ (c : Told). c.is_weak) same;
      seed = ap (λ (c : Told). c.seed) same;
      first = ap (λ (c : Told). c.first) same;
      count = ap (λ (c : Told). c.count) same;
      program = ap (λ (c : Told). c.program) same;
      ranges = ap (λ (c : Told). c.ranges) same;
      rows = ap (λ (c : Told). c.rows) same;
    }

abbrev text_of : Bool → Told → List ℕ
text_of marked c = header_text c.is_weak c.seed c.first c.count c.program (length c.rows) ++ endings_text c.is_weak marked c.ranges 1 c.rows ++ codes "end\n"

same_text : (marked : Bool) (h : Header) (rows : List Row) (t : Table) → contents t ≡ told_of h rows → table_text_by marked t.header t.rows.items ≡ table_text_by marked h rows
unfolding table_text_by
same_text marked h rows t e = ap (text_of marked) e

-- a text that is not that of what was read is no table's
pub is_none : (h : Header) (rows : List Row) (t : Table) (text : List ℕ) → IsTold h rows → IsTextOf h rows text → contents t ≡ table_at text → text ≢ table_text t.header t.rows.items → text ≢ table_text_by false t.header t.rows.items → ⊥
is_none h rows t text good (inl e) read other plain = other (e ∙ sym (same_text true h rows t (told_again h rows t text good (inl e) read)))
is_none h rows t text good (inr e) read other plain = plain (e ∙ sym (same_text false h rows t (told_again h rows t text good (inr e) read)))
