-- An ending is read from what is written.
use Rattle.std.proofs.Common.{◌≡◌, ℕ, suc, ◌+◌, ◌^◌, ◌<◌, ◌≤◌, ◌&&◌, Bool, true, false, List, [], ◌∷◌, ◌++◌, All, length, map, sum_by, take, drop, inr, refl, sym, ◌∙◌, ap, append_assoc, arith}
use Rattle.std.specs.Prelude.{codes}
use Rattle.std.specs.Fmt.{decimal}
use Rattle.std.proofs.lemmas.List.{length-drop, length-map, length-take-le, take-append-drop}
use Rattle.std.proofs.lemmas.List.Elements.{All-drop, All-head, All-take}
use Rattle.std.proofs.lemmas.List.Sums.{sum_by-cons}
use Rattle.plan_hunt.specs.declared.hart_ending.HartEnding.{HartEnding}
use Rattle.hunt_table.specs.Text.{checked_word, ending_line, ending_text, endings_text, is_bad, mark, name_word, output_line, quoted, seen_line, seen_lines, stop_line, stop_lines}
use Rattle.hunt_table.specs.declared.seen_range.SeenRange.{SeenRange}
use Rattle.plan_hunt.specs.Adding.{row}
use Rattle.plan_hunt.specs.Endings.{ended}
use Rattle.plan_hunt.specs.declared.row.Row.{Row}
use Rattle.report_lines.specs.Text.{bytes_text, hex}
use Rattle.hunt_table.specs.Reading.{after_checked, after_mark, bytes_of, ending_at, ending_lines_at, endings_at, is_ending_line, is_seen_line, is_stop_line, number_at, output_line_at, ranges_of, seen_at, seen_line_at, stop_line_at, stops_at, word_at}
use Rattle.hunt_table.specs.Told.{IsToldRange, IsToldRow, IsToldStop}
use Rattle.hunt_table.proofs.Lines.{eight, five, seen_line_again, stop_line_again}
use Rattle.hunt_table.proofs.Numbers.{number_again, word_again}
use Rattle.hunt_table.proofs.Quotes.{output_line_again}
use Rattle.hunt_table.proofs.Repeats.{AllFrom, lines_again, many_again, texts}

tail_all : {A : Type 0} (P : A → Type 0) (x : A) (xs : List A) → All P (x ∷ xs) → All P xs
tail_all P x xs h = λ k d l. h (suc k) d (omega (arith, l))

-- ---- harts

abbrev IsStop : ℕ → HartEnding → Type 0
IsStop i s = (i < 2 ^ 64) × IsToldStop s

stop_texts : (i : ℕ) (ss : List HartEnding) → stop_lines i ss ≡ texts stop_line i ss
stop_texts i [] = refl
stop_texts i (s ∷ ss) = ap (λ (t : List ℕ). stop_line i s ++ t) (stop_texts (i + 1) ss)

all_stops : (i : ℕ) (ss : List HartEnding) → i + length ss ≤ 2 ^ 64 → All IsToldStop ss → AllFrom IsStop i ss
all_stops i [] few h = tt
all_stops i (s ∷ ss) few h = ((omega (arith, few), All-head IsToldStop s ss h), all_stops (i + 1) ss (omega (arith, few)) (tail_all IsToldStop s ss h))

stops_again : (ss : List HartEnding) (rest : List ℕ) → length ss < 2 ^ 64 → All IsToldStop ss → is_stop_line rest ≡ false → stops_at (stop_lines 0 ss ++ rest) ≡ (ss, rest)
stops_again ss rest few h end =
    ap (λ (t : List ℕ). stops_at (t ++ rest)) (stop_texts 0 ss)
    ∙ lines_again is_stop_line stop_line_at stop_line IsStop (λ i s r k. stop_line_again i s r k.0 k.1) refl 0 ss rest end (all_stops 0 ss (omega (arith, few)) h)

-- ---- ranges

-- each range with its bytes
cut : List SeenRange → List ℕ → List (SeenRange × List ℕ)
cut [] bs = []
cut (r ∷ rs) bs = (r, take r.length bs) ∷ cut rs (drop r.length bs)

abbrev seen_text : ℕ → SeenRange × List ℕ → List ℕ
seen_text i l = seen_line l.0 l.1

abbrev IsSeen : ℕ → SeenRange × List ℕ → Type 0
IsSeen i l = IsToldRange l.0 × (length l.1 ≡ l.0.length) × All (λ (b : ℕ). b < 2 ^ 8) l.1

seen_texts : (i : ℕ) (rs : List SeenRange) (bs : List ℕ) → seen_lines rs bs ≡ texts seen_text i (cut rs bs)
unfolding cut
seen_texts i [] bs = refl
seen_texts i (r ∷ rs) bs = ap (λ (t : List ℕ). seen_line r (take r.length bs) ++ t) (seen_texts (i + 1) rs (drop r.length bs))

abbrev total : List SeenRange → ℕ
total rs = sum_by (λ (s : SeenRange). s.length) rs

all_seen : (i : ℕ) (rs : List SeenRange) (bs : List ℕ) → length bs ≡ total rs → All IsToldRange rs → All (λ (b : ℕ). b < 2 ^ 8) bs → AllFrom IsSeen i (cut rs bs)
unfolding cut
all_seen i [] bs e t h = tt
all_seen i (r ∷ rs) bs e t h =
    let whole : length bs ≡ r.length + total rs = e ∙ sum_by-cons (λ (s : SeenRange). s.length) r rs in (
      (All-head IsToldRange r rs t, length-take-le r.length bs (omega (arith, whole)), All-take (λ (b : ℕ). b < 2 ^ 8) r.length bs h),
      all_seen (i + 1) rs (drop r.length bs) (omega (arith, whole, length-drop r.length bs)) (tail_all IsToldRange r rs t) (All-drop (λ (b : ℕ). b < 2 ^ 8) r.length bs h),
    )

ranges-cut : (rs : List SeenRange) (bs : List ℕ) → ranges_of (cut rs bs) ≡ rs
unfolding cut
ranges-cut [] bs = refl
ranges-cut (r ∷ rs) bs = ap (λ (v : List SeenRange). r ∷ v) (ranges-cut rs (drop r.length bs))

no_bytes : (bs : List ℕ) → length bs ≡ 0 → [] ≡ bs
no_bytes [] e = refl
no_bytes (b ∷ bs) e = absurd (omega (arith, e))

bytes-cut : (rs : List SeenRange) (bs : List ℕ) → length bs ≡ total rs → bytes_of (cut rs bs) ≡ bs
unfolding cut
bytes-cut [] bs e = no_bytes bs e
bytes-cut (r ∷ rs) bs e =
    let whole : length bs ≡ r.length + total rs = e ∙ sum_by-cons (λ (s : SeenRange). s.length) r rs in
    ap (λ (v : List ℕ). take r.length bs ++ v) (bytes-cut rs (drop r.length bs) (omega (arith, whole, length-drop r.length bs)))
    ∙ take-append-drop r.length bs

seen_again : (rs : List SeenRange) (bs rest : List ℕ) → length bs ≡ total rs → All IsToldRange rs → All (λ (b : ℕ). b < 2 ^ 8) bs → is_seen_line rest ≡ false →
    seen_at (seen_lines rs bs ++ rest) ≡ (cut rs bs, rest)
seen_again rs bs rest e t h end =
    ap (λ (v : List ℕ). seen_at (v ++ rest)) (seen_texts 0 rs bs)
    ∙ lines_again is_seen_line seen_line_at seen_text IsSeen (λ i l r k. seen_line_again l.0 l.1 r k.0 k.1 k.2) refl 0 (cut rs bs) rest end (all_seen 0 rs bs e t h)

-- ---- what follows

output_is_no_seen_line : (bs rest : List ℕ) → is_seen_line (output_line bs ++ rest) ≡ false
unfolding output_line
output_is_no_seen_line bs rest = ap is_seen_line (five (codes "output ") (decimal (length bs)) (codes " \"") (quoted bs) (codes "\"\n") rest)

output_is_no_stop_line : (bs rest : List ℕ) → is_stop_line (output_line bs ++ rest) ≡ false
unfolding output_line
output_is_no_stop_line bs rest = ap is_stop_line (five (codes "output ") (decimal (length bs)) (codes " \"") (quoted bs) (codes "\"\n") rest)

seen_is_no_stop_line : (r : SeenRange) (bs rest : List ℕ) → is_stop_line (seen_line r bs ++ rest) ≡ false
unfolding seen_line
seen_is_no_stop_line r bs rest = ap is_stop_line (eight (codes "see ") (hex 8 r.address) (codes " ") (decimal r.length) (codes " ") (bytes_text bs) (name_word r.name) (codes "\n") rest)

no_stop_line : (rs : List SeenRange) (bs out rest : List ℕ) → is_stop_line (seen_lines rs bs ++ (output_line out ++ rest)) ≡ false
no_stop_line [] bs out rest = output_is_no_stop_line out rest
no_stop_line (r ∷ rs) bs out rest =
    let more : List ℕ = seen_lines rs (drop r.length bs) in
    ap is_stop_line (append_assoc (seen_line r (take r.length bs)) more (output_line out ++ rest))
    ∙ seen_is_no_stop_line r (take r.length bs) (more ++ (output_line out ++ rest))

-- ---- an ending

lines_of_ending : (ranges : List SeenRange) (r : Row) (rest : List ℕ) → All IsToldRange ranges → IsToldRow ranges r →
    ending_lines_at r.plans r.first (stop_lines 0 r.ending.stops ++ (seen_lines ranges r.ending.seen ++ (output_line r.ending.output ++ rest))) ≡ ((r, ranges), rest)
unfolding ending_lines_at
lines_of_ending ranges r rest t h =
    let tail : List ℕ = output_line r.ending.output ++ rest in
    let lines : List (SeenRange × List ℕ) = cut ranges r.ending.seen in
    let stops = stops_again r.ending.stops (seen_lines ranges r.ending.seen ++ tail) h.stops_length h.stops (no_stop_line ranges r.ending.seen r.ending.output rest) in
    let seen = seen_again ranges r.ending.seen tail h.seen_length t h.seen (output_is_no_seen_line r.ending.output rest) in
    let output = output_line_again r.ending.output rest h.output_length h.output in
    ap (λ (p : List HartEnding × List ℕ). ((row (ended p.0 (output_line_at (seen_at p.1).1).0 (bytes_of (seen_at p.1).0)) r.first r.plans, ranges_of (seen_at p.1).0), (output_line_at (seen_at p.1).1).1)) stops
    ∙ ap (λ (q : List (SeenRange × List ℕ) × List ℕ). ((row (ended r.ending.stops (output_line_at q.1).0 (bytes_of q.0)) r.first r.plans, ranges_of q.0), (output_line_at q.1).1)) seen
    ∙ ap (λ (o : List ℕ × List ℕ). ((row (ended r.ending.stops o.0 (bytes_of lines)) r.first r.plans, ranges_of lines), o.1)) output
    ∙ ap (λ (v : List ℕ). ((row (ended r.ending.stops r.ending.output v) r.first r.plans, ranges_of lines), rest)) (bytes-cut ranges r.ending.seen h.seen_length)
    ∙ ap (λ (v : List SeenRange). ((r, v), rest)) (ranges-cut ranges r.ending.seen)

four : (a b c d r : List ℕ) → (a ++ b ++ c ++ d) ++ r ≡ a ++ (b ++ (c ++ (d ++ r)))
four a b c d r = simp append_assoc

nine : (a b c d e f g h i r : List ℕ) → ((a ++ b ++ c) ++ (d ++ e ++ f ++ g) ++ h ++ i) ++ r ≡ a ++ (b ++ (c ++ (d ++ (e ++ (f ++ (g ++ (h ++ (i ++ r))))))))
nine a b c d e f g h i r = simp append_assoc

-- marked or not, the plans follow
mark_again : (k : ℕ) (bad : Bool) (tail : List ℕ) → k < 2 ^ 64 → after_mark (number_at (decimal k ++ (mark bad ++ (codes " plans " ++ tail)))).1 ≡ codes " plans " ++ tail
mark_again k true tail small = ap (λ (p : ℕ × List ℕ). after_mark p.1) (number_again k 32 (drop 1 (codes " bad") ++ (codes " plans " ++ tail)) small refl)
mark_again k false tail small = ap (λ (p : ℕ × List ℕ). after_mark p.1) (number_again k 32 (drop 1 (codes " plans ") ++ tail) small refl)

-- the first plan, and what follows its line
abbrev first_at : List ℕ → ℕ × List ℕ
first_at bs = ((word_at bs).0, drop 1 (after_checked (word_at bs).1))

-- checked or not, the harts follow
first_again : (weak : Bool) (n : ℕ) (after : List ℕ) → n < 2 ^ 32 → first_at (decimal n ++ (checked_word weak ++ 10 ∷ after)) ≡ (n, after)
first_again true n after small = ap (λ (p : ℕ × List ℕ). (p.0, drop 1 (after_checked p.1))) (word_again n 32 (drop 1 (codes " checked") ++ 10 ∷ after) small refl)
first_again false n after small = ap (λ (p : ℕ × List ℕ). (p.0, drop 1 (after_checked p.1))) (word_again n 10 after small refl)

ending_again : (weak marked : Bool) (ranges : List SeenRange) (k : ℕ) (r : Row) (rest : List ℕ) → k < 2 ^ 64 → All IsToldRange ranges → IsToldRow ranges r →
    (is_ending_line (ending_text weak marked ranges k r ++ rest) ≡ true) × (ending_at (ending_text weak marked ranges k r ++ rest) ≡ ((r, ranges), rest))
unfolding ending_text ending_line ending_at
ending_again weak marked ranges k r rest small t h =
    let bad : Bool = marked && is_bad r in
    let after : List ℕ = stop_lines 0 r.ending.stops ++ (seen_lines ranges r.ending.seen ++ (output_line r.ending.output ++ rest)) in
    let parts =
    four (ending_line weak marked k r) (stop_lines 0 r.ending.stops) (seen_lines ranges r.ending.seen) (output_line r.ending.output) rest
    ∙ nine (codes "ending ") (decimal k) (mark bad) (codes " plans ") (decimal r.plans) (codes " first ") (decimal r.first) (checked_word weak) (codes "\n") after in
    let first : List ℕ = decimal r.first ++ (checked_word weak ++ 10 ∷ after) in
    let plans : List ℕ = decimal r.plans ++ (codes " first " ++ first) in (
      ap is_ending_line parts,
      ap ending_at parts
          ∙ ap (λ (v : List ℕ). ending_lines_at (word_at (drop 7 v)).0 (first_at (drop 7 (word_at (drop 7 v)).1)).0 (first_at (drop 7 (word_at (drop 7 v)).1)).1)
          (mark_again k bad plans small)
          ∙ ap (λ (p : ℕ × List ℕ). ending_lines_at p.0 (first_at (drop 7 p.1)).0 (first_at (drop 7 p.1)).1) (word_again r.plans 32 (drop 1 (codes " first ") ++ first) h.plans refl)
          ∙ ap (λ (p : ℕ × List ℕ). ending_lines_at r.plans p.0 p.1) (first_again weak r.first after h.first)
          ∙ lines_of_ending ranges r rest t h,
    )

-- ---- endings

abbrev pub with_ranges : List SeenRange → List Row → List (Row × List SeenRange)
with_ranges ranges rows = map (λ (r : Row). (r, ranges)) rows

abbrev one_ending : Bool → Bool → ℕ → Row × List SeenRange → List ℕ
one_ending weak marked k e = ending_text weak marked e.1 k e.0

abbrev IsEnding : ℕ → Row × List SeenRange → Type 0
IsEnding k e = (k < 2 ^ 64) × All IsToldRange e.1 × IsToldRow e.1 e.0

ending_texts : (weak marked : Bool) (ranges : List SeenRange) (k : ℕ) (rows : List Row) → endings_text weak marked ranges k rows ≡ texts (one_ending weak marked) k (with_ranges ranges rows)
ending_texts weak marked ranges k [] = refl
ending_texts weak marked ranges k (r ∷ rs) = ap (λ (t : List ℕ). ending_text weak marked ranges k r ++ t) (ending_texts weak marked ranges (k + 1) rs)

all_endings : (ranges : List SeenRange) (k : ℕ) (rows : List Row) → k + length rows ≤ 2 ^ 64 → All IsToldRange ranges → All (IsToldRow ranges) rows → AllFrom IsEnding k (with_ranges ranges rows)
all_endings ranges k [] few t h = tt
all_endings ranges k (r ∷ rs) few t h =
    ((omega (arith, few), t, All-head (IsToldRow ranges) r rs h), all_endings ranges (k + 1) rs (omega (arith, few)) t (tail_all (IsToldRow ranges) r rs h))

pub endings_again : (weak marked : Bool) (ranges : List SeenRange) (rows : List Row) (rest : List ℕ) → length rows < 2 ^ 64 → All IsToldRange ranges → All (IsToldRow ranges) rows →
    endings_at (length rows) (endings_text weak marked ranges 1 rows ++ rest) ≡ (with_ranges ranges rows, rest)
endings_again weak marked ranges rows rest few t h =
    let same : length (with_ranges ranges rows) ≡ length rows = length-map rows (λ (r : Row). (r, ranges)) in
    ap (λ (v : List ℕ). endings_at (length rows) (v ++ rest)) (ending_texts weak marked ranges 1 rows)
    ∙ many_again is_ending_line ending_at (one_ending weak marked) IsEnding (λ k e r p. ending_again weak marked e.1 k e.0 r p.0 p.1 p.2) (length rows) 1 (with_ranges ranges rows) rest
    (omega (arith, same)) (inr (sym same)) (all_endings ranges 1 rows (omega (arith, few)) t h)
