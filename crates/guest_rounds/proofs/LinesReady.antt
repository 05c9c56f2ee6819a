-- Pages that are made ready for the lines of a buffer, one after another.
use Rattle.std.proofs.Common.{◌≡◌, ℕ, zero, suc, ◌+◌, ◌*◌, ◌/◌, ◌%◌, ◌<◌, ◌≤◌, List, [], ◌++◌, length, get_or, true, Option, None, Some, sym, subst, arith, All}
use Rattle.std.proofs.lemmas.List.Elements.{All-append, All-cons, All-head, All-nil, All-tail}
use Rattle.pages.specs.Paged.{Paged, is_page_ready}
use Rattle.store_buffer.specs.declared.line.Line.{Line}
use Rattle.store_buffer.specs.Covered.{one_byte}
use Rattle.store_buffer.specs.Lines.{line_at, line_bytes, put_first, whole_line}
use Rattle.commit_phase.proofs.Writing.{All-after, All-before}
use Rattle.hart_step.proofs.Spares.{within_pages}
use Rattle.guest_rounds.specs.HartEnds.{AllFit, AllOnReady, KeepsPages}
use Rattle.guest_rounds.proofs.Listed.{keeps_first, keeps_more}

-- the byte lies in one of so many pages
abbrev Within : ℕ → ℕ × ℕ → Type 0
Within size e = e.0 / 4096 < size

-- once the pages of the rest are ready too, those of all bytes are
pub record Readying (p q : Paged) (es rest : List (ℕ × ℕ)) : Type 0 where
  pub keeps : KeepsPages p q
  pub within : All (Within (length p.ready)) rest
  pub left : (r : Paged) → KeepsPages q r → AllOnReady r rest → AllOnReady r es

pub readying_first : (p : Paged) (es rest : List (ℕ × ℕ)) (pages : ℕ) → AllFit p.memory es → pages ≡ length p.ready → 4096 * pages ≡ length p.memory.bytes → es ≡ rest → Readying p p es rest
readying_first p es rest pages f count bytes e = subst (λ (fs : List (ℕ × ℕ)). Readying p p es fs) e (record {
  keeps = keeps_first p;
  within = λ k d low. within_pages p (one_byte (get_or es k d)) pages (f k d low) count bytes;
  left = λ r k h. h;
})

put_on : (q : Paged) (size a j : ℕ) (o : Option ℕ) (es : List (ℕ × ℕ)) → a % 64 ≡ 0 → j < 64 → (a / 4096 < size → is_page_ready q (a / 4096) ≡ true) →
    (All (Within size) es → AllOnReady q es) → All (Within size) (put_first (a + j) o es) → AllOnReady q (put_first (a + j) o es)
put_on q size a j None es aligned low page rest w = rest w
put_on q size a j (Some b) es aligned low page rest w =
    let same : a / 4096 ≡ (a + j) / 4096 = omega arith in
    let here : (a + j) / 4096 < size = All-head (Within size) (a + j, b) es w in
    All-cons (λ (e : ℕ × ℕ). is_page_ready q (e.0 / 4096) ≡ true) (a + j, b) es
    (subst (λ (n : ℕ). is_page_ready q n ≡ true) same (page (omega arith)))
    (rest (All-tail (Within size) (a + j, b) es w))

bytes_on : (n : ℕ) (q : Paged) (size a : ℕ) (l : Line) (j : ℕ) → a % 64 ≡ 0 → j + n ≤ 64 → (a / 4096 < size → is_page_ready q (a / 4096) ≡ true) →
    All (Within size) (line_bytes a l j n) → AllOnReady q (line_bytes a l j n)
bytes_on zero q size a l j aligned low page w = All-nil (λ (e : ℕ × ℕ). is_page_ready q (e.0 / 4096) ≡ true)
bytes_on (suc n) q size a l j aligned low page w =
    put_on q size a j (line_at l j) (line_bytes a l (j + 1) n) aligned (omega arith) page (bytes_on n q size a l (j + 1) aligned (omega arith) page) w

line_on : (q : Paged) (size a : ℕ) (l : Line) → a % 64 ≡ 0 → (a / 4096 < size → is_page_ready q (a / 4096) ≡ true) → All (Within size) (whole_line a l) → AllOnReady q (whole_line a l)
unfolding whole_line
line_on q size a l aligned page w = bytes_on 64 q size a l 0 aligned (omega arith) page w

-- the page of the next line is ready
pub readying_more : (p q r : Paged) (es rest more : List (ℕ × ℕ)) (a : ℕ) (l : Line) → a % 64 ≡ 0 → KeepsPages q r → (a / 4096 < length q.ready → is_page_ready r (a / 4096) ≡ true) →
    rest ≡ whole_line a l ++ more → Readying p q es rest → Readying p r es more
readying_more p q r es rest more a l aligned k page e h = record {
  keeps = keeps_more p q r h.keeps k;
  within = All-after (Within (length p.ready)) (whole_line a l) more within;
  left = λ s kept rest_on. h.left s (keeps_more q r s k kept)
      (subst (λ (fs : List (ℕ × ℕ)). AllOnReady s fs) (sym e)
      (All-append (λ (b : ℕ × ℕ). is_page_ready s (b.0 / 4096) ≡ true) (whole_line a l) more
      (line_on s (length p.ready) a l aligned (λ low. kept.stays (a / 4096) (page (omega (arith, low, h.keeps.count)))) (All-before (Within (length p.ready)) (whole_line a l) more within))
      rest_on));
}
  where
    within : All (Within (length p.ready)) (whole_line a l ++ more)
    within = subst (λ (fs : List (ℕ × ℕ)). All (Within (length p.ready)) fs) e h.within

pub readying_over : (p q : Paged) (es rest : List (ℕ × ℕ)) → rest ≡ [] → Readying p q es rest → AllOnReady q es
readying_over p q es rest none h = h.left q (keeps_first q) (subst (λ (fs : List (ℕ × ℕ)). AllOnReady q fs) (sym none) (All-nil (λ (e : ℕ × ℕ). is_page_ready q (e.0 / 4096) ≡ true)))
