-- Memories are the same where page by page they are.
use Rattle.std.proofs.Common.{◌≡◌, ℕ, ◌+◌, ◌*◌, ◌++◌, List, take, drop, sym, ◌∙◌, ap, arith}
use Rattle.std.proofs.Math.Seq.{take-add}
use Rattle.pages.specs.Flat.{page_bytes}

next_page : (bs : List ℕ) (n : ℕ) → take (4096 * (n + 1)) bs ≡ take (4096 * n) bs ++ page_bytes bs n
unfolding page_bytes
next_page bs n = ap (λ (k : ℕ). take k bs) (omega arith) ∙ take-add (4096 * n) 4096 bs

-- one page more
pub one_more : (as' bs : List ℕ) (n : ℕ) → take (4096 * n) as' ≡ take (4096 * n) bs → page_bytes as' n ≡ page_bytes bs n →
    take (4096 * (n + 1)) as' ≡ take (4096 * (n + 1)) bs
one_more as' bs n e f =
    next_page as' n ∙ ap (λ (xs : List ℕ). xs ++ page_bytes as' n) e ∙ ap (λ (xs : List ℕ). take (4096 * n) bs ++ xs) f ∙ sym (next_page bs n)
