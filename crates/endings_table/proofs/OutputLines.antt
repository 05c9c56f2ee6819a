-- A hunt's line of an output, behind its first word.
use Rattle.std.proofs.Common.{◌≡◌, ◌∙◌, ℕ, List, ◌++◌, ap, append_assoc, codes, decimal, drop, length}
use Rattle.hunt_table.specs.Text.{output_line, quoted}
use Rattle.endings_table.specs.Text.{output_words}

behind : (a b c d e : List ℕ) → a ++ b ++ c ++ d ++ e ≡ a ++ (b ++ c ++ d ++ e)
behind a b c d e =
    ap (λ (z : List ℕ). z ++ e) (ap (λ (z : List ℕ). z ++ d) (append_assoc a b c) ∙ append_assoc a (b ++ c) d) ∙ append_assoc a (b ++ c ++ d) e

pub words_behind : (bs : List ℕ) → drop 7 (output_line bs) ≡ output_words bs
unfolding output_line
words_behind bs = ap (λ (z : List ℕ). drop 7 z) (behind (codes "output ") (decimal (length bs)) (codes " \"") (quoted bs) (codes "\"\n"))
