-- The text of a comparison: lines that end with LF.
use Rattle.std.specs.Prelude.{ℕ, ◌+◌, ◌*◌, ◌==◌, if◌then◌else◌, true, Bool, List, [], ◌∷◌, ◌++◌, Option, Some, None, codes}
use Rattle.std.specs.Fmt.{decimal}
use Rattle.hunt_comparison.specs.declared.twins.Compared.{Compared}
use Rattle.hunt_comparison.specs.declared.twins.Twin.{Twin}
use Rattle.hunt_table.specs.Text.{ending_text}
use Rattle.hunt_table.specs.declared.header.Header.{Header}

-- the text, where there is no twin
abbrev pub without_twin : Option Twin → List ℕ → List ℕ
without_twin None text = text
without_twin (Some t) text = []

-- an ending as its table has it, behind a word, where the other table hasn't the ending
abbrev pub only_text : List ℕ → Header → ℕ → Compared → List ℕ
only_text word h k c = without_twin c.twin (word ++ ending_text h.is_weak true h.ranges.items k c.row.now)

-- the same of endings k, k + 1, ..
abbrev pub only_texts : List ℕ → Header → ℕ → List Compared → List ℕ
only_texts word h k [] = []
only_texts word h k (c ∷ cs) = only_text word h k c ++ only_texts word h (k + 1) cs

-- so many plans of n are the same share as so many of m
abbrev pub has_same_share : ℕ → ℕ → ℕ → ℕ → Bool
has_same_share plans n others m = plans * m == others * n

-- how many of n plans lead to an ending
abbrev pub share_words : ℕ → ℕ → ℕ → List ℕ
share_words k plans n = codes " ending " ++ decimal k ++ codes " plans " ++ decimal plans ++ codes " of " ++ decimal n

-- the share of the old table's n plans, and that of the new one's m, where they differ
abbrev pub share_line : ℕ → ℕ → ℕ → ℕ → Twin → List ℕ
share_line n m k plans t =
    if has_same_share plans n t.plans m then []
    else codes "share" ++ share_words k plans n ++ codes " new" ++ share_words t.number t.plans m ++ codes "\n"

abbrev pub twin_share : ℕ → ℕ → ℕ → ℕ → Option Twin → List ℕ
twin_share n m k plans None = []
twin_share n m k plans (Some t) = share_line n m k plans t

-- the same of an ending that both have
abbrev pub share_text : ℕ → ℕ → ℕ → Compared → List ℕ
share_text n m k c = twin_share n m k c.row.now.plans c.twin

abbrev pub share_texts : ℕ → ℕ → ℕ → List Compared → List ℕ
share_texts n m k [] = []
share_texts n m k (c ∷ cs) = share_text n m k c ++ share_texts n m (k + 1) cs

-- the endings that only the old table has, those that only the new one has, and those of both whose share of the plans changed
unfoldable pub comparison_text : Header → Header → List Compared → List Compared → List ℕ
comparison_text old new olds news =
    only_texts (codes "lost ") old 1 olds ++ only_texts (codes "new ") new 1 news ++ share_texts old.count new.count 1 olds ++ codes "end\n"
