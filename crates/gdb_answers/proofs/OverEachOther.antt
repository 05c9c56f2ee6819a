-- Stores put over each other, and one more.
use Rattle.std.proofs.Common.{◌≡◌, ℕ, ◌+◌, ◌<◌, List, [], ◌∷◌, length, take, get_or, sym, ap, ◌∙◌}
use Rattle.std.proofs.lemmas.List.{take_more}
use Rattle.pages.specs.declared.access.Store.{Store}
use Rattle.store_buffer.specs.Covered.{with_store, with_stores}
use Rattle.store_buffer.proofs.CoveredLaws.{with_stores-append}

pub one_more : (ss : List Store) (i : ℕ) (s d : Store) (es fs : List (ℕ × ℕ)) → i < length ss → s ≡ get_or ss i d → es ≡ with_stores [] (take i ss) → fs ≡ with_store es s → fs ≡ with_stores [] (take (i + 1) ss)
one_more ss i s d es fs lt is e f =
    f ∙ ap (λ (x : List (ℕ × ℕ)). with_store x s) e ∙ ap (λ (x : Store). with_store (with_stores [] (take i ss)) x) is
    ∙ sym (with_stores-append [] (take i ss) (get_or ss i d ∷ []))
    ∙ ap (λ (xs : List Store). with_stores [] xs) (sym (take_more ss i d lt))
