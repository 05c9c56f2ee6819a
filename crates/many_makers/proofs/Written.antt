-- What is written back over all items of a list.
use Rattle.std.proofs.Common.{◌≡◌, ℕ, List, ◌++◌, length, take, drop, sym, ◌∙◌, ap, append-nil}
use Rattle.std.proofs.Math.Seq.{drop-length, take-length}

pub written : {X : Type 0} (n : ℕ) (new old : List X) → n ≡ length old → length new ≡ length old → take n (new ++ drop (length new) old) ≡ new
written {X = X} n new old long same =
    ap (λ (k : ℕ). take n (new ++ drop k old)) same ∙ ap (λ (rest : List X). take n (new ++ rest)) (drop-length old)
    ∙ ap (take n) (append-nil new) ∙ ap (λ (k : ℕ). take k new) (long ∙ sym same) ∙ take-length new
