-- Texts written one after the other.
use Rattle.std.proofs.Common.{◌≡◌, List, ◌++◌, append_assoc}

pub assoc : {A : Type 0} (xs ys zs : List A) → xs ++ ys ++ zs ≡ xs ++ (ys ++ zs)
assoc xs ys zs = append_assoc xs ys zs
