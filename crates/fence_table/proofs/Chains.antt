-- A line that grows piece by piece.
use Rattle.std.proofs.Common.{◌≡◌, ℕ, List, ◌++◌, Result, Ok, Err, OnOk, ap, ◌∙◌, append_assoc}
use Rattle.pages.specs.declared.out_of_memory.OutOfMemory.{OutOfMemory}

-- three pieces, of which the last one's answer is the whole's
pub three : (old a b c one two new : List ℕ) (r : Result (Unit {0}) OutOfMemory) → one ≡ old ++ a → two ≡ one ++ b → OnOk r (new ≡ two ++ c) →
    OnOk r (new ≡ old ++ (a ++ b ++ c))
three old a b c one two new (Ok x) e f g =
    g ∙ ap (λ (z : List ℕ). z ++ c) (f ∙ (ap (λ (z : List ℕ). z ++ b) e ∙ append_assoc old a b)) ∙ append_assoc old (a ++ b) c
three old a b c one two new (Err x) e f g = tt
