-- A line that grows piece by piece.
use Rattle.std.proofs.Common.{◌≡◌, ℕ, List, ◌++◌, Result, Ok, Err, OnOk, ap, ◌∙◌, append_assoc}
use Rattle.pages.specs.declared.out_of_memory.OutOfMemory.{OutOfMemory}

-- one piece more, which is this text
pub more : (l0 t l1 u v l2 : List ℕ) → l1 ≡ l0 ++ t → l2 ≡ l1 ++ u → u ≡ v → l2 ≡ l0 ++ (t ++ v)
more l0 t l1 u v l2 e f same = f ∙ ap (λ (z : List ℕ). l1 ++ z) same ∙ ap (λ (z : List ℕ). z ++ v) e ∙ append_assoc l0 t v

-- the last piece, whose answer is the whole's
pub last : (l0 t l1 u v l2 : List ℕ) (r : Result (Unit {0}) OutOfMemory) → l1 ≡ l0 ++ t → OnOk r (l2 ≡ l1 ++ u) → u ≡ v → OnOk r (l2 ≡ l0 ++ (t ++ v))
last l0 t l1 u v l2 (Ok x) e f same = more l0 t l1 u v l2 e f same
last l0 t l1 u v l2 (Err x) e f same = tt
