-- A line that grows piece by piece.
use Rattle.std.proofs.Common.{◌≡◌, ℕ, List, ◌++◌, Result, Ok, Err, OnOk, ap, ◌∙◌, append_assoc}
use Rattle.pages.specs.declared.out_of_memory.OutOfMemory.{OutOfMemory}

-- one piece more, which is this text
pub more : (l0 t l1 u v l2 : List ℕ) → l1 ≡ l0 ++ t → l2 ≡ l1 ++ u → u ≡ v → l2 ≡ l0 ++ (t ++ v)
more l0 t l1 u v l2 e f same = f ∙ ap (λ (z : List ℕ). l1 ++ z) same ∙ ap (λ (z : List ℕ). z ++ v) e ∙ append_assoc l0 t v

-- one text more, and a piece after it, which is this text
pub more_two : (l0 t l1 w u v l2 : List ℕ) → l1 ≡ l0 ++ t → l2 ≡ l1 ++ w ++ u → u ≡ v → l2 ≡ l0 ++ (t ++ w ++ v)
more_two l0 t l1 w u v l2 e f same = more l0 (t ++ w) (l1 ++ w) u v l2 (ap (λ (z : List ℕ). z ++ w) e ∙ append_assoc l0 t w) f same

-- the first piece
pub first : (l0 u v l1 : List ℕ) → l1 ≡ l0 ++ u → u ≡ v → l1 ≡ l0 ++ v
first l0 u v l1 f same = f ∙ ap (λ (z : List ℕ). l0 ++ z) same

-- the last piece, whose answer is the whole's
pub last : (l0 t l1 u v l2 : List ℕ) (r : Result (Unit {0}) OutOfMemory) → l1 ≡ l0 ++ t → OnOk r (l2 ≡ l1 ++ u) → u ≡ v → OnOk r (l2 ≡ l0 ++ (t ++ v))
last l0 t l1 u v l2 (Ok x) e f same = more l0 t l1 u v l2 e f same
last l0 t l1 u v l2 (Err x) e f same = tt

-- the last two pieces
pub last_two : (l0 t l1 w u v l2 : List ℕ) (r : Result (Unit {0}) OutOfMemory) → l1 ≡ l0 ++ t → OnOk r (l2 ≡ l1 ++ w ++ u) → u ≡ v → OnOk r (l2 ≡ l0 ++ (t ++ w ++ v))
last_two l0 t l1 w u v l2 r e f same = last l0 (t ++ w) (l1 ++ w) u v l2 r (ap (λ (z : List ℕ). z ++ w) e ∙ append_assoc l0 t w) f same
