-- What a call leaves of a sink that answers, and puts the text of its answer into it. `IsText a text` says that the text goes with the answer.
use Rattle.std.specs.Prelude.{◌≡◌, ◌⊎◌, ◌<◌, ◌++◌, ℕ, List, Option, Some, Result, IfErr, IfOk}
use Rattle.host_io.specs.Taken.{BeganText}

-- the text of the answer came after what was there
pub record WroteAnswer {A : Type 0} (IsText : A → List ℕ → Type 0) (old new : List ℕ) (answer : A) : Type 0 where
  pub text : List ℕ
  pub is_text : IsText answer text
  pub bytes : new ≡ old ++ text

-- a beginning of the text of some answer came after what was there
pub record BeganAnswer {A : Type 0} (IsText : A → List ℕ → Type 0) (old new : List ℕ) : Type 0 where
  pub answer : A
  pub text : List ℕ
  pub is_text : IsText answer text
  pub began : BeganText old new text

-- memory was refused, or the sink failed and counted that; `memory` and `sink` are how a call tells it
abbrev pub CutsOff : {E : Type 0} → E → E → ℕ → ℕ → E → Type 0
CutsOff memory sink failed failed_then e = (e ≡ memory) ⊎ ((e ≡ sink) × (failed < failed_then))

-- with an answer the sink took the text of it. A refusal has a reason, and then the sink is as it was; or it cut the writing off, and then the
-- sink took nothing, or a beginning of the text of an answer. `took` and `failures` say what a sink took and how often it failed; `old` and `new` are
-- the sink before the call and after it
pub record WritesAnswer {S A E : Type 0} (took : S → List ℕ) (failures : S → ℕ) (IsText : A → List ℕ → Type 0) (IsReason : E → Type 0) (memory sink : E) (old new : S) (r : Result A E) : Type 0 where
  pub written : IfOk r (WroteAnswer IsText (took old) (took new))
  pub refused : IfErr r (λ e. (IsReason e × (new ≡ old)) ⊎ (CutsOff memory sink (failures old) (failures new) e × ((took new ≡ took old) ⊎ BeganAnswer IsText (took old) (took new))))

-- a reason: the first refusal of what is out of range, or another one
abbrev pub IsFaultOr : {E : Type 0} → Option E → (E → Type 0) → E → Type 0
IsFaultOr fault IsReason e = (fault ≡ Some e) ⊎ IsReason e
