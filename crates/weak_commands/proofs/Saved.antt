-- Executions that are given to files one after the other.
use Rattle.std.proofs.Common.{◌≡◌, ◌<◌, ◌≤◌, ◌+◌, ℕ, List, drop, get_or, length, map, refl, subst, sym}
use Rattle.std.proofs.lemmas.List.{drop_all, drop_more}
use Rattle.execution_file.specs.Grammar.{execution}
use Rattle.execution_file.specs.Views.{as_recorded}
use Rattle.execution_file.specs.declared.file.ExecutionFile.{ExecutionFile}
use Rattle.weak_commands.specs.Saved.{AreGiven, path_in}

-- where those that are left are given, all are
pub record Halfway {X : Type 0} (given : X → X → List ℕ → List ℕ → Type 0) (folder : List ℕ) (all : List ExecutionFile) (index : ℕ) (before now : X) : Type 0 where
  pub goes_on : (after : X) → AreGiven given folder (index + 1) (map as_recorded (drop index all)) now after → AreGiven given folder 1 (map as_recorded all) before after

pub at_first : {X : Type 0} (given : X → X → List ℕ → List ℕ → Type 0) (folder : List ℕ) (all : List ExecutionFile) (before : X) → Halfway given folder all 0 before before
at_first given folder all before = record { goes_on = λ after h. h }

pub one_more : {X : Type 0} (given : X → X → List ℕ → List ℕ → Type 0) (folder : List ℕ) (all : List ExecutionFile) (index : ℕ) (e : ExecutionFile) (before now next : X) →
    index < length all → e ≡ get_or all index e → Halfway given folder all index before now →
    given now next (path_in folder (index + 1)) (execution.spelled (as_recorded e)) → Halfway given folder all (index + 1) before next
one_more {X} given folder all index e before now next less is h g = record {
  goes_on = λ after r. h.goes_on after (subst (λ (es : List ExecutionFile). AreGiven given folder (index + 1) (map as_recorded es) now after) (sym (drop_more all index e less))
      (next, subst (λ (x : ExecutionFile). given now next (path_in folder (index + 1)) (execution.spelled (as_recorded x))) is g, r));
}

pub at_last : {X : Type 0} (given : X → X → List ℕ → List ℕ → Type 0) (folder : List ℕ) (all : List ExecutionFile) (index : ℕ) (before now : X) →
    length all ≤ index → Halfway given folder all index before now → AreGiven given folder 1 (map as_recorded all) before now
at_last {X} given folder all index before now less h =
    h.goes_on now (subst (λ (es : List ExecutionFile). AreGiven given folder (index + 1) (map as_recorded es) now now) (sym (drop_all index all less)) refl)
