-- What a run answers, said by less.
use Rattle.std.proofs.lemmas.Result.{IfOk-weaker}
use Rattle.std.specs.Prelude.{ℕ, Result}
use Rattle.host_io.specs.declared.error.RunError.{RunError}
use Rattle.machine.specs.Answers.{AnswersRun}

-- what follows from what stands after each number of rounds is answered too
pub answers_weaker : {X : Type 0} {rounds crew before after : ℕ} {Is Is2 : ℕ → Type 0} {IsSame IsSame2 : Type 0} {r : Result X RunError}
    → ((k : ℕ) → Is k → Is2 k) → (IsSame → IsSame2)
    → AnswersRun rounds crew before after Is IsSame r → AnswersRun rounds crew before after Is2 IsSame2 r
answers_weaker {X} {rounds} {crew} {before} {after} {Is} {Is2} {IsSame} {IsSame2} {r} weaker same a = record {
  ok = IfOk-weaker r _ _ (λ done x. weaker rounds x) a.ok;
  counted = a.counted;
  enough = a.enough;
  fewer = λ e. let x = a.fewer e in (x.0, x.1, weaker x.0 x.2);
  exhausted = λ e. let x = a.exhausted e in (x.0, weaker _ x.1);
  workers = λ w. let x = a.workers w in (x.0, same x.1);
  errors = a.errors;
  refused = a.refused;
}
