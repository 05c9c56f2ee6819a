-- What the checker of executions allows counts for a table.
use Rattle.std.proofs.Common.{◌≡◌, ℕ, List, Option, Some, None, refl, ◌∙◌}
use Rattle.round_schedule.specs.declared.event.Event.{Event}
use Rattle.round_schedule.specs.Positions.{source_byte}
use Rattle.execution.specs.Executions.{Standing}
use Rattle.execution.specs.Progressing.{at_start}
use Rattle.execution_checker.specs.Allowed.{Allows}
use Rattle.execution_checker.proofs.Followed.{followed}
use Rattle.all_endings.specs.Judging.{JudgedExecutionsCount}

source_same : (t : List Event) (f k : ℕ → ℕ) → ((x : ℕ) → f x ≡ k x) → (x : ℕ) (s : Option ℕ) → source_byte t f x s ≡ source_byte t k x s
source_same t f k same x None = same x
source_same t f k same x (Some w) = refl

openings_same : (f k : ℕ → ℕ) (q : Standing) (g : List ℕ) → ((x : ℕ) → f x ≡ k x) → Allows f q g → Allows k q g
openings_same f k q g same meets = record {
  lists = meets.lists;
  load_value = λ r x reads. let v = meets.load_value r x reads in (v.0, v.1, v.2 ∙ source_same q.events f k same x v.0);
  atomicity = meets.atomicity;
  preserved = meets.preserved;
}

pub judged_count : JudgedExecutionsCount
judged_count image hs c opening ss g q same verdict = (followed image ss (at_start hs c) q verdict.0, openings_same opening _ q g same verdict.1)
