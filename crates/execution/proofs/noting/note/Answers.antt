use Rattle.std.proofs.Common.{◌≡◌, List, ◌++◌, cond, Result, Ok, is_ok}
use Rattle.execution.proofs.noting.note.Goals as goal

grown : {A T E : Type 0} (r : Result T E) (u : T) (new old more : List A) → r ≡ Ok u → new ≡ cond (is_ok r) more old → new ≡ more
grown r u new old more ok e = rw ok at e

pub returns-clause-instructions : goal.returns-clause-instructions
returns-clause-instructions c = grown c.push.result c.unwrap.result _ _ _ c.unwrap.ensures c.push.ensures.items

pub returns-clause-events : goal.returns-clause-events
returns-clause-events c = grown c.push-2.result c.unwrap-2.result _ _ _ c.unwrap-2.ensures c.push-2.ensures.items
