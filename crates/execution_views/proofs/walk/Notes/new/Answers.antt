use Rattle.std.proofs.Common.{refl}
use Rattle.execution_views.proofs.Noting.{nothing_noted}
use Rattle.execution_views.proofs.walk.Notes.new.Goals as goal

pub returns : goal.returns
returns c = λ image p asked none. nothing_noted image p asked _ none c.new.ensures.items refl refl
