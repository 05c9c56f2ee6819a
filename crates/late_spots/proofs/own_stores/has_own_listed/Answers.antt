use Rattle.std.proofs.Common.{List, option_map, ap, ◌∙◌}
use Rattle.run_bounds.specs.declared.touched.TouchedByte.{TouchedByte}
use Rattle.run_bounds.specs.Touched.{known_at}
use Rattle.hart_states.specs.States.{own_of}
use Rattle.late_spots.proofs.own_stores.has_own_listed.Goals as goal

pub returns-clause-listed : goal.returns-clause-listed
returns-clause-listed c = λ held x o is pos within.
    (c.all_listed.ensures held x o (ap (λ (bs : List TouchedByte). option_map own_of (known_at bs x).own) c.deref.ensures.value ∙ is)).listed pos

pub returns-clause-within : goal.returns-clause-within
returns-clause-within c = λ held x o is.
    (c.all_listed.ensures held x o (ap (λ (bs : List TouchedByte). option_map own_of (known_at bs x).own) c.deref.ensures.value ∙ is)).within
