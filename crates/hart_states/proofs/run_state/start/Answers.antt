use Rattle.std.proofs.Common.{List, refl, ap, arith}
use Rattle.run_bounds.specs.Touched.{known_at}
use Rattle.run_bounds.specs.declared.touched.TouchedByte.{TouchedByte}
use Rattle.hart_states.proofs.Kept.{carried_equal, kinds_equal, le_equal, own_equal}
use Rattle.std.proofs.Common.{option_map}
use Rattle.hart_states.specs.States.{own_of}
use Rattle.hart_states.proofs.run_state.start.Goals as goal

pub returns : goal.returns
returns c = record {
  pc = refl;
  registers = c.all_known.ensures;
  kinds = kinds_equal _ _ refl;
  carried = carried_equal _ _ refl refl;
  touched = λ x. le_equal _ _ (ap (λ (l : List TouchedByte). (known_at l x).touched) c.new.ensures.items);
  seen = λ x. le_equal _ _ (ap (λ (l : List TouchedByte). (known_at l x).seen) c.new.ensures.items);
  own = λ x. own_equal _ _ (ap (λ (l : List TouchedByte). option_map own_of (known_at l x).own) c.new.ensures.items);
  held = refl;
  reserved = omega arith;
  sources = λ x h. omega arith;
  output = c.new-2.ensures.items;
}
