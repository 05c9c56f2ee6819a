use Rattle.std.proofs.Common.{◌≡◌, ℕ, false, true, List, [], refl, arith}
use Rattle.run_places.specs.Spots.{is_among}
use Rattle.run_places.proofs.place.first_place.Goals as goal

none_paid : (ps : List ℕ) (j : ℕ) → ps ≡ [] → false ≡ true → is_among ps j ≡ true
none_paid ps j e f = absurd (cc)

pub returns : goal.returns
returns c = λ m. record {
  state = c.lower_states_are_ahead.ensures _ _ c.start.ensures;
  count = omega arith;
  paid = λ j l e. none_paid c.new.result.items j c.new.ensures.items e;
  next = refl;
  constant = λ e. refl;
}
