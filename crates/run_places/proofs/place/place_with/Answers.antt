use Rattle.std.proofs.Common.{◌≡◌, ℕ, true, List, refl, sym, ◌∙◌, subst}
use Rattle.all_endings.specs.RunStates.{RunState}
use Rattle.hart_states.specs.States.{state_of}
use Rattle.private_bytes.specs.Ahead.{IsAhead}
use Rattle.run_places.specs.Spots.{is_among}
use Rattle.run_places.proofs.place.place_with.Goals as goal

pub returns : goal.returns
returns c = λ m.
    let self = c.is_itself.ensures m in
    let did : c.in_ok-from_slice.field-0.items ≡ c.args.place.now.paid.items = c.in_ok-from_slice.ensures.items ∙ c.deref.ensures.value in
    record {
      state = subst (λ (s : RunState). IsAhead s (state_of c.args.place.now.state)) (sym c.in_ok-copied.ensures) self.state;
      count = self.count;
      paid = λ j l e. subst (λ (ps : List ℕ). is_among ps j ≡ true) (sym did) e;
      next = refl;
      constant = λ e. e;
    }
