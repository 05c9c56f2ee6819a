use Rattle.std.proofs.Common.{ℕ, Bool, List, Option, option_map, ap, ◌∙◌}
use Rattle.all_endings.specs.RunStates.{RunState}
use Rattle.all_endings.specs.StoreLists.{Stored}
use Rattle.hart_states.specs.States.{state_of, stored_of}
use Rattle.private_bytes.specs.PrivateWalks.{Spot}
use Rattle.run_places.specs.Spots.{is_among}
use Rattle.run_places.proofs.place.Place.copy.Goals as goal

abbrev spot_by : RunState → ℕ → List ℕ → Option Stored → Bool → Spot
spot_by state count paid next constant = record { place = record { state = state; count = count; paid = λ j. is_among paid j; next = next }; constant = constant }

pub returns : goal.returns
returns c =
    let p = c.args.self.now in
    ap (λ (s : RunState). spot_by s p.count c.in_ok-from_slice.field-0.items (option_map stored_of p.next) p.constant) c.in_ok-copied.ensures
    ∙ ap (λ (ps : List ℕ). spot_by (state_of p.state) p.count ps (option_map stored_of p.next) p.constant) (c.in_ok-from_slice.ensures.items ∙ c.deref.ensures.value)
