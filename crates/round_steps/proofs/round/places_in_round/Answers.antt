use Rattle.std.proofs.Common.{◌≡◌, ℕ, ◌++◌, length, List, ap, ◌∙◌}
use Rattle.std.proofs.lemmas.Result.{IfOk-weaker}
use Rattle.past_harts.specs.Begun.{Begun}
use Rattle.round_steps.specs.Places.{parallel_places, serial_places, turns_of}
use Rattle.past_harts.specs.declared.place.Place.{Place}
use Rattle.past_harts.proofs.Begun.{begun_by, begun_same}
use Rattle.round_steps.proofs.RoundParts.{turns_count}
use Rattle.round_steps.proofs.round.places_in_round.Goals as goal

pub add_turns-requires-clause-turns : goal.add_turns-requires-clause-turns
add_turns-requires-clause-turns g c κs within =
    turns_count (begun_by c.args.machine.now c.args.code.now) (length c.args.machine.now.harts) (length c.deref.result.now) c.in_ok-found.field-0.turns.items c.in_ok-found.ensures.turns (ap length c.deref.ensures.value)

pub returns-clause-places : goal.returns-clause-places
returns-clause-places g c = λ m is code.
    let n : length c.args.machine.now.harts ≡ length m.state.harts = ap length is.harts in
    let same = begun_same m c.args.machine.now c.args.code.now is code in
    let found = c.in_ok-found.ensures.found
    ∙ ap (λ (k : ℕ). parallel_places c.args.asked.now (begun_by c.args.machine.now c.args.code.now) k) n
    ∙ ap (λ (b : Begun). parallel_places c.args.asked.now b (length m.state.harts)) same in
    let turns = c.in_ok-found.ensures.turns
    ∙ ap (λ (k : ℕ). turns_of (begun_by c.args.machine.now c.args.code.now) k) n
    ∙ ap (λ (b : Begun). turns_of b (length m.state.harts)) same in
    IfOk-weaker c.add_turns.result _ _
    (λ v is_all. is_all ∙ ap (λ (ps : List Place). ps ++ serial_places c.args.asked.now m (length m.state.harts)) found)
    (c.add_turns.ensures.places m is (c.deref.ensures.value ∙ turns))
