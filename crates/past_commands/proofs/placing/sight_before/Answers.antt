use Rattle.std.proofs.Common.{◌-◌, ◌∙◌, Option, ap, arith, subst, sym, ℕ}
use Rattle.hart_step.specs.declared.hart.Hart.{Hart}
use Rattle.past_commands.proofs.SightsBefore.{Asked, begun, no_sight, no_start, sight_found}
use Rattle.replayer.specs.Past.{IsStateBefore}
use Rattle.replayer.specs.Replayed.{start_of}
use Rattle.past_commands.proofs.placing.sight_before.Goals as goal

pub unreachable-requires : goal.unreachable-requires
unreachable-requires g c =
    let r = c.args.recorded.now in
    let workers = c.args.workers in
    let hart = c.args.hart in
    let place = c.args.place in
    let round = c.in-Some.round in
    let h = c.in-Some.field-0-1 in
    let b = c.in_ok-round.ensures.before in
    let found = subst (λ (x : Option (ℕ × Hart)). IsStateBefore r.rounds (start_of r b.0) hart place x) c.in-Some.is b.2 in
    let asked : Asked workers r b.0 hart place round h = record {
      planned = b.1;
      before = found;
      begins = begun _ workers r b.0 hart round found.0 h b.1 (omega (arith, c.budget.ensures.value, c.budget.ensures.range.1)) found.1.here c.in_ok-round.ensures.in_order;
      few = omega (arith, c.rounds.ensures, c.rounds.type_inv);
    } in
    let first = c.in_ok-start.ensures.sight in
    no_start workers r b.0 first.0 hart place round h asked first.1 (sym c.in_default-2.is ∙ first.2)

pub unreachable-requires-in-None : goal.unreachable-requires-in-None
unreachable-requires-in-None g c =
    let r = c.args.recorded.now in
    let workers = c.args.workers in
    let hart = c.args.hart in
    let place = c.args.place in
    let round = c.in-Some.round in
    let h = c.in-Some.field-0-1 in
    let b = c.in_ok-round.ensures.before in
    let found = subst (λ (x : Option (ℕ × Hart)). IsStateBefore r.rounds (start_of r b.0) hart place x) c.in-Some.is b.2 in
    let asked : Asked workers r b.0 hart place round h = record {
      planned = b.1;
      before = found;
      begins = begun _ workers r b.0 hart round found.0 h b.1 (omega (arith, c.budget.ensures.value, c.budget.ensures.range.1)) found.1.here c.in_ok-round.ensures.in_order;
      few = omega (arith, c.rounds.ensures, c.rounds.type_inv);
    } in
    let first = c.in_ok-start.ensures.sight in
    let start = c.in-Some-2.start in
    let count = c.saturating_sub-count.result in
    let counted = c.saturating_sub-count.ensures ∙ ap (λ (g : Hart). place - g.done) c.hart.ensures in
    let last = c.in_ok-sight.ensures.sight in
    no_sight workers r b.0 first.0 last.0 hart place round count h start asked first.1 last.1 (sym c.in-Some-2.is ∙ first.2) counted (sym c.in-None.is ∙ last.2)

pub returns-clause-before : goal.returns-clause-before
returns-clause-before g c =
    let r = c.args.recorded.now in
    let workers = c.args.workers in
    let hart = c.args.hart in
    let place = c.args.place in
    let round = c.in-Some.round in
    let h = c.in-Some.field-0-1 in
    let b = c.in_ok-round.ensures.before in
    let found = subst (λ (x : Option (ℕ × Hart)). IsStateBefore r.rounds (start_of r b.0) hart place x) c.in-Some.is b.2 in
    let asked : Asked workers r b.0 hart place round h = record {
      planned = b.1;
      before = found;
      begins = begun _ workers r b.0 hart round found.0 h b.1 (omega (arith, c.budget.ensures.value, c.budget.ensures.range.1)) found.1.here c.in_ok-round.ensures.in_order;
      few = omega (arith, c.rounds.ensures, c.rounds.type_inv);
    } in
    let first = c.in_ok-start.ensures.sight in
    let start = c.in-Some-2.start in
    let count = c.saturating_sub-count.result in
    let counted = c.saturating_sub-count.ensures ∙ ap (λ (g : Hart). place - g.done) c.hart.ensures in
    let last = c.in_ok-sight.ensures.sight in
    (b.0, b.1, sight_found workers r b.0 first.0 last.0 hart place round count h start c.in-Some-3.sight asked first.1 last.1 (sym c.in-Some-2.is ∙ first.2) counted (sym c.in-Some-3.is ∙ last.2))
