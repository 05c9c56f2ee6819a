use Rattle.std.proofs.Common.{◌++◌, ◌∙◌, List, ap, sym, Option, ℕ}
use Rattle.run_events.proofs.Located.{on_ok_more}
use Rattle.run_events.proofs.TurnPcs.{all_told}
use Rattle.run_events.proofs.turns.add_pcs.Goals as goal

pub returns-then-are_found-clause-pcs : goal.returns-then-are_found-clause-pcs
returns-then-are_found-clause-pcs g c = λ m is.
    on_ok_more c.add_found.result _ _
    (λ e. e ∙ ap (λ (xs : List (Option ℕ)). c.args.pcs.now.items ++ xs) (all_told m c.args.machine.now c.args.events.now c.args.found.now is c.requires.found (sym c.if-are_found.ensures)))
    c.add_found.ensures.pcs
