use Rattle.std.proofs.Common.{◌≡◌, List, [], ◌∷◌, ◌++◌, length, take, cond, Result, Ok, is_ok, ap, ◌∙◌, arith, length-append}
use Rattle.round_schedule.specs.declared.access.Access.{Access}
use Rattle.serial_phase.specs.Turns.{Turns, turns_at, open_turn}
use Rattle.serial_phase.proofs.TurnLists.{ends_more, turns_push, open_push}
use Rattle.serial_phase.proofs.log.SerialLog.push.Goals as goal

grown : {T E : Type 0} (r : Result T E) (u : T) (new old more : List Access) → r ≡ Ok u → new ≡ cond (is_ok r) more old → new ≡ more
grown r u new old more ok e = rw ok at e

pub invariant_of-self : goal.invariant_of-self
invariant_of-self c =
    let es = take c.self.inside.turns c.self.inside.ends in
    let more = grown c.push.result c.unwrap.result _ _ _ c.unwrap.ensures c.push.ensures.items in
    (c.self.invariant.0, ends_more 0 es (length c.self.inside.accesses.items) (length c.push.new.self.items) (omega (arith, ap length more, length-append c.self.inside.accesses.items (c.args.access ∷ []))) c.self.invariant.1, c.self.invariant.2)

pub returns-clause-closed : goal.returns-clause-closed
returns-clause-closed c =
    let es = take c.self.inside.turns c.self.inside.ends in
    let more = grown c.push.result c.unwrap.result _ _ _ c.unwrap.ensures c.push.ensures.items in
    ap (λ (xs : List Access). turns_at xs 0 es) more ∙ turns_push c.self.inside.accesses.items (c.args.access ∷ []) 0 es c.self.invariant.1 ∙ ap (λ (v : Turns). v.closed) c.self.view_is

pub returns-clause-current : goal.returns-clause-current
returns-clause-current c =
    let es = take c.self.inside.turns c.self.inside.ends in
    let more = grown c.push.result c.unwrap.result _ _ _ c.unwrap.ensures c.push.ensures.items in
    ap (λ (xs : List Access). open_turn xs 0 es) more ∙ open_push c.self.inside.accesses.items (c.args.access ∷ []) 0 es c.self.invariant.1 ∙ ap (λ (v : Turns). v.current ++ c.args.access ∷ []) c.self.view_is
