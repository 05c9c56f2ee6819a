use Rattle.std.proofs.Common.{◌≡◌, ℕ, ◌+◌, ◌≤◌, ◌<◌, List, [], ◌∷◌, ◌++◌, length, take, set, sym, ap, ◌∙◌, arith, subst, length-set}
use Rattle.std.proofs.lemmas.List.{length-take-le}
use Rattle.round_schedule.specs.declared.access.Access.{Access}
use Rattle.round_schedule.specs.declared.bounds.TheConstants.{MOST_HARTS}
use Rattle.serial_phase.specs.Turns.{Turns, turns_at, open_turn, AreEnds}
use Rattle.serial_phase.proofs.TurnLists.{ends_close, turns_close, open_close, length-turns_at, take_one}
use Rattle.serial_phase.proofs.log.SerialLog.end_turn.Goals as goal

few : (xs : List Access) (ends : List ℕ) (turns : ℕ) (closed : List (List Access)) → turns ≤ MOST_HARTS → length ends ≡ MOST_HARTS → turns_at xs 0 (take turns ends) ≡ closed → length closed < MOST_HARTS → turns < MOST_HARTS
few xs ends turns closed most size is less = omega (arith, ap length is, length-turns_at xs 0 (take turns ends), length-take-le turns ends (omega arith))

pub bounds-self-inside-self-inside : goal.bounds-self-inside-self-inside
bounds-self-inside-self-inside c = few c.self.inside.accesses.items c.self.inside.ends c.self.inside.turns _ c.self.invariant.0 c.self.told (ap (λ (v : Turns). v.closed) c.self.view_is) c.requires

pub invariant_of-self : goal.invariant_of-self
invariant_of-self c =
    let xs = c.self.inside.accesses.items in
    let low = few xs c.self.inside.ends c.self.inside.turns _ c.self.invariant.0 c.self.told (ap (λ (v : Turns). v.closed) c.self.view_is) c.requires in
    let one : take (c.self.inside.turns + 1) (set c.self.inside.ends c.self.inside.turns (length xs)) ≡ take c.self.inside.turns c.self.inside.ends ++ length xs ∷ [] = take_one c.self.inside.ends c.self.inside.turns (length xs) (omega (arith, c.self.told)) in
    let len : c.len.result ≡ length xs = omega (arith, c.len.ensures) in
    let less : c.self.inside.turns + 1 ≤ length (set c.self.inside.ends c.self.inside.turns c.len.result) = omega (arith, length-set c.self.inside.ends c.self.inside.turns c.len.result, c.self.told) in (
      omega arith,
      subst (λ (n : ℕ). AreEnds 0 (take (c.self.inside.turns + 1) (set c.self.inside.ends c.self.inside.turns n)) (length xs)) (sym len) (subst (λ (es : List ℕ). AreEnds 0 es (length xs)) (sym one) (ends_close 0 (take c.self.inside.turns c.self.inside.ends) (length xs) c.self.invariant.1)),
      length-take-le (c.self.inside.turns + 1) (set c.self.inside.ends c.self.inside.turns c.len.result) less,
    )

pub returns-clause-closed : goal.returns-clause-closed
returns-clause-closed c =
    let xs = c.self.inside.accesses.items in
    let low = few xs c.self.inside.ends c.self.inside.turns _ c.self.invariant.0 c.self.told (ap (λ (v : Turns). v.closed) c.self.view_is) c.requires in
    let len : c.len.result ≡ length xs = omega (arith, c.len.ensures) in
    ap (λ (n : ℕ). turns_at xs 0 (take (c.self.inside.turns + 1) (set c.self.inside.ends c.self.inside.turns n))) len
    ∙ ap (turns_at xs 0) (take_one c.self.inside.ends c.self.inside.turns (length xs) (omega (arith, c.self.told)))
    ∙ turns_close xs 0 (take c.self.inside.turns c.self.inside.ends)
    ∙ ap (λ (v : Turns). v.closed ++ v.current ∷ []) c.self.view_is

pub returns-clause-current : goal.returns-clause-current
returns-clause-current c =
    let xs = c.self.inside.accesses.items in
    let low = few xs c.self.inside.ends c.self.inside.turns _ c.self.invariant.0 c.self.told (ap (λ (v : Turns). v.closed) c.self.view_is) c.requires in
    let len : c.len.result ≡ length xs = omega (arith, c.len.ensures) in
    ap (λ (n : ℕ). open_turn xs 0 (take (c.self.inside.turns + 1) (set c.self.inside.ends c.self.inside.turns n))) len
    ∙ ap (open_turn xs 0) (take_one c.self.inside.ends c.self.inside.turns (length xs) (omega (arith, c.self.told)))
    ∙ open_close xs 0 (take c.self.inside.turns c.self.inside.ends)
