use Rattle.std.proofs.Common.{◌≡◌, ℕ, ◌&&◌, false, List, Some, None, Result, Ok, Err, IfOk, sym, ap, ◌∙◌, subst}
use Rattle.pages.specs.declared.out_of_memory.OutOfMemory.{OutOfMemory}
use Rattle.hart_step.specs.Effect.{action}
use Rattle.run_bounds.specs.declared.operation.Operation.{Operation}
use Rattle.run_bounds.specs.Operations.{operation_in}
use Rattle.hart_states.specs.Opening.{opening_of}
use Rattle.hart_states.specs.States.{listed, state_of}
use Rattle.hart_moves.specs.declared.moving.Reached.{Reached}
use Rattle.hart_moves.specs.Moves.{AreMovesBy}
use Rattle.private_bytes.specs.Owners.{is_own}
use Rattle.own_moves.specs.Moves.{AreMoves}
use Rattle.own_moves.specs.Owned.{owns_of}
use Rattle.own_moves.specs.Private.{is_plain}
use Rattle.own_moves.proofs.Apart.{private_moves, shared_moves}
use Rattle.own_moves.proofs.moving.moves.Goals as goal

if_ok : (r : Result Reached OutOfMemory) (P Q : Reached → Type 0) → ((x : Reached) → P x → Q x) → IfOk r P → IfOk r Q
if_ok (Ok x) P Q f p = f x p
if_ok (Err e) P Q f p = p

one_only : (p o : Operation) → Some p ≡ Some o → p ≡ o
one_only p o e = cc

none_there : (p : Operation) → Some p ≡ None → ⊥
none_there p e = cc

pub returns-in_ok-found-in-Some-operation_of : goal.returns-in_ok-found-in-Some-operation_of
returns-in_ok-found-in-Some-operation_of c =
    let a = c.args.state.now in
    let i = c.in-Some.i in
    let does =
    ap (λ (x : List ℕ). operation_in (action i x a.pc)) (sym c.hart_of.ensures.registers) ∙ ap (λ (p : ℕ). operation_in (action i c.hart_of.result.x p)) (sym c.hart_of.ensures.pc)
    ∙ sym c.operation_of.ensures ∙ c.in-Some-operation_of.is in
    private_moves (owns_of c.args.owned.now) c.args.memory.now.pages.now.memory c.args.hart (listed c.args.list.now) (opening_of c.args.memory.now) (state_of a) i c.destinations_are_written.ensures (sym c.instruction_at.ensures ∙ c.in-Some.is)
    c.in-Some-operation_of.operation does (sym c.is_private.ensures ∙ c.if-is_private.true) c.in_ok-found-in-Some-operation_of.found.items c.in_ok-found-in-Some-operation_of.ensures

pub returns-in-Some-2 : goal.returns-in-Some-2
returns-in-Some-2 c =
    let a = c.args.state.now in
    let i = c.in-Some.i in
    let image = c.args.memory.now.pages.now.memory in
    let m = listed c.args.list.now in
    let owns = owns_of c.args.owned.now in
    let does =
    ap (λ (x : List ℕ). operation_in (action i x a.pc)) (sym c.hart_of.ensures.registers) ∙ ap (λ (p : ℕ). operation_in (action i c.hart_of.result.x p)) (sym c.hart_of.ensures.pc)
    ∙ sym c.operation_of.ensures ∙ c.in-Some-operation_of.is in
    if_ok c.operation_moves.result (AreMovesBy image c.args.hart m (opening_of c.args.memory.now) (state_of a) i) (AreMoves owns image c.args.hart m (opening_of c.args.memory.now) (state_of a))
    (shared_moves owns image c.args.hart m (opening_of c.args.memory.now) (state_of a) i c.destinations_are_written.ensures (sym c.instruction_at.ensures ∙ c.in-Some.is)
    (λ p e. subst (λ (q : Operation). (is_plain q.kind && is_own owns c.args.hart q.address) ≡ false) (one_only c.in-Some-operation_of.operation p (sym does ∙ e)) (sym c.is_private.ensures ∙ c.if-is_private.false)))
    c.operation_moves.ensures

pub returns-in-None : goal.returns-in-None
returns-in-None c =
    let a = c.args.state.now in
    let i = c.in-Some.i in
    let image = c.args.memory.now.pages.now.memory in
    let m = listed c.args.list.now in
    let owns = owns_of c.args.owned.now in
    let none =
    ap (λ (x : List ℕ). operation_in (action i x a.pc)) (sym c.hart_of.ensures.registers) ∙ ap (λ (p : ℕ). operation_in (action i c.hart_of.result.x p)) (sym c.hart_of.ensures.pc)
    ∙ sym c.operation_of.ensures ∙ c.in-None.is in
    if_ok c.other_moves.result (λ r. (opening : ℕ → ℕ) → AreMovesBy image c.args.hart m opening (state_of a) i r) (AreMoves owns image c.args.hart m (opening_of c.args.memory.now) (state_of a))
    (λ r by. shared_moves owns image c.args.hart m (opening_of c.args.memory.now) (state_of a) i c.destinations_are_written.ensures (sym c.instruction_at.ensures ∙ c.in-Some.is)
    (λ p e. absurd (none_there p (sym e ∙ none))) r (by (opening_of c.args.memory.now)))
    c.other_moves.ensures
