-- What is got again stands for no move for which the latest choice doesn't.
use Rattle.std.proofs.Common.{◌≡◌, ℕ, ◌+◌, ◌-◌, ◌≤◌, ◌||◌, Bool, false, if◌then◌else◌, min, slice_index, List, Option, Some, None, IfSome, sym, ap, ◌∙◌, subst, arith}
use Rattle.round_schedule.specs.declared.access.Access.{Access}
use Rattle.round_schedule.specs.Accesses.{address_of, loads}
use Rattle.round_schedule.specs.Accesses.{stores as writing}
use Rattle.rv64_decode.specs.declared.instruction.Instr.{Instr}
use Rattle.memory_order.specs.Operations.{covers}
use Rattle.all_endings.specs.Earlier.{IsNoLater}
use Rattle.all_endings.specs.Locality.{set_view}
use Rattle.all_endings.specs.RunStates.{Move, RunState, answers_to, behind}
use Rattle.all_endings.specs.StoreLists.{Stored, later}
use Rattle.hart_states.specs.declared.choice.Choice.{Choice}
use Rattle.hart_states.specs.Choices.{move_of}
use Rattle.hart_states.specs.Following.{place_done}
use Rattle.hart_moves.specs.declared.coming.Coming.{Coming}
use Rattle.hart_moves.specs.Choosing.{IsAgain, IsChoiceOf, IsFound}

module _ (m : List Stored) (a : RunState) (c : Coming) (d e : Choice) (v : Move) (was : IsChoiceOf a c d) (is : IsChoiceOf a c e) (dry : writing e.access ≡ false) where
  same : d.instruction ≡ e.instruction
  same = was.instruction ∙ sym is.instruction

  does : d.access ≡ e.access
  does = was.access ∙ sym is.access

  still : writing d.access ≡ false
  still = ap writing does ∙ dry

  behind_load : (f : Choice) → writing f.access ≡ false → behind m (move_of f) ≡ min f.time (later m)
  behind_load f none = ap (λ (b : Bool). min (if b then f.time + 1 else f.time) (later m)) none

  no_later : d.time ≤ e.time → behind m (move_of d) ≤ behind m (move_of e)
  no_later early = let x = behind_load d still in let y = behind_load e dry in omega (arith, x, y, early)

  earlier : d.time ≤ e.time → d.result ≡ e.result → d.sources ≡ e.sources → IsNoLater m a (move_of e) v → IsNoLater m a (move_of d) v
  earlier early result sources n = record {
    instruction = same ∙ n.instruction;
    access = does ∙ n.access;
    next = was.next ∙ (sym is.next ∙ n.next);
    registers = ap (λ (i : Instr). set_view a.registers (answers_to i) d.result) same
        ∙ (ap (λ (r : Option ℕ). set_view a.registers (answers_to e.instruction) r) result
        ∙ (n.registers ∙ ap (λ (i : Instr). set_view a.registers (answers_to i) v.result) (sym same)));
    time = λ op.
        let t = n.time (ap (λ (y : Access). loads y || writing y) (sym does) ∙ op) in
        let b = no_later early in
        omega (arith, t, b);
    source = λ load x there.
        ap (λ (y : Access). slice_index d.sources (x - address_of y)) does
        ∙ (ap (λ (s : List ℕ). slice_index s (x - address_of e.access)) sources
        ∙ n.source (ap loads (sym does) ∙ load) x (ap (λ (y : Access). covers y x) (sym does) ∙ there));
    place = λ store. absurd (let none = still in cc);
    written = λ store. absurd (let none = still in cc);
  }

  same_done : place_done (move_of d) ≡ place_done (move_of e)
  same_done = ap (λ (b : Bool). if b then Some d.time else None) still ∙ sym (ap (λ (b : Bool). if b then Some e.time else None) dry)

in_some : (o : Option Choice) (P : Choice → Type 0) (d : Choice) → o ≡ Some d → IfSome o P → P d
in_some o P d e p = subst (λ (q : Option Choice). IfSome q P) e p

-- what is found for a move is found for it in an earlier choice that got the same
pub found_again : (m : List Stored) (a : RunState) (c : Coming) (latest found : Option Choice) (v : Move) → IsAgain latest found → IfSome latest (λ d. IsChoiceOf a c d) →
    IfSome found (λ d. IsChoiceOf a c d) → IsFound m a found v → IsFound m a latest v
found_again m a c latest found v g was is f =
    let d = in_some latest (λ d. IsChoiceOf a c d) g.earlier g.was was in
    let e = in_some found (λ d. IsChoiceOf a c d) g.choice g.is is in
    record {
      choice = g.earlier;
      is = g.was;
      earlier = earlier m a c g.earlier g.choice v d e g.stores g.time g.result g.sources (subst (λ (h : Choice). IsNoLater m a (move_of h) v) one f.earlier);
      done = same_done m a c g.earlier g.choice v d e g.stores ∙ (ap (λ (h : Choice). place_done (move_of h)) (sym one) ∙ f.done);
    }
  where
    one : f.choice ≡ g.choice
    one = let x = f.is in let y = g.is in cc
