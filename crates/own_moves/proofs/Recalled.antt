-- A plain load of own bytes, at its least time, can stand for each such move.
use Rattle.std.proofs.Common.{◌≡◌, ℕ, ◌+◌, ◌-◌, ◌≤◌, ◌&&◌, min, Bool, true, false, if◌then◌else◌, List, replicate, slice_index, option_map, Option, Some, None, refl, sym, ap, ◌∙◌, subst, arith}
use Rattle.std.proofs.lemmas.List.{get_or-replicate}
use Rattle.pages.specs.Memory.{width_bytes}
use Rattle.round_schedule.specs.declared.access.Access.{Access}
use Rattle.round_schedule.specs.Accesses.{address_of, writes}
use Rattle.round_schedule.specs.Accesses.{stores as writing}
use Rattle.hart_step.specs.Numbers.{plus}
use Rattle.hart_step.specs.Step.{extended_to}
use Rattle.memory_order.specs.Operations.{covers}
use Rattle.run_bounds.specs.declared.operation.Kind.{Kind}
use Rattle.run_bounds.specs.declared.operation.Kind.TheVariants.{Load}
use Rattle.run_bounds.specs.declared.operation.Operation.{Operation}
use Rattle.run_bounds.specs.Operations.{access_as, access_of}
use Rattle.all_endings.specs.Locality.{set_view}
use Rattle.all_endings.specs.RunStates.{Move, OwnByte, RunState, answers_to, behind, moved, moved_at}
use Rattle.all_endings.specs.StoreLists.{Stored, later}
use Rattle.hart_states.specs.declared.choice.Choice.{Choice}
use Rattle.hart_states.specs.declared.following.Successor.{Successor}
use Rattle.hart_states.specs.Choices.{move_of}
use Rattle.hart_states.specs.Following.{place_done}
use Rattle.hart_states.specs.States.{state_of}
use Rattle.hart_states.proofs.Readings.{few_bytes}
use Rattle.hart_moves.specs.Choosing.{IsFound}
use Rattle.hart_moves.specs.Moves.{FollowsAhead}
use Rattle.hart_moves.proofs.Found.{covered_at}
use Rattle.private_bytes.specs.Ahead.{IsAhead, OwnAhead}
use Rattle.private_bytes.specs.PrivateMoves.{moved_privately, own_number, without_place}
use Rattle.own_moves.specs.Private.{FollowsPrivately, RecallsSo}

-- a load stores nothing
pub dry_load : (o : Operation) → o.kind ≡ Load → writing (access_of o) ≡ false
dry_load o e = ap (λ (k : Kind). writing (access_as k o.address o.width o.ordering)) e

behind_load : (m : List Stored) (v : Move) → writing v.access ≡ false → behind m v ≡ min v.time (later m)
behind_load m v dry = ap (λ (b : Bool). min (if b then v.time + 1 else v.time) (later m)) dry

no_place : (v : Move) → writing v.access ≡ false → place_done v ≡ None
no_place v dry = ap (λ (b : Bool). if b then Some v.time else None) dry

pub found_recall : (m : List Stored) (opening : ℕ → ℕ) (a : RunState) (o : Operation) (d : Choice) (v : Move) → o.kind ≡ Load → RecallsSo opening a o v → d.instruction ≡ v.instruction →
    d.access ≡ access_of o → d.next ≡ plus a.pc 4 → d.result ≡ option_map (extended_to o.signed o.width) (own_number opening a o.address (width_bytes o.width)) → d.sources ≡ replicate 8 0 →
    d.time ≤ v.time → IsFound m a (Some d) v
found_recall m opening a o d v kind so same does next result sources early = record {
  choice = d;
  is = refl;
  earlier = record {
    instruction = same;
    access = does ∙ sym so.access;
    next = next ∙ sym so.next;
    registers = ap (λ (r : Option ℕ). set_view a.registers (answers_to d.instruction) r) (result ∙ sym so.result);
    time = λ op. let x = behind_load m (move_of d) still in let y = behind_load m v silent in omega (arith, x, y, early);
    source = λ load x there.
        let k = covered_at o x (ap (λ (y : Access). covers y x) (sym does) ∙ there) in
        let few = few_bytes o.width in
        let l = k.1 in
        ap (λ (s : List ℕ). slice_index s (x - address_of d.access)) sources
        ∙ ap (λ (n : ℕ). slice_index (replicate 8 0) n) (ap (λ (y : Access). x - address_of y) does ∙ k.3)
        ∙ get_or-replicate 8 k.0 0 0 (omega (arith, few, l)) ∙ sym (so.source x);
    place = λ store. absurd (let none = still in cc);
    written = λ store. absurd (let none = still in cc);
  };
  done = no_place (move_of d) still ∙ sym (no_place v silent);
}
  where
    still : writing d.access ≡ false
    still = ap writing does ∙ dry_load o kind

    silent : writing v.access ≡ false
    silent = ap writing so.access ∙ dry_load o kind

-- ---- what a load leaves

own_dry : (c : Bool) (p q r o : Option OwnByte) → c ≡ false → OwnAhead o (if c then p else r) → OwnAhead o (if c then q else r)
own_dry true p q r o e ahead = absurd (cc)
own_dry false p q r o e ahead = ahead

ahead_privately : (h : ℕ) (m : List Stored) (a b : RunState) (v : Move) → writing v.access ≡ false → IsAhead b (moved h m a v) → IsAhead b (moved_privately h m a v)
ahead_privately h m a b v dry ahead =
    let now : IsAhead b (moved_at h (min v.time (later m)) a v) = subst (λ (n : ℕ). IsAhead b (moved_at h n a v)) (behind_load m v dry) ahead in
    record {
      pc = now.pc;
      size = now.size;
      registers = now.registers;
      kinds = now.kinds;
      carried = now.carried;
      touched = now.touched;
      seen = now.seen;
      own = λ x. own_dry (writes v.access x) _ (option_map without_place ((moved_at h (min v.time (later m)) a v).own x)) (a.own x) (b.own x) (ap (λ (c : Bool). c && covers v.access x) dry) (now.own x);
      held = now.held;
      reserved = now.reserved;
      sources = now.sources;
      output = now.output;
    }

pub recall_follows : (h : ℕ) (m : List Stored) (opening : ℕ → ℕ) (a : RunState) (o : Operation) (v : Move) (s : Successor) → RecallsSo opening a o v → FollowsAhead h m a v s → FollowsPrivately h m a v s
recall_follows h m opening a o v s so f =
    let dry : writing v.access ≡ false = ap writing so.access ∙ dry_load o so.kind in
    record { state = ahead_privately h m a (state_of s.state) v dry f.state; done = f.done ∙ no_place v dry }
