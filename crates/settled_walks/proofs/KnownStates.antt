-- Where all times of a state are at most a number, so are those of each state that is ahead, and of what a move leaves that stands no later.
use Rattle.std.proofs.Common.{◌≡◌, ℕ, ◌<◌, ◌≤◌, ◌&&◌, ◌||◌, max, min, Bool, true, false, if◌then◌else◌, List, length, ◌-◌, Option, Some, None, option_map, refl, sym, ap, ◌∙◌, subst, inl, inr, arith}
use Rattle.std.proofs.lemmas.Bool.{and_parts, cases_eq}
use Rattle.pages.specs.Memory.{byte_of}
use Rattle.round_schedule.specs.declared.access.Access.{Access}
use Rattle.round_schedule.specs.declared.event.Event.{Event}
use Rattle.round_schedule.specs.Accesses.{address_of, is_sc, loads, stores, writes}
use Rattle.hart_step.specs.Registers.{reg, set_reg}
use Rattle.memory_order.specs.CheckingProgram.{orders_loads, orders_stores}
use Rattle.memory_order.specs.Operations.{covers, is_acquire, is_amo, is_operation}
use Rattle.memory_order.specs.Registers.{registers_of}
use Rattle.memory_order.specs.declared.registers.Registers.{Registers}
use Rattle.rule_checker.specs.CarriedBounds.{AreRegisters, carried_after, destination_with, operand_bound, result_bound, sources_bound}
use Rattle.rule_checker.specs.Kinds.{is_annotated, kinds_after, loads_loads, loads_stores}
use Rattle.rule_checker.specs.declared.annotated.KindBounds.{KindBounds}
use Rattle.rule_checker.specs.declared.carried.Carried.{Carried}
use Rattle.execution.specs.Progressing.{step_event}
use Rattle.all_endings.specs.Earlier.{IsSized}
use Rattle.all_endings.specs.RunStates.{Move, OwnByte, RunState, behind, moved, moved_at, operates}
use Rattle.all_endings.specs.StoreLists.{Stored, later}
use Rattle.all_endings.proofs.Times.{reg_other, reg_same}
use Rattle.private_bytes.specs.Ahead.{IsAhead, OwnAhead, ahead-both, ahead-none}
use Rattle.private_bytes.specs.PrivateMoves.{moved_privately, needs_of, without_place}
use Rattle.settled_walks.specs.Within.{AreKindsWithin, IsCarriedWithin, IsWithin}

-- ---- states that are ahead

needs_ahead : (n : ℕ) (o p : Option OwnByte) → OwnAhead o p → needs_of p ≤ n → needs_of o ≤ n
needs_ahead n _ _ ahead-none l = l
needs_ahead n _ _ (ahead-both o p place byte atomic needs) l = omega (arith, needs, l)

at_most : (u v n : ℕ) → u ≤ v → v ≤ n → u ≤ n
at_most u v n l m = omega (arith, l, m)

pub within_ahead : (n : ℕ) (a b : RunState) → IsAhead a b → IsWithin n b → IsWithin n a
within_ahead n a b l w = record {
  kinds = record {
    loads = at_most _ _ n l.kinds.loads w.kinds.loads;
    stores = at_most _ _ n l.kinds.stores w.kinds.stores;
    acquires = at_most _ _ n l.kinds.acquires w.kinds.acquires;
    annotated = at_most _ _ n l.kinds.annotated w.kinds.annotated;
    load_load = at_most _ _ n l.kinds.load_load w.kinds.load_load;
    load_store = at_most _ _ n l.kinds.load_store w.kinds.load_store;
    store_load = at_most _ _ n l.kinds.store_load w.kinds.store_load;
    store_store = at_most _ _ n l.kinds.store_store w.kinds.store_store;
  };
  carried = record {
    registers = λ r s. at_most _ _ n (l.carried.registers r s) (w.carried.registers r s);
    steered = at_most _ _ n l.carried.steered w.carried.steered;
    addressed = at_most _ _ n l.carried.addressed w.carried.addressed;
  };
  touched = λ x. at_most _ _ n (l.touched x) (w.touched x);
  needs = λ x. needs_ahead n (a.own x) (b.own x) (l.own x) (w.needs x);
}

-- ---- moves

raised : (n : ℕ) (c : Bool) (u v : ℕ) → u ≤ n → (c ≡ true → v ≤ n) → (if c then max u v else u) ≤ n
raised n true u v l k = let m = k refl in omega (arith, l, m)
raised n false u v l k = l

if_within : (n : ℕ) (c : Bool) (u : ℕ) → (c ≡ true → u ≤ n) → (if c then u else 0) ≤ n
if_within n true u l = l refl
if_within n false u l = omega arith

joined : (n u v : ℕ) → u ≤ n → v ≤ n → max u v ≤ n
joined n u v l m = omega (arith, l, m)

or_left : (a b : Bool) → a ≡ true → (a || b) ≡ true
or_left true b e = refl
or_left false b e = absurd (cc)

or_right : (a b : Bool) → b ≡ true → (a || b) ≡ true
or_right true b e = refl
or_right false b e = e

kinds_left : (n : ℕ) (k : KindBounds) (a : Access) (next : ℕ) → AreKindsWithin n k → ((loads a || stores a) ≡ true → next ≤ n) → AreKindsWithin n (kinds_after k a (loads a || stores a) next)
kinds_left n k a next w small = record {
  loads = raised n (loads a) k.loads next w.loads (λ e. small (or_left (loads a) (stores a) e));
  stores = raised n (stores a) k.stores next w.stores (λ e. small (or_right (loads a) (stores a) e));
  acquires = raised n ((loads a || stores a) && is_acquire a) k.acquires next w.acquires (λ e. small (and_parts (loads a || stores a) (is_acquire a) e).0);
  annotated = raised n ((loads a || stores a) && is_annotated a) k.annotated next w.annotated (λ e. small (and_parts (loads a || stores a) (is_annotated a) e).0);
  load_load = raised n (loads_loads a) k.load_load k.loads w.load_load (λ e. w.loads);
  load_store = raised n (loads_stores a) k.load_store k.loads w.load_store (λ e. w.loads);
  store_load = raised n (orders_loads a) k.store_load k.stores w.store_load (λ e. w.stores);
  store_store = raised n (orders_stores a) k.store_store k.stores w.store_store (λ e. w.stores);
}

module _ (n : ℕ) (c : Carried) (x : Registers) (w : IsCarriedWithin n c) (fit : AreRegisters x) where
  operands : operand_bound c x ≤ n
  operands = joined n (reg c.registers x.address) (reg c.registers x.value) (w.registers x.address fit.address) (w.registers x.value fit.value)

  sources : sources_bound c x ≤ n
  sources =
      joined n (operand_bound c x) (max (reg c.registers x.first) (reg c.registers x.second)) operands
      (joined n (reg c.registers x.first) (reg c.registers x.second) (w.registers x.first fit.first) (w.registers x.second fit.second))

  set_within : (d v r : ℕ) → length c.registers ≡ 32 → r < 32 → v ≤ n → reg (set_reg c.registers d v) r ≤ n
  set_within d v r size l small = elim (cases_eq r d) [
    | inr other ↦ let e = reg_other c.registers d r v other in let k = w.registers r l in omega (arith, e, k)
    | inl here ↦ elim (cases_eq d 0) [
      | inl z ↦ let e : r ≡ 0 = here ∙ z in omega (arith, ap (λ q. reg (set_reg c.registers d v) q) e)
      | inr nonzero ↦
          let e = reg_same c.registers d v nonzero (omega (arith, size, l, here)) in
          subst (λ q. reg (set_reg c.registers d v) q ≤ n) (sym here) (omega (arith, e, small))
    ]
  ]

  pub carried_left : (e : Event) (next : ℕ) → length c.registers ≡ 32 → (is_operation e ≡ true → next ≤ n) → IsCarriedWithin n (carried_after c x e next)
  carried_left e next size small = record {
    registers = λ r l. set_within (destination_with x e.access) (result_bound c x (is_operation e) next) r size l
        (joined n (if is_operation e then next else 0) (if x.carries then sources_bound c x else 0) (if_within n (is_operation e) next small) (if_within n x.carries (sources_bound c x) (λ t. sources)));
    steered = raised n x.steers c.steered (sources_bound c x) w.steered (λ t. sources);
    addressed = joined n c.addressed (reg c.registers x.address) w.addressed (w.registers x.address fit.address);
  }

module _ (n h : ℕ) (a : RunState) (v : Move) (w : IsWithin n a) (sized : IsSized a) (fit : AreRegisters (registers_of v.instruction)) where
  own_left : (x : ℕ) (c : Bool) (place : ℕ) (byte : Option ℕ) (atomic : Bool) →
      needs_of (if c then Some (record { place = place; byte = byte; atomic = atomic; needs = operand_bound a.carried (registers_of v.instruction) }) else a.own x) ≤ n
  own_left x true place byte atomic = operands n a.carried (registers_of v.instruction) w.carried fit
  own_left x false place byte atomic = w.needs x

  left_at : (after : ℕ) → (operates v ≡ true → after ≤ n) → IsWithin n (moved_at h after a v)
  left_at after small = record {
    kinds = kinds_left n a.kinds v.access after w.kinds small;
    carried = carried_left n a.carried (registers_of v.instruction) w.carried fit (step_event h (Some v.access)) after sized small;
    touched = λ x. raised n (operates v && covers v.access x) (a.touched x) after (w.touched x) (λ e. small (and_parts (operates v) (covers v.access x) e).0);
    needs = λ x. own_left x (writes v.access x) after (option_map (λ k. byte_of k (x - address_of v.access)) v.written) (is_amo v.access || is_sc v.access);
  }

  needs_kept : (o p : Option OwnByte) (c : Bool) → needs_of o ≤ n → needs_of p ≤ n → needs_of (if c then option_map without_place o else p) ≤ n
  needs_kept None p true l k = l
  needs_kept (Some o) p true l k = l
  needs_kept o p false l k = k

  -- behind an operation that stands among the first n stores
  pub moved_within : (m : List Stored) → (operates v ≡ true → behind m v ≤ n) → IsWithin n (moved h m a v)
  moved_within m small = left_at (behind m v) small

  -- the same on the hart's own bytes
  pub privately_within : (m : List Stored) → v.time ≤ n → IsWithin n (moved_privately h m a v)
  privately_within m small =
      let there = left_at (min v.time (later m)) (λ e. omega (arith, small)) in
      record {
        kinds = there.kinds;
        carried = there.carried;
        touched = there.touched;
        needs = λ x. needs_kept ((moved_at h (min v.time (later m)) a v).own x) (a.own x) (writes v.access x) (there.needs x) (w.needs x);
      }
