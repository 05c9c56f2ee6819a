-- What is kept behind a move is what it leaves.
use Rattle.std.proofs.Common.{◌≡◌, ℕ, ◌-◌, ◌≤◌, ◌&&◌, ◌||◌, ◌++◌, max, Bool, true, false, if◌then◌else◌, List, length, slice_index, Option, Some, None, option_map, refl, sym, ap, ◌∙◌, subst, arith}
use Rattle.round_schedule.specs.declared.access.Access.{Access}
use Rattle.round_schedule.specs.declared.access.Access.TheVariants.{Load, Store, LoadReserved, StoreConditional, Atomic, Fence}
use Rattle.round_schedule.specs.declared.span.Span.{Span}
use Rattle.round_schedule.specs.Accesses.{address_of, is_lr, loads, stores}
use Rattle.round_schedule.specs.Held.{held_after_own}
use Rattle.memory_order.specs.Operations.{covers}
use Rattle.memory_order.specs.Registers.{registers_of}
use Rattle.rule_checker.specs.CarriedBounds.{carried_after, operand_bound}
use Rattle.rule_checker.specs.Kinds.{kinds_after}
use Rattle.rule_checker.specs.declared.annotated.KindBounds.{KindBounds}
use Rattle.rule_checker.specs.declared.carried.Carried.{Carried}
use Rattle.execution.specs.Progressing.{step_event}
use Rattle.run_bounds.specs.Bounds.{carried_of, kinds_of}
use Rattle.run_bounds.specs.Touched.{known_at}
use Rattle.run_bounds.specs.declared.touched.OwnByte.{OwnByte as KeptByte}
use Rattle.run_bounds.specs.declared.touched.TouchedByte.{TouchedByte}
use Rattle.all_endings.specs.Locality.{set_view}
use Rattle.all_endings.specs.Lowering.{CarriedAtMost, KindsAtMost, OwnAtMost, is_held, own-both, own-none}
use Rattle.all_endings.specs.RunStates.{OwnByte, answers_to, behind, puts_out}
use Rattle.all_endings.specs.StoreLists.{Stored}
use Rattle.hart_states.specs.declared.choice.Choice.{Choice}
use Rattle.hart_states.specs.declared.following.Successor.{Successor}
use Rattle.hart_states.specs.declared.run_state.RunState.{RunState as KeptState}
use Rattle.hart_states.specs.Choices.{byte_after, move_of}
use Rattle.hart_states.specs.Following.{Follows, place_done}
use Rattle.hart_states.specs.States.{own_of, source_in, state_of}

pub kinds_equal : (a b : KindBounds) → a ≡ b → KindsAtMost a b
kinds_equal a b e = subst (KindsAtMost a) e (record {
  loads = omega arith;
  stores = omega arith;
  acquires = omega arith;
  annotated = omega arith;
  load_load = omega arith;
  load_store = omega arith;
  store_load = omega arith;
  store_store = omega arith;
})

pub carried_equal : (a b : Carried) → length a.registers ≡ 32 → a ≡ b → CarriedAtMost a b
carried_equal a b size e = subst (CarriedAtMost a) e (record { small = size; size = size; registers = λ r l. omega arith; steered = omega arith; addressed = omega arith })

own_self : (o : Option OwnByte) → OwnAtMost o o
own_self None = own-none
own_self (Some o) = own-both o o refl refl refl (omega arith)

pub own_equal : (o p : Option OwnByte) → o ≡ p → OwnAtMost o p
own_equal o p e = subst (OwnAtMost o) e (own_self o)

pub le_equal : (m n : ℕ) → m ≡ n → m ≤ n
le_equal m n e = omega (arith, e)

picked : (g : Bool) (f : TouchedByte → ℕ) (new k b : TouchedByte) → new ≡ (if g then k else b) → f new ≡ (if g then f k else f b)
picked true f new k b e = ap f e
picked false f new k b e = ap f e

seen_left : (l s c : Bool) (new k b : TouchedByte) (n : ℕ) → k.seen ≡ (if l then max b.seen n else b.seen) → new ≡ (if (l || s) && c then k else b) →
    new.seen ≡ (if l && c then max b.seen n else b.seen)
seen_left true s true new k b n q e = ap (λ (t : TouchedByte). t.seen) e ∙ q
seen_left true s false new k b n q e = ap (λ (t : TouchedByte). t.seen) e
seen_left false true true new k b n q e = ap (λ (t : TouchedByte). t.seen) e ∙ q
seen_left false true false new k b n q e = ap (λ (t : TouchedByte). t.seen) e
seen_left false false c new k b n q e = ap (λ (t : TouchedByte). t.seen) e

own_left : (l s c : Bool) (new k b : TouchedByte) (o : KeptByte) → k.own ≡ (if s then Some o else b.own) → new ≡ (if (l || s) && c then k else b) →
    option_map own_of new.own ≡ (if s && c then Some (own_of o) else option_map own_of b.own)
own_left true true true new k b o q e = ap (λ (y : Option KeptByte). option_map own_of y) (ap (λ (t : TouchedByte). t.own) e ∙ q)
own_left false true true new k b o q e = ap (λ (y : Option KeptByte). option_map own_of y) (ap (λ (t : TouchedByte). t.own) e ∙ q)
own_left true false true new k b o q e = ap (λ (y : Option KeptByte). option_map own_of y) (ap (λ (t : TouchedByte). t.own) e ∙ q)
own_left true true false new k b o q e = ap (λ (y : Option KeptByte). option_map own_of y) (ap (λ (t : TouchedByte). t.own) e)
own_left true false false new k b o q e = ap (λ (y : Option KeptByte). option_map own_of y) (ap (λ (t : TouchedByte). t.own) e)
own_left false true false new k b o q e = ap (λ (y : Option KeptByte). option_map own_of y) (ap (λ (t : TouchedByte). t.own) e)
own_left false false c new k b o q e = ap (λ (y : Option KeptByte). option_map own_of y) (ap (λ (t : TouchedByte). t.own) e)

sources_left : (y : Access) (held : Option Span) (new old : List ℕ) (x : ℕ) (f g : ℕ → ℕ) → f x ≡ slice_index new (x - address_of y) → g x ≡ source_in held old x →
    is_held (held_after_own y held) x ≡ true → (if is_lr y then f else g) x ≡ source_in (held_after_own y held) (if is_lr y then new else old) x
sources_left (Load w p a r) held new old x f g e d h = d
sources_left (Store w p a v) held new old x f g e d h = d
sources_left (LoadReserved w o p a r) held new old x f g e d h = e
sources_left (StoreConditional w o p a v) held new old x f g e d h = absurd (cc)
sources_left (Atomic w o p a r v) held new old x f g e d h = d
sources_left (Fence b a m p) held new old x f g e d h = d

-- what has to be kept behind a move
pub record Keeps (h : ℕ) (m : List Stored) (a : KeptState) (c : Choice) (s : Successor) : Type 0 where
  pub pc : s.state.pc ≡ c.next
  pub registers : s.state.registers ≡ set_view a.registers (answers_to c.instruction) c.result
  pub kinds : kinds_of s.state.kinds ≡ kinds_after (kinds_of a.kinds) c.access (loads c.access || stores c.access) (behind m (move_of c))
  pub carried : carried_of s.state.carried ≡ carried_after (carried_of a.carried) (registers_of c.instruction) (step_event h (Some c.access)) (behind m (move_of c))
  pub size : length s.state.carried.registers ≡ 32
  pub bytes : (x : ℕ) → known_at s.state.bytes.items x ≡ (if (loads c.access || stores c.access) && covers c.access x
      then byte_after c (behind m (move_of c)) (operand_bound (carried_of a.carried) (registers_of c.instruction)) x (known_at a.bytes.items x)
      else known_at a.bytes.items x)
  pub held : s.state.held ≡ held_after_own c.access a.held
  pub reserved : s.state.reserved ≡ (if is_lr c.access then behind m (move_of c) else a.reserved)
  pub sources : s.state.sources ≡ (if is_lr c.access then c.sources else a.sources)
  pub output : s.state.output.items ≡ a.output.items ++ puts_out a.registers c.instruction
  pub done : s.done ≡ place_done (move_of c)

pub follows_kept : (h : ℕ) (m : List Stored) (a : KeptState) (c : Choice) (s : Successor) → Keeps h m a c s → Follows h m (state_of a) (move_of c) s
follows_kept h m a c s k = record {
  state = record {
    pc = k.pc;
    registers = k.registers;
    kinds = kinds_equal _ _ k.kinds;
    carried = carried_equal _ _ k.size k.carried;
    touched = λ x. le_equal _ _ (picked ((loads c.access || stores c.access) && covers c.access x) (λ t. t.touched) _ _ _ (k.bytes x));
    seen = λ x. le_equal _ _ (seen_left (loads c.access) (stores c.access) (covers c.access x) _ _ (known_at a.bytes.items x) (slice_index c.sources (x - address_of c.access)) refl (k.bytes x));
    own = λ x. own_equal _ _ (own_left (loads c.access) (stores c.access) (covers c.access x) _ _ (known_at a.bytes.items x) _ refl (k.bytes x));
    held = k.held;
    reserved = le_equal _ _ k.reserved;
    sources = λ x h. le_equal _ _ (sources_left c.access a.held c.sources a.sources x (λ z. slice_index c.sources (z - address_of c.access)) (λ z. source_in a.held a.sources z) refl refl h
        ∙ ap (λ (l : List ℕ). source_in (held_after_own c.access a.held) l x) (sym k.sources) ∙ ap (λ (y : Option Span). source_in y s.state.sources x) (sym k.held));
    output = k.output;
  };
  done = k.done;
}
