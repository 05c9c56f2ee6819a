-- What is kept behind a plain store to own bytes is ahead of what each such move leaves.
use Rattle.std.proofs.Common.{◌≡◌, ℕ, ◌-◌, ◌≤◌, ◌++◌, max, min, Bool, true, false, if◌then◌else◌, List, [], ◌∷◌, length, option_map, Option, Some, None, refl, sym, ap, ◌∙◌, subst, arith}
use Rattle.std.proofs.lemmas.List.{append-nil}
use Rattle.pages.specs.Memory.{byte_of, in_range, width_bytes}
use Rattle.round_schedule.specs.declared.access.Access.{Access}
use Rattle.round_schedule.specs.declared.access.Access.TheVariants.{Store as StoreOf}
use Rattle.round_schedule.specs.declared.span.Span.{Span}
use Rattle.rv64_decode.specs.declared.instruction.Instr.{Instr}
use Rattle.rv64_decode.specs.declared.instruction.Instr.TheVariants.{Ecall}
use Rattle.hart_step.specs.Numbers.{plus}
use Rattle.hart_step.specs.Step.{cut}
use Rattle.memory_order.specs.Registers.{registers_of}
use Rattle.rule_checker.specs.CarriedBounds.{AreRegisters, carried_after, operand_bound}
use Rattle.rule_checker.specs.Kinds.{kinds_after}
use Rattle.rule_checker.specs.declared.annotated.KindBounds.{KindBounds}
use Rattle.rule_checker.specs.declared.carried.Carried.{Carried}
use Rattle.execution.specs.Progressing.{step_event}
use Rattle.run_bounds.specs.declared.operation.Kind.{Kind}
use Rattle.run_bounds.specs.declared.operation.Kind.TheVariants.{Store}
use Rattle.run_bounds.specs.declared.touched.TouchedByte.{TouchedByte}
use Rattle.run_bounds.specs.Bounds.{carried_of, kinds_of}
use Rattle.run_bounds.specs.Operations.{access_as, access_of}
use Rattle.run_bounds.specs.Touched.{known_at}
use Rattle.all_endings.specs.Earlier.{IsSized}
use Rattle.all_endings.specs.Locality.{set_view, view}
use Rattle.all_endings.specs.RunStates.{Move, OwnByte, answers_to, puts_out}
use Rattle.all_endings.specs.StoreLists.{Stored, later}
use Rattle.all_endings.proofs.Lowering.{carried_down, carried_most, kinds_below, kinds_most, rises, same}
use Rattle.all_endings.proofs.Times.{CarriedBelow, KindsBelow, carried_below_after, kinds_below_after}
use Rattle.hart_states.specs.declared.following.Successor.{Successor}
use Rattle.hart_states.specs.declared.run_state.RunState.{RunState as KeptState}
use Rattle.hart_states.specs.States.{own_of, source_in, state_of}
use Rattle.hart_states.proofs.Kept.{carried_equal, kinds_equal, le_equal}
use Rattle.hart_moves.specs.declared.coming.Coming.{Coming}
use Rattle.hart_moves.specs.Choosing.{IsComing}
use Rattle.private_bytes.specs.Ahead.{IsAhead, OutputTells, OwnAhead, ahead-both, ahead-none, tells-more, tells-nothing}
use Rattle.private_bytes.specs.PrivateMoves.{moved_privately, without_place}
use Rattle.own_moves.specs.Private.{FollowsPrivately, KeepsSo, kept_byte}

-- what has to be kept behind a store
pub record Keeps (a : KeptState) (c : Coming) (time : ℕ) (s : Successor) : Type 0 where
  pub pc : s.state.pc ≡ plus a.pc 4
  pub registers : s.state.registers ≡ a.registers
  pub kinds : kinds_of s.state.kinds ≡ kinds_after (kinds_of a.kinds) (access_of c.operation) true time
  pub carried : (h : ℕ) → carried_of s.state.carried ≡ carried_after (carried_of a.carried) (registers_of c.instruction) (step_event h (Some (access_of c.operation))) time
  pub bytes : (x : ℕ) → known_at s.state.bytes.items x ≡ (if in_range c.operation.address (width_bytes c.operation.width) x
      then kept_byte c.operation.address (option_map (cut c.operation.width) c.operand) time (operand_bound (carried_of a.carried) (registers_of c.instruction)) x (known_at a.bytes.items x)
      else known_at a.bytes.items x)
  pub held : s.state.held ≡ a.held
  pub reserved : s.state.reserved ≡ a.reserved
  pub sources : s.state.sources ≡ a.sources
  pub output : s.state.output.items ≡ a.output.items
  pub done : s.done ≡ None

-- ---- byte by byte

touched_low : (c : Bool) (new k b : TouchedByte) (time n : ℕ) → new ≡ (if c then k else b) → k.touched ≡ max b.touched time → time ≤ n → new.touched ≤ (if c then max b.touched n else b.touched)
touched_low true new k b time n e t l = let d = ap (λ (y : TouchedByte). y.touched) e in omega (arith, d, t, l)
touched_low false new k b time n e t l = let d = ap (λ (y : TouchedByte). y.touched) e in omega (arith, d)

seen_same : (c : Bool) (new k b : TouchedByte) → new ≡ (if c then k else b) → k.seen ≡ b.seen → new.seen ≡ b.seen
seen_same true new k b e s = ap (λ (y : TouchedByte). y.seen) e ∙ s
seen_same false new k b e s = ap (λ (y : TouchedByte). y.seen) e

own_self : (o : Option OwnByte) → OwnAhead o o
own_self None = ahead-none
own_self (Some o) = ahead-both o o refl (λ n e. e) refl (omega arith)

-- of a store at a time and its byte there
own_low : (c : Bool) (new b : TouchedByte) (first time needs x n : ℕ) (number : Option ℕ) → new ≡ (if c then kept_byte first number time needs x b else b) →
    OwnAhead (option_map own_of new.own)
    (if c then option_map without_place (if c then Some (record { place = n; byte = option_map (λ k. byte_of k (x - first)) number; atomic = false; needs = needs }) else option_map own_of b.own) else option_map own_of b.own)
own_low true new b first time needs x n number e =
    subst (λ (y : TouchedByte). OwnAhead (option_map own_of y.own) (Some (record { place = 0; byte = option_map (λ k. byte_of k (x - first)) number; atomic = false; needs = needs }))) (sym e)
    (own_self (Some (record { place = 0; byte = option_map (λ k. byte_of k (x - first)) number; atomic = false; needs = needs })))
own_low false new b first time needs x n number e = subst (λ (y : TouchedByte). OwnAhead (option_map own_of y.own) (option_map own_of b.own)) (sym e) (own_self (option_map own_of b.own))

-- ---- the state

outputs_same : (os : List (Option ℕ)) → OutputTells os os
outputs_same [] = tells-nothing
outputs_same (o ∷ os) = tells-more o o os os (λ n is. is) (outputs_same os)

puts_none : (i : Instr) (v : List (Option ℕ)) → answers_to i ≡ 0 → puts_out v i ≡ []
puts_none Ecall v e = absurd (cc)
puts_none _ v e = refl

abbrev move_as : Instr → Access → ℕ → Option ℕ → Option ℕ → (ℕ → ℕ) → ℕ → Move
move_as i y t r w s n = record { instruction = i; access = y; time = t; result = r; written = w; source = s; next = n }

move_same : (i j : Instr) (y z : Access) (t : ℕ) (r w x : Option ℕ) (s : ℕ → ℕ) (n k : ℕ) → i ≡ j → y ≡ z → w ≡ x → n ≡ k → move_as i y t r w s n ≡ move_as j z t r x s k
move_same i j y z t r w x s n k e f g d = cc

module _ (h : ℕ) (m : List Stored) (a : KeptState) (c : Coming) (time : ℕ) (s : Successor) (v : Move) (k : Keeps a c time s) (sized : IsSized (state_of a)) (fit : AreRegisters (registers_of c.instruction))
    (kind : c.operation.kind ≡ Store) (silent : answers_to c.instruction ≡ 0) (low : time ≤ min v.time (later m)) where
  abbrev there : Access
  there = StoreOf c.operation.width 0 c.operation.address 0

  is_there : access_of c.operation ≡ there
  is_there = ap (λ (j : Kind). access_as j c.operation.address c.operation.width c.operation.ordering) kind

  -- the move, by what is known of it
  abbrev known : Move
  known = move_as c.instruction there v.time v.result (option_map (cut c.operation.width) c.operand) v.source (plus a.pc 4)

  unset : set_view a.registers (answers_to c.instruction) v.result ≡ a.registers
  unset = ap (λ (d : ℕ). set_view a.registers d v.result) silent

  kinds : KindsBelow same (kinds_of s.state.kinds) (kinds_after (kinds_of a.kinds) there true (min v.time (later m)))
  kinds =
      subst (λ (b : KindBounds). KindsBelow same b (kinds_after (kinds_of a.kinds) there true (min v.time (later m))))
      (sym (k.kinds ∙ ap (λ (y : Access). kinds_after (kinds_of a.kinds) y true time) is_there))
      (kinds_below_after same rises (kinds_of a.kinds) (kinds_of a.kinds) there true time (min v.time (later m)) low (kinds_below _ _ (kinds_equal _ _ refl)))

  carried : CarriedBelow same (carried_of s.state.carried) (carried_after (carried_of a.carried) (registers_of c.instruction) (step_event h (Some there)) (min v.time (later m)))
  carried =
      subst (λ (b : Carried). CarriedBelow same b (carried_after (carried_of a.carried) (registers_of c.instruction) (step_event h (Some there)) (min v.time (later m))))
      (sym (k.carried h ∙ ap (λ (y : Access). carried_after (carried_of a.carried) (registers_of c.instruction) (step_event h (Some y)) time) is_there))
      (carried_below_after same rises (carried_of a.carried) (carried_of a.carried) (registers_of c.instruction) (step_event h (Some there)) time (min v.time (later m)) fit low (carried_down _ _ (carried_equal _ _ sized refl)))

  known_ahead : IsAhead (state_of s.state) (moved_privately h m (state_of a) known)
  known_ahead = record {
    pc = k.pc;
    size = ap length (k.registers ∙ sym unset);
    registers = λ r n e. ap (λ (l : List (Option ℕ)). view l r) (k.registers ∙ sym unset) ∙ e;
    kinds = kinds_most _ _ kinds;
    carried = carried_most _ _ carried;
    touched = λ x. touched_low (in_range c.operation.address (width_bytes c.operation.width) x) _ _ (known_at a.bytes.items x) time (min v.time (later m)) (k.bytes x) refl low;
    seen = λ x. le_equal _ _ (seen_same (in_range c.operation.address (width_bytes c.operation.width) x) _ _ (known_at a.bytes.items x) (k.bytes x) refl);
    own = λ x. own_low (in_range c.operation.address (width_bytes c.operation.width) x) _ (known_at a.bytes.items x) c.operation.address time
        (operand_bound (carried_of a.carried) (registers_of c.instruction)) x (min v.time (later m)) (option_map (cut c.operation.width) c.operand) (k.bytes x);
    held = k.held;
    reserved = le_equal _ _ k.reserved;
    sources = λ x e. le_equal _ _ (sym (ap (λ (l : List ℕ). source_in s.state.held l x) k.sources ∙ ap (λ (y : Option Span). source_in y a.sources x) k.held));
    output = subst (λ (os : List (Option ℕ)). OutputTells os s.state.output.items)
        (k.output ∙ sym (append-nil a.output.items) ∙ ap (λ (l : List (Option ℕ)). a.output.items ++ l) (sym (puts_none c.instruction a.registers silent))) (outputs_same s.state.output.items);
  }

-- a store at no later time
pub keeps_follow : (h : ℕ) (m : List Stored) (a : KeptState) (c : Coming) (time : ℕ) (s : Successor) (v : Move) → Keeps a c time s → IsSized (state_of a) → AreRegisters (registers_of c.instruction) →
    IsComing (state_of a) c → v.instruction ≡ c.instruction → KeepsSo (state_of a) c.operation v → time ≤ v.time → time ≤ later m → FollowsPrivately h m (state_of a) v s
keeps_follow h m a c time s v k sized fit coming at so early ends =
    let silent : answers_to c.instruction ≡ 0 = ap answers_to (sym at) ∙ so.silent in
    let there : access_of c.operation ≡ StoreOf c.operation.width 0 c.operation.address 0 = ap (λ (j : Kind). access_as j c.operation.address c.operation.width c.operation.ordering) so.kind in
    let written : v.written ≡ option_map (cut c.operation.width) c.operand =
    so.written ∙ ap (λ (i : Instr). option_map (cut c.operation.width) (view a.registers (registers_of i).value)) at ∙ ap (option_map (cut c.operation.width)) (sym coming.operand) in
    record {
      state = subst (λ (u : Move). IsAhead (state_of s.state) (moved_privately h m (state_of a) u))
          (sym (move_same v.instruction c.instruction v.access (StoreOf c.operation.width 0 c.operation.address 0) v.time v.result v.written (option_map (cut c.operation.width) c.operand) v.source v.next (plus a.pc 4) at (so.access ∙ there) written so.next))
          (known_ahead h m a c time s v k sized fit so.kind silent (omega (arith, early, ends)));
      done = k.done;
    }
