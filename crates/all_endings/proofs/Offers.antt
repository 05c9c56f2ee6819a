-- The store that comes next is offered by its hart's run: what it hangs on is known.
use Rattle.std.proofs.Common.{◌≡◌, ℕ, true, false, length, slice_index_or, Option, Some, None, is_some, option_map, unwrap_or, refl, sym, ap, ◌∙◌, inl, inr, arith}
use Rattle.pages.specs.declared.access.Width.{Width}
use Rattle.rv64_decode.specs.declared.instruction.Instr.{Instr}
use Rattle.rv64_decode.specs.declared.instruction.Instr.TheVariants.{Ecall}
use Rattle.rv64_decode.specs.declared.ordering.AcquireRelease.{AcquireRelease}
use Rattle.round_schedule.specs.declared.access.Access.{Access}
use Rattle.round_schedule.specs.declared.access.Access.TheVariants.{Load, LoadReserved, Fence, Store, StoreConditional, Atomic}
use Rattle.round_schedule.specs.declared.span.Span.{Span}
use Rattle.round_schedule.specs.Accesses.{address_of, bytes_of, is_sc, read_of, stores, written_of}
use Rattle.round_schedule.specs.Positions.{event}
use Rattle.hart_step.specs.declared.hart.Hart.{Hart}
use Rattle.hart_step.specs.DecodedCode.{decoded}
use Rattle.hart_step.specs.Effect.{Action, Write, Conditional, Exchange, action}
use Rattle.hart_step.specs.Forms.{Fills}
use Rattle.hart_step.specs.Numbers.{plus, sx}
use Rattle.hart_step.specs.Registers.{reg}
use Rattle.hart_step.specs.Step.{cut, width_bits}
use Rattle.memory_order.specs.declared.registers.Registers.{Registers}
use Rattle.memory_order.specs.Operations.{is_store}
use Rattle.memory_order.specs.Dependencies.{registers_at}
use Rattle.memory_order.specs.Registers.{registers_of}
use Rattle.memory_order.proofs.Facts.{store_is_operation}
use Rattle.execution.specs.Executions.{no_access}
use Rattle.all_endings.specs.Endings.{opening_bytes}
use Rattle.all_endings.specs.HartRuns.{Acts, IsWritable, exchanges, succeeds}
use Rattle.all_endings.specs.HartRuns.{stores as stores_it}
use Rattle.all_endings.specs.Locality.{Knows, KnowsButData, view, without_data}
use Rattle.all_endings.specs.Offering.{Offers}
use Rattle.all_endings.specs.RunStates.{Move, RunState, bare}
use Rattle.all_endings.specs.StoreLists.{told}
use Rattle.all_endings.proofs.Bare.{address_bare, bytes_bare, stores_bare}
use Rattle.all_endings.proofs.Effects.{Did, did-branch, did-call, did-exchange, did-fail, did-jump, did-order, did-put, did-read, did-reserve, did-succeed, did-write}
use Rattle.all_endings.proofs.Following.{Follows, Setting, list, time}
use Rattle.all_endings.proofs.Moves.{acts_all, acts_most, registers_are, registers_fit_at}
use Rattle.all_endings.proofs.OwnSteps.{operates_as}
use Rattle.all_endings.proofs.Pairs.{reserved_in_time, unbroken}
use Rattle.all_endings.proofs.SourceRegisters.{fits, most_known, registers_fit, without_others}
use Rattle.all_endings.proofs.StepTimes.{address_in_time, gets_known, source_at, stands, stored_number}
use Rattle.all_endings.proofs.StoreMoves.{data_cases, data_is, not_late, number_in, store_of}

module _ (s : Setting) (h i : ℕ) (held : Option Span) (a : RunState) (k j : Hart) (instr : Instr) (follows : Follows s h i held a k) (here : (event s.t i).hart ≡ h)
    (inst : slice_index_or s.is i Ecall ≡ instr) (at : decoded s.image a.pc ≡ Some instr) (now : time s i ≡ s.n) (store : is_store (event s.t i) ≡ true) where
  abbrev next_of : Option ℕ → (ℕ → ℕ) → Move
  next_of result source = store_of s i instr (time s i) result (written_of (event s.t i).access) source (plus a.pc 4)

  placed : time s i ≡ length (list s)
  placed = now ∙ sym s.many

  offer : (result : Option ℕ) (source : ℕ → ℕ) → Acts s.image h (list s) (opening_bytes s.image) (λ (v : Move). v.time ≡ length (list s)) a (next_of result source) →
      Offers s.image h (list s) (opening_bytes s.image) a (told (event s.t i))
  offer result source doing = record {
    move = next_of result source;
    decodes = at;
    acts = doing;
    stands = stands s h i held a k (next_of result source) follows here (registers_are s i instr inst) refl (omega arith)
        (operates_as s i (next_of result source) refl ∙ store_is_operation (event s.t i) store);
    time = placed;
    stores = stores_bare (event s.t i).access ∙ store;
    hart = here;
    address = sym (address_bare (event s.t i).access);
    bytes = sym (bytes_bare (event s.t i).access);
    number = stored_number (event s.t i).access store;
  }

  most : without_others (registers_of instr) ≡ true → KnowsButData (registers_of instr) a.registers
  most only = elim (most_known s.n a.registers a.carried (registers_of instr) (registers_fit_at s i instr inst) only follows.known) [
    | inl m ↦ m
    | inr late ↦
        let b = address_in_time s h i held a k follows here (store_is_operation (event s.t i) store) in
        let q : reg a.carried.registers (registers_of instr).address ≡ reg a.carried.registers (registers_at s.is i).address =
        ap (λ (x : Registers). reg a.carried.registers x.address) (registers_are s i instr inst) in
        let l = late.1 in
        absurd (omega (arith, b, q, l, now))
  ]

  data_at : (number : ℕ) → number ≡ reg k.x (registers_of instr).value → view a.registers (registers_of instr).value ≡ Some number
  data_at number is = elim (data_cases s h i held a k j instr follows here inst number is) [
    | inl known ↦ known
    | inr late ↦ absurd (not_late s h i held a k j instr follows here inst store (omega (arith, now)) late.1)
  ]

  class : (b : Action) → action instr k.x k.pc ≡ b → fits (registers_of instr) b ≡ true
  class b is = sym (ap (fits (registers_of instr)) is) ∙ registers_fit instr k.x k.pc

  number_is : (b : Action) → action instr k.x k.pc ≡ b → number_in b (reg k.x (registers_of instr).value) ≡ reg k.x (registers_of instr).value
  number_is b is = sym (ap (λ (y : Action). number_in y (reg k.x (registers_of instr).value)) is) ∙ data_is instr k.x k.pc

  write_offer : (address v : ℕ) (w : Width) → (event s.t i).access ≡ Store w k.done address (cut w v) → action instr k.x k.pc ≡ Write address w v → IsWritable s.image address w →
      Offers s.image h (list s) (opening_bytes s.image) a (told (event s.t i))
  write_offer address v w e is safe =
      let m = most (class (Write address w v) is) in
      offer (Some 0) (λ x. 0) (stores_it address w m (acts_most instr a k follows.lags.pc follows.lags.registers m ∙ ap without_data is) safe (ap bare e)
      (ap written_of e ∙ sym (ap (λ (o : Option ℕ). option_map (cut w) o) (data_at v (number_is (Write address w v) is)))) placed refl)

  succeed_offer : (rd address v : ℕ) (w : Width) (o : AcquireRelease) → (event s.t i).access ≡ StoreConditional w o k.done address (Some (cut w v)) →
      action instr k.x k.pc ≡ Conditional rd address w v o →
      IsWritable s.image address w → held ≡ Some (record { address = address; width = w }) → Offers s.image h (list s) (opening_bytes s.image) a (told (event s.t i))
  succeed_offer rd address v w o e is safe holds =
      let m = most (class (Conditional rd address w v o) is) in
      let own : a.held ≡ Some (record { address = address; width = w }) = follows.holds ∙ holds in
      let pair = follows.reserving (record { address = address; width = w }) own in
      let sc : is_sc (event s.t i).access ≡ true = ap is_sc e in
      offer (Some 0) (λ x. 0) (succeeds rd address w o m (acts_most instr a k follows.lags.pc follows.lags.registers m ∙ ap without_data is) safe (ap bare e)
      (ap written_of e ∙ sym (ap (λ (y : Option ℕ). option_map (cut w) y) (data_at v (number_is (Conditional rd address w v o) is))))
      own (reserved_in_time s h i a (record { address = address; width = w }) pair here sc store) placed
      (unbroken s h i a (record { address = address; width = w }) pair here sc store (next_of (Some 0) (λ x. 0)) (ap address_of e) (ap bytes_of e) refl (inl refl)) refl refl)

  exchange_offer : (rd address old : ℕ) (w : Width) (f : ℕ → ℕ) (o : AcquireRelease) → (event s.t i).access ≡ Atomic w o k.done address old (f old) →
      action instr k.x k.pc ≡ Exchange rd address w f o →
      IsWritable s.image address w → Fills w old → Offers s.image h (list s) (opening_bytes s.image) a (told (event s.t i))
  exchange_offer rd address old w f o e is safe fill =
      let m = most (class (Exchange rd address w f o) is) in
      let value : is_some (view a.registers (registers_of instr).value) ≡ true = ap (λ (y : Option ℕ). is_some y) (data_at (reg k.x (registers_of instr).value) refl) in
      let all : Knows (registers_of instr) a.registers = record { but_data = m; value = value } in
      offer (Some (sx (width_bits w) old)) (λ x. source_at s i x)
      (exchanges rd address w f o (Some old) all (acts_all instr a k follows.lags.pc follows.lags.registers all ∙ is) safe (ap bare e)
      (gets_known s h i address old w held a k (next_of (Some (sx (width_bits w) old)) (λ x. source_at s i x)) follows here (ap address_of e) (ap bytes_of e) (ap read_of e) fill (omega (arith, now)) refl (λ x. refl))
      refl (ap written_of e) placed refl)

  dry : (y : Access) → (event s.t i).access ≡ y → stores y ≡ false → ⊥
  dry y e d = let q : is_store (event s.t i) ≡ false = ap stores e ∙ d in cc

  pub step_offers : (access : Option Access) → Did s.image held k j instr access → (event s.t i).access ≡ unwrap_or access no_access →
      Offers s.image h (list s) (opening_bytes s.image) a (told (event s.t i))
  step_offers access (did-put rd v is g) e = absurd (dry no_access e refl)
  step_offers access (did-jump rd target is even g) e = absurd (dry no_access e refl)
  step_offers access (did-branch taken target is even g) e = absurd (dry no_access e refl)
  step_offers access (did-read rd x v w signed is safe fill g) e = absurd (dry (Load w k.done x v) e refl)
  step_offers access (did-write x v w is safe g) e = write_offer x v w e is safe
  step_offers access (did-order before after mode is g) e = absurd (dry (Fence before after mode k.done) e refl)
  step_offers access (did-reserve rd x v w o is safe fill g) e = absurd (dry (LoadReserved w o k.done x v) e refl)
  step_offers access (did-fail rd x v w o is safe g) e = absurd (dry (StoreConditional w o k.done x None) e refl)
  step_offers access (did-succeed rd x v w o is safe holds g) e = succeed_offer rd x v w o e is safe holds
  step_offers access (did-exchange rd x old w m o is safe fill g) e = exchange_offer rd x old w m o e is safe fill
  step_offers access (did-call answer is nonzero answered g) e = absurd (dry no_access e refl)
