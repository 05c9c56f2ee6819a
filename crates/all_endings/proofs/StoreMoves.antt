-- Moves that store: stores, SCs and AMOs. One of the first stores stands in the list at its time, any other is LATER.
use Rattle.std.proofs.Common.{◌≡◌, ◌≢◌, ℕ, ◌+◌, ◌<◌, ◌≤◌, ◌||◌, ◌⊎◌, true, false, if◌then◌else◌, List, slice_index_or, Option, Some, None, is_some, option_map, refl, sym, ap, ◌∙◌, inl, inr, arith}
use Rattle.std.proofs.lemmas.Bool.{and_parts, cases_lt}
use Rattle.pages.specs.declared.access.Width.{Width}
use Rattle.rv64_decode.specs.declared.instruction.Instr.{Instr}
use Rattle.rv64_decode.specs.declared.instruction.Instr.TheVariants.{Ecall}
use Rattle.rv64_decode.specs.declared.ordering.AcquireRelease.{AcquireRelease}
use Rattle.round_schedule.specs.declared.access.Access.{Access}
use Rattle.round_schedule.specs.declared.access.Access.TheVariants.{Store, StoreConditional, Atomic}
use Rattle.round_schedule.specs.declared.span.Span.{Span}
use Rattle.round_schedule.specs.Accesses.{address_of, bytes_of, is_sc, loads, read_of, stores, written_of}
use Rattle.round_schedule.specs.Positions.{event, reads_at}
use Rattle.hart_step.specs.declared.hart.Hart.{Hart}
use Rattle.hart_step.specs.Effect.{Action, Write, Conditional, Exchange, Call, action}
use Rattle.hart_step.specs.Forms.{Fills}
use Rattle.hart_step.specs.Numbers.{plus, sx}
use Rattle.hart_step.specs.Registers.{reg, set_reg}
use Rattle.hart_step.specs.Step.{cut, next_pc, went_on, width_bits}
use Rattle.memory_order.specs.declared.registers.Registers.{Registers}
use Rattle.memory_order.specs.Operations.{covers, is_amo, is_store}
use Rattle.memory_order.specs.Dependencies.{has_failed, registers_at}
use Rattle.memory_order.specs.Registers.{registers_of}
use Rattle.rule_checker.specs.CarriedBounds.{AreRegisters, operand_bound}
use Rattle.all_endings.specs.Endings.{opening_bytes}
use Rattle.all_endings.specs.HartRuns.{Acts, Gets, IsPlaced, IsWritable, exchanges, exchanges-unknown, fails, gets-later, succeeds}
use Rattle.all_endings.specs.HartRuns.{stores as stores_it}
use Rattle.all_endings.specs.Locality.{Knows, KnowsButData, view, without_data, written_register}
use Rattle.all_endings.specs.RunStates.{Move, RunState, answers_to, bare, behind, operates}
use Rattle.all_endings.proofs.Following.{Follows, Setting, Source, after, after_store, list, place, time, time_small}
use Rattle.all_endings.proofs.Locality.{not_both, some_value}
use Rattle.all_endings.proofs.Moves.{Moves, MovesOrBlocks, acts_all, acts_most, answers_small, blocked-address, destination_of, operation_bound, registers_are, registers_fit_at, writes_to}
use Rattle.all_endings.proofs.OwnSteps.{operates_as}
use Rattle.all_endings.proofs.Pairs.{reserved_in_time, unbroken}
use Rattle.all_endings.proofs.PlainMoves.{IsGiven, idle_moves}
use Rattle.all_endings.proofs.SourceRegisters.{data_known, fits, most_known, registers_fit}
use Rattle.all_endings.proofs.StepTimes.{behind_later, behind_listed, data_in_time, gets_known, listed, source_at, source_is, stands}

-- the number that is stored, before it is cut
abbrev pub number_in : Action → ℕ → ℕ
number_in (Write a w v) d = v
number_in (Conditional rd a w v o) d = v
number_in _ d = d

-- it is that of the data register
pub data_is : (instr : Instr) (x : List ℕ) (pc : ℕ) → number_in (action instr x pc) (reg x (registers_of instr).value) ≡ reg x (registers_of instr).value
data_is Ecall x pc = refl
data_is _ x pc = refl

abbrev pub store_of : Setting → ℕ → Instr → ℕ → Option ℕ → Option ℕ → (ℕ → ℕ) → ℕ → Move
store_of s i instr t result written source next = record {
  instruction = instr;
  access = bare (event s.t i).access;
  time = t;
  result = result;
  written = written;
  source = source;
  next = next;
}

module _ (s : Setting) (h i : ℕ) (held : Option Span) (a : RunState) (k j : Hart) (instr : Instr) (follows : Follows s h i held a k) (here : (event s.t i).hart ≡ h)
    (inst : slice_index_or s.is i Ecall ≡ instr) where
  fitting : AreRegisters (registers_of instr)
  fitting = registers_fit_at s i instr inst

  to : (rd number : ℕ) → j ≡ went_on k rd number (next_pc k) → plus a.pc 4 ≡ j.pc
  to rd number g = ap (λ (p : ℕ). plus p 4) follows.lags.pc ∙ sym (ap (λ (q : Hart). q.pc) g)

  changed : (rd number : ℕ) (b : Action) → j ≡ went_on k rd number (next_pc k) → action instr k.x k.pc ≡ b → b ≢ Call → written_register b ≡ rd →
      j.x ≡ set_reg k.x (answers_to instr) number
  changed rd number b g is other at = ap (λ (q : Hart). q.x) g ∙ ap (λ (d : ℕ). set_reg k.x d number) (sym at ∙ writes_to instr k.x k.pc b is other)

  -- what the data register holds is known, or depends on what is LATER
  pub data_cases : (number : ℕ) → number ≡ reg k.x (registers_of instr).value →
      (view a.registers (registers_of instr).value ≡ Some number) ⊎ ((view a.registers (registers_of instr).value ≡ None) × (s.n < reg a.carried.registers (registers_of instr).value))
  data_cases number is = by_view (view a.registers (registers_of instr).value) refl
    where
      by_view : (o : Option ℕ) → view a.registers (registers_of instr).value ≡ o →
          (view a.registers (registers_of instr).value ≡ Some number) ⊎ ((view a.registers (registers_of instr).value ≡ None) × (s.n < reg a.carried.registers (registers_of instr).value))
      by_view None at = inr (
        at,
        elim (data_known s.n a.registers a.carried (registers_of instr) fitting follows.known) [
          | inl some ↦ let none : is_some (view a.registers (registers_of instr).value) ≡ false = ap (λ (o : Option ℕ). is_some o) at in absurd (cc)
          | inr late ↦ late.1
        ],
      )
      by_view (Some d) at = inl (at ∙ ap (λ (v : ℕ). Some v) (sym (follows.lags.registers (registers_of instr).value d at) ∙ sym is))

  -- a store among the first ones has known data
  pub not_late : is_store (event s.t i) ≡ true → time s i ≤ s.n → s.n < reg a.carried.registers (registers_of instr).value → ⊥
  not_late store early late =
      let b = data_in_time s h i held a k follows here store in
      let q : reg a.carried.registers (registers_of instr).value ≡ reg a.carried.registers (registers_at s.is i).value =
      ap (λ (x : Registers). reg a.carried.registers x.value) (registers_are s i instr inst) in
      omega (arith, b, q, late, early)

  module _ (store : is_store (event s.t i) ≡ true) (t : ℕ) (result written : Option ℕ) (source : ℕ → ℕ)
      (times : ((t ≡ time s i) × (time s i < s.n)) ⊎ ((t ≡ s.n + 1) × (s.n ≤ time s i))) where
    passes : behind (list s) (store_of s i instr t result written source (plus a.pc 4)) ≡ after s i
    passes = elim times [
      | inl early ↦ behind_listed s i (store_of s i instr t result written source (plus a.pc 4)) refl store early.0 early.1
      | inr late ↦ behind_later s i (store_of s i instr t result written source (plus a.pc 4)) refl store late.0 late.1
    ]

    placed : (written ≡ written_of (event s.t i).access) ⊎ (s.n ≤ time s i) → IsPlaced h (list s) (store_of s i instr t result written source (plus a.pc 4))
    placed known = elim times [
      | inr late ↦ inl (let l = late.0 in let m = s.many in omega (arith, l, m))
      | inl early ↦ elim known [
        | inl number ↦ inr (listed s h i (store_of s i instr t result written source (plus a.pc 4)) here store refl number early.0 early.1)
        | inr late ↦ let l = early.1 in absurd (omega (arith, l, late))
      ]
    ]

    time_is : (t ≡ time s i) ⊎ (t ≡ s.n + 1)
    time_is = elim times [ inl early ↦ inl early.0 | inr late ↦ inr late.0 ]

    store_moves : (number : ℕ) → ((m : ℕ) → result ≡ Some m → number ≡ m) → j.x ≡ set_reg k.x (answers_to instr) number → plus a.pc 4 ≡ j.pc →
        IsGiven s a (store_of s i instr t result written source (plus a.pc 4)) →
        (written ≡ written_of (event s.t i).access) ⊎ ((written ≡ None) × ((s.n < operand_bound a.carried (registers_of instr)) ⊎ (is_amo (event s.t i).access ≡ true))) →
        ((x : ℕ) (u : Option ℕ) → reads_at s.t i x ≡ true → Source s i x u → (source x ≡ place s u) ⊎ ((s.n < after s i) × (source x ≡ 0))) →
        Acts s.image h (list s) (opening_bytes s.image) (IsPlaced h (list s)) a (store_of s i instr t result written source (plus a.pc 4)) → Moves s h i a k j instr
    store_moves number got changes next given puts reads doing = record {
      move = store_of s i instr t result written source (plus a.pc 4);
      instruction = refl;
      acts = doing;
      stands = stands s h i held a k (store_of s i instr t result written source (plus a.pc 4)) follows here (registers_are s i instr inst) refl
          (elim times [ inl early ↦ (let l = early.0 in omega (arith, l)) | inr late ↦ (let l = late.0 in let m = time_small s i in omega (arith, l, m)) ]);
      matches = record {
        hart = here;
        registers = registers_are s i instr inst;
        access = refl;
        passed = passes;
        listed = λ wet l. elim times [ inl early ↦ early.0 | inr late ↦ (let m = late.1 in absurd (omega (arith, l, m))) ];
        next = next;
        number = number;
        result = got;
        changes = changes;
        answered = answers_small instr fitting;
        known = given;
        written = puts;
        source = reads;
      };
    }

  -- ---- plain stores and SCs: of those nothing is read

  unread : loads (event s.t i).access ≡ false → (x : ℕ) (u : Option ℕ) → reads_at s.t i x ≡ true → Source s i x u → (0 ≡ place s u) ⊎ ((s.n < after s i) × (◌≡◌ {A = ℕ} 0 0))
  unread none x u r source = let some : loads (event s.t i).access ≡ true = (and_parts (loads (event s.t i).access) (covers (event s.t i).access x) r).0 in absurd (cc)

  data_written : (w : Width) (number : ℕ) → number ≡ reg k.x (registers_of instr).value → written_of (event s.t i).access ≡ Some (cut w number) →
      (option_map (cut w) (view a.registers (registers_of instr).value) ≡ written_of (event s.t i).access) ⊎
      ((option_map (cut w) (view a.registers (registers_of instr).value) ≡ None) × (s.n < reg a.carried.registers (registers_of instr).value))
  data_written w number is gets = elim (data_cases number is) [
    | inl at ↦ inl (ap (λ (o : Option ℕ). option_map (cut w) o) at ∙ sym gets)
    | inr late ↦ inr (ap (λ (o : Option ℕ). option_map (cut w) o) late.0, late.1)
  ]

  -- each store has its time in the run
  run_time : (t : ℕ) × (((t ≡ time s i) × (time s i < s.n)) ⊎ ((t ≡ s.n + 1) × (s.n ≤ time s i)))
  run_time = elim (cases_lt (time s i) s.n) [ inl early ↦ (time s i, inl (refl, early)) | inr late ↦ (s.n + 1, inr (refl, late)) ]

  in_place : (number : Option ℕ) → is_store (event s.t i) ≡ true →
      (number ≡ written_of (event s.t i).access) ⊎ ((number ≡ None) × (s.n < reg a.carried.registers (registers_of instr).value)) →
      (number ≡ written_of (event s.t i).access) ⊎ (s.n ≤ time s i)
  in_place number store known = elim known [
    | inl e ↦ inl e
    | inr late ↦ inr (elim (cases_lt (time s i) s.n) [
      | inl early ↦ absurd (not_late store (omega (arith, early)) late.1)
      | inr l ↦ l
    ])
  ]

  for_matches : (number : Option ℕ) → (number ≡ written_of (event s.t i).access) ⊎ ((number ≡ None) × (s.n < reg a.carried.registers (registers_of instr).value)) →
      (number ≡ written_of (event s.t i).access) ⊎ ((number ≡ None) × ((s.n < operand_bound a.carried (registers_of instr)) ⊎ (is_amo (event s.t i).access ≡ true)))
  for_matches number known = elim known [
    | inl e ↦ inl e
    | inr late ↦ inr (late.0, inl (let l = late.1 in omega (arith, l)))
  ]

  pub write_moves : (address v : ℕ) (w : Width) → (event s.t i).access ≡ Store w k.done address (cut w v) → action instr k.x k.pc ≡ Write address w v →
      IsWritable s.image address w →
      j ≡ went_on k 0 0 (next_pc k) → MovesOrBlocks s h i a k j instr
  write_moves address v w e is safe g =
      elim (most_known s.n a.registers a.carried (registers_of instr) fitting (sym (ap (fits (registers_of instr)) is) ∙ registers_fit instr k.x k.pc) follows.known) [
        | inr late ↦ inr (blocked-address late.0 late.1)
        | inl most ↦
            let does = acts_most instr a k follows.lags.pc follows.lags.registers most ∙ ap without_data is in
            let store : is_store (event s.t i) ≡ true = ap stores e in
            let number : v ≡ reg k.x (registers_of instr).value = sym (ap (λ (b : Action). number_in b (reg k.x (registers_of instr).value)) is) ∙ data_is instr k.x k.pc in
            let puts = data_written w v number (ap written_of e) in
            inl (store_moves store run_time.0 (Some 0) (option_map (cut w) (view a.registers (registers_of instr).value)) (λ x. 0) run_time.1 0 (some_value 0)
            (changed 0 0 (Write address w v) g is (λ q. cc) refl) (to 0 0 g) (inl refl) (for_matches (option_map (cut w) (view a.registers (registers_of instr).value)) puts) (unread (ap loads e))
            (stores_it address w most does safe (ap bare e) refl
            (placed store run_time.0 (Some 0) (option_map (cut w) (view a.registers (registers_of instr).value)) (λ x. 0) run_time.1
            (in_place (option_map (cut w) (view a.registers (registers_of instr).value)) store puts)) refl))
      ]

  pub fail_moves : (rd address v : ℕ) (w : Width) (o : AcquireRelease) → (event s.t i).access ≡ StoreConditional w o k.done address None →
      action instr k.x k.pc ≡ Conditional rd address w v o →
      IsWritable s.image address w → j ≡ went_on k rd 1 (next_pc k) → MovesOrBlocks s h i a k j instr
  fail_moves rd address v w o e is safe g =
      elim (most_known s.n a.registers a.carried (registers_of instr) fitting (sym (ap (fits (registers_of instr)) is) ∙ registers_fit instr k.x k.pc) follows.known) [
        | inr late ↦ inr (blocked-address late.0 late.1)
        | inl most ↦
            let does = acts_most instr a k follows.lags.pc follows.lags.registers most ∙ ap without_data is in
            inl (idle_moves s h i held a k j instr (StoreConditional w o k.done address None) (Some 1) 1 (plus a.pc 4) here inst e (refl, refl, refl) (some_value 1)
            (changed rd 1 (Conditional rd address w v o) g is (λ q. cc) refl) (to rd 1 g) (inl refl)
            (fails rd address w o most does safe (ap bare e) refl refl))
      ]

  pub succeed_moves : (rd address v : ℕ) (w : Width) (o : AcquireRelease) → (event s.t i).access ≡ StoreConditional w o k.done address (Some (cut w v)) →
      action instr k.x k.pc ≡ Conditional rd address w v o →
      IsWritable s.image address w → held ≡ Some (record { address = address; width = w }) → j ≡ went_on k rd 0 (next_pc k) → MovesOrBlocks s h i a k j instr
  succeed_moves rd address v w o e is safe holds g =
      elim (most_known s.n a.registers a.carried (registers_of instr) fitting (sym (ap (fits (registers_of instr)) is) ∙ registers_fit instr k.x k.pc) follows.known) [
        | inr late ↦ inr (blocked-address late.0 late.1)
        | inl most ↦
            let does = acts_most instr a k follows.lags.pc follows.lags.registers most ∙ ap without_data is in
            let store : is_store (event s.t i) ≡ true = ap stores e in
            let sc : is_sc (event s.t i).access ≡ true = ap is_sc e in
            let number : v ≡ reg k.x (registers_of instr).value = sym (ap (λ (b : Action). number_in b (reg k.x (registers_of instr).value)) is) ∙ data_is instr k.x k.pc in
            let puts = data_written w v number (ap written_of e) in
            let own : a.held ≡ Some (record { address = address; width = w }) = follows.holds ∙ holds in
            let pair = follows.reserving (record { address = address; width = w }) own in
            let times = run_time in
            let in_time : time s i ≤ times.0 = elim times.1 [ inl early ↦ (let l = early.0 in omega (arith, l)) | inr late ↦ (let l = late.0 in let m = time_small s i in omega (arith, l, m)) ] in
            let low = reserved_in_time s h i a (record { address = address; width = w }) pair here sc store in
            inl (store_moves store run_time.0 (Some 0) (option_map (cut w) (view a.registers (registers_of instr).value)) (λ x. 0) run_time.1 0 (some_value 0)
            (changed rd 0 (Conditional rd address w v o) g is (λ q. cc) refl) (to rd 0 g) (inl refl) (for_matches (option_map (cut w) (view a.registers (registers_of instr).value)) puts) (unread (ap loads e))
            (succeeds rd address w o most does safe (ap bare e) refl own (omega (arith, in_time, low))
            (placed store run_time.0 (Some 0) (option_map (cut w) (view a.registers (registers_of instr).value)) (λ x. 0) run_time.1
            (in_place (option_map (cut w) (view a.registers (registers_of instr).value)) store puts))
            (unbroken s h i a (record { address = address; width = w }) pair here sc store
            (store_of s i instr run_time.0 (Some 0) (option_map (cut w) (view a.registers (registers_of instr).value)) (λ x. 0) (plus a.pc 4))
            (ap address_of e) (ap bytes_of e) refl (time_is store run_time.0 (Some 0) (option_map (cut w) (view a.registers (registers_of instr).value)) (λ x. 0) run_time.1))
            refl refl))
      ]

  -- ---- AMOs

  pub exchange_moves : (rd address old : ℕ) (w : Width) (f : ℕ → ℕ) (o : AcquireRelease) → (event s.t i).access ≡ Atomic w o k.done address old (f old) →
      action instr k.x k.pc ≡ Exchange rd address w f o →
      IsWritable s.image address w → Fills w old → j ≡ went_on k rd (sx (width_bits w) old) (next_pc k) → MovesOrBlocks s h i a k j instr
  exchange_moves rd address old w f o e is safe fill g =
      elim (most_known s.n a.registers a.carried (registers_of instr) fitting (sym (ap (fits (registers_of instr)) is) ∙ registers_fit instr k.x k.pc) follows.known) [
        | inr late ↦ inr (blocked-address late.0 late.1)
        | inl most ↦ inl (elim (cases_lt (time s i) s.n) [
          | inl early ↦ early_exchange early most
          | inr late ↦ late_exchange late most
        ])
      ]
    where
      store : is_store (event s.t i) ≡ true
      store = ap stores e

      written_is : written_of (event s.t i).access ≡ Some (f old)
      written_is = ap written_of e

      changes : j.x ≡ set_reg k.x (answers_to instr) (sx (width_bits w) old)
      changes = changed rd (sx (width_bits w) old) (Exchange rd address w f o) g is (λ q. cc) refl

      data_or : (is_some (view a.registers (registers_of instr).value) ≡ true) ⊎ ((view a.registers (registers_of instr).value ≡ None) × (s.n < reg a.carried.registers (registers_of instr).value))
      data_or = data_known s.n a.registers a.carried (registers_of instr) fitting follows.known

      early_exchange : time s i < s.n → KnowsButData (registers_of instr) a.registers → Moves s h i a k j instr
      early_exchange early most =
          let value : is_some (view a.registers (registers_of instr).value) ≡ true = elim data_or [
            | inl some ↦ some
            | inr late ↦ absurd (not_late store (omega (arith, early)) late.1)
          ] in
          let all : Knows (registers_of instr) a.registers = record { but_data = most; value = value } in
          let times : ((time s i ≡ time s i) × (time s i < s.n)) ⊎ ((time s i ≡ s.n + 1) × (s.n ≤ time s i)) = inl (refl, early) in
          store_moves store (time s i) (Some (sx (width_bits w) old)) (Some (f old)) (λ x. source_at s i x) times (sx (width_bits w) old) (some_value (sx (width_bits w) old)) changes
          (to rd (sx (width_bits w) old) g) (inl refl) (inl (sym written_is)) (λ x u r source. inl (source_is s i x u r source))
          (exchanges rd address w f o (Some old) all (acts_all instr a k follows.lags.pc follows.lags.registers all ∙ is) safe (ap bare e)
          (gets_known s h i address old w held a k (store_of s i instr (time s i) (Some (sx (width_bits w) old)) (Some (f old)) (λ x. source_at s i x) (plus a.pc 4)) follows here
          (ap address_of e) (ap bytes_of e) (ap read_of e) fill (omega (arith, early)) refl (λ x. refl))
          refl refl (placed store (time s i) (Some (sx (width_bits w) old)) (Some (f old)) (λ x. source_at s i x) times (inl (sym written_is))) refl)

      late_exchange : s.n ≤ time s i → KnowsButData (registers_of instr) a.registers → Moves s h i a k j instr
      late_exchange late most =
          let times : ((s.n + 1 ≡ time s i) × (time s i < s.n)) ⊎ ((s.n + 1 ≡ s.n + 1) × (s.n ≤ time s i)) = inr (refl, late) in
          let behind_it = passes store (s.n + 1) None None (λ x. 0) times in
          let passed = after_store s i store in
          let unknown : Gets (list s) (opening_bytes s.image) a (store_of s i instr (s.n + 1) None None (λ x. 0) (plus a.pc 4)) address w None =
          gets-later (let m = s.many in omega (arith, m)) (λ x. refl) in
          store_moves store (s.n + 1) None None (λ x. 0) times (sx (width_bits w) old) (λ m q. absurd (not_both m None refl q)) changes
          (to rd (sx (width_bits w) old) g)
          (inr (
            destination_of instr k.x k.pc (Exchange rd address w f o) is (λ q. cc) ∙ sym (ap (λ (z : Access). if has_failed z then 0 else (registers_of instr).destination) (ap bare e)),
            operation_bound s.n (operates (store_of s i instr (s.n + 1) None None (λ x. 0) (plus a.pc 4))) (behind (list s) (store_of s i instr (s.n + 1) None None (λ x. 0) (plus a.pc 4))) _
                (operates_as s i (store_of s i instr (s.n + 1) None None (λ x. 0) (plus a.pc 4)) refl ∙ ap (λ (z : Access). loads z || stores z) e) (omega (arith, behind_it, passed, late)),
          ))
          (inr (refl, inr (ap is_amo e))) (λ x u r source. inr (omega (arith, passed, late), refl))
          (elim data_or [
            | inl value ↦
                let all : Knows (registers_of instr) a.registers = record { but_data = most; value = value } in
                exchanges rd address w f o None all (acts_all instr a k follows.lags.pc follows.lags.registers all ∙ is) safe (ap bare e) unknown refl refl
                (placed store (s.n + 1) None None (λ x. 0) times (inr late)) refl
            | inr none ↦ exchanges-unknown rd address w o most none.0 (acts_most instr a k follows.lags.pc follows.lags.registers most ∙ ap without_data is) safe (ap bare e) unknown refl refl refl
          ])
