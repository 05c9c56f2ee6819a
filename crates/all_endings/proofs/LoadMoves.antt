-- Moves that load: loads and LRs. What is read LATER is unknown.
use Rattle.std.proofs.Common.{◌≡◌, ◌≢◌, ℕ, ◌<◌, ◌==◌, ◌||◌, Bool, true, false, if◌then◌else◌, slice_index_or, Option, Some, None, is_some, refl, sym, ap, ◌∙◌, inl, inr, arith}
use Rattle.std.proofs.lemmas.Bool.{and_parts, cases_lt}
use Rattle.pages.specs.declared.access.Width.{Width}
use Rattle.rv64_decode.specs.declared.instruction.Instr.{Instr}
use Rattle.rv64_decode.specs.declared.instruction.Instr.TheVariants.{Ecall}
use Rattle.rv64_decode.specs.declared.ordering.AcquireRelease.{AcquireRelease}
use Rattle.round_schedule.specs.declared.access.Access.{Access}
use Rattle.round_schedule.specs.declared.access.Access.TheVariants.{Load, LoadReserved}
use Rattle.round_schedule.specs.declared.span.Span.{Span}
use Rattle.round_schedule.specs.Accesses.{address_of, bytes_of, loads, read_of, stores, written_of}
use Rattle.round_schedule.specs.Positions.{event}
use Rattle.hart_step.specs.declared.hart.Hart.{Hart}
use Rattle.hart_step.specs.Effect.{Action, Read, Reserve, Call, action}
use Rattle.hart_step.specs.Forms.{Fills}
use Rattle.hart_step.specs.Numbers.{plus, sx}
use Rattle.hart_step.specs.Registers.{set_reg}
use Rattle.hart_step.specs.Step.{extended_to, next_pc, went_on, width_bits}
use Rattle.memory_order.specs.Operations.{is_operation}
use Rattle.memory_order.specs.Dependencies.{has_failed}
use Rattle.memory_order.specs.Registers.{registers_of}
use Rattle.all_endings.specs.Endings.{opening_bytes}
use Rattle.all_endings.specs.HartRuns.{Acts, IsPlaced, IsReadable, gets-later, reads, reserves}
use Rattle.all_endings.specs.Locality.{written_register}
use Rattle.all_endings.specs.RunStates.{Move, RunState, answers_to, bare, behind, operates}
use Rattle.all_endings.proofs.Following.{Follows, Setting, after, after_other, list, time, time_small}
use Rattle.all_endings.proofs.Locality.{not_both, some_value}
use Rattle.all_endings.proofs.Moves.{Moves, MovesOrBlocks, acts_all, answers_small, blocked-address, destination_of, operation_bound, registers_are, registers_fit_at, writes_to}
use Rattle.all_endings.proofs.OwnSteps.{operates_as}
use Rattle.all_endings.proofs.SourceRegisters.{data_less, fits, most_known, registers_fit, without_others}
use Rattle.all_endings.proofs.StepTimes.{behind_other, gets_known, source_at, source_is, stands}

-- a load that is known, and one that is LATER
abbrev load_of : Setting → ℕ → Instr → Option ℕ → ℕ → Move
load_of s i instr result next = record {
  instruction = instr;
  access = bare (event s.t i).access;
  time = time s i;
  result = result;
  written = None;
  source = λ x. source_at s i x;
  next = next;
}

abbrev late_of : Setting → ℕ → Instr → ℕ → Move
late_of s i instr next = record {
  instruction = instr;
  access = bare (event s.t i).access;
  time = time s i;
  result = None;
  written = None;
  source = λ x. 0;
  next = next;
}

module _ (s : Setting) (h i : ℕ) (held : Option Span) (a : RunState) (k j : Hart) (instr : Instr) (follows : Follows s h i held a k) (here : (event s.t i).hart ≡ h)
    (inst : slice_index_or s.is i Ecall ≡ instr) (y : Access) (e : (event s.t i).access ≡ y) (loading : loads y ≡ true) (dry : stores y ≡ false) (unwritten : written_of y ≡ None)
    (safe : has_failed (bare y) ≡ false) (b : Action) (is : action instr k.x k.pc ≡ b) (other : b ≢ Call) where
  loads_it : loads (event s.t i).access ≡ true
  loads_it = ap loads e ∙ loading

  no_store : stores (event s.t i).access ≡ false
  no_store = ap stores e ∙ dry

  is_one : is_operation (event s.t i) ≡ true
  is_one = ap (λ (p : Bool). p || stores (event s.t i).access) loads_it

  known_moves : (result : Option ℕ) (number next : ℕ) → is_some result ≡ true → ((m : ℕ) → result ≡ Some m → number ≡ m) → j.x ≡ set_reg k.x (answers_to instr) number →
      next ≡ j.pc →
      Acts s.image h (list s) (opening_bytes s.image) (IsPlaced h (list s)) a (load_of s i instr result next) → Moves s h i a k j instr
  known_moves result number next given got changes to doing = record {
    move = load_of s i instr result next;
    instruction = refl;
    acts = doing;
    stands = stands s h i held a k (load_of s i instr result next) follows here (registers_are s i instr inst) refl (omega arith);
    matches = record {
      hart = here;
      registers = registers_are s i instr inst;
      access = refl;
      passed = behind_other s i (load_of s i instr result next) refl no_store refl;
      listed = λ store l. refl;
      next = to;
      number = number;
      result = got;
      changes = changes;
      answered = answers_small instr (registers_fit_at s i instr inst);
      known = inl given;
      written = inl (sym (ap written_of e ∙ unwritten));
      source = λ x u r source. inl (source_is s i x u r source);
    };
  }

  late_moves : (number next : ℕ) → s.n < time s i → j.x ≡ set_reg k.x (answers_to instr) number → next ≡ j.pc →
      Acts s.image h (list s) (opening_bytes s.image) (IsPlaced h (list s)) a (late_of s i instr next) → Moves s h i a k j instr
  late_moves number next late changes to doing =
      let flat = after_other s i no_store in
      let at : behind (list s) (late_of s i instr next) ≡ after s i = behind_other s i (late_of s i instr next) refl no_store refl in record {
        move = late_of s i instr next;
        instruction = refl;
        acts = doing;
        stands = stands s h i held a k (late_of s i instr next) follows here (registers_are s i instr inst) refl (omega arith);
        matches = record {
          hart = here;
          registers = registers_are s i instr inst;
          access = refl;
          passed = at;
          listed = λ store l. refl;
          next = to;
          number = number;
          result = λ m q. absurd (not_both m None refl q);
          changes = changes;
          answered = answers_small instr (registers_fit_at s i instr inst);
          known = inr (
            destination_of instr k.x k.pc b is other ∙ sym (ap (λ (z : Access). if has_failed z then 0 else (registers_of instr).destination) (ap bare e)
                ∙ ap (λ (p : Bool). if p then 0 else (registers_of instr).destination) safe),
            operation_bound s.n (operates (late_of s i instr next)) (behind (list s) (late_of s i instr next)) _ (operates_as s i (late_of s i instr next) refl ∙ is_one) (omega (arith, late, flat, at)),
          );
          written = inl (sym (ap written_of e ∙ unwritten));
          source = λ x u r source. inr (omega (arith, late, flat), refl);
        };
      }

module _ (s : Setting) (h i : ℕ) (held : Option Span) (a : RunState) (k j : Hart) (instr : Instr) (follows : Follows s h i held a k) (here : (event s.t i).hart ≡ h)
    (inst : slice_index_or s.is i Ecall ≡ instr) where
  abbrev next : ℕ
  next = plus a.pc 4

  to : (rd number : ℕ) → j ≡ went_on k rd number (next_pc k) → plus a.pc 4 ≡ j.pc
  to rd number g = ap (λ (p : ℕ). plus p 4) follows.lags.pc ∙ sym (ap (λ (q : Hart). q.pc) g)

  changed : (rd number : ℕ) (b : Action) → j ≡ went_on k rd number (next_pc k) → action instr k.x k.pc ≡ b → b ≢ Call → written_register b ≡ rd →
      j.x ≡ set_reg k.x (answers_to instr) number
  changed rd number b g is other at = ap (λ (q : Hart). q.x) g ∙ ap (λ (d : ℕ). set_reg k.x d number) (sym at ∙ writes_to instr k.x k.pc b is other)

  pub read_moves : (rd address v : ℕ) (w : Width) (signed : Bool) → (event s.t i).access ≡ Load w k.done address v → action instr k.x k.pc ≡ Read rd address w signed →
      IsReadable s.image address w → Fills w v → j ≡ went_on k rd (extended_to signed w v) (next_pc k) → MovesOrBlocks s h i a k j instr
  read_moves rd address v w signed e is readable fill g =
      let parts = and_parts ((registers_of instr).value == 0) (without_others (registers_of instr)) (sym (ap (fits (registers_of instr)) is) ∙ registers_fit instr k.x k.pc) in
      elim (most_known s.n a.registers a.carried (registers_of instr) (registers_fit_at s i instr inst) parts.1 follows.known) [
        | inr late ↦ inr (blocked-address late.0 late.1)
        | inl most ↦
            let all = data_less a.registers (registers_of instr) parts.0 most in
            let does = acts_all instr a k follows.lags.pc follows.lags.registers all ∙ is in
            inl (elim (cases_lt s.n (time s i)) [
              | inl late ↦ late_moves s h i held a k j instr follows here inst (Load w k.done address v) e refl refl refl refl (Read rd address w signed) is (λ q. cc) (extended_to signed w v) (plus a.pc 4) late
                  (changed rd (extended_to signed w v) (Read rd address w signed) g is (λ q. cc) refl) (to rd (extended_to signed w v) g)
                  (reads rd address w signed None all does readable (ap bare e) (gets-later (let m = s.many in let l = time_small s i in omega (arith, m, l, late)) (λ x. refl)) refl refl)
              | inr known ↦ known_moves s h i held a k j instr follows here inst (Load w k.done address v) e refl refl refl refl (Read rd address w signed) is (λ q. cc) (Some (extended_to signed w v)) (extended_to signed w v) (plus a.pc 4) refl
                  (some_value (extended_to signed w v)) (changed rd (extended_to signed w v) (Read rd address w signed) g is (λ q. cc) refl) (to rd (extended_to signed w v) g)
                  (reads rd address w signed (Some v) all does readable (ap bare e)
                  (gets_known s h i address v w held a k (load_of s i instr (Some (extended_to signed w v)) (plus a.pc 4)) follows here (ap address_of e) (ap bytes_of e) (ap read_of e) fill known refl (λ x. refl)) refl refl)
            ])
      ]

  pub reserve_moves : (rd address v : ℕ) (w : Width) (o : AcquireRelease) → (event s.t i).access ≡ LoadReserved w o k.done address v →
      action instr k.x k.pc ≡ Reserve rd address w o →
      IsReadable s.image address w → Fills w v → j ≡ went_on k rd (sx (width_bits w) v) (next_pc k) → MovesOrBlocks s h i a k j instr
  reserve_moves rd address v w o e is readable fill g =
      let parts = and_parts ((registers_of instr).value == 0) (without_others (registers_of instr)) (sym (ap (fits (registers_of instr)) is) ∙ registers_fit instr k.x k.pc) in
      elim (most_known s.n a.registers a.carried (registers_of instr) (registers_fit_at s i instr inst) parts.1 follows.known) [
        | inr late ↦ inr (blocked-address late.0 late.1)
        | inl most ↦
            let all = data_less a.registers (registers_of instr) parts.0 most in
            let does = acts_all instr a k follows.lags.pc follows.lags.registers all ∙ is in
            inl (elim (cases_lt s.n (time s i)) [
              | inl late ↦ late_moves s h i held a k j instr follows here inst (LoadReserved w o k.done address v) e refl refl refl refl (Reserve rd address w o) is (λ q. cc) (sx (width_bits w) v) (plus a.pc 4) late
                  (changed rd (sx (width_bits w) v) (Reserve rd address w o) g is (λ q. cc) refl) (to rd (sx (width_bits w) v) g)
                  (reserves rd address w o None all does readable (ap bare e) (gets-later (let m = s.many in let l = time_small s i in omega (arith, m, l, late)) (λ x. refl)) refl refl)
              | inr known ↦ known_moves s h i held a k j instr follows here inst (LoadReserved w o k.done address v) e refl refl refl refl (Reserve rd address w o) is (λ q. cc) (Some (sx (width_bits w) v)) (sx (width_bits w) v) (plus a.pc 4) refl
                  (some_value (sx (width_bits w) v)) (changed rd (sx (width_bits w) v) (Reserve rd address w o) g is (λ q. cc) refl) (to rd (sx (width_bits w) v) g)
                  (reserves rd address w o (Some v) all does readable (ap bare e)
                  (gets_known s h i address v w held a k (load_of s i instr (Some (sx (width_bits w) v)) (plus a.pc 4)) follows here (ap address_of e) (ap bytes_of e) (ap read_of e) fill known refl (λ x. refl)) refl refl)
            ])
      ]
