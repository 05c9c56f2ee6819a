-- What a move of a memory operation is, by the operation of its instruction.
use Rattle.std.proofs.Common.{◌≡◌, ◌⊎◌, ℕ, ◌<◌, ◌+◌, ◌||◌, inl, inr, true, false, List, length, Option, Some, None, is_some, option_map, refl, sym, ap, ◌∙◌, subst, arith}
use Rattle.pages.specs.declared.access.Width.{Width}
use Rattle.pages.specs.Memory.{Memory}
use Rattle.round_schedule.specs.declared.access.Access.{Access}
use Rattle.round_schedule.specs.Accesses.{loads as loads_of}
use Rattle.round_schedule.specs.Accesses.{stores as writing}
use Rattle.rv64_decode.specs.declared.instruction.Instr.{Instr}
use Rattle.rv64_decode.specs.declared.instruction.Instr.TheVariants.{Ecall}
use Rattle.rv64_decode.specs.declared.ordering.AcquireRelease.{AcquireRelease}
use Rattle.rv64_decode.specs.Atomics.{atomic_of}
use Rattle.hart_step.specs.Registers.{reg}
use Rattle.hart_step.specs.Effect.{Action, Call, Exchange, Write, action}
use Rattle.memory_order.specs.Registers.{registers_of}
use Rattle.run_bounds.specs.declared.operation.Kind.TheVariants.{Load, Store, LoadReserved, StoreConditional, Atomic}
use Rattle.run_bounds.specs.declared.operation.Operation.{Operation}
use Rattle.run_bounds.specs.Operations.{no_annotation, operation_in}
use Rattle.all_endings.specs.HartRuns.{Acts, Gets, IsPlaced, acts, branches, calls, exchanges, exchanges-unknown, fails, gets, gets-later, jumps, orders, puts, puts-unknown, reads, reserves, stores, succeeds}
use Rattle.all_endings.specs.Locality.{DestinationsAreWritten, filled, set_view, view, without_data, written_register}
use Rattle.all_endings.specs.RunStates.{Move, RunState, answers_to, operates}
use Rattle.all_endings.specs.StoreLists.{Stored, later}
use Rattle.all_endings.proofs.Locality.{filled_refines}
use Rattle.hart_states.proofs.Choices.{answers_elsewhere}
use Rattle.hart_moves.specs.Choosing.{DoesSo, FailsSo, IsAble, exchanged, put_back}
use Rattle.hart_moves.proofs.Found.{storing_writes}

known_view : (v : List (Option ℕ)) (r : ℕ) → is_some (view v r) ≡ true → view v r ≡ Some (reg (filled v) r)
known_view v r e = by_view (view v r) refl e
  where
    by_view : (o : Option ℕ) → view v r ≡ o → is_some o ≡ true → o ≡ Some (reg (filled v) r)
    by_view None is known = absurd (cc)
    by_view (Some n) is known = ap (λ (k : ℕ). Some k) (sym (filled_refines v r n is))

-- the number that is stored makes no difference
pub same_operation : (b : Action) → operation_in (without_data b) ≡ operation_in b
same_operation (Write a w n) = refl
same_operation _ = refl

written_none : (b : Action) (address : ℕ) (w : Width) → without_data b ≡ Write address w 0 → written_register b ≡ 0
written_none (Write y u n) address w e = refl
written_none _ address w e = absurd (cc)

-- a number that is unknown is read later
unknown_later : (m : List Stored) (opening : ℕ → ℕ) (a : RunState) (v : Move) (address : ℕ) (w : Width) (o : Option ℕ) → o ≡ None → Gets m opening a v address w o → v.time ≡ later m
unknown_later m opening a v address w _ e (gets n early fits bytes) = absurd (cc)
unknown_later m opening a v address w _ e (gets-later late none) = late

-- what an AMO's action writes
written_in : Action → ℕ → Option ℕ
written_in (Exchange rd address w f ordering) n = Some (f n)
written_in _ n = None

put_by : (i : Instr) (x : List ℕ) (pc n : ℕ) → written_in (action i x pc) n ≡ put_back (atomic_of i) n (reg x (registers_of i).value)
unfolding written_in
put_by Ecall x pc n = refl
put_by _ x pc n = refl

put_exchanged : (i : Instr) (v : List (Option ℕ)) (pc rd address : ℕ) (w : Width) (f : ℕ → ℕ) (ordering : AcquireRelease) (number : Option ℕ) →
    action i (filled v) pc ≡ Exchange rd address w f ordering → is_some (view v (registers_of i).value) ≡ true →
    option_map f number ≡ exchanged i number (view v (registers_of i).value)
unfolding written_in
put_exchanged i v pc rd address w f ordering None is known = refl
put_exchanged i v pc rd address w f ordering (Some n) is known =
    sym (ap (λ (b : Action). written_in b n) is) ∙ put_by i (filled v) pc n ∙ ap (λ (d : Option ℕ). exchanged i (Some n) d) (sym (known_view v (registers_of i).value known))

-- what it does, wherever it has its place
pub record Inverted (image : Memory) (h : ℕ) (m : List Stored) (opening : ℕ → ℕ) (HasPlace : Move → Type 0) (a : RunState) (o : Operation) (v : Move) : Type 0 where
  pub does : (DoesSo h m opening a o v × (operates v ≡ true)) ⊎ FailsSo a o v
  pub place : writing v.access ≡ true → (v.time ≡ later m) ⊎ HasPlace v
  pub able : IsAble image a v.instruction o

module _ (image : Memory) (h : ℕ) (m : List Stored) (opening : ℕ → ℕ) (HasPlace : Move → Type 0) (a : RunState) (v : Move) where
  gives_none : (o : Operation) (b : Action) → acts a v ≡ b → operation_in b ≡ None → operation_in (acts a v) ≡ Some o → ⊥
  gives_none o b is none e = let d : operation_in (acts a v) ≡ operation_in b = ap operation_in is in cc

  gives : (o p : Operation) (b : Action) → without_data (acts a v) ≡ b → operation_in b ≡ Some p → operation_in (acts a v) ≡ Some o → p ≡ o
  gives o p b is some e =
      let d : operation_in (without_data (acts a v)) ≡ operation_in b = ap operation_in is in
      let f : operation_in (without_data (acts a v)) ≡ operation_in (acts a v) = same_operation (acts a v) in
      cc

  gives_all : (o p : Operation) (b : Action) → acts a v ≡ b → operation_in b ≡ Some p → operation_in (acts a v) ≡ Some o → p ≡ o
  gives_all o p b is some e = let d : operation_in (acts a v) ≡ operation_in b = ap operation_in is in cc

  given : (o p : Operation) → p ≡ o → Inverted image h m opening HasPlace a p v → Inverted image h m opening HasPlace a o v
  given o p e i = subst (λ (q : Operation). Inverted image h m opening HasPlace a q v) e i

  operating : (y : Access) → v.access ≡ y → (loads_of y || writing y) ≡ true → operates v ≡ true
  operating y e on = ap (λ (z : Access). loads_of z || writing z) e ∙ on

  writes_not : (y : Access) → v.access ≡ y → writing y ≡ false → writing v.access ≡ true → (v.time ≡ later m) ⊎ HasPlace v
  writes_not y e dry wet = let d : writing v.access ≡ writing y = ap writing e in absurd (cc)

  dry : {o : Option ℕ} (y : Access) → v.access ≡ y → writing y ≡ false → writing v.access ≡ true → v.written ≡ o
  dry y e none wet = let d : writing v.access ≡ writing y = ap writing e in absurd (cc)

  module _ (law : DestinationsAreWritten) where
    silent : (address : ℕ) (w : Width) → without_data (acts a v) ≡ Write address w 0 → answers_to v.instruction ≡ 0
    silent address w is =
        let other : v.instruction ≡ Ecall → ⊥ = λ e. let c : without_data (acts a v) ≡ Call = ap (λ (i : Instr). without_data (action i (filled a.registers) a.pc)) e in cc in
        answers_elsewhere v.instruction other ∙ sym (law v.instruction (filled a.registers) a.pc other) ∙ written_none (acts a v) address w is

    pub does_so : (o : Operation) → operation_in (acts a v) ≡ Some o → Acts image h m opening HasPlace a v → Inverted image h m opening HasPlace a o v
    does_so o e (puts rd n k is y r x) = absurd (gives_none o _ is refl e)
    does_so o e (puts-unknown rd n k is y r x) = absurd (gives_none o _ is refl e)
    does_so o e (jumps rd target k is even y r x) = absurd (gives_none o _ is refl e)
    does_so o e (branches taken target k is even y x) = absurd (gives_none o _ is refl e)
    does_so o e (orders before after mode is y x) = absurd (gives_none o _ is refl e)
    does_so o e (reads rd address w signed number k is safe y g r x) =
        given o (record { kind = Load; address = address; width = w; ordering = no_annotation; signed = signed }) (gives_all o _ _ is refl e) (record {
          does = inl (inl (record { kind = refl; access = y; number = number; gets = g; result = r; written = dry _ y refl; next = x }), operating _ y refl);
          place = writes_not _ y refl;
          able = record { address = k.but_data.address; readable = λ kind. safe; writable = λ kind. absurd (cc) };
        })
    does_so o e (stores address w k is safe y d p x) =
        let s = silent address w is in
        given o (record { kind = Store; address = address; width = w; ordering = no_annotation; signed = false }) (gives o _ _ is refl e) (record {
          does = inl (
            inr (record {
              kind = refl;
              access = y;
              written = d;
              register = ap (λ (r : ℕ). set_view a.registers r v.result) s ∙ sym (ap (λ (r : ℕ). set_view a.registers r None) s);
              reserved = λ kind. absurd (cc);
              next = x;
            }),
            operating _ y refl,
          );
          place = λ store. inr p;
          able = record { address = k.address; readable = λ kind. absurd (cc); writable = λ kind. safe };
        })
    does_so o e (reserves rd address w ordering number k is safe y g r x) =
        given o (record { kind = LoadReserved; address = address; width = w; ordering = ordering; signed = true }) (gives_all o _ _ is refl e) (record {
          does = inl (inl (record { kind = refl; access = y; number = number; gets = g; result = r; written = dry _ y refl; next = x }), operating _ y refl);
          place = writes_not _ y refl;
          able = record { address = k.but_data.address; readable = λ kind. safe; writable = λ kind. absurd (cc) };
        })
    does_so o e (fails rd address w ordering k is safe y r x) =
        given o (record { kind = StoreConditional; address = address; width = w; ordering = ordering; signed = true }) (gives o _ _ is refl e) (record {
          does = inr (record { kind = refl; access = y; result = r; next = x });
          place = writes_not _ y refl;
          able = record { address = k.address; readable = λ kind. absurd (cc); writable = λ kind. safe };
        })
    does_so o e (succeeds rd address w ordering k is safe y d held reserved p unbroken r x) =
        given o (record { kind = StoreConditional; address = address; width = w; ordering = ordering; signed = true }) (gives o _ _ is refl e) (record {
          does = inl (
            inr (record {
              kind = refl;
              access = y;
              written = d;
              register = ap (λ (n : Option ℕ). set_view a.registers (answers_to v.instruction) n) r;
              reserved = λ kind. record { held = held; behind = reserved; unbroken = unbroken };
              next = x;
            }),
            operating _ y refl,
          );
          place = λ store. inr p;
          able = record { address = k.address; readable = λ kind. absurd (cc); writable = λ kind. safe };
        })
    does_so o e (exchanges rd address w f ordering number k is safe y g r d p x) =
        given o (record { kind = Atomic; address = address; width = w; ordering = ordering; signed = true }) (gives_all o _ _ is refl e) (record {
          does = inl (
            inl (record {
              kind = refl;
              access = y;
              number = number;
              gets = g;
              result = r;
              written = λ store. d ∙ put_exchanged v.instruction a.registers a.pc rd address w f ordering number is k.value;
              next = x;
            }),
            operating _ y refl,
          );
          place = λ store. inr p;
          able = record { address = k.but_data.address; readable = λ kind. absurd (cc); writable = λ kind. safe };
        })
    does_so o e (exchanges-unknown rd address w ordering k none is safe y g r d x) =
        given o (record { kind = Atomic; address = address; width = w; ordering = ordering; signed = true }) (gives o _ _ is refl e) (record {
          does = inl (inl (record { kind = refl; access = y; number = None; gets = g; result = r; written = λ store. d; next = x }), operating _ y refl);
          place = λ store. inl (unknown_later m opening a v address w None refl g);
          able = record { address = k.address; readable = λ kind. absurd (cc); writable = λ kind. safe };
        })
    does_so o e (calls number answer ecall at nonzero answered y r x) =
        absurd (gives_none o Call (ap (λ (i : Instr). action i (filled a.registers) a.pc) ecall) refl e)

-- ---- when it comes

-- what is later has its place
pub placed : (h : ℕ) (m : List Stored) (v : Move) → (v.time ≡ later m) ⊎ IsPlaced h m v → IsPlaced h m v
placed h m v (inl late) = inl late
placed h m v (inr there) = there

pub time_within : (h : ℕ) (m : List Stored) (opening : ℕ → ℕ) (a : RunState) (o : Operation) (v : Move) → DoesSo h m opening a o v → (writing v.access ≡ true → IsPlaced h m v) → v.time < length m + 2
time_within h m opening a o v (inl so) p = by_number so.number so.gets
  where
    by_number : (n : Option ℕ) → Gets m opening a v o.address o.width n → v.time < length m + 2
    by_number _ (gets n early fits bytes) = omega (arith, early)
    by_number _ (gets-later late none) = omega (arith, late)
time_within h m opening a o v (inr so) p = by_place (p (ap writing so.access ∙ storing_writes o so.kind))
  where
    by_place : IsPlaced h m v → v.time < length m + 2
    by_place (inl late) = omega (arith, late)
    by_place (inr listed) = let w = listed.within in omega (arith, w)
