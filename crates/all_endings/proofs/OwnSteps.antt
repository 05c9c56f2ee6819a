-- A move that is what the hart did keeps that the run follows it.
use Rattle.std.proofs.Common.{◌≡◌, ◌≢◌, ℕ, suc, ◌-◌, ◌<◌, ◌≤◌, ◌==◌, ◌&&◌, ◌||◌, ◌⊎◌, max, Bool, true, false, if◌then◌else◌, List, length, get_or, slice_set, length-set, Option, Some, None, is_some, option_map, unwrap_or, refl, sym, ap, ◌∙◌, subst, inl, inr, arith}
use Rattle.std.proofs.lemmas.Bool.{and_parts, cases_eq, cases_lt, cond-false, cond-true, eq-eqb, ne_eqb}
use Rattle.std.proofs.lemmas.List.{get_or-set_other, get_or-set_same}
use Rattle.pages.specs.Memory.{byte_of, width_bytes}
use Rattle.rv64_decode.specs.declared.instruction.Instr.{Instr}
use Rattle.rv64_decode.specs.declared.instruction.Instr.TheVariants.{Ecall}
use Rattle.round_schedule.specs.declared.access.Access.{Access}
use Rattle.round_schedule.specs.declared.access.Access.TheVariants.{Load, Store, LoadReserved, StoreConditional, Atomic, Fence}
use Rattle.round_schedule.specs.declared.span.Span.{Span}
use Rattle.round_schedule.specs.Accesses.{address_of, bytes_of, is_given, is_lr, is_sc, loads, stores, number_or_zero, written_of, writes}
use Rattle.round_schedule.specs.Held.{held_after_own}
use Rattle.round_schedule.specs.Positions.{event, reads_at, writes_at}
use Rattle.hart_step.specs.declared.hart.Hart.{Hart}
use Rattle.hart_step.specs.Registers.{reg, set_reg}
use Rattle.memory_order.specs.Operations.{covers, is_amo, is_lr_or_sc, is_operation}
use Rattle.memory_order.specs.declared.registers.Registers.{Registers}
use Rattle.memory_order.specs.Dependencies.{has_failed, registers_at}
use Rattle.memory_order.specs.Orders.{order_position}
use Rattle.memory_order.specs.Registers.{registers_of}
use Rattle.rule_checker.specs.CarriedBounds.{carried_after, destination_with, operand_bound, result_bound}
use Rattle.rule_checker.specs.Kinds.{kinds_after}
use Rattle.rule_checker.specs.declared.annotated.KindBounds.{KindBounds}
use Rattle.rule_checker.specs.declared.carried.Carried.{Carried}
use Rattle.execution.specs.Progressing.{step_event}
use Rattle.all_endings.specs.Endings.{opening_bytes}
use Rattle.all_endings.specs.Locality.{Refines, set_view, view}
use Rattle.all_endings.specs.RunStates.{Move, OwnByte, RunState, answers_to, bare, behind, moved, operates}
use Rattle.all_endings.specs.Times.{kinds_before, timed, touched_before}
use Rattle.all_endings.proofs.Bare.{address_bare, atomic_bare, carried_bare, covers_bare, held_bare, kinds_bare, loads_bare, lr_bare, stores_bare, writes_bare}
use Rattle.all_endings.proofs.Following.{Follows, OwnIs, Reserving, Setting, Source, after, carried_at_index, list, place, time}
use Rattle.all_endings.proofs.Locality.{set_refines}
use Rattle.all_endings.proofs.Seen.{seen_stays}
use Rattle.all_endings.proofs.SourceRegisters.{IsKnown}
use Rattle.all_endings.proofs.Times.{carried_below, reg_other, reg_same, timed_rises}

-- the move v of a run at state a is what hart h did at index i, by which it became j
pub record Matches (s : Setting) (h i : ℕ) (a : RunState) (k j : Hart) (v : Move) : Type 0 where
  pub hart : (event s.t i).hart ≡ h
  pub registers : registers_of v.instruction ≡ registers_at s.is i
  pub access : v.access ≡ bare (event s.t i).access
  pub passed : behind (list s) v ≡ after s i
  pub listed : stores (event s.t i).access ≡ true → time s i < s.n → v.time ≡ time s i
  pub next : v.next ≡ j.pc
  pub number : ℕ
  pub result : (m : ℕ) → v.result ≡ Some m → number ≡ m
  pub changes : j.x ≡ set_reg k.x (answers_to v.instruction) number
  pub answered : answers_to v.instruction < 32
  -- what rd gets is known, or depends on what is LATER
  pub known : (is_some v.result ≡ true) ⊎
      ((answers_to v.instruction ≡ destination_with (registers_of v.instruction) v.access) ×
      (s.n < result_bound a.carried (registers_of v.instruction) (operates v) (behind (list s) v)))
  pub written : (v.written ≡ written_of (event s.t i).access) ⊎
      ((v.written ≡ None) × ((s.n < operand_bound a.carried (registers_of v.instruction)) ⊎ (is_amo (event s.t i).access ≡ true)))
  pub source : (x : ℕ) (u : Option ℕ) → reads_at s.t i x ≡ true → Source s i x u → (v.source x ≡ place s u) ⊎ ((s.n < after s i) × (v.source x ≡ 0))

some_same : (a b : Span) → Some a ≡ Some b → a ≡ b
some_same a b e = ap (λ (o : Option Span). unwrap_or o a) e

-- the register that dependencies see is the one that is written, or none
same_destination : (i : Instr) (a : Access) → (destination_with (registers_of i) a ≡ 0) ⊎ (destination_with (registers_of i) a ≡ answers_to i)
same_destination i a = by_test (has_failed a) i
  where
    by_test : (b : Bool) (i : Instr) → ((if b then 0 else (registers_of i).destination) ≡ 0) ⊎ ((if b then 0 else (registers_of i).destination) ≡ answers_to i)
    by_test true i = inl refl
    by_test false Ecall = inl refl
    by_test false _ = inr refl

view_set_other : (v : List (Option ℕ)) (d r : ℕ) (o : Option ℕ) → r ≢ d → view (set_view v d o) r ≡ view v r
view_set_other v d r o other = elim (cases_eq d 0) [
  | inl z ↦ ap (λ (w : List (Option ℕ)). view w r) (cond-true (d == 0) v (slice_set v d o) (eq-eqb d 0 z))
  | inr z ↦ ap (λ (w : List (Option ℕ)). view w r) (cond-false (d == 0) v (slice_set v d o) (ne_eqb d 0 z))
      ∙ ap (λ (p : Option ℕ). if r == 0 then Some 0 else p) (get_or-set_other v d r o None other)
]

view_set_same : (v : List (Option ℕ)) (d : ℕ) (o : Option ℕ) → d ≢ 0 → d < length v → view (set_view v d o) d ≡ o
view_set_same v d o nonzero l =
    let z = ne_eqb d 0 nonzero in
    cond-false (d == 0) (Some 0) (get_or (set_view v d o) d None) z
    ∙ ap (λ (w : List (Option ℕ)). get_or w d None) (cond-false (d == 0) v (slice_set v d o) z)
    ∙ get_or-set_same v d o None l

view_length : (v : List (Option ℕ)) (d : ℕ) (o : Option ℕ) → length (set_view v d o) ≡ length v
view_length v d o = elim (cases_eq d 0) [
  | inl z ↦ ap length (cond-true (d == 0) v (slice_set v d o) (eq-eqb d 0 z))
  | inr z ↦ ap length (cond-false (d == 0) v (slice_set v d o) (ne_eqb d 0 z)) ∙ length-set v d o
]

reg_length : (v : List ℕ) (d n : ℕ) → length (set_reg v d n) ≡ length v
reg_length v d n = elim (cases_eq d 0) [
  | inl z ↦ ap length (cond-true (d == 0) v (slice_set v d n) (eq-eqb d 0 z))
  | inr z ↦ ap length (cond-false (d == 0) v (slice_set v d n) (ne_eqb d 0 z)) ∙ length-set v d n
]

-- ---- registers: what is unknown depends on what is LATER

-- registers v and bounds c after the register d got a number o, and the register e, which is none or d, the bound b
known_after : (n d e b : ℕ) (v : List (Option ℕ)) (c : List ℕ) (o : Option ℕ) → length v ≡ 32 → length c ≡ 32 → d < 32 → (e ≡ 0) ⊎ (e ≡ d) →
    (is_some o ≡ true) ⊎ ((d ≡ e) × (n < b)) → ((r : ℕ) → r < 32 → reg c r ≤ n → is_some (view v r) ≡ true) →
    (r : ℕ) → r < 32 → reg (set_reg c e b) r ≤ n → is_some (view (set_view v d o) r) ≡ true
known_after n d e b v c o lv lc small same result known r l low = elim (cases_eq r d) [
  | inr other ↦ subst (λ (p : Option ℕ). is_some p ≡ true) (sym (view_set_other v d r o other)) (known r l (elim same [
    | inl nothing ↦ subst (λ (k : ℕ). reg (set_reg c k b) r ≤ n) nothing low
    | inr at ↦ let k = reg_other c e r b (λ q. other (q ∙ at)) in omega (arith, k, low)
  ]))
  | inl here ↦ elim (cases_eq d 0) [
    | inl nothing ↦ subst (λ (k : ℕ). is_some (view (set_view v d o) k) ≡ true) (sym (here ∙ nothing)) refl
    | inr nonzero ↦
        let got : view (set_view v d o) r ≡ o = ap (λ (k : ℕ). view (set_view v d o) k) here ∙ view_set_same v d o nonzero (omega (arith, lv, small)) in
        elim result [
          | inl some ↦ subst (λ (p : Option ℕ). is_some p ≡ true) (sym got) some
          | inr late ↦
              let k : reg (set_reg c e b) r ≡ b =
              ap (λ (q : ℕ). reg (set_reg c e b) q) (here ∙ late.0) ∙ reg_same c e b (λ z. nonzero (late.0 ∙ z)) (omega (arith, lc, small, late)) in
              let m = late.1 in
              absurd (omega (arith, k, m, low))
        ]
  ]
]

-- ---- the last own store to a byte

pub operates_as : (s : Setting) (i : ℕ) (v : Move) → v.access ≡ bare (event s.t i).access → operates v ≡ is_operation (event s.t i)
operates_as s i v e =
    ap (λ (y : Access). loads y || stores y) e ∙ ap (λ (b : Bool). b || stores (bare (event s.t i).access)) (loads_bare (event s.t i).access)
    ∙ ap (λ (b : Bool). loads (event s.t i).access || b) (stores_bare (event s.t i).access)

module _ (s : Setting) (h i : ℕ) (a : RunState) (k j : Hart) (v : Move) (match : Matches s h i a k j v) where
  own_wet : (held : Option Span) → Follows s h i held a k → (x : ℕ) → writes_at s.t i x ≡ true → OwnIs s h (suc i) x (Some (record {
    place = behind (list s) v;
    byte = option_map (λ n. byte_of n (x - address_of v.access)) v.written;
    atomic = is_amo v.access || is_sc v.access;
    needs = operand_bound a.carried (registers_of v.instruction);
  }))
  own_wet held f x wet = record {
    index = i;
    earlier = omega arith;
    hart = match.hart;
    writes = wet;
    last = λ w l here p. omega (arith, l);
    place = match.passed;
    atomic = ap (λ (e : Access). is_amo e || is_sc e) match.access ∙ atomic_bare (event s.t i).access;
    needs = ap (λ (c : Carried). operand_bound c (registers_of v.instruction)) f.carried ∙ ap (operand_bound (carried_at_index s h i)) match.registers;
    byte = elim match.written [
      | inl known ↦ inl (ap (λ (o : Option ℕ). option_map (λ n. byte_of n (x - address_of v.access)) o) known
          ∙ given (event s.t i).access (and_parts (stores (event s.t i).access) (covers (event s.t i).access x) wet).0
          ∙ ap (λ (e : ℕ). Some (byte_of (number_or_zero (written_of (event s.t i).access)) (x - e))) (ap address_of match.access ∙ address_bare (event s.t i).access))
      | inr late ↦ inr (elim late.1 [
        | inl needs ↦ inl needs
        | inr amo ↦ inr (ap (λ (e : Access). is_amo e || is_sc e) match.access ∙ atomic_bare (event s.t i).access ∙ ap (λ (b : Bool). b || is_sc (event s.t i).access) amo)
      ])
    ];
  }
    where
      given : (e : Access) → stores e ≡ true →
          option_map (λ n. byte_of n (x - address_of v.access)) (written_of e) ≡ Some (byte_of (number_or_zero (written_of e)) (x - address_of v.access))
      given e st = by_number (written_of e) st
        where
          by_number : (o : Option ℕ) → is_given o ≡ true → option_map (λ n. byte_of n (x - address_of v.access)) o ≡ Some (byte_of (number_or_zero o) (x - address_of v.access))
          by_number None e = absurd (cc)
          by_number (Some m) e = refl

  own_dry : (x : ℕ) (o : Option OwnByte) → writes_at s.t i x ≡ false → OwnIs s h i x o → OwnIs s h (suc i) x o
  own_dry x None dry own = λ w l here p. elim (cases_lt w i) [
    | inl q ↦ own w q here p
    | inr q ↦ let e : w ≡ i = omega (arith, q, l) in let u : writes_at s.t i x ≡ true = ap (λ (y : ℕ). writes_at s.t y x) (sym e) ∙ p in cc
  ]
  own_dry x (Some o) dry own = record {
    index = own.index;
    earlier = (let l = own.earlier in omega (arith, l));
    hart = own.hart;
    writes = own.writes;
    last = λ w l here p. elim (cases_lt w i) [
      | inl q ↦ own.last w q here p
      | inr q ↦ let e : w ≡ i = omega (arith, q, l) in let u : writes_at s.t i x ≡ true = ap (λ (y : ℕ). writes_at s.t y x) (sym e) ∙ p in absurd (cc)
    ];
    place = own.place;
    atomic = own.atomic;
    needs = own.needs;
    byte = own.byte;
  }

  own_step : (held : Option Span) → Follows s h i held a k → (x : ℕ) → OwnIs s h (suc i) x ((moved h (list s) a v).own x)
  own_step held f x =
      let e : writes v.access x ≡ writes_at s.t i x = ap (λ (y : Access). writes y x) match.access ∙ writes_bare (event s.t i).access x in
      by_test (writes v.access x) e
    where
      by_test : (b : Bool) → b ≡ writes_at s.t i x → OwnIs s h (suc i) x (if b then Some (record {
        place = behind (list s) v;
        byte = option_map (λ n. byte_of n (x - address_of v.access)) v.written;
        atomic = is_amo v.access || is_sc v.access;
        needs = operand_bound a.carried (registers_of v.instruction);
      }) else a.own x)
      by_test true e = own_wet held f x (sym e)
      by_test false e = own_dry x (a.own x) (sym e) (f.own x)

  -- ---- what was seen

  seen_step : (held : Option Span) → Follows s h i held a k → (b x : ℕ) (u : Option ℕ) → suc i ≤ b → (event s.t b).hart ≡ h → reads_at s.t b x ≡ true → Source s b x u →
      (moved h (list s) a v).seen x ≤ place s u
  seen_step held f b x u l here r source =
      let e : (loads v.access && covers v.access x) ≡ reads_at s.t i x =
      ap (λ (y : Access). loads y && covers y x) match.access ∙ ap (λ (c : Bool). c && covers (bare (event s.t i).access) x) (loads_bare (event s.t i).access)
      ∙ ap (λ (c : Bool). loads (event s.t i).access && c) (covers_bare (event s.t i).access x) in
      by_test (loads v.access && covers v.access x) e
    where
      old : a.seen x ≤ place s u
      old = f.seen b x u (omega (arith, l)) here r source

      by_test : (c : Bool) → c ≡ reads_at s.t i x → (if c then max (a.seen x) (v.source x) else a.seen x) ≤ place s u
      by_test false e = old
      by_test true e =
          let value = s.meets.load_value i x (sym e) in
          elim (match.source x value.0 (sym e) value.1) [
            | inr late ↦ let q = late.1 in omega (arith, q, old)
            | inl at ↦
                let stays = seen_stays s.is s.t (opening_bytes s.image) s.g s.meets s.n i b x value.0 u (record { earlier = omega (arith, l); same_hart = match.hart ∙ sym here }) (sym e) r value.1 source in
                omega (arith, at, stays, old)
          ]

  -- ---- the reservation

  reserving_kept : (held : Option Span) → Follows s h i held a k → (span : Span) → is_lr_or_sc (event s.t i).access ≡ false → is_lr v.access ≡ false → a.held ≡ Some span →
      Reserving s h (suc i) (moved h (list s) a v) span
  reserving_kept held f span none plain is =
      let p = f.reserving span is in record {
        index = p.index;
        earlier = (let l = p.earlier in omega (arith, l));
        hart = p.hart;
        reserves = p.reserves;
        address = p.address;
        bytes = p.bytes;
        none_between = λ y l m here paired. elim (cases_lt y i) [
          | inl q ↦ p.none_between y l q here paired
          | inr q ↦ let e : y ≡ i = omega (arith, q, m) in let u : is_lr_or_sc (event s.t i).access ≡ true = ap (λ (z : ℕ). is_lr_or_sc (event s.t z).access) (sym e) ∙ paired in cc
        ];
        reserved = cond-false (is_lr v.access) (behind (list s) v) a.reserved plain ∙ p.reserved;
        sources = λ x u r l source. ap (λ (w : ℕ → ℕ). w x) (cond-false (is_lr v.access) v.source a.sources plain) ∙ p.sources x u r l source;
      }

  reserving_new : (span : Span) → is_lr (event s.t i).access ≡ true → address_of (event s.t i).access ≡ span.address → bytes_of (event s.t i).access ≡ width_bytes span.width →
      Reserving s h (suc i) (moved h (list s) a v) span
  reserving_new span lr address bytes =
      let is : is_lr v.access ≡ true = ap is_lr match.access ∙ lr_bare (event s.t i).access ∙ lr in record {
        index = i;
        earlier = omega arith;
        hart = match.hart;
        reserves = lr;
        address = address;
        bytes = bytes;
        none_between = λ y l m here paired. absurd (omega (arith, l, m));
        reserved = cond-true (is_lr v.access) (behind (list s) v) a.reserved is ∙ match.passed;
        sources = λ x u r l source. ap (λ (w : ℕ → ℕ). w x) (cond-true (is_lr v.access) v.source a.sources is) ∙ (elim (match.source x u r source) [
          | inl at ↦ at
          | inr late ↦ let q = late.0 in absurd (omega (arith, q, l))
        ]);
      }

  reserving_step : (held : Option Span) → Follows s h i held a k → (y : Access) → (event s.t i).access ≡ y → (span : Span) → held_after_own y a.held ≡ Some span →
      Reserving s h (suc i) (moved h (list s) a v) span
  reserving_step held f (Load w p x r) e span is = reserving_kept held f span (ap is_lr_or_sc e) (ap is_lr match.access ∙ lr_bare (event s.t i).access ∙ ap is_lr e) is
  reserving_step held f (Store w p x r) e span is = reserving_kept held f span (ap is_lr_or_sc e) (ap is_lr match.access ∙ lr_bare (event s.t i).access ∙ ap is_lr e) is
  reserving_step held f (LoadReserved w o p x r) e span is =
      let same : record { address = x; width = w } ≡ span = some_same (record { address = x; width = w }) span is in
      reserving_new span (ap is_lr e) (ap address_of e ∙ ap (λ (z : Span). z.address) same) (ap bytes_of e ∙ ap (λ (z : Span). width_bytes z.width) same)
  reserving_step held f (StoreConditional w o p x r) e span is = absurd (cc)
  reserving_step held f (Atomic w o p x r q) e span is = reserving_kept held f span (ap is_lr_or_sc e) (ap is_lr match.access ∙ lr_bare (event s.t i).access ∙ ap is_lr e) is
  reserving_step held f (Fence b c m p) e span is = reserving_kept held f span (ap is_lr_or_sc e) (ap is_lr match.access ∙ lr_bare (event s.t i).access ∙ ap is_lr e) is

  -- ---- together

  operates_is : operates v ≡ is_operation (event s.t i)
  operates_is = operates_as s i v match.access

  here_it : (h == (event s.t i).hart) ≡ true
  here_it = eq-eqb h (event s.t i).hart (sym match.hart)

  kinds_step : (held : Option Span) → Follows s h i held a k → (moved h (list s) a v).kinds ≡ kinds_before (after s) s.t h (suc i)
  kinds_step held f =
      ap (λ (b : KindBounds). kinds_after b v.access (operates v) (behind (list s) v)) f.kinds
      ∙ ap (λ (y : Access). kinds_after (kinds_before (after s) s.t h i) y (operates v) (behind (list s) v)) match.access
      ∙ kinds_bare (event s.t i).access (kinds_before (after s) s.t h i) (operates v) (behind (list s) v)
      ∙ ap (λ (b : Bool). kinds_after (kinds_before (after s) s.t h i) (event s.t i).access b (behind (list s) v)) operates_is
      ∙ ap (λ (m : ℕ). kinds_after (kinds_before (after s) s.t h i) (event s.t i).access (is_operation (event s.t i)) m) match.passed
      ∙ sym (cond-true (h == (event s.t i).hart) (kinds_after (kinds_before (after s) s.t h i) (event s.t i).access (is_operation (event s.t i)) (after s i)) (kinds_before (after s) s.t h i) here_it)

  carried_step : (held : Option Span) → Follows s h i held a k → (moved h (list s) a v).carried ≡ carried_at_index s h (suc i)
  carried_step held f =
      ap (λ (c : Carried). carried_after c (registers_of v.instruction) (step_event h (Some v.access)) (behind (list s) v)) f.carried
      ∙ ap (λ (x : Registers). carried_after (carried_at_index s h i) x (step_event h (Some v.access)) (behind (list s) v)) match.registers
      ∙ ap (λ (y : Access). carried_after (carried_at_index s h i) (registers_at s.is i) (step_event h (Some y)) (behind (list s) v)) match.access
      ∙ carried_bare (event s.t i).access (carried_at_index s h i) (registers_at s.is i) h (behind (list s) v)
      ∙ ap (λ (m : ℕ). carried_after (carried_at_index s h i) (registers_at s.is i) (event s.t i) m) match.passed
      ∙ sym (cond-true (h == (event s.t i).hart) (carried_after (carried_at_index s h i) (registers_at s.is i) (event s.t i) (after s i)) (carried_at_index s h i) here_it)

  touched_step : (held : Option Span) → Follows s h i held a k → (x : ℕ) → (moved h (list s) a v).touched x ≡ touched_before (after s) s.t h x (suc i)
  touched_step held f x =
      let c : Bool = is_operation (event s.t i) && covers (event s.t i).access x in
      let e : (operates v && covers v.access x) ≡ (is_operation (event s.t i) && covers (event s.t i).access x) =
      ap (λ (b : Bool). b && covers v.access x) operates_is ∙ ap (λ (y : Access). is_operation (event s.t i) && covers y x) match.access
      ∙ ap (λ (b : Bool). is_operation (event s.t i) && b) (covers_bare (event s.t i).access x) in
      ap (λ (b : Bool). if b then max (a.touched x) (behind (list s) v) else a.touched x) e
      ∙ ap (λ (m : ℕ). if is_operation (event s.t i) && covers (event s.t i).access x then max m (behind (list s) v) else m) (f.touched x)
      ∙ ap (λ (m : ℕ). if is_operation (event s.t i) && covers (event s.t i).access x then max (touched_before (after s) s.t h x i) m else touched_before (after s) s.t h x i) match.passed
      ∙ sym (ap (λ (b : Bool). if b && (is_operation (event s.t i) && covers (event s.t i).access x) then max (touched_before (after s) s.t h x i) (after s i) else touched_before (after s) s.t h x i) here_it)

  known_step : (held : Option Span) → Follows s h i held a k → IsKnown s.n (moved h (list s) a v).registers (moved h (list s) a v).carried
  known_step held f = known_after s.n (answers_to v.instruction) (destination_with (registers_of v.instruction) v.access) (result_bound a.carried (registers_of v.instruction) (operates v) (behind (list s) v))
      a.registers a.carried.registers v.result f.small
      (ap (λ (c : Carried). length c.registers) f.carried ∙ (carried_below (timed s.n s.t s.g) (timed_rises s.n s.t s.g) s.is s.t (order_position s.g) s.fit h i).small)
      match.answered (same_destination v.instruction v.access) match.known f.known

  pub follows_own : (held : Option Span) → Follows s h i held a k → Follows s h (suc i) (held_after_own (event s.t i).access held) (moved h (list s) a v) j
  follows_own held f = record {
    lags = record {
      pc = match.next;
      registers = subst (Refines (set_view a.registers (answers_to v.instruction) v.result)) (sym match.changes)
          (set_refines a.registers k.x (answers_to v.instruction) match.number v.result (f.small ∙ sym f.size) match.result f.lags.registers);
    };
    small = view_length a.registers (answers_to v.instruction) v.result ∙ f.small;
    size = ap length match.changes ∙ reg_length k.x (answers_to v.instruction) match.number ∙ f.size;
    known = known_step held f;
    kinds = kinds_step held f;
    carried = carried_step held f;
    touched = touched_step held f;
    seen = seen_step held f;
    own = own_step held f;
    holds = ap (λ (y : Access). held_after_own y a.held) match.access ∙ held_bare (event s.t i).access a.held ∙ ap (held_after_own (event s.t i).access) f.holds;
    reserving = λ span is. reserving_step held f (event s.t i).access refl span
        (sym (held_bare (event s.t i).access a.held) ∙ ap (λ (y : Access). held_after_own y a.held) (sym match.access) ∙ is);
  }
