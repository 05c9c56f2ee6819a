-- Spots that are walked cover the runs against the list of all stores.
use Rattle.std.proofs.Common.{◌≡◌, ℕ, zero, suc, ◌+◌, ◌<◌, ◌≤◌, ◌==◌, ◌&&◌, ◌||◌, not, Bool, true, false, if◌then◌else◌, List, [], ◌∷◌, ◌++◌, length, map, drop, replicate, get_or, Contains, Option, Some, None, is_some, unwrap_or, refl, sym, ap, ◌∙◌, subst, inl, inr, arith}
use Rattle.std.proofs.lemmas.Bool.{and_parts, cases_lt, cond-false, eq-eqb, eqb-true, eqb-false, ne_eqb}
use Rattle.std.proofs.lemmas.List.{append-nil, append_assoc, length-append, length-map}
use Rattle.std.proofs.lemmas.List.Elements.{Contains-push_cases}
use Rattle.pages.specs.Memory.{Memory}
use Rattle.rv64_decode.specs.declared.instruction.Instr.{Instr}
use Rattle.rv64_decode.specs.declared.instruction.Instr.TheVariants.{Ecall}
use Rattle.round_schedule.specs.Accesses.{address_of, loads}
use Rattle.round_schedule.specs.Accesses.{stores as writing}
use Rattle.hart_step.specs.declared.hart.Hart.{Hart}
use Rattle.hart_step.specs.declared.hart.Stop.{Stop}
use Rattle.hart_step.specs.DecodedCode.{decoded}
use Rattle.hart_step.specs.Effect.{Action, Conditional, Exchange, Read, Reserve, Write, action}
use Rattle.hart_step.specs.Registers.{reg}
use Rattle.memory_order.specs.Operations.{covers}
use Rattle.memory_order.specs.Registers.{registers_of}
use Rattle.memory_order.proofs.Facts.{or_left, or_right}
use Rattle.rule_checker.specs.CarriedBounds.{AreRegisters}
use Rattle.all_endings.specs.Endings.{opening_bytes}
use Rattle.all_endings.specs.Factorizing.{IsOpenCall}
use Rattle.all_endings.specs.Halting.{Halts, KnowsRegisters}
use Rattle.all_endings.specs.HartRuns.{Acts, acts, IsPlaced, Runs, Stands, runs-more, runs-none}
use Rattle.all_endings.specs.Locality.{Refines, filled, set_view, view, without_data}
use Rattle.all_endings.specs.Offering.{IsOffered, Offers, Pays}
use Rattle.all_endings.specs.RunStates.{Move, RunState, answers_to, moved, operates, run_start}
use Rattle.all_endings.specs.StoreLists.{Stored, has_byte, no_store}
use Rattle.all_endings.specs.Tables.{HartEnds}
use Rattle.all_endings.specs.Walking.{EndsAt, HartEnding, IsPaid, Place, place_after}
use Rattle.all_endings.proofs.DecodedRegisters.{decoded_fits}
use Rattle.all_endings.proofs.Factors.{Paid}
use Rattle.all_endings.proofs.Locality.{not_both, past_end, some_value}
use Rattle.all_endings.proofs.Sources.{both}
use Rattle.all_endings.proofs.Placing.{placed, runs_behind}
use Rattle.private_bytes.specs.Ahead.{OutputTells, TellsAll, tells-more, tells-nothing}
use Rattle.private_bytes.specs.Owners.{KeepsToItself, Touches, by-conditional, by-exchange, by-read, by-reserve, by-write, is_own, is_private}
use Rattle.private_bytes.specs.PrivateMoves.{ActsApart, moved_privately}
use Rattle.private_bytes.specs.PrivateWalks.{IsLost, IsWalkedApart, LeadsOn, StandsForApart, Spot, constant_after, first_spot, looks_at_none, place_apart, spot_after, spot_with}
use Rattle.private_bytes.proofs.ApartMoves.{f_all, most, same_most, shared_acts, up}
use Rattle.private_bytes.proofs.KeptLists.{IsInOne, Keeps, are_kept, is_shared}
use Rattle.private_bytes.proofs.Mirroring.{Mirrors, as_apart, mirrors-none, mirrors_ahead}
use Rattle.private_bytes.proofs.OwnStores.{Fits, Kept, fits_along, fits_before, fits_paid, kept_along}
use Rattle.private_bytes.proofs.SharedLists.{found, passed, passed_all, passing, those}
use Rattle.private_bytes.proofs.SpotMoves.{StoreTouches, constant_known, did_private, did_shared, private_is, stands_apart, stored_touches, view_other, view_same}

-- ---- runs

pub runs_joined : (image : Memory) (h : ℕ) (m : List Stored) (opening : ℕ → ℕ) (a : RunState) (us : List Move) (b : RunState) (vs : List Move) (c : RunState) →
    Runs image h m opening a us b → Runs image h m opening b vs c → Runs image h m opening a (us ++ vs) c
runs_joined image h m opening a us b _ _ r (runs-none _) = subst (λ (ws : List Move). Runs image h m opening a ws b) (sym (append-nil us)) r
runs_joined image h m opening a us b _ _ r (runs-more _ c vs v more at doing stand) =
    subst (λ (ws : List Move). Runs image h m opening a ws (moved h m c v)) (append_assoc us vs (v ∷ []))
    (runs-more a c (us ++ vs) v (runs_joined image h m opening a us b vs c r more) at doing stand)

-- ---- the address of an action

address_in : Action → ℕ
address_in (Read rd address w signed) = address
address_in (Write address w n) = address
address_in (Reserve rd address w o) = address
address_in (Conditional rd address w n o) = address
address_in (Exchange rd address w f o) = address
address_in _ = 0

touched_at : (image : Memory) (b : Action) (plain : Bool) (address : ℕ) → Touches image b plain address → address_in b ≡ address
unfolding address_in
touched_at image _ _ _ (by-read rd address w signed safe) = refl
touched_at image _ _ _ (by-write address n w safe) = refl
touched_at image _ _ _ (by-reserve rd address w o safe) = refl
touched_at image _ _ _ (by-conditional rd address n w o safe) = refl
touched_at image _ _ _ (by-exchange rd address w f o safe) = refl

-- ---- the start

zeros : (n r : ℕ) → get_or (replicate {A = ℕ} n 0) r 0 ≡ 0
zeros zero r = refl
zeros (suc n) zero = refl
zeros (suc n) (suc r) = zeros n r

zero_register : (r : ℕ) → reg (replicate {A = ℕ} 32 0) r ≡ 0
zero_register r = by_test (r == 0) (zeros 32 r)
  where
    by_test : (b : Bool) → get_or (replicate {A = ℕ} 32 0) r 0 ≡ 0 → (if b then 0 else get_or (replicate {A = ℕ} 32 0) r 0) ≡ 0
    by_test true e = refl
    by_test false e = e

known_at : (xs : List ℕ) (r : ℕ) → r < length xs → is_some (get_or (map (λ v. Some v) xs) r None) ≡ true
known_at [] r l = absurd (omega (arith, l))
known_at (x ∷ xs) zero l = refl
known_at (x ∷ xs) (suc r) l = known_at xs r (omega (arith, l))

pub start_mirrors : (owns : ℕ → ℕ → Bool) (h : ℕ) (f : ℕ → ℕ) (g : ℕ → ℕ → ℕ) (start : Hart) → length start.x ≡ 32 → Mirrors owns h f g (run_start start) (run_start start)
start_mirrors owns h f g start sized = record {
  pc = refl;
  registers = λ r n e. e;
  small = length-map start.x (λ v. Some v) ∙ sized;
  size = length-map start.x (λ v. Some v) ∙ sized;
  kinds = record {
    loads = omega arith;
    stores = omega arith;
    acquires = omega arith;
    annotated = omega arith;
    load_load = omega arith;
    load_store = omega arith;
    store_load = omega arith;
    store_store = omega arith;
  };
  carried = record {
    small = refl;
    size = refl;
    registers = λ r l. let z = zero_register r in omega (arith, z);
    steered = omega arith;
    addressed = omega arith;
  };
  touched = λ x. omega arith;
  seen = λ x. omega arith;
  own = λ x. mirrors-none;
  held = refl;
  reserved = omega arith;
  sources = λ x e. absurd (cc);
  output = tells-nothing;
}

-- ---- what is known at the end

pub known_too : (v w : List (Option ℕ)) → TellsAll v w → (r : ℕ) → is_some (view v r) ≡ true → (n : ℕ) × (view v r ≡ Some n) × (view w r ≡ Some n)
known_too v w tells r e = by_view (view v r) refl e
  where
    by_view : (o : Option ℕ) → view v r ≡ o → is_some o ≡ true → (n : ℕ) × (view v r ≡ Some n) × (view w r ≡ Some n)
    by_view None is s = absurd (cc)
    by_view (Some n) is s = (n, is, tells r n is)

pub refines_too : (v w : List (Option ℕ)) (x : List ℕ) → length w ≡ 32 → TellsAll v w → ((r : ℕ) → r < 32 → is_some (view v r) ≡ true) → Refines v x → Refines w x
refines_too v w x size tells knows refines r n e = elim (cases_lt r 32) [
  | inl l ↦
      let k = known_too v w tells r (knows r l) in
      refines r k.0 k.1 ∙ some_value k.0 n (sym k.2 ∙ e)
  | inr l ↦
      let z : (r == 0) ≡ false = ne_eqb r 0 (λ q. omega (arith, q, l)) in
      absurd (not_both n (get_or w r None) (past_end w r (omega (arith, size, l))) (sym (cond-false (r == 0) (Some 0) (get_or w r None) z) ∙ e))
]

pub outputs_known : (os ps : List (Option ℕ)) → OutputTells os ps → (ns : List ℕ) → os ≡ map (λ n. Some n) ns → ps ≡ map (λ n. Some n) ns
outputs_known _ _ tells-nothing ns e = e
outputs_known _ _ (tells-more o p os ps t rest) [] e = absurd (let l = ap length e in omega (arith, l))
outputs_known _ _ (tells-more o p os ps t rest) (n ∷ ns) e =
    let first : o ≡ Some n = ap (λ (xs : List (Option ℕ)). get_or xs 0 None) e in
    let more : os ≡ map (λ n. Some n) ns = ap (drop 1) e in
    ap (λ (y : Option ℕ). y ∷ ps) (t n first) ∙ ap (λ (ys : List (Option ℕ)). Some n ∷ ys) (outputs_known os ps rest ns more)

or_none : (b : Bool) → (b || false) ≡ true → b ≡ true
or_none true e = refl
or_none false e = e

-- ---- runs that spots stand for

module _ (owns : ℕ → ℕ → Bool) (k : ℕ) (image : Memory) (harts h : ℕ) (m : List Stored) (kept : are_kept owns harts m ≡ true) (inside : h < harts) (start : Hart) (sized : length start.x ≡ 32) where
  abbrev t : ℕ → ℕ
  t = passed (is_shared owns) m

  abbrev n : List Stored
  n = those (is_shared owns) m

  abbrev opening : ℕ → ℕ
  opening = opening_bytes image

  passed_small : (j : ℕ) → j < length m → is_shared owns (get_or m j no_store) ≡ true → t j < length n
  passed_small j l shared = (passing (is_shared owns) m j l shared).2

  pub record ForRun (p : Spot) (vs : List Move) (c : RunState) (chosen : Option Stored) : Type 0 where
    pub mirrors : Mirrors owns h t (λ x. t) p.place.state c
    pub count : p.place.count ≤ length vs
    pub paid : (j : ℕ) → j < length m → is_shared owns (get_or m j no_store) ≡ true → Paid vs j → p.place.paid (t j) ≡ true
    pub next : p.place.next ≡ chosen
    pub constant : p.constant ≡ true → is_some (view c.registers 17) ≡ true

  -- what stands for such a spot
  stands_too : (q p : Spot) (vs : List Move) (c : RunState) (chosen : Option Stored) → StandsForApart n q p → ForRun p vs c chosen → ForRun q vs c chosen
  stands_too q p vs c chosen s r = record {
    mirrors = mirrors_ahead owns h t (λ x. t) q.place.state p.place.state c s.state r.mirrors;
    count = (let i = s.count in let j = r.count in omega (arith, i, j));
    paid = λ j l shared paid. s.paid (t j) (passed_small j l shared) (r.paid j l shared paid);
    next = s.next ∙ r.next;
    constant = λ e. r.constant (s.constant e);
  }

  abbrev pub AllFit : List Move → RunState → Type 0
  AllFit vs c = (x : ℕ) → Fits image h m opening x vs c

  module _ (vs : List Move) (c : RunState) (v : Move) (chosen : Option Stored) (runs : Runs image h m opening (run_start start) vs c) (at : decoded image c.pc ≡ Some v.instruction)
      (doing : Acts image h m opening (IsPlaced h m) c v) (stand : operates v ≡ true → Stands c v) (fits : AllFit (vs ++ v ∷ []) (moved h m c v)) (p : Spot)
      (apart : KeepsToItself owns image harts h p.place.state) (r : ForRun p vs c chosen) where
    fit : AreRegisters (registers_of v.instruction)
    fit = decoded_fits image c.pc v.instruction at

    keeps_own : (x : ℕ) → Kept image h m opening x vs c
    keeps_own x = kept_along image h m opening x start vs c runs

    constant_on : constant_after p.constant v ≡ true → is_some (view (moved h m c v).registers 17) ≡ true
    constant_on e = by_register (answers_to v.instruction == 17) refl e
      where
        by_register : (b : Bool) → (answers_to v.instruction == 17) ≡ b → (if b then looks_at_none (registers_of v.instruction) && not (operates v) else p.constant) ≡ true →
            is_some (view (set_view c.registers (answers_to v.instruction) v.result) 17) ≡ true
        by_register true is e =
            let to = eqb-true (answers_to v.instruction) 17 is in
            let q = and_parts (looks_at_none (registers_of v.instruction)) (not (operates v)) e in
            let size = r.mirrors.size in
            ap (λ (d : ℕ). is_some (view (set_view c.registers d v.result) 17)) to
            ∙ ap (λ (o : Option ℕ). is_some o) (view_same c.registers 17 v.result (λ z. omega (arith, z)) (omega (arith, size)))
            ∙ constant_known image h m opening (IsPlaced h m) c v doing to q.0 q.1
        by_register false is e =
            ap (λ (o : Option ℕ). is_some o) (view_other c.registers (answers_to v.instruction) 17 v.result (λ z. eqb-false (answers_to v.instruction) 17 is (sym z))) ∙ r.constant e

    -- of the stores of the shorter list, those that were paid
    paid_on : (more : Bool) → (j : ℕ) → j < length m → is_shared owns (get_or m j no_store) ≡ true → Paid (vs ++ v ∷ []) j → (writing v.access ≡ true → v.time ≡ j → more ≡ true) →
        (p.place.paid (t j) || more) ≡ true
    paid_on more j l shared paid new = elim (Contains-push_cases vs v paid.0 paid.1) [
      | inl old ↦ or_left (p.place.paid (t j)) more (r.paid j l shared (paid.0, old, paid.2, paid.3))
      | inr same ↦ or_right (p.place.paid (t j)) more (new (ap (λ (u : Move). writing u.access) same ∙ paid.2) (ap (λ (u : Move). u.time) same ∙ paid.3))
    ]

    -- what the run came to isn't lost: it may still do its stores of the list, or did them
    is_lost : (q : Place) → Mirrors owns h t (λ x. t) q.state (moved h m c v) →
        ((j : ℕ) → j < length m → is_shared owns (get_or m j no_store) ≡ true → Paid (vs ++ v ∷ []) j → q.paid (t j) ≡ true) → IsLost h n q → ⊥
    is_lost q mirror paid lost =
        let end = f_all owns image harts h m opening kept inside in
        let w = found (is_shared owns) m (length m) lost.store (omega arith) (let l = lost.within in omega (arith, l, end)) in
        let same : get_or n lost.store no_store ≡ get_or m w.0 no_store = ap (λ (i : ℕ). get_or n i no_store) (sym w.3) ∙ (passing (is_shared owns) m w.0 w.1 w.2).1 in
        let here = ap (λ (y : Stored). y.hart) (sym same) ∙ lost.hart in
        let wet = ap (λ (y : Stored). has_byte y lost.byte) (sym same) ∙ lost.has in
        elim (fits lost.byte w.0 w.1 here wet) [
          | inl did ↦
              let p = and_parts (writing did.0.access) (covers did.0.access lost.byte) did.1.1 in
              let yes = paid w.0 w.1 w.2 (did.0, did.1.0, p.0, did.2) in
              let no : q.paid (t w.0) ≡ false = ap q.paid w.3 ∙ lost.owed in
              cc
          | inr may ↦
              let after = moved h m c v in
              let least : (i j : ℕ) → i ≤ t j → j ≤ w.0 → i ≤ lost.store = λ i j l e. let b = up owns image harts h m opening kept inside j w.0 e in let to = w.3 in omega (arith, l, b, to) in
              let a1 = least (q.state.touched lost.byte) (after.touched lost.byte) (mirror.touched lost.byte) (omega (arith, may)) in
              let a2 = least q.state.kinds.acquires after.kinds.acquires mirror.kinds.acquires (omega (arith, may)) in
              let a3 = least q.state.kinds.load_store after.kinds.load_store mirror.kinds.load_store (omega (arith, may)) in
              let a4 = least q.state.kinds.store_store after.kinds.store_store mirror.kinds.store_store (omega (arith, may)) in
              let a5 = least q.state.carried.steered after.carried.steered mirror.carried.steered (omega (arith, may)) in
              let a6 = least q.state.carried.addressed after.carried.addressed mirror.carried.addressed (omega (arith, may)) in
              let late = lost.behind in
              absurd (omega (arith, a1, a2, a3, a4, a5, a6, late))
        ]

    -- what the spot does next: what it leads to is one for the run as well, and isn't lost
    pub record Step : Type 0 where
      pub move : Move
      pub access : move.access ≡ v.access
      pub time : move.time ≡ t v.time
      pub decodes : decoded image p.place.state.pc ≡ Some move.instruction
      pub acts : ActsApart owns image h n opening (IsPlaced h n) p.place.state move
      pub stands : operates move ≡ true → Stands p.place.state move
      pub leads : ForRun (spot_after owns h n p move) (vs ++ v ∷ []) (moved h m c v) chosen
      pub not_lost : IsLost h n (place_apart owns h n p.place move) → ⊥

    step_to : (result written : Option ℕ) (source : ℕ → ℕ) → ActsApart owns image h n opening (IsPlaced h n) p.place.state (as_apart v (t v.time) result written source) →
        (after : Place) → place_apart owns h n p.place (as_apart v (t v.time) result written source) ≡ after → Mirrors owns h t (λ x. t) after.state (moved h m c v) → after.count ≡ p.place.count + 1 → after.next ≡ p.place.next →
        ((j : ℕ) → j < length m → is_shared owns (get_or m j no_store) ≡ true → Paid (vs ++ v ∷ []) j → after.paid (t j) ≡ true) → Step
    step_to result written source acts after to mirror counted next did = record {
      move = as_apart v (t v.time) result written source;
      access = refl;
      time = refl;
      decodes = ap (decoded image) r.mirrors.pc ∙ at;
      acts = acts;
      stands = λ op. stands_apart owns image harts h m opening kept inside p.place.state c v vs r.mirrors keeps_own apart at fit result written source (stand op);
      leads = subst (λ (z : Place). ForRun (record { place = z; constant = constant_after p.constant (as_apart v (t v.time) result written source) }) (vs ++ v ∷ []) (moved h m c v) chosen) (sym to) (record {
        mirrors = mirror;
        count = (let j = r.count in let size = length-append vs (v ∷ []) in omega (arith, counted, j, size));
        paid = did;
        next = next ∙ r.next;
        constant = constant_on;
      });
      not_lost = λ lost. is_lost after mirror did (subst (IsLost h n) to lost);
    }

    on_shared : is_private owns h v.access ≡ false → Step
    on_shared public =
        let d = did_shared owns image harts h m opening kept inside p.place.state c v vs r.mirrors keeps_own apart at fit doing public in
        let u = as_apart v (t v.time) d.result d.written d.source in
        step_to d.result d.written d.source d.acts (place_after h n p.place u)
        (ap (λ (b : Bool). if b then record p.place { state = moved_privately h n p.place.state u; count = p.place.count + 1 } else place_after h n p.place u) public) d.leaves refl refl
        (λ j l shared paid. paid_on (writing v.access && t v.time == t j) j l shared paid (λ w e. both (writing v.access) (t v.time == t j) w (eq-eqb (t v.time) (t j) (ap t e))))

    not_shared : is_private owns h v.access ≡ true → (j : ℕ) → j < length m → is_shared owns (get_or m j no_store) ≡ true → writing v.access ≡ true → v.time ≡ j → false ≡ true
    not_shared private j l shared w e = elim (placed image h m opening c v doing w) [
      | inl late ↦ absurd (omega (arith, late, e, l))
      | inr is ↦
          let own : is_own owns h (address_of v.access) ≡ true = (and_parts (loads v.access || writing v.access) (is_own owns h (address_of v.access)) private).1 in
          let dry : is_shared owns (get_or m v.time no_store) ≡ false = ap (λ (j : ℕ). not (is_own owns j (get_or m v.time no_store).address)) is.hart ∙ ap (λ (j : ℕ). not (is_own owns h j)) is.address ∙ ap not own in
          let wet : is_shared owns (get_or m v.time no_store) ≡ true = ap (λ (i : ℕ). is_shared owns (get_or m i no_store)) e ∙ shared in
          sym dry ∙ wet
    ]

    on_private : is_private owns h v.access ≡ true → Step
    on_private private =
        let d = did_private owns image harts h m opening kept inside p.place.state c v vs r.mirrors keeps_own apart at fit doing private fits in
        let u = as_apart v (t v.time) d.result d.written d.source in
        let after : Place = record p.place { state = moved_privately h n p.place.state u; count = p.place.count + 1 } in
        step_to d.result d.written d.source d.acts after (ap (λ (b : Bool). if b then after else place_after h n p.place u) private) d.leaves refl refl
        (λ j l shared paid. or_none (p.place.paid (t j)) (paid_on false j l shared paid (λ w e. not_shared private j l shared w e)))

    pub one_step : Step
    one_step = by_test (is_private owns h v.access) refl
      where
        by_test : (b : Bool) → is_private owns h v.access ≡ b → Step
        by_test true e = on_private e
        by_test false e = on_shared e

  -- ---- where a run begins

  pub first_for : ForRun (first_spot start) [] (run_start start) None
  first_for = record {
    mirrors = start_mirrors owns h t (λ x. t) start sized;
    count = omega arith;
    paid = λ j l shared paid. absurd (let i = paid.1.1 in omega (arith, i));
    next = refl;
    constant = λ e. known_at start.x 17 (omega (arith, sized));
  }

  -- a call's number is known
  pub no_open_call : (p : Spot) (vs : List Move) (c : RunState) (chosen : Option Stored) → ForRun p vs c chosen → (decoded image p.place.state.pc ≡ Some Ecall → p.constant ≡ true) → IsOpenCall image c → ⊥
  no_open_call p vs c chosen r constant call =
      let some = r.constant (constant (ap (decoded image) r.mirrors.pc ∙ call.0)) in
      let none : is_some (view c.registers 17) ≡ false = ap (λ (o : Option ℕ). is_some o) call.1 in
      cc

  -- a run that did its stores of the list did those of the shorter one
  pub paid_apart : (q : Spot) (vs : List Move) (c : RunState) (chosen : Option Stored) → ForRun q vs c chosen → Pays h m vs → IsPaid h n q.place
  paid_apart q vs c chosen r pays j l here =
      let end = f_all owns image harts h m opening kept inside in
      let w = found (is_shared owns) m (length m) j (omega arith) (omega (arith, l, end)) in
      let same : get_or n j no_store ≡ get_or m w.0 no_store = ap (λ (i : ℕ). get_or n i no_store) (sym w.3) ∙ (passing (is_shared owns) m w.0 w.1 w.2).1 in
      subst (λ (i : ℕ). q.place.paid i ≡ true) w.3 (r.paid w.0 w.1 w.2 (pays w.0 w.1 (ap (λ (y : Stored). y.hart) (sym same) ∙ here)))

  -- ---- a store that is offered

  module _ (s : Stored) (o : IsOffered k image h m opening start s) where
    pub from_it : Runs image h m opening o.at (o.next ∷ o.rest) o.state
    from_it = runs_behind image h m opening o.at o.next o.decodes o.acts o.stands o.rest o.state o.runs

    pub all_fit : AllFit (o.before ++ o.next ∷ o.rest) o.state
    all_fit x =
        fits_paid image h m opening x (run_start start) (o.before ++ o.next ∷ o.rest) o.state (runs_joined image h m opening (run_start start) o.before o.at (o.next ∷ o.rest) o.state o.leads from_it) o.pays

    pub fit_before : AllFit o.before o.at
    fit_before x = fits_along image h m opening x o.before o.at (o.next ∷ o.rest) o.state from_it (all_fit x)

    pub fit_on : AllFit ((o.before ++ o.next ∷ []) ++ o.rest) o.state
    fit_on x = subst (λ (ws : List Move). Fits image h m opening x ws o.state) (sym (append_assoc o.before (o.next ∷ []) o.rest)) (all_fit x)

    pub fit_behind : AllFit (o.before ++ o.next ∷ []) (moved h m o.at o.next)
    fit_behind x = fits_along image h m opening x (o.before ++ o.next ∷ []) (moved h m o.at o.next) o.rest o.state o.runs (fit_on x)

    own_before : (x : ℕ) → Kept image h m opening x o.before o.at
    own_before x = kept_along image h m opening x start o.before o.at o.leads

    touching : StoreTouches image h m opening (λ v. v.time ≡ length m) o.at o.offers.move
    touching = stored_touches image h m opening (λ v. v.time ≡ length m) o.at o.offers.move o.offers.acts o.offers.stores

    -- what the hart does LATER is to the bytes of the store that it was offered
    address_same : address_of o.next.access ≡ s.address
    address_same =
        let next = stored_touches image h m opening (IsPlaced h m) o.at o.next o.acts o.stores in
        let one : o.next.instruction ≡ o.offers.move.instruction = ap (λ (i : Option Instr). unwrap_or i Ecall) (sym o.decodes ∙ o.offers.decodes) in
        sym (touched_at image (without_data (acts o.at o.next)) next.plain (address_of o.next.access) next.touches)
        ∙ ap (λ (i : Instr). address_in (without_data (action i (filled o.at.registers) o.at.pc))) one
        ∙ touched_at image (without_data (acts o.at o.offers.move)) touching.plain (address_of o.offers.move.access) touching.touches
        ∙ sym o.offers.address

    -- told of a spot of the run
    module _ (p : Spot) (apart : KeepsToItself owns image harts h p.place.state) (r : ForRun p o.before o.at None) where
      -- it touches no byte that is another hart's own
      pub offered_keeps : Keeps owns harts s
      offered_keeps =
          let same = same_most owns image harts h m opening kept inside p.place.state o.at o.offers.move o.before r.mirrors own_before apart o.offers.decodes touching.knows in
          let knows = most owns image harts h m opening kept inside p.place.state o.at o.offers.move o.before r.mirrors own_before apart o.offers.decodes touching.knows in
          record {
            hart = subst (λ (j : ℕ). j < harts) (sym o.offers.hart) inside;
            one = subst (λ (j : ℕ). IsInOne j s.bytes) (sym o.offers.address) (subst (IsInOne (address_of o.offers.move.access)) (sym o.offers.bytes) touching.one);
            owner = λ j l own.
                (apart o.offers.move.instruction touching.plain (address_of o.offers.move.access) j (ap (decoded image) r.mirrors.pc ∙ o.offers.decodes) knows
                (subst (λ (y : Action). Touches image y touching.plain (address_of o.offers.move.access)) (sym same) touching.touches) l (ap (is_own owns j) (sym o.offers.address) ∙ own)).0
                ∙ sym o.offers.hart;
          }

      -- to nobody's own bytes it is offered apart as well
      pub offers_apart : is_own owns h s.address ≡ false → Offers image h n opening p.place.state s
      offers_apart public =
          let v = o.offers.move in
          let fit = decoded_fits image o.at.pc v.instruction o.offers.decodes in
          let now = o.offers.time in
          let end = f_all owns image harts h m opening kept inside in
          let none : is_private owns h v.access ≡ false =
          private_is owns image harts h m opening kept inside p.place.state o.at v o.before r.mirrors own_before apart o.offers.decodes fit o.offers.stores ∙ ap (is_own owns h) (sym o.offers.address) ∙ public in
          let a = shared_acts owns image harts h m opening kept inside p.place.state o.at v o.before r.mirrors own_before apart o.offers.decodes (λ u. u.time ≡ length m) (λ u. u.time ≡ length n)
          (λ result written none store tells e. ap t e ∙ end) (λ result written late. absurd (omega (arith, late, now))) none o.offers.acts in
          record {
            move = as_apart v (t v.time) a.result a.written (λ x. t (v.source x));
            decodes = ap (decoded image) r.mirrors.pc ∙ o.offers.decodes;
            acts = a.acts;
            stands = stands_apart owns image harts h m opening kept inside p.place.state o.at v o.before r.mirrors own_before apart o.offers.decodes fit a.result a.written (λ x. t (v.source x)) o.offers.stands;
            time = ap t now ∙ end;
            stores = o.offers.stores;
            hart = o.offers.hart;
            address = o.offers.address;
            bytes = o.offers.bytes;
            number = a.puts s.number o.offers.number;
          }

      -- and so is what is done LATER
      pub next_apart : is_own owns h s.address ≡ false → is_private owns h o.next.access ≡ false
      next_apart public =
          private_is owns image harts h m opening kept inside p.place.state o.at o.next o.before r.mirrors own_before apart o.decodes (decoded_fits image o.at.pc o.next.instruction o.decodes) o.stores ∙ ap (is_own owns h) address_same ∙ public

  -- ---- ends

  -- a spot of a run that ends has this end
  pub end_apart : (stop : Option Stop) (output : List ℕ) (e : HartEnds k image h m opening start stop output) (p : Spot) → ForRun p e.moves e.state None → EndsAt image h n p.place (record { stop = e.reason; output = output })
  end_apart stop output e p r =
      let end = f_all owns image harts h m opening kept inside in
      record {
        pays = paid_apart p e.moves e.state None r e.pays;
        knows = λ i l. let w = known_too e.state.registers p.place.state.registers r.mirrors.registers i (e.knows i l) in ap (λ (o : Option ℕ). is_some o) w.2;
        settled = λ x. let a = r.mirrors.touched x in let b = up owns image harts h m opening kept inside (e.state.touched x) (length m) (e.settled x) in omega (arith, a, b, end);
        halts = halts_too p.place.state r.mirrors e.knows e.halts;
        puts = outputs_known e.state.output p.place.state.output r.mirrors.output output e.puts;
      }
    where
      halts_too : (a : RunState) → Mirrors owns h t (λ x. t) a e.state → KnowsRegisters e.state → Halts image e.state e.reason → Halts image a e.reason
      halts_too a r knows x = record {
        hart = x.hart;
        lags = record { pc = r.pc ∙ x.lags.pc; registers = refines_too e.state.registers a.registers x.hart.x r.small r.registers knows x.lags.registers };
        round = x.round;
        own = x.own;
        before = x.before;
        behind = x.behind;
        after = x.after;
        code = x.code;
        step = x.step;
        stopped = x.stopped;
      }

  -- ---- spots that are walked

  module _ (offered : List Stored) (ends : List HartEnding) (ps : List Spot) (walked : IsWalkedApart owns k image harts h n start offered ends ps) where
    abbrev pub For : List Move → RunState → Option Stored → Type 0
    For vs c chosen = (p : Spot) × Contains ps p × ForRun p vs c chosen

    one_more : (vs : List Move) (c : RunState) (v : Move) (chosen : Option Stored) → length vs < k → Runs image h m opening (run_start start) vs c → decoded image c.pc ≡ Some v.instruction →
        Acts image h m opening (IsPlaced h m) c v → (operates v ≡ true → Stands c v) → AllFit (vs ++ v ∷ []) (moved h m c v) → (p : Spot) → KeepsToItself owns image harts h p.place.state → ForRun p vs c chosen →
        ((u : Move) → u.access ≡ v.access → u.time ≡ t v.time → p.place.count < k → decoded image p.place.state.pc ≡ Some u.instruction →
        ActsApart owns image h n opening (IsPlaced h n) p.place.state u → (operates u ≡ true → Stands p.place.state u) → LeadsOn owns h n ps p u) → For (vs ++ v ∷ []) (moved h m c v) chosen
    one_more vs c v chosen few runs at doing stand fits p apart r goes =
        let s = one_step vs c v chosen runs at doing stand fits p apart r in
        elim (goes s.move s.access s.time (let i = r.count in omega (arith, i, few)) s.decodes s.acts s.stands) [
          | inr lost ↦ absurd (s.not_lost lost)
          | inl q ↦ (q.0, q.1, stands_too q.0 (spot_after owns h n p s.move) (vs ++ v ∷ []) (moved h m c v) chosen q.2 s.leads)
        ]

    along : (a : RunState) (us : List Move) (chosen : Option Stored) → Runs image h m opening (run_start start) us a → (p : Spot) → Contains ps p → ForRun p us a chosen →
        (vs : List Move) (c : RunState) → Runs image h m opening a vs c → AllFit (us ++ vs) c → length us + length vs ≤ k → For (us ++ vs) c chosen
    along a us chosen before p there r _ _ (runs-none _) fits short = (p, there, subst (λ (ws : List Move). ForRun p ws a chosen) (sym (append-nil us)) r)
    along a us chosen before p there r _ _ (runs-more _ c vs v runs at doing stand) fits short =
        let size = length-append vs (v ∷ []) in
        let joined = length-append us vs in
        let here : AllFit ((us ++ vs) ++ v ∷ []) (moved h m c v) = λ x. subst (λ (ws : List Move). Fits image h m opening x ws (moved h m c v)) (sym (append_assoc us vs (v ∷ []))) (fits x) in
        let q = along a us chosen before p there r vs c runs (λ x. fits_before image h m opening x (us ++ vs) c v stand (here x)) (omega (arith, short, size)) in
        let w = one_more (us ++ vs) c v chosen (omega (arith, short, size, joined)) (runs_joined image h m opening (run_start start) us a vs c before runs) at doing stand here q.0 (walked.apart q.0 q.1) q.2
        (λ u same time small at2 doing2 stand2. walked.moves q.0 u q.1 small at2 doing2 stand2) in
        (w.0, w.1, subst (λ (ws : List Move). ForRun w.0 ws (moved h m c v) chosen) (append_assoc us vs (v ∷ [])) w.2)

    pub from_start : (vs : List Move) (c : RunState) → Runs image h m opening (run_start start) vs c → AllFit vs c → length vs ≤ k → For vs c None
    from_start vs c runs fits short =
        let b = walked.begins in
        along (run_start start) [] None (runs-none (run_start start)) b.0 b.1 (stands_too b.0 (first_spot start) [] (run_start start) None b.2 first_for) vs c runs fits (omega (arith, short))

    -- ---- a store that is offered

    module _ (s : Stored) (o : IsOffered k image h m opening start s) where
      at_it : For o.before o.at None
      at_it =
          let joined = length-append o.before (o.next ∷ o.rest) in
          let short = o.short in
          from_start o.before o.at o.leads (fit_before s o) (omega (arith, joined, short))

      pub keeps_offered : Keeps owns harts s
      keeps_offered = let p = at_it in offered_keeps s o p.0 (walked.apart p.0 p.1) p.2

      pub offered_apart : is_own owns h s.address ≡ false → Contains offered s
      offered_apart public =
          let p = at_it in
          let apart = walked.apart p.0 p.1 in
          elim (walked.offers p.0 s p.1 p.2.next public (offers_apart s o p.0 apart p.2 public)) [
            | inl here ↦ here
            | inr later_on ↦
                let chosen : ForRun (spot_with p.0 s) o.before o.at (Some s) = record { mirrors = p.2.mirrors; count = p.2.count; paid = p.2.paid; next = refl; constant = p.2.constant } in
                let joined = length-append o.before (o.next ∷ o.rest) in
                let parts = length-append o.before (o.next ∷ []) in
                let short = o.short in
                let last = passed_all (is_shared owns) m 1 in
                let next_public = next_apart s o p.0 apart p.2 public in
                let first = one_more o.before o.at o.next (Some s) (omega (arith, joined, short)) o.leads o.decodes o.acts o.stands (fit_behind s o) (spot_with p.0 s) apart chosen
                (λ u same time small at doing stand. later_on u small at doing stand (ap (is_private owns h) same ∙ next_public) (ap writing same ∙ o.stores) (time ∙ ap t o.late ∙ last)) in
                let q = along (moved h m o.at o.next) (o.before ++ o.next ∷ []) (Some s) (runs-more (run_start start) o.at o.before o.next o.leads o.decodes o.acts o.stands) first.0 first.1 first.2
                o.rest o.state o.runs (fit_on s o) (omega (arith, joined, parts, short)) in
                let all = subst (λ (ws : List Move). ForRun q.0 ws o.state (Some s)) (append_assoc o.before (o.next ∷ []) o.rest) q.2 in
                walked.grows q.0 s q.1 all.next (paid_apart q.0 (o.before ++ o.next ∷ o.rest) o.state (Some s) all o.pays)
          ]

    -- ---- ends

    -- the hart has this end apart
    pub ends_apart : (stop : Option Stop) (output : List ℕ) → HartEnds k image h m opening start stop output → (e : HartEnding) × Contains ends e × (stop ≡ Some e.stop) × (output ≡ e.output)
    ends_apart stop output e =
        let p = from_start e.moves e.state e.runs (λ x. fits_paid image h m opening x (run_start start) e.moves e.state e.runs e.pays) e.short in
        let to : HartEnding = record { stop = e.reason; output = output } in
        (to, walked.endings p.0 to p.1 (end_apart stop output e p.0 p.2), e.stops, refl)
