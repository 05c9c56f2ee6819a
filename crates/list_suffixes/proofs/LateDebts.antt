-- A hart that owes a store of the list, and goes on by a late load on which a branch comes next, is lost with the branch.
use Rattle.std.proofs.Common.{◌≡◌, ◌≢◌, ℕ, zero, suc, slice_set, ◌+◌, ◌<◌, ◌≤◌, ◌%◌, ◌==◌, ◌&&◌, ◌⊎◌, max, min, Bool, true, false, if◌then◌else◌, List, [], ◌∷◌, ◌++◌, length, get_or, Option, Some, None, refl, sym, ap, ◌∙◌, subst, inl, inr, arith}
use Rattle.std.proofs.lemmas.Bool.{cases_lt, cond-false, eq-eqb, ne_eqb}
use Rattle.std.proofs.lemmas.List.{get_or-set_same, get_or_append_left, length-append}
use Rattle.pages.specs.declared.access.Width.{Width}
use Rattle.pages.specs.Memory.{Memory, fetched}
use Rattle.rv64_decode.specs.declared.instruction.Instr.{Instr}
use Rattle.rv64_decode.specs.Table.{instr_of}
use Rattle.rv64_decode.specs.declared.instruction.Instr.TheVariants.{Ecall}
use Rattle.round_schedule.specs.declared.access.Access.{Access}
use Rattle.round_schedule.specs.declared.access.Access.TheVariants.{Load}
use Rattle.round_schedule.specs.Accesses.{loads, stores}
use Rattle.hart_step.specs.declared.hart.Stop.{Stop}
use Rattle.hart_step.specs.DecodedCode.{decoded, instr_in}
use Rattle.hart_step.specs.Effect.{Action, Branch, Call, Conditional, Exchange, Halt, Jump, Order, Put, Read, Reserve, Write, action}
use Rattle.hart_step.specs.Numbers.{plus}
use Rattle.hart_step.specs.Registers.{reg, set_reg}
use Rattle.hart_step.specs.Step.{by_instr, by_word}
use Rattle.memory_order.specs.Operations.{covers}
use Rattle.memory_order.specs.Registers.{registers_of}
use Rattle.rule_checker.specs.CarriedBounds.{carried_after, sources_bound}
use Rattle.execution.specs.Executions.{no_access}
use Rattle.execution.specs.Progressing.{step_event}
use Rattle.all_endings.specs.Earlier.{IsSized}
use Rattle.all_endings.specs.HartRuns.{Acts, IsPlaced, acts, branches, calls, exchanges, exchanges-unknown, fails, jumps, orders, puts, puts-unknown, reads, reserves, succeeds}
use Rattle.all_endings.specs.HartRuns.{stores as stores_it}
use Rattle.all_endings.specs.Locality.{filled, without_data}
use Rattle.all_endings.specs.RunStates.{Move, RunState, behind, moved, moved_at, operates}
use Rattle.all_endings.specs.StoreLists.{Stored, has_byte, later, no_store}
use Rattle.all_endings.specs.Stopping.{StopsAreKnown, stop_at, stop_in, stop_with}
use Rattle.all_endings.proofs.DecodedRegisters.{decoded_fits}
use Rattle.private_bytes.specs.Owners.{Touches, by-conditional, by-exchange, by-read, by-reserve, by-write, is_private}
use Rattle.private_bytes.specs.PrivateMoves.{ActsApart, keeps, moved_privately, recalls, shares}
use Rattle.private_bytes.specs.PrivateWalks.{IsLost, Spot, spot_after}
use Rattle.list_suffixes.specs.ApartRuns.{MovesApart, NoneLost, RunsApart}
use Rattle.list_suffixes.specs.LateDebts.{IsBranchedOn, LateDebtsAreLost, Owes, TouchedDebtsAreLost}
use Rattle.list_suffixes.specs.Serving.{IsOnItsWay, StoreWithin}
use Rattle.list_suffixes.specs.SettledWalks.{IsKnown}
use Rattle.list_suffixes.proofs.KeptRuns.{after_state, paid_from}
use Rattle.list_suffixes.proofs.Serving.{first_kept}

-- ---- kinds of actions

abbrev is_read : Action → Bool
is_read (Read rd a w signed) = true
is_read _ = false

abbrev is_branch : Action → Bool
is_branch (Branch taken target) = true
is_branch _ = false

read_bare : (b : Action) → is_read (without_data b) ≡ is_read b
read_bare (Put rd n) = refl
read_bare (Jump rd t) = refl
read_bare (Branch c t) = refl
read_bare (Read rd a w s) = refl
read_bare (Write a w r) = refl
read_bare (Order x y z) = refl
read_bare (Halt c) = refl
read_bare (Reserve rd a w o) = refl
read_bare (Conditional rd a w v o) = refl
read_bare (Exchange rd a w f o) = refl
read_bare Call = refl

branch_bare : (b : Action) → is_branch (without_data b) ≡ is_branch b
branch_bare (Put rd n) = refl
branch_bare (Jump rd t) = refl
branch_bare (Branch c t) = refl
branch_bare (Read rd a w s) = refl
branch_bare (Write a w r) = refl
branch_bare (Order x y z) = refl
branch_bare (Halt c) = refl
branch_bare (Reserve rd a w o) = refl
branch_bare (Conditional rd a w v o) = refl
branch_bare (Exchange rd a w f o) = refl
branch_bare Call = refl

ecall_reads_not : (i : Instr) (x : List ℕ) (pc : ℕ) → i ≡ Ecall → is_read (action i x pc) ≡ false
ecall_reads_not i x pc e = ap (λ (j : Instr). is_read (action j x pc)) e

ecall_branches_not : (i : Instr) (x : List ℕ) (pc : ℕ) → i ≡ Ecall → is_branch (action i x pc) ≡ false
ecall_branches_not i x pc e = ap (λ (j : Instr). is_branch (action j x pc)) e

-- ---- moves by a load and by a branch

-- what a plain load does
record LoadsPlainly (a : RunState) (v : Move) : Type 0 where
  load : loads v.access ≡ true
  dry : stores v.access ≡ false
  next : v.next ≡ plus a.pc 4
  access : (w : Width) × (address : ℕ) × (v.access ≡ Load w 0 address 0)

module _ (image : Memory) (h : ℕ) (m : List Stored) (opening : ℕ → ℕ) (HasPlace : Move → Type 0) (a : RunState) (v : Move) where
  by_load : is_read (acts a v) ≡ true → Acts image h m opening HasPlace a v → LoadsPlainly a v
  by_load r (puts rd n k is d e x) = absurd (let q = ap is_read is in cc)
  by_load r (puts-unknown rd n k is d e x) = absurd (let q = ap is_read is in cc)
  by_load r (jumps rd target k is even d e x) = absurd (let q = ap is_read is in cc)
  by_load r (branches taken target k is even d x) = absurd (let q = ap is_read is in cc)
  by_load r (orders before after mode is d x) = absurd (let q = ap is_read is in cc)
  by_load r (reads rd address w signed number k is safe d g e x) = record { load = ap loads d; dry = ap stores d; next = x; access = (w, address, d) }
  by_load r (stores_it address w k is safe d data_is q x) = absurd (let p = sym (read_bare (acts a v)) ∙ ap is_read is in cc)
  by_load r (reserves rd address w o number k is safe d g e x) = absurd (let q = ap is_read is in cc)
  by_load r (fails rd address w o k is safe d e x) = absurd (let p = sym (read_bare (acts a v)) ∙ ap is_read is in cc)
  by_load r (succeeds rd address w o k is safe d data_is held reserved q unbroken e x) = absurd (let p = sym (read_bare (acts a v)) ∙ ap is_read is in cc)
  by_load r (exchanges rd address w f o number k is safe d g e data_is q x) = absurd (let q = ap is_read is in cc)
  by_load r (exchanges-unknown rd address w o k none is safe d g e data_is x) = absurd (let p = sym (read_bare (acts a v)) ∙ ap is_read is in cc)
  by_load r (calls number answer ecall at nonzero answered d e x) = absurd (let p = ecall_reads_not v.instruction (filled a.registers) a.pc ecall in cc)

  by_branch : is_branch (acts a v) ≡ true → Acts image h m opening HasPlace a v → v.access ≡ no_access
  by_branch r (puts rd n k is d e x) = d
  by_branch r (puts-unknown rd n k is d e x) = d
  by_branch r (jumps rd target k is even d e x) = d
  by_branch r (branches taken target k is even d x) = d
  by_branch r (orders before after mode is d x) = absurd (let q = ap is_branch is in cc)
  by_branch r (reads rd address w signed number k is safe d g e x) = absurd (let q = ap is_branch is in cc)
  by_branch r (stores_it address w k is safe d data_is q x) = absurd (let p = sym (branch_bare (acts a v)) ∙ ap is_branch is in cc)
  by_branch r (reserves rd address w o number k is safe d g e x) = absurd (let q = ap is_branch is in cc)
  by_branch r (fails rd address w o k is safe d e x) = absurd (let p = sym (branch_bare (acts a v)) ∙ ap is_branch is in cc)
  by_branch r (succeeds rd address w o k is safe d data_is held reserved q unbroken e x) = absurd (let p = sym (branch_bare (acts a v)) ∙ ap is_branch is in cc)
  by_branch r (exchanges rd address w f o number k is safe d g e data_is q x) = absurd (let q = ap is_branch is in cc)
  by_branch r (exchanges-unknown rd address w o k none is safe d g e data_is x) = absurd (let p = sym (branch_bare (acts a v)) ∙ ap is_branch is in cc)
  by_branch r (calls number answer ecall at nonzero answered d e x) = d

-- what isn't to memory touches none
touches_not : (image : Memory) (b : Action) (plain : Bool) (address : ℕ) → is_branch b ≡ true → Touches image b plain address → ⊥
touches_not image _ _ _ e (by-read rd address w signed safe) = cc
touches_not image _ _ _ e (by-write address n w safe) = cc
touches_not image _ _ _ e (by-reserve rd address w o safe) = cc
touches_not image _ _ _ e (by-conditional rd address n w o safe) = cc
touches_not image _ _ _ e (by-exchange rd address w f o safe) = cc

-- ---- instructions

instr_is : {A : Type 0} (o : Option Instr) (i : Instr) (b : A) (f : Instr → A) → o ≡ Some i → by_instr o b f ≡ f i
instr_is None i b f e = absurd (cc)
instr_is (Some j) i b f e = let same : j ≡ i = cc in ap f same

word_is : {A : Type 0} (w : Option ℕ) (i : Instr) (a b : A) (f : Instr → A) → instr_in w ≡ Some i → by_word w a b f ≡ f i
word_is None i a b f e = absurd (cc)
word_is (Some w) i a b f e = instr_is (instr_of w) i b f e

some_same : (i j : Instr) → Some i ≡ Some j → i ≡ j
some_same i j e = cc

-- a branch to where an instruction can stand doesn't stop
goes_on_there : (image : Memory) (x : List ℕ) (pc : ℕ) (i : Instr) (taken : Bool) (target : ℕ) (stop : Stop) → decoded image pc ≡ Some i → action i x pc ≡ Branch taken target → target % 4 ≡ 0 →
    stop_at image x pc ≡ Some stop → ⊥
unfolding decoded
goes_on_there image x pc i taken target stop known is even stops =
    by_test taken (target % 4 == 0) (eq-eqb (target % 4) 0 even)
    (sym (word_is (fetched image pc) i (Some (stop_with 3)) (Some (stop_with 2)) (λ j. stop_in image x (action j x pc)) known ∙ ap (stop_in image x) is) ∙ stops)
  where
    by_test : (c d : Bool) → d ≡ true → (if c then (if d then None else Some (stop_with 4)) else None) ≡ Some stop → ⊥
    by_test true true e s = cc
    by_test true false e s = cc
    by_test false d e s = cc

-- ---- registers

set_there : (xs : List ℕ) (d v : ℕ) → d ≢ 0 → d < length xs → reg (set_reg xs d v) d ≡ v
set_there xs d v nonzero l =
    let z = ne_eqb d 0 nonzero in
    cond-false (d == 0) 0 (get_or (set_reg xs d v) d 0) z
    ∙ ap (λ (ys : List ℕ). get_or ys d 0) (cond-false (d == 0) xs (slice_set xs d v) z)
    ∙ get_or-set_same xs d v 0 l

-- what depends on a load that stands so late, stands as late
register_late : (h t : ℕ) (a : RunState) (v : Move) (w : Width) (address : ℕ) → IsSized a → (registers_of v.instruction).destination < 32 → (registers_of v.instruction).destination ≢ 0 →
    v.access ≡ Load w 0 address 0 → t ≤ reg (moved_at h t a v).carried.registers (registers_of v.instruction).destination
register_late h t a v w address sized fit nonzero access =
    let x = registers_of v.instruction in
    let at : reg (set_reg a.carried.registers x.destination (max t (if x.carries then sources_bound a.carried x else 0))) x.destination ≡ max t (if x.carries then sources_bound a.carried x else 0) =
    set_there a.carried.registers x.destination (max t (if x.carries then sources_bound a.carried x else 0)) nonzero (omega (arith, fit, sized)) in
    subst (λ (y : Access). t ≤ reg (carried_after a.carried x (step_event h (Some y)) t).registers x.destination) (sym access) (omega (arith, at))

-- what a branch on it leaves
steered_late : (h t : ℕ) (a : RunState) (v : Move) (r : ℕ) → (registers_of v.instruction).steers ≡ true → ((registers_of v.instruction).first ≡ r) ⊎ ((registers_of v.instruction).second ≡ r) →
    reg a.carried.registers r ≤ (moved_at h t a v).carried.steered
steered_late h t a v r steers by = by_test (registers_of v.instruction).steers steers (elim by [
  | inl e ↦ let s = ap (reg a.carried.registers) e in omega (arith, s)
  | inr e ↦ let s = ap (reg a.carried.registers) e in omega (arith, s)
])
  where
    by_test : (c : Bool) → c ≡ true → reg a.carried.registers r ≤ sources_bound a.carried (registers_of v.instruction) →
        reg a.carried.registers r ≤ (if c then max a.carried.steered (sources_bound a.carried (registers_of v.instruction)) else a.carried.steered)
    by_test true e l = omega (arith, l)
    by_test false e l = absurd (cc)

-- ---- runs

module _ (stops : StopsAreKnown) (owns : ℕ → ℕ → Bool) (image : Memory) (harts h : ℕ) (m e : List Stored) (opening : ℕ → ℕ) (q : Spot) (v : Move) (b : IsBranchedOn image q.place.state.pc) (owes : Owes h m q)
    (sized : IsSized q.place.state) (does : MovesApart owns image h (m ++ e) opening q v) (unknown : IsKnown owns h m v → ⊥) where
  abbrev whole : List Stored
  whole = m ++ e

  abbrev j : ℕ
  j = owes.store

  abbrev next : Spot
  next = spot_after owns h (m ++ e) q v

  is_load : v.instruction ≡ b.load
  is_load = some_same v.instruction b.load (sym does.decodes ∙ b.there)

  operating : operates v ≡ true
  operating = by_test (operates v) refl
    where
      by_test : (c : Bool) → operates v ≡ c → c ≡ true
      by_test true o = refl
      by_test false o = absurd (unknown (λ op public. absurd (cc)))

  public : is_private owns h v.access ≡ false
  public = by_test (is_private owns h v.access) refl
    where
      by_test : (c : Bool) → is_private owns h v.access ≡ c → c ≡ false
      by_test false o = refl
      by_test true o = absurd (unknown (λ op shared. absurd (cc)))

  reading : is_read (acts q.place.state v) ≡ true
  reading =
      let r = b.reads (filled q.place.state.registers) in
      ap (λ (i : Instr). is_read (action i (filled q.place.state.registers) q.place.state.pc)) is_load ∙ ap is_read r.4

  loaded : LoadsPlainly q.place.state v
  loaded = by_kind does.acts
    where
      by_kind : ActsApart owns image h (m ++ e) opening (IsPlaced h (m ++ e)) q.place.state v → LoadsPlainly q.place.state v
      by_kind (shares shared doing) = by_load image h (m ++ e) opening (IsPlaced h (m ++ e)) q.place.state v reading doing
      by_kind (keeps private plain doing) = absurd (let p = public in cc)
      by_kind (recalls rd address w signed private k is safe d needs r source x) = absurd (let p = public in cc)

  late : length m < v.time
  late = elim (cases_lt (length m) v.time) [
    | inl l ↦ l
    | inr l ↦ absurd (unknown (λ op shared. (l, λ store. absurd (let d = loaded.dry in cc))))
  ]

  behind_late : length m < behind (m ++ e) v
  behind_late =
      let l = late in
      let s = length-append m e in
      let d : behind (m ++ e) v ≡ min v.time (later (m ++ e)) = ap (λ (c : Bool). min (if c then v.time + 1 else v.time) (later (m ++ e))) loaded.dry in
      omega (arith, l, s, d)

  state_is : next.place.state ≡ moved h (m ++ e) q.place.state v
  state_is = after_state owns h (m ++ e) q.place v ∙ ap (λ (c : Bool). if c then moved_privately h (m ++ e) q.place.state v else moved h (m ++ e) q.place.state v) public

  depends : length m < reg next.place.state.carried.registers (registers_of b.load).destination
  depends =
      let fit = (decoded_fits image q.place.state.pc v.instruction does.decodes).destination in
      let nonzero : (registers_of v.instruction).destination ≢ 0 = λ z. b.some (ap (λ (i : Instr). (registers_of i).destination) (sym is_load) ∙ z) in
      let l = register_late h (behind (m ++ e) v) q.place.state v loaded.access.0 loaded.access.1 sized fit nonzero loaded.access.2 in
      let w = behind_late in
      let same : reg (moved h (m ++ e) q.place.state v).carried.registers (registers_of v.instruction).destination ≡ reg next.place.state.carried.registers (registers_of b.load).destination =
      ap (λ (i : Instr). reg (moved h (m ++ e) q.place.state v).carried.registers (registers_of i).destination) is_load ∙ ap (λ (s : RunState). reg s.carried.registers (registers_of b.load).destination) (sym state_is) in
      omega (arith, l, w, same)

  stands_next : next.place.state.pc ≡ plus q.place.state.pc 4
  stands_next = ap (λ (s : RunState). s.pc) state_is ∙ loaded.next

  decodes_next : decoded image next.place.state.pc ≡ Some b.branch
  decodes_next = ap (decoded image) stands_next ∙ b.next

  owed_next : next.place.paid j ≡ false
  owed_next = by_test (next.place.paid j) refl
    where
      by_test : (c : Bool) → next.place.paid j ≡ c → c ≡ false
      by_test false o = refl
      by_test true o = elim (paid_from owns h (m ++ e) q.place v j o) [
        | inl old ↦ absurd (let n = owes.owed in cc)
        | inr fresh ↦ absurd (let d = loaded.dry in let w = fresh.1 in cc)
      ]

  -- there the hart is on its way
  at_branch : IsOnItsWay owns image harts h (length m) (v ∷ []) next
  at_branch = record {
    stores = within;
    apart = λ i plain address owner known knows touches small mine.
        let same = some_same i b.branch (sym known ∙ decodes_next) in
        let x = b.branches (filled next.place.state.registers) in
        let is : is_branch (without_data (action i (filled next.place.state.registers) next.place.state.pc)) ≡ true =
        branch_bare (action i (filled next.place.state.registers) next.place.state.pc)
        ∙ ap (λ (k : Instr). is_branch (action k (filled next.place.state.registers) next.place.state.pc)) same
        ∙ ap (λ (pc : ℕ). is_branch (action b.branch (filled next.place.state.registers) pc)) stands_next ∙ ap is_branch x.2 in
        absurd (touches_not image (without_data (action i (filled next.place.state.registers) next.place.state.pc)) plain address is touches);
    calls = λ call.
        let same : b.branch ≡ Ecall = some_same b.branch Ecall (sym decodes_next ∙ call) in
        let x = b.branches [] in
        let no = ecall_branches_not b.branch [] (plus q.place.state.pc 4) same in
        let yes = ap is_branch x.2 in
        absurd (cc);
    goes_on = λ stop knows halts.
        let x = b.branches (filled next.place.state.registers) in
        goes_on_there image (filled next.place.state.registers) next.place.state.pc b.branch x.0 x.1 stop decodes_next
        (ap (action b.branch (filled next.place.state.registers)) stands_next ∙ x.2) x.3 (stops image next.place.state stop halts knows);
  }
    where
      within : StoreWithin owns h (length m) (v ∷ [])
      within w there store shared = by_place there.0 there.1 there.2
        where
          by_place : (i : ℕ) → i < length (v ∷ []) → get_or (v ∷ []) i w ≡ w → w.time < length m
          by_place zero l is = absurd (let d = loaded.dry in let y : stores v.access ≡ true = ap (λ (z : Move). stores z.access) is ∙ store in cc)
          by_place (suc i) l is = absurd (omega (arith, l))

  -- behind the branch it is lost
  lost_behind : (w : Move) → MovesApart owns image h (m ++ e) opening next w → IsLost h (m ++ e) (spot_after owns h (m ++ e) next w).place
  lost_behind w doing =
      let s = length-append m e in
      let l = owes.within in
      let there = get_or_append_left m e no_store j l in
      record {
        store = j;
        within = omega (arith, l, s);
        hart = ap (λ (y : Stored). y.hart) there ∙ owes.hart;
        owed = still (paid_last j);
        byte = owes.byte;
        has = ap (λ (y : Stored). has_byte y owes.byte) there ∙ owes.has;
        behind =
            (let d = depends in
            let g = steered in
            omega (arith, l, d, g));
      }
    where
      is_branch_move : w.instruction ≡ b.branch
      is_branch_move = some_same w.instruction b.branch (sym doing.decodes ∙ decodes_next)

      paid_last : (k : ℕ) → (spot_after owns h (m ++ e) next w).place.paid k ≡ true → next.place.paid k ≡ true
      paid_last k paid = elim (paid_from owns h (m ++ e) next.place w k paid) [
        | inl old ↦ old
        | inr fresh ↦ absurd (dry_branch doing.acts fresh.0 fresh.1)
      ]
        where
          branching : is_branch (acts next.place.state w) ≡ true
          branching =
              let x = b.branches (filled next.place.state.registers) in
              ap (λ (k : Instr). is_branch (action k (filled next.place.state.registers) next.place.state.pc)) is_branch_move
              ∙ ap (λ (pc : ℕ). is_branch (action b.branch (filled next.place.state.registers) pc)) stands_next ∙ ap is_branch x.2

          dry_branch : ActsApart owns image h (m ++ e) opening (IsPlaced h (m ++ e)) next.place.state w → is_private owns h w.access ≡ false → stores w.access ≡ true → ⊥
          dry_branch (shares shared acting) p wet = let d = ap stores (by_branch image h (m ++ e) opening (IsPlaced h (m ++ e)) next.place.state w branching acting) in cc
          dry_branch (keeps private plain acting) p wet = cc
          dry_branch (recalls rd address w2 signed private k is safe d needs r source x) p wet = cc

      still : ((spot_after owns h (m ++ e) next w).place.paid j ≡ true → next.place.paid j ≡ true) → (spot_after owns h (m ++ e) next w).place.paid j ≡ false
      still back = by_test ((spot_after owns h (m ++ e) next w).place.paid j) refl
        where
          by_test : (c : Bool) → (spot_after owns h (m ++ e) next w).place.paid j ≡ c → c ≡ false
          by_test false o = refl
          by_test true o = absurd (let n = owed_next in let y = back o in cc)

      by_it : ((registers_of w.instruction).first ≡ (registers_of b.load).destination) ⊎ ((registers_of w.instruction).second ≡ (registers_of b.load).destination)
      by_it = elim b.by_it [
        | inl first ↦ inl (ap (λ (i : Instr). (registers_of i).first) is_branch_move ∙ first)
        | inr second ↦ inr (ap (λ (i : Instr). (registers_of i).second) is_branch_move ∙ second)
      ]

      steered : reg next.place.state.carried.registers (registers_of b.load).destination ≤ (spot_after owns h (m ++ e) next w).place.state.carried.steered
      steered = subst (λ (s : RunState). reg next.place.state.carried.registers (registers_of b.load).destination ≤ s.carried.steered) (sym (after_state owns h (m ++ e) next.place w))
          (by_test (is_private owns h w.access))
        where
          steers : (registers_of w.instruction).steers ≡ true
          steers = ap (λ (i : Instr). (registers_of i).steers) is_branch_move ∙ b.steers

          by_test : (c : Bool) → reg next.place.state.carried.registers (registers_of b.load).destination ≤ (if c then moved_privately h (m ++ e) next.place.state w else moved h (m ++ e) next.place.state w).carried.steered
          by_test true = steered_late h (min w.time (later (m ++ e))) next.place.state w (registers_of b.load).destination steers by_it
          by_test false = steered_late h (behind (m ++ e) w) next.place.state w (registers_of b.load).destination steers by_it

pub debts_lost : LateDebtsAreLost
debts_lost stops owns image harts h m e opening q v [] b owes sized run none unknown = at_branch stops owns image harts h m e opening q v b owes sized run.0 unknown
debts_lost stops owns image harts h m e opening q v (w ∷ vs) b owes sized run none unknown =
    absurd (first_kept owns h (m ++ e) vs (spot_after owns h (m ++ e) (spot_after owns h (m ++ e) q v) w) none.1.1
    (lost_behind stops owns image harts h m e opening q v b owes sized run.0 unknown w run.1.0))

-- ---- an operation on a byte that is owed

module _ (owns : ℕ → ℕ → Bool) (image : Memory) (h : ℕ) (m e : List Stored) (opening : ℕ → ℕ) (q : Spot) (v : Move) (vs : List Move) (o : Owes h m q) (cover : covers v.access o.byte ≡ true)
    (run : RunsApart owns image h (m ++ e) opening q (v ∷ vs)) (none : NoneLost owns h (m ++ e) q (v ∷ vs)) where
  -- where it stands behind the list
  lost_there : operates v ≡ true → is_private owns h v.access ≡ false → o.store < behind (m ++ e) v → (stores v.access ≡ true → v.time ≢ o.store) → ⊥
  lost_there op public late other =
      first_kept owns h (m ++ e) vs (spot_after owns h (m ++ e) q v) none.1 (record {
        store = o.store;
        within = (let s = length-append m e in let l = o.within in omega (arith, l, s));
        hart = ap (λ (y : Stored). y.hart) there ∙ o.hart;
        owed = still ((spot_after owns h (m ++ e) q v).place.paid o.store) refl;
        byte = o.byte;
        has = ap (λ (y : Stored). has_byte y o.byte) there ∙ o.has;
        behind = (let t = touched in omega (arith, late, t));
      })
    where
      there : get_or (m ++ e) o.store no_store ≡ get_or m o.store no_store
      there = get_or_append_left m e no_store o.store o.within

      still : (c : Bool) → (spot_after owns h (m ++ e) q v).place.paid o.store ≡ c → c ≡ false
      still false d = refl
      still true d = elim (paid_from owns h (m ++ e) q.place v o.store d) [
        | inl old ↦ absurd (let n = o.owed in cc)
        | inr fresh ↦ absurd (other fresh.1 fresh.2)
      ]

      raise : (c : Bool) → c ≡ true → behind (m ++ e) v ≤ (if c then max (q.place.state.touched o.byte) (behind (m ++ e) v) else q.place.state.touched o.byte)
      raise true d = omega arith
      raise false d = absurd (cc)

      touched : behind (m ++ e) v ≤ (spot_after owns h (m ++ e) q v).place.state.touched o.byte
      touched = subst (λ (s : RunState). behind (m ++ e) v ≤ s.touched o.byte)
          (sym (after_state owns h (m ++ e) q.place v ∙ ap (λ (c : Bool). if c then moved_privately h (m ++ e) q.place.state v else moved h (m ++ e) q.place.state v) public))
          (raise (operates v && covers v.access o.byte) (both (operates v) (covers v.access o.byte) op cover))
        where
          both : (c d : Bool) → c ≡ true → d ≡ true → (c && d) ≡ true
          both true true y z = refl
          both true false y z = absurd (cc)
          both false d y z = absurd (cc)

  known_so : IsKnown owns h m v
  known_so op public = by_store (stores v.access) refl
    where
      by_store : (c : Bool) → stores v.access ≡ c → (v.time ≤ length m) × (stores v.access ≡ true → v.time < length m)
      by_store true wet = elim (cases_lt v.time (length m)) [
        | inl l ↦ (omega (arith, l), λ store. l)
        | inr l ↦
            let within = o.within in
            let s = length-append m e in
            let b : behind (m ++ e) v ≡ min (v.time + 1) (later (m ++ e)) = ap (λ (c : Bool). min (if c then v.time + 1 else v.time) (later (m ++ e))) wet in
            absurd (lost_there op public (omega (arith, l, within, s, b)) (λ store z. omega (arith, z, l, within)))
      ]
      by_store false dry = elim (cases_lt (length m) v.time) [
        | inr l ↦ (l, λ store. absurd (cc))
        | inl l ↦
            let within = o.within in
            let s = length-append m e in
            let b : behind (m ++ e) v ≡ min v.time (later (m ++ e)) = ap (λ (c : Bool). min (if c then v.time + 1 else v.time) (later (m ++ e))) dry in
            absurd (lost_there op public (omega (arith, l, within, s, b)) (λ store z. absurd (cc)))
      ]

pub touched_lost : TouchedDebtsAreLost
touched_lost owns image h m e opening q v vs o cover run none = known_so owns image h m e opening q v vs o cover run none
