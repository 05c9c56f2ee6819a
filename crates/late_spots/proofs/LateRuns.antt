-- A run that goes on from a spot by a late operation is of the stores that stay in a list.
use Rattle.std.proofs.Common.{◌≡◌, ℕ, zero, suc, ◌<◌, ◌≤◌, ◌&&◌, ◌||◌, max, min, Bool, true, false, if◌then◌else◌, List, [], ◌∷◌, ◌++◌, length, get_or, Contains, Option, Some, refl, sym, ap, ◌∙◌, subst, inl, inr, arith}
use Rattle.std.proofs.lemmas.Bool.{cases_lt}
use Rattle.std.proofs.lemmas.List.{append-nil, append_assoc, get_or_append_left, length-append}
use Rattle.pages.specs.Memory.{Memory, in_range}
use Rattle.round_schedule.specs.Accesses.{bytes_of, loads, stores}
use Rattle.memory_order.specs.CheckingProgram.{orders_stores}
use Rattle.memory_order.specs.Operations.{covers, is_acquire}
use Rattle.memory_order.specs.Registers.{registers_of}
use Rattle.rule_checker.specs.CarriedBounds.{sources_bound}
use Rattle.rule_checker.specs.Kinds.{loads_stores}
use Rattle.all_endings.specs.HartRuns.{IsPlaced, Stands}
use Rattle.all_endings.specs.RunStates.{Move, OwnByte, RunState, behind, moved, moved_at, operates, stores_from}
use Rattle.all_endings.specs.StoreLists.{Stored, byte_in, has_byte, later, no_store}
use Rattle.all_endings.proofs.Placing.{placed}
use Rattle.private_bytes.specs.Ahead.{IsAhead, OwnAhead, ahead-both}
use Rattle.private_bytes.specs.Owners.{is_private}
use Rattle.private_bytes.specs.PrivateMoves.{ActsApart, keeps, moved_privately, recalls, shares}
use Rattle.private_bytes.specs.PrivateWalks.{Spot, spot_after}
use Rattle.list_suffixes.specs.ApartRuns.{AreOfThoseKept, RunsApart, spots_after}
use Rattle.list_suffixes.specs.CurrentRuns.{AreCurrentLoads, OwnStoresAreListed, StoresStay}
use Rattle.list_suffixes.specs.KeptMoves.{state_after}
use Rattle.list_suffixes.specs.SettledWalks.{IsKnown}
use Rattle.list_suffixes.specs.Staying.{IsListed, MayBeLaid, stays_at}
use Rattle.list_suffixes.proofs.Current.{current_kept}
use Rattle.list_suffixes.proofs.KeptRuns.{after_state}
use Rattle.early_reads.specs.EarlyMaps.{Agrees, EarlyMap, IsRight, LeavesOut}
use Rattle.early_reads.specs.Laws.{IsLateStore, LoadsOnly, RunsOn, any-bytes, none-early, on-more, on-none}
use Rattle.early_reads.specs.Windows.{ArePassed, left_by_move, loads_from}
use Rattle.early_reads.proofs.Behind.{are_current, laid_within, late_current, late_open}
use Rattle.early_reads.proofs.Bounds.{left_so, rises}
use Rattle.late_spots.specs.LateRuns.{IsBehindThem, IsDoneAt, LateRunsAreOfThoseKept, OpensOnly, opens-any, opens-by-map, opens-none}

-- ---- bounds along a move

raised : (c : Bool) (y z : ℕ) → y ≤ (if c then max y z else y)
raised true y z = omega arith
raised false y z = omega arith

bounds_at : (h t : ℕ) (a : RunState) (v : Move) (x : ℕ) → stores_from a x ≤ stores_from (moved_at h t a v) x
bounds_at h t a v x =
    let s = raised (operates v && covers v.access x) (a.touched x) t in
    let p = raised (operates v && is_acquire v.access) a.kinds.acquires t in
    let q = raised (loads_stores v.access) a.kinds.load_store a.kinds.loads in
    let r = raised (orders_stores v.access) a.kinds.store_store a.kinds.stores in
    let u = raised (registers_of v.instruction).steers a.carried.steered (sources_bound a.carried (registers_of v.instruction)) in
    omega (arith, s, p, q, r, u)

bounds_after : (owns : ℕ → ℕ → Bool) (h : ℕ) (m : List Stored) (a : RunState) (v : Move) (x : ℕ) → stores_from a x ≤ stores_from (state_after owns h m a v) x
bounds_after owns h m a v x = by_test (is_private owns h v.access)
  where
    by_test : (c : Bool) → stores_from a x ≤ stores_from (if c then moved_privately h m a v else moved h m a v) x
    by_test true = bounds_at h (min v.time (later m)) a v x
    by_test false = bounds_at h (behind m v) a v x

-- ---- stores

module _ (owns : ℕ → ℕ → Bool) (image : Memory) (h : ℕ) (m : List Stored) (opening : ℕ → ℕ) where
  -- a hart does none of the stores at some places
  abbrev DoneWhere : (ℕ → Type 0) → RunState → Type 0
  DoneWhere P a = (j : ℕ) → P j → IsDoneAt h a j (get_or m j no_store)

  shared_placed : (a : RunState) (v : Move) → ActsApart owns image h m opening (IsPlaced h m) a v → stores v.access ≡ true → is_private owns h v.access ≡ false → IsPlaced h m v
  shared_placed a v (shares public doing) store e = placed image h m opening a v doing store
  shared_placed a v (keeps private plain doing) store e = absurd (cc)
  shared_placed a v (recalls rd address w signed private k is safe d needs r source next) store e = absurd (cc)

  module _ (P : ℕ → Type 0) where
    done_on : (p : Spot) (v : Move) → DoneWhere P p.place.state → DoneWhere P (spot_after owns h m p v).place.state
    done_on p v done j l mine =
        let d = done j l mine in
        let g = bounds_after owns h m p.place.state v d.0 in
        (d.0, d.1, subst (λ (s : RunState). j < stores_from s d.0) (sym (after_state owns h m p.place v)) (let i = d.2 in omega (arith, i, g)))

    store_apart : (a : RunState) (v : Move) → ActsApart owns image h m opening (IsPlaced h m) a v → (operates v ≡ true → Stands a v) → DoneWhere P a →
        stores v.access ≡ true → is_private owns h v.access ≡ false → P v.time → v.time < length m → ⊥
    store_apart a v acts stand done store public there inside = by_place (shared_placed a v acts store public)
      where
        operating : (c d : Bool) → d ≡ true → (c || d) ≡ true
        operating true d e = refl
        operating false d e = e

        by_place : IsPlaced h m v → ⊥
        by_place (inl late) = absurd (omega (arith, late, inside))
        by_place (inr is) =
            let d = done v.time there is.hart in
            let covered : covers v.access d.0 ≡ true = ap (λ (y : ℕ). in_range y (bytes_of v.access) d.0) (sym is.address)
            ∙ ap (λ (y : ℕ). in_range (get_or m v.time no_store).address y d.0) (sym is.bytes) ∙ d.1 in
            let s = stand (operating (loads v.access) (stores v.access) store) in
            let t = s.touched d.0 store covered in
            let a0 = s.kinds.0 in
            let k = s.kinds.2 store in
            let k0 = k.0 in
            let k1 = k.1 in
            let c = s.carried.1 store in
            let c1 = c.1 in
            let c2 = c.2 in
            let i = d.2 in
            absurd (omega (arith, t, a0, k0, k1, c1, c2, i))

    stores_apart : (vs : List Move) (p : Spot) → RunsApart owns image h m opening p vs → DoneWhere P p.place.state → (u : Move) → Contains vs u →
        stores u.access ≡ true → is_private owns h u.access ≡ false → P u.time → u.time < length m → ⊥
    stores_apart [] p run done u there store public at inside = absurd (let l = there.1 in omega (arith, l))
    stores_apart (v ∷ vs) p run done u there store public at inside = by_place (stores_apart vs (spot_after owns h m p v) run.1 (done_on p v done)) there.0 there.1 there.2
      where
        by_place : ((w : Move) → Contains vs w → stores w.access ≡ true → is_private owns h w.access ≡ false → P w.time → w.time < length m → ⊥) →
            (i : ℕ) → i < length (v ∷ vs) → get_or (v ∷ vs) i u ≡ u → ⊥
        by_place rest zero l is =
            store_apart p.place.state v run.0.acts run.0.stands done (ap (λ (w : Move). stores w.access) is ∙ store) (ap (λ (w : Move). is_private owns h w.access) is ∙ public)
            (subst (λ (w : Move). P w.time) (sym is) at) (subst (λ (w : Move). w.time < length m) (sym is) inside)
        by_place rest (suc i) l is = rest u (i, omega (arith, l), is) store public at inside

  -- ---- loads

  left_same : (p : Spot) (v : Move) → left_by_move owns h m p.place.state v ≡ (spot_after owns h m p v).place.state
  left_same p v = sym (after_state owns h m p.place v)

  runs_on : (vs : List Move) (p : Spot) (a : RunState) (us : List Move) → RunsOn owns image h m opening a us p.place.state → RunsApart owns image h m opening p vs →
      RunsOn owns image h m opening a (us ++ vs) (spots_after owns h m p vs).place.state
  runs_on [] p a us before run = subst (λ (ws : List Move). RunsOn owns image h m opening a ws p.place.state) (sym (append-nil us)) before
  runs_on (v ∷ vs) p a us before run =
      subst (λ (ws : List Move). RunsOn owns image h m opening a ws (spots_after owns h m (spot_after owns h m p v) vs).place.state) (append_assoc us (v ∷ []) vs)
      (runs_on vs (spot_after owns h m p v) a (us ++ v ∷ [])
      (subst (RunsOn owns image h m opening a (us ++ v ∷ [])) (left_same p v) (on-more p.place.state us v before run.0.decodes run.0.acts run.0.stands)) run.1)

  passed_on : (stays : List Bool) (bytes : ℕ → Bool) (a d : RunState) → ((x : ℕ) → a.seen x ≤ d.seen x) → loads_from a ≤ loads_from d → ArePassed stays m bytes a → ArePassed stays m bytes d
  passed_on stays bytes a d seen from passed k laid x is wet = elim (passed k laid x is wet) [
    | inl i ↦ inl (let j = seen x in omega (arith, i, j))
    | inr i ↦ inr (omega (arith, i, from))
  ]

-- ---- from what is ahead

module _ (f : EarlyMap) (owns : ℕ → ℕ → Bool) (image : Memory) (h : ℕ) (stays : List Bool) (m e : List Stored) (opening : ℕ → ℕ) (owes : Bool) (bytes : ℕ → Bool) (a : RunState) (q : Spot) (v : Move) (vs : List Move)
    (right : IsRight f owns image h) (few : length stays ≤ length m) (may : MayBeLaid stays m) (ahead : IsAhead a q.place.state) (behind_them : IsBehindThem f h stays m owes bytes a v)
    (run : RunsApart owns image h (m ++ e) opening q (v ∷ vs)) (unknown : IsKnown owns h m v → ⊥) where
  within : length m ≤ length (m ++ e)
  within = let l = length-append m e in omega (arith, l)

  few_there : length stays ≤ length (m ++ e)
  few_there = let l = within in omega (arith, few, l)

  at_left : (k : ℕ) → k < length m → get_or (m ++ e) k no_store ≡ get_or m k no_store
  at_left k l = get_or_append_left m e no_store k l

  laid_left : (k : ℕ) → stays_at stays k ≡ false → get_or (m ++ e) k no_store ≡ get_or m k no_store
  laid_left k laid = at_left k (let l = laid_within stays k laid in omega (arith, l, few))

  may_there : MayBeLaid stays (m ++ e)
  may_there j k x less stay laid has wet =
      let l = laid_within stays k laid in
      may j k x less stay laid (ap (λ (y : Stored). has_byte y x) (sym (at_left j (omega (arith, l, few, less)))) ∙ has) (ap (λ (y : Stored). has_byte y x) (sym (laid_left k laid)) ∙ wet)

  -- the late move
  operating : operates v ≡ true
  operating = by_test (operates v) refl
    where
      by_test : (c : Bool) → operates v ≡ c → c ≡ true
      by_test true o = refl
      by_test false o = absurd (unknown (λ op public. absurd (cc)))

  public : is_private owns h v.access ≡ false
  public = by_test (is_private owns h v.access) refl
    where
      by_test : (c : Bool) → is_private owns h v.access ≡ c → c ≡ false
      by_test false o = refl
      by_test true o = absurd (unknown (λ op shared. absurd (cc)))

  late : length m ≤ v.time
  late = elim (cases_lt v.time (length m)) [
    | inl l ↦ absurd (unknown (λ op shared. (omega (arith, l), λ store. l)))
    | inr l ↦ l
  ]

  done_there : (j : ℕ) → get_or (m ++ e) j no_store ≡ get_or m j no_store → IsDoneAt h a j (get_or m j no_store) → IsDoneAt h q.place.state j (get_or (m ++ e) j no_store)
  done_there j there done mine =
      let d = done (ap (λ (y : Stored). y.hart) (sym there) ∙ mine) in
      let t = ahead.touched d.0 in
      let k0 = ahead.kinds.acquires in
      let k1 = ahead.kinds.load_store in
      let k2 = ahead.kinds.store_store in
      let c0 = ahead.carried.steered in
      let c1 = ahead.carried.addressed in
      let i = d.2 in
      (d.0, ap (λ (y : Stored). has_byte y d.0) there ∙ d.1, omega (arith, t, k0, k1, k2, c0, c1, i))

  laid_stores : (u : Move) → Contains (v ∷ vs) u → stores u.access ≡ true → is_private owns h u.access ≡ false → stays_at stays u.time ≡ false → ⊥
  laid_stores u there store shared laid =
      stores_apart owns image h (m ++ e) opening (λ j. stays_at stays j ≡ false) (v ∷ vs) q run (λ j out. done_there j (laid_left j out) (behind_them.done j out)) u there store shared laid
      (let l = laid_within stays u.time laid in let n = few_there in omega (arith, l, n))

  stores_stay : StoresStay owns h stays (v ∷ vs)
  stores_stay u there store shared = by_test (stays_at stays u.time) refl
    where
      by_test : (c : Bool) → stays_at stays u.time ≡ c → c ≡ true
      by_test true e = refl
      by_test false laid = absurd (laid_stores u there store shared laid)

  stores_late : owes ≡ false → (u : Move) → Contains (v ∷ vs) u → IsLateStore owns h (length m) u
  stores_late pays u there store shared = elim (cases_lt u.time (length m)) [
    | inr l ↦ l
    | inl l ↦ absurd (stores_apart owns image h (m ++ e) opening (λ j. j < length m) (v ∷ vs) q run (λ j small. done_there j (at_left j small) (behind_them.paid pays j small)) u there store shared l
        (let n = within in omega (arith, l, n)))
  ]

  from : loads_from a ≤ loads_from q.place.state
  from =
      let k0 = ahead.kinds.acquires in
      let k1 = ahead.kinds.load_load in
      let k2 = ahead.kinds.store_load in
      omega (arith, k0, k1, k2)

  passed : ArePassed stays (m ++ e) bytes q.place.state
  passed k laid x is wet = elim (behind_them.passed k laid x is (ap (λ (y : Stored). has_byte y x) (sym (laid_left k laid)) ∙ wet)) [
    | inl i ↦ inl (let j = ahead.seen x in omega (arith, i, j))
    | inr i ↦ inr (let j = from in omega (arith, i, j))
  ]

  listed : OwnStoresAreListed (m ++ e) q.place.state
  listed x o own some few = by_own (a.own x) refl (subst (OwnAhead (a.own x)) own (ahead.own x))
    where
      by_own : (r : Option OwnByte) → a.own x ≡ r → OwnAhead r (Some o) → IsListed (m ++ e) x o
      by_own _ is (ahead-both p _ place byte atomic needs) =
          let inside = behind_them.within x p is in
          let w = behind_them.listed x p is (omega (arith, some, place)) inside in
          let at = w.place in
          let there = at_left w.store (omega (arith, at, inside)) in
          record {
            store = w.store;
            place = sym place ∙ w.place;
            has = ap (λ (y : Stored). has_byte y x) there ∙ w.has;
            byte = λ n known. ap (λ (y : Stored). byte_in y x) there ∙ w.byte n (byte n known);
          }

  agrees : Agrees (f.constants a.pc) a.registers → Agrees (f.constants q.place.state.pc) q.place.state.registers
  agrees k = subst (λ (pc : ℕ). Agrees (f.constants pc) q.place.state.registers) ahead.pc (λ r n l told known. k r n l told (ahead.registers r l known))

  abbrev after : RunState
  after = left_by_move owns h (m ++ e) q.place.state v

  abbrev next : Spot
  next = spot_after owns h (m ++ e) q v

  opens : LoadsOnly f (length m) owes bytes after
  opens = by_kind behind_them.opens
    where
      by_kind : OpensOnly f (length m) owes bytes a v → LoadsOnly f (length m) owes bytes after
      by_kind (opens-none l) = none-early (let i = from in let j = rises (left_so owns h (m ++ e) q.place.state v) in omega (arith, i, j, l))
      by_kind (opens-by-map k out told) =
          late_open f owns image h (length m) (m ++ e) opening owes bytes q.place.state v right within run.0.decodes run.0.acts operating public late (agrees k)
          (subst (λ (pc : ℕ). LeavesOut f pc) ahead.pc out) told
      by_kind (opens-any all) = any-bytes all

  currents : AreCurrentLoads owns h stays (m ++ e) (v ∷ vs)
  currents u there load dry shared known k x laid cover wet = by_place there.0 there.1 there.2
    where
      passed_after : ArePassed stays (m ++ e) bytes after
      passed_after = passed_on owns image h (m ++ e) opening stays bytes q.place.state after (left_so owns h (m ++ e) q.place.state v).seen (rises (left_so owns h (m ++ e) q.place.state v)) passed

      runs : RunsOn owns image h (m ++ e) opening after ([] ++ vs) (spots_after owns h (m ++ e) next vs).place.state
      runs = runs_on owns image h (m ++ e) opening vs next after []
          (subst (RunsOn owns image h (m ++ e) opening after []) (left_same owns image h (m ++ e) opening q v) on-none) run.1

      by_place : (i : ℕ) → i < length (v ∷ vs) → get_or (v ∷ vs) i u ≡ u → k < u.source x
      by_place zero _ is =
          subst (λ (w : Move). k < w.source x) is
          (late_current owns image h stays (m ++ e) opening q.place.state v run.0.acts (ap (λ (w : Move). loads w.access) is ∙ load) (ap (λ (w : Move). is_private owns h w.access) is ∙ shared)
          (subst (λ (w : Move). w.time ≤ length (m ++ e)) (sym is) known) (let l = late in omega (arith, few, l)) k x laid (ap (λ (w : Move). covers w.access x) is ∙ cover) wet)
      by_place (suc i) inside is =
          are_current f owns image h (length m) stays (m ++ e) opening owes bytes after (spots_after owns h (m ++ e) next vs).place.state vs right few within opens passed_after runs
          (λ pays w at. stores_late pays w (suc at.0, (let z = at.1 in omega (arith, z)), at.2))
          u (i, omega (arith, inside), is) load dry shared known k x laid cover wet

  goes_kept : AreOfThoseKept owns h stays (m ++ e) q (v ∷ vs)
  goes_kept = current_kept owns image h stays (m ++ e) opening q (v ∷ vs) few_there may_there run listed stores_stay currents

pub late_kept : LateRunsAreOfThoseKept
late_kept f owns image h stays m e opening owes bytes a q v vs right few may ahead them run unknown =
    goes_kept f owns image h stays m e opening owes bytes a q v vs right few may ahead them run unknown
