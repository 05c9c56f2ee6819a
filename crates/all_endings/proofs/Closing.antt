-- Closed lists have the first stores of each order that RVWMO allows.
use Rattle.std.proofs.Common.{◌≡◌, ◌≢◌, ℕ, zero, suc, ◌+◌, ◌<◌, ◌≤◌, ◌==◌, ◌&&◌, max, Bool, true, false, cond, if◌then◌else◌, List, [], ◌∷◌, ◌++◌, length, map, filter, take, get_or, get_or-take, count_by, refl, sym, ap, ◌∙◌, subst, inl, inr, arith, ◌*◌, nat_lt}
use Rattle.std.proofs.Math.Nat.{mul-suc}
use Rattle.std.specs.List.{AllPairs}
use Rattle.std.proofs.Math.Seq.{get_or-append_seam, take-suc}
use Rattle.std.proofs.lemmas.Bool.{cases_Bool, cases_lt, cases_eq, eq-eqb, ne_eqb, le-ltb, lt-ltb}
use Rattle.std.proofs.lemmas.List.{get_or_append_left, length-append, length-take, take_all}
use Rattle.std.proofs.lemmas.List.Sums.{count_by_more_no, count_by_more_yes}
use Rattle.pages.specs.Memory.{Memory}
use Rattle.round_schedule.specs.declared.event.Event.{Event}
use Rattle.round_schedule.specs.Positions.{event, no_event}
use Rattle.round_schedule.specs.declared.access.Access.{Access}
use Rattle.hart_step.specs.declared.hart.Hart.{Hart}
use Rattle.hart_step.specs.Console.{ConsoleState, output_room}
use Rattle.memory_order.specs.CheckingProgram.{orders_stores}
use Rattle.memory_order.specs.Dependencies.{registers_at}
use Rattle.memory_order.specs.Operations.{covers, is_acquire, is_operation, is_store}
use Rattle.memory_order.specs.declared.registers.Registers.{Registers}
use Rattle.rule_checker.specs.CarriedBounds.{carried_after, sources_bound}
use Rattle.rule_checker.specs.Kinds.{kinds_after, loads_stores}
use Rattle.rule_checker.specs.declared.annotated.KindBounds.{KindBounds}
use Rattle.rule_checker.specs.declared.carried.Carried.{Carried}
use Rattle.memory_order.specs.Orders.{order_position}
use Rattle.memory_order.proofs.Facts.{store_is_operation, within}
use Rattle.execution.specs.Executions.{Executes, Standing, begins, goes, stops}
use Rattle.execution.specs.Progressing.{at_start}
use Rattle.execution_checker.specs.Allowed.{Allows}
use Rattle.all_endings.specs.Endings.{opening_bytes}
use Rattle.all_endings.specs.Factorizing.{AreMoves, moves-none, moves-other, moves-own, HasRoom}
use Rattle.all_endings.specs.HartRuns.{Runs}
use Rattle.all_endings.specs.Offering.{AreShort, ClosedListsHaveAll, AreFresh, IsClosed, IsOffered, MayPay, Pays}
use Rattle.all_endings.specs.RunStates.{Move, RunState, run_start}
use Rattle.all_endings.specs.StoreLists.{Stored, all_stores, has_byte, no_store, stores_of, told}
use Rattle.all_endings.specs.Times.{kinds_before, stores_before, time_of, touched_before}
use Rattle.all_endings.proofs.DecodedRegisters.{all_registers_are}
use Rattle.all_endings.proofs.Factors.{SoFar, all_along, harts_stay, the}
use Rattle.all_endings.proofs.Following.{Setting, after, carried_at_index, list, time}
use Rattle.all_endings.proofs.Sources.{once_at, place_of_time}
use Rattle.all_endings.proofs.StoreLists.{stands_at}
use Rattle.all_endings.proofs.Times.{stand_in_time}

-- ---- the stores of an order

counted : (t : List Event) (a : ℕ) (g : List ℕ) (b : Bool) → stores_before t g (length g) ≡ length (all_stores t g) →
    (if b then 1 else 0) + stores_before t g (length g) ≡ length (map (λ i. told (event t i)) (cond b (a ∷ filter (λ i. is_store (event t i)) g) (filter (λ i. is_store (event t i)) g)))
counted t a g true e = omega (arith, e)
counted t a g false e = omega (arith, e)

pub stores_counted : (t : List Event) (g : List ℕ) → stores_before t g (length g) ≡ length (all_stores t g)
stores_counted t [] = refl
stores_counted t (a ∷ g) = counted t a g (is_store (event t a)) (stores_counted t g)

-- the store at a place
pub record StoreAt (t : List Event) (g : List ℕ) (n : ℕ) : Type 0 where
  pub index : ℕ
  pub stores : is_store (event t index) ≡ true
  pub position : stores_before t g (order_position g index) ≡ n
  pub told : get_or (all_stores t g) n no_store ≡ told (event t index)

pub store_at : (t : List Event) (g : List ℕ) (n : ℕ) → AllPairs (λ a b. a ≢ b) g → n < length (all_stores t g) → StoreAt t g n
store_at t g n once l =
    let c = stores_counted t g in
    let f = place_of_time t g (length g) n (omega (arith, c, l)) in record {
      index = get_or g f.0 0;
      stores = f.3;
      position = ap (stores_before t g) (once_at g f.0 f.2 once) ∙ f.4;
      told = ap (λ (k : ℕ). get_or (all_stores t g) k no_store) (sym f.4) ∙ stands_at t g f.0 f.2 f.3;
    }

-- ---- harts and counts

pub harts_within : (image : Memory) (p q : Standing) → Executes image p q → ((i : ℕ) → i < length p.events → (event p.events i).hart < length p.harts) →
    (i : ℕ) → i < length q.events → (event q.events i).hart < length q.harts
harts_within image p q (begins _) each i l = each i l
harts_within image p q (goes j _ u _ x z) each i l =
    let stay = harts_stay image p u x in
    let set : length q.harts ≡ length u.harts = harts_stay image u q (goes j u u q (begins u) z) in
    let size = ap length z.events ∙ length-append u.events (z.event ∷ []) in
    elim (cases_lt i (length u.events)) [
      | inl before ↦
          let e : event q.events i ≡ event u.events i = ap (λ (t : List Event). event t i) z.events ∙ get_or_append_left u.events (z.event ∷ []) no_event i before in
          let r = harts_within image p u x each i before in
          let h : (event q.events i).hart ≡ (event u.events i).hart = ap (λ (y : Event). y.hart) e in
          omega (arith, r, h, set)
      | inr here ↦
          let at : i ≡ length u.events = omega (arith, here, l, size) in
          let e : event q.events i ≡ z.event = ap (λ (t : List Event). event t i) z.events ∙ ap (λ (k : ℕ). event (u.events ++ z.event ∷ []) k) at ∙ get_or-append_seam u.events z.event [] no_event in
          let h : (event q.events i).hart ≡ j = ap (λ (y : Event). y.hart) e ∙ z.event_of.hart in
          let w = z.within in
          omega (arith, h, w, set)
    ]
harts_within image p q (stops j _ u _ x z) each i l =
    let set : length q.harts ≡ length u.harts = harts_stay image u q (stops j u u q (begins u) z) in
    let r = harts_within image p u x each i (let k = ap length z.events in omega (arith, l, k)) in
    let h : (event q.events i).hart ≡ (event u.events i).hart = ap (λ (t : List Event). (event t i).hart) z.events in
    omega (arith, r, h, set)

abbrev one : Bool → ℕ
one b = if b then 1 else 0

-- how many events hart h has before an index
abbrev done_by : ℕ → List Event → ℕ → ℕ
done_by h t zero = 0
done_by h t (suc i) = one ((event t i).hart == h) + done_by h t i

done_counts : (h : ℕ) (t : List Event) (i : ℕ) → i ≤ length t → done_by h t i ≡ count_by (λ (v : Event). v.hart == h) (take i t)
done_counts h t zero l = refl
done_counts h t (suc i) l = elim (cases_Bool ((event t i).hart == h)) [
  | inl own ↦
      let r = done_counts h t i (omega (arith, l)) in
      let m = count_by_more_yes (λ (v : Event). v.hart == h) t i no_event (omega (arith, l)) own in
      let e : i + 1 ≡ suc i = omega arith in
      let n : count_by (λ (v : Event). v.hart == h) (take (suc i) t) ≡ count_by (λ (v : Event). v.hart == h) (take i t) + 1 = ap (λ (k : ℕ). count_by (λ (v : Event). v.hart == h) (take k t)) (sym e) ∙ m in
      let d : done_by h t (suc i) ≡ 1 + done_by h t i = ap (λ (b : Bool). one b + done_by h t i) own in
      omega (arith, r, n, d)
  | inr other ↦
      let r = done_counts h t i (omega (arith, l)) in
      let m = count_by_more_no (λ (v : Event). v.hart == h) t i no_event (omega (arith, l)) other in
      let e : i + 1 ≡ suc i = omega arith in
      let n : count_by (λ (v : Event). v.hart == h) (take (suc i) t) ≡ count_by (λ (v : Event). v.hart == h) (take i t) = ap (λ (k : ℕ). count_by (λ (v : Event). v.hart == h) (take k t)) (sym e) ∙ m in
      let d : done_by h t (suc i) ≡ 0 + done_by h t i = ap (λ (b : Bool). one b + done_by h t i) other in
      omega (arith, r, n, d)
]

done_rises : (h : ℕ) (t : List Event) (i k : ℕ) → i ≤ k → done_by h t i ≤ done_by h t k
done_rises h t i zero l = let e : i ≡ 0 = omega (arith, l) in subst (λ (j : ℕ). done_by h t i ≤ done_by h t j) e (omega arith)
done_rises h t i (suc k) l = elim (cases_eq i (suc k)) [
  | inl e ↦ subst (λ (j : ℕ). done_by h t i ≤ done_by h t j) e (omega arith)
  | inr other ↦ let r = done_rises h t i k (omega (arith, l, other)) in omega (arith, r)
]

done_few : (h : ℕ) (t : List Event) (i : ℕ) → i ≤ length t → done_by h t i ≤ count_by (λ (v : Event). v.hart == h) t
done_few h t i l =
    let r = done_rises h t i (length t) l in
    let c = done_counts h t (length t) (omega arith) in
    let a : count_by (λ (v : Event). v.hart == h) (take (length t) t) ≡ count_by (λ (v : Event). v.hart == h) t = ap (λ (u : List Event). count_by (λ (v : Event). v.hart == h) u) (take_all (length t) t (omega arith)) in
    omega (arith, r, c, a)

moves_counted : (n h : ℕ) (q : Standing) (g : List ℕ) (i : ℕ) (vs : List Move) → AreMoves n h q g i vs → length vs ≡ done_by h q.events i
moves_counted n h q g _ _ moves-none = refl
moves_counted n h q g _ vs (moves-other i _ m other) =
    let r = moves_counted n h q g i vs m in
    let d : done_by h q.events (suc i) ≡ 0 + done_by h q.events i = ap (λ (b : Bool). one b + done_by h q.events i) (ne_eqb (event q.events i).hart h other) in
    omega (arith, r, d)
moves_counted n h q g _ _ (moves-own i vs v m here at) =
    let r = moves_counted n h q g i vs m in
    let l = length-append vs (v ∷ []) in
    let d : done_by h q.events (suc i) ≡ 1 + done_by h q.events i = ap (λ (b : Bool). one b + done_by h q.events i) (eq-eqb (event q.events i).hart h here) in
    omega (arith, r, d, l)

pub moves_few : (k n h : ℕ) (q : Standing) (g : List ℕ) (i : ℕ) (vs : List Move) → AreShort k q → i ≤ length q.events → AreMoves n h q g i vs → length vs ≤ k
moves_few k n h q g i vs short l m =
    let c = moves_counted n h q g i vs m in
    let d = done_few h q.events i l in
    let s = short h in
    omega (arith, c, d, s)

-- how many events the harts below a number have before an index
abbrev below_by : ℕ → List Event → ℕ → ℕ
below_by m t zero = 0
below_by m t (suc i) = one (nat_lt (event t i).hart m) + below_by m t i

one_or : (x m : ℕ) → one (nat_lt x (suc m)) ≡ one (nat_lt x m) + one (x == m)
one_or x m = elim (cases_lt x m) [
  | inl l ↦
      let a : one (nat_lt x (suc m)) ≡ 1 = ap (λ (b : Bool). one b) (lt-ltb x (suc m) (omega (arith, l))) in
      let b : one (nat_lt x m) ≡ 1 = ap (λ (b : Bool). one b) (lt-ltb x m l) in
      let c : one (x == m) ≡ 0 = ap (λ (b : Bool). one b) (ne_eqb x m (λ e. omega (arith, l, e))) in
      omega (arith, a, b, c)
  | inr l ↦ elim (cases_eq x m) [
    | inl e ↦
        let a : one (nat_lt x (suc m)) ≡ 1 = ap (λ (b : Bool). one b) (lt-ltb x (suc m) (omega (arith, e))) in
        let b : one (nat_lt x m) ≡ 0 = ap (λ (b : Bool). one b) (le-ltb x m l) in
        let c : one (x == m) ≡ 1 = ap (λ (b : Bool). one b) (eq-eqb x m e) in
        omega (arith, a, b, c)
    | inr other ↦
        let a : one (nat_lt x (suc m)) ≡ 0 = ap (λ (b : Bool). one b) (le-ltb x (suc m) (omega (arith, l, other))) in
        let b : one (nat_lt x m) ≡ 0 = ap (λ (b : Bool). one b) (le-ltb x m l) in
        let c : one (x == m) ≡ 0 = ap (λ (b : Bool). one b) (ne_eqb x m other) in
        omega (arith, a, b, c)
  ]
]

below_more : (m : ℕ) (t : List Event) (i : ℕ) → below_by (suc m) t i ≡ below_by m t i + done_by m t i
below_more m t zero = omega arith
below_more m t (suc i) = let r = below_more m t i in let o = one_or (event t i).hart m in omega (arith, r, o)

below_none : (t : List Event) (i : ℕ) → below_by 0 t i ≡ 0
below_none t zero = refl
below_none t (suc i) =
    let a : one (nat_lt (event t i).hart 0) ≡ 0 = ap (λ (b : Bool). one b) (le-ltb (event t i).hart 0 (omega arith)) in
    let r = below_none t i in
    omega (arith, a, r)

below_all : (m : ℕ) (t : List Event) (i : ℕ) → ((j : ℕ) → j < i → (event t j).hart < m) → below_by m t i ≡ i
below_all m t zero each = refl
below_all m t (suc i) each =
    let a : one (nat_lt (event t i).hart m) ≡ 1 = ap (λ (b : Bool). one b) (lt-ltb (event t i).hart m (each i (omega arith))) in
    let r = below_all m t i (λ j l. each j (omega (arith, l))) in
    omega (arith, a, r)

below_few : (k m : ℕ) (t : List Event) → ((h : ℕ) → count_by (λ (v : Event). v.hart == h) t ≤ k) → below_by m t (length t) ≤ k * m
below_few k zero t few = let n = below_none t (length t) in omega (arith, n)
below_few k (suc m) t few =
    let r = below_few k m t few in
    let d = done_few m t (length t) (omega arith) in
    let f = few m in
    let b = below_more m t (length t) in
    let p : k * suc m ≡ k * m + k = mul-suc k m in
    omega (arith, r, d, f, b, p)

-- no more events than k of each hart
pub events_few : (k m : ℕ) (t : List Event) → ((h : ℕ) → count_by (λ (v : Event). v.hart == h) t ≤ k) → ((j : ℕ) → j < length t → (event t j).hart < m) → length t ≤ k * m
events_few k m t few each = let a = below_all m t (length t) each in let b = below_few k m t few in omega (arith, a, b)

pub hart_in : (hs : List Hart) (h : ℕ) → h < length hs → (start : Hart) × (start ≡ get_or hs h start)
hart_in [] h l = absurd (omega (arith, l))
hart_in (x ∷ hs) zero l = (x, refl)
hart_in (x ∷ hs) (suc h) l = hart_in hs h (omega (arith, l))

-- ---- stores that are still to be done

raised : (c : Bool) (u w : ℕ) → u ≤ (if c then max u w else u)
raised true u w = omega arith
raised false u w = omega arith

-- what rules 4, 5, 11 and 13 ask of each store that comes
abbrev stores_by : KindBounds → Carried → ℕ
stores_by k c = max (max k.acquires (max k.load_store k.store_store)) (max c.steered c.addressed)

abbrev stores_at : Setting → ℕ → ℕ → ℕ
stores_at s h i = stores_by (kinds_before (after s) s.t h i) (carried_at_index s h i)

stores_by_more : (own : Bool) (k : KindBounds) (c : Carried) (a : Access) (operation : Bool) (x : Registers) (e : Event) (next : ℕ) →
    stores_by k c ≤ stores_by (if own then kinds_after k a operation next else k) (if own then carried_after c x e next else c)
stores_by_more true k c a operation x e next =
    let p = raised (operation && is_acquire a) k.acquires next in
    let q = raised (loads_stores a) k.load_store k.loads in
    let r = raised (orders_stores a) k.store_store k.stores in
    let u = raised x.steers c.steered (sources_bound c x) in
    omega (arith, p, q, r, u)
stores_by_more false k c a operation x e next = omega arith

-- bounds grow along a trace
grows_on : (f : ℕ → ℕ) → ((i : ℕ) → f i ≤ f (suc i)) → (i j : ℕ) → i ≤ j → f i ≤ f j
grows_on f each i zero l = let e : i ≡ 0 = omega (arith, l) in omega (arith, ap f e)
grows_on f each i (suc j) l = elim (cases_lt j i) [
  | inl k ↦ let e : i ≡ suc j = omega (arith, k, l) in omega (arith, ap f e)
  | inr k ↦ let r = grows_on f each i j k in let g = each j in omega (arith, r, g)
]

touched_more : (s : Setting) (h x i j : ℕ) → i ≤ j → touched_before (after s) s.t h x i ≤ touched_before (after s) s.t h x j
touched_more s h x = grows_on (touched_before (after s) s.t h x)
    (λ j. raised (h == (event s.t j).hart && (is_operation (event s.t j) && covers (event s.t j).access x)) (touched_before (after s) s.t h x j) (after s j))

stores_more : (s : Setting) (h i j : ℕ) → i ≤ j → stores_at s h i ≤ stores_at s h j
stores_more s h = grows_on (stores_at s h)
    (λ j. stores_by_more (h == (event s.t j).hart) (kinds_before (after s) s.t h j) (carried_at_index s h j) (event s.t j).access (is_operation (event s.t j)) (registers_at s.is j) (event s.t j) (after s j))

-- what was done up to an index leaves what its hart does from there on
pub may_pay : (s : Setting) (h i : ℕ) (start : Hart) (moves : List Move) (state : RunState) → SoFar s h start i moves state →
    state.kinds ≡ kinds_before (after s) s.t h i → state.carried ≡ carried_at_index s h i → ((x : ℕ) → state.touched x ≡ touched_before (after s) s.t h x i) → MayPay h (list s) moves state
may_pay s h i start moves state so_far kinds carried touched p l here =
    let m = s.many in
    let total = length-take s.n (all_stores s.t s.g) in
    let f = store_at s.t s.g p s.meets.lists.once (omega (arith, m, l, total)) in
    let is : get_or (list s) p no_store ≡ told (event s.t f.index) = get_or-take s.n (all_stores s.t s.g) p no_store (omega (arith, m, l)) ∙ f.told in
    let h_is : (event s.t f.index).hart ≡ h = ap (λ (y : Stored). y.hart) (sym is) ∙ here in
    let pos = f.position in
    let t_is : time s f.index ≡ p = omega (arith, pos, m, l) in
    elim (cases_lt f.index i) [
      | inl earlier ↦ let paid = so_far.paid f.index earlier h_is f.stores (omega (arith, t_is, m, l)) in inl (paid.0, paid.1, paid.2, paid.3 ∙ t_is)
      | inr later ↦ inr (λ x wet.
          let stands = stand_in_time s.is s.t (opening_bytes s.image) s.g s.fit s.meets s.n f.index (store_is_operation (event s.t f.index) f.stores) in
          let t = touched x in
          let g = touched_more s h x i f.index later in
          let q : touched_before (after s) s.t (event s.t f.index).hart x f.index ≡ touched_before (after s) s.t h x f.index = ap (λ (y : ℕ). touched_before (after s) s.t y x f.index) h_is in
          let b = stands.touched x f.stores (ap (λ (y : Stored). has_byte y x) (sym is) ∙ wet) in
          let u : stores_by state.kinds state.carried ≡ stores_at s h i = ap (λ (y : KindBounds). stores_by y state.carried) kinds ∙ ap (stores_by (kinds_before (after s) s.t h i)) carried in
          let v = stores_more s h i f.index later in
          let w : stores_at s (event s.t f.index).hart f.index ≡ stores_at s h f.index = ap (λ (y : ℕ). stores_at s y f.index) h_is in
          let k = stands.kinds.2 f.stores in
          let c = stands.carried.1 f.stores in
          let a = stands.kinds.0 in
          let k0 = k.0 in
          let k1 = k.1 in
          let c1 = c.1 in
          let c2 = c.2 in
          let touches : state.touched x ≤ p = omega (arith, t, g, q, b, t_is) in
          let binds : stores_at s (event s.t f.index).hart f.index ≤ p = omega (arith, a, k0, k1, c1, c2, t_is) in
          let bound : stores_by state.kinds state.carried ≤ p = omega (arith, u, v, w, binds) in
          omega (arith, touches, bound))
    ]

-- ---- the next store

-- what a run has done and what it was offered, up to an index from which its hart stores nothing among these
module _ (s : Setting) (k h i : ℕ) (start : Hart) (moves : List Move) (state : RunState) (runs : Runs s.image h (list s) (opening_bytes s.image) (run_start start) moves state)
    (short : length moves ≤ k) (so_far : SoFar s h start i moves state) (rest_later : (b : ℕ) → i ≤ b → (event s.t b).hart ≡ h → is_store (event s.t b) ≡ true →
    s.n < time s b) where
  before_it : (w : ℕ) → (event s.t w).hart ≡ h → is_store (event s.t w) ≡ true → time s w ≤ s.n → w < i
  before_it w here store l = elim (cases_lt w i) [
    | inl k ↦ k
    | inr k ↦ let r = rest_later w k here store in absurd (omega (arith, r, l))
  ]

  pub pays_all : Pays h (list s) moves
  pays_all p l here =
      let m = s.many in
      let total = length-take s.n (all_stores s.t s.g) in
      let f = store_at s.t s.g p s.meets.lists.once (omega (arith, m, l, total)) in
      let is : get_or (list s) p no_store ≡ told (event s.t f.index) = get_or-take s.n (all_stores s.t s.g) p no_store (omega (arith, m, l)) ∙ f.told in
      let h_is : (event s.t f.index).hart ≡ h = ap (λ (y : Stored). y.hart) (sym is) ∙ here in
      let pos = f.position in
      let t_is : time s f.index ≡ p = omega (arith, pos, m, l) in
      let paid = so_far.paid f.index (before_it f.index h_is f.stores (omega (arith, t_is, m, l))) h_is f.stores (omega (arith, t_is, m, l)) in
      (paid.0, paid.1, paid.2, paid.3 ∙ t_is)

  pub is_offered : (w : ℕ) → (event s.t w).hart ≡ h → is_store (event s.t w) ≡ true → time s w ≡ s.n →
      IsOffered k s.image h (list s) (opening_bytes s.image) start (told (event s.t w))
  is_offered w here store now =
      let o = so_far.offered w (before_it w here store (omega (arith, now))) here store now in record {
        before = o.before;
        at = o.at;
        leads = o.leads;
        offers = o.offers;
        next = o.does;
        decodes = o.decodes;
        acts = o.acts;
        stands = o.stands;
        stores = o.stores_it;
        late = o.late;
        rest = o.rest;
        state = state;
        runs = o.onward;
        pays = subst (Pays h (list s)) o.joined pays_all;
        short = (let l = ap length o.joined in omega (arith, l, short));
      }

-- the stores of each length, one after another
module _ (k : ℕ) (image : Memory) (hs : List Hart) (c : ConsoleState) (IsNode : List Stored → Type 0) (sized : AreFresh hs) (enough : length c.output + k * length hs ≤ output_room) (closed : IsClosed k image hs IsNode)
    (q : Standing) (g : List ℕ) (e : Executes image (at_start hs c) q) (meets : Allows (opening_bytes image) q g) (short : AreShort k q) where
  pub has_room : HasRoom c q
  has_room =
      let stay = harts_stay image (at_start hs c) q e in
      let few = events_few k (length q.harts) q.events short (harts_within image (at_start hs c) q e (λ i l. absurd (omega (arith, l)))) in
      let same : k * length q.harts ≡ k * length hs = ap (λ (m : ℕ). k * m) stay in
      omega (arith, few, same, enough)

  next_node : (n h w : ℕ) (start : Hart) → length (stores_of n q.events g) ≡ n → IsNode (stores_of n q.events g) → h < length hs → start ≡ get_or hs h start →
      (event q.events w).hart ≡ h → is_store (event q.events w) ≡ true → time_of n q.events g w ≡ n → IsNode (stores_of n q.events g ++ told (event q.events w) ∷ [])
  next_node n h w start many node small at here store now =
      closed.grows (stores_of n q.events g) h start (told (event q.events w)) node small at
      (elim (all_along image hs c q g e meets has_room n h start many small at (sized h start small at)) [
        | inr going ↦
            is_offered the_setting k h (length q.events) start going.moves going.state going.runs (moves_few k n h q g (length q.events) going.moves short (omega arith) going.are) going.so_far
            (λ b l wh wet. let p = within q.events b (store_is_operation (event q.events b) wet) in absurd (omega (arith, l, p))) w here store now
        | inl stuck ↦ elim stuck.breaks [
          | inl unknown ↦
              is_offered the_setting k h stuck.index start stuck.moves stuck.state stuck.runs (moves_few k n h q g stuck.index stuck.moves short stuck.within stuck.are) stuck.so_far unknown.1 w here store now
          | inr call ↦ absurd (closed.calls (stores_of n q.events g) h start node small at stuck.moves stuck.state (moves_few k n h q g stuck.index stuck.moves short stuck.within stuck.are) stuck.runs
              (may_pay the_setting h stuck.index start stuck.moves stuck.state stuck.so_far stuck.kinds stuck.carried stuck.touched) call)
        ]
      ])
    where
      the_setting : Setting
      the_setting = the image q g n (all_registers_are image hs c q e) meets many h start (length c.output) has_room

  pub nodes_all : (n : ℕ) → n ≤ length (all_stores q.events g) → IsNode (stores_of n q.events g)
  nodes_all zero l = closed.begins
  nodes_all (suc n) l =
      let many : length (stores_of n q.events g) ≡ n = let t = length-take n (all_stores q.events g) in omega (arith, t, l) in
      let f = store_at q.events g n meets.lists.once (omega (arith, l)) in
      let w_in = within q.events f.index (store_is_operation (event q.events f.index) f.stores) in
      let stay = harts_stay image (at_start hs c) q e in
      let small = harts_within image (at_start hs c) q e (λ i l. absurd (omega (arith, l))) f.index w_in in
      let start = hart_in hs (event q.events f.index).hart (omega (arith, small, stay)) in
      let pos = f.position in
      let now : time_of n q.events g f.index ≡ n = omega (arith, pos) in
      let grown = next_node n (event q.events f.index).hart f.index start.0 many (nodes_all n (omega (arith, l))) (omega (arith, small, stay)) start.1 refl f.stores now in
      subst IsNode (sym (take-suc (all_stores q.events g) n no_store (omega (arith, l)) ∙ ap (λ (y : Stored). stores_of n q.events g ++ y ∷ []) f.told)) grown

pub closed_have_all : ClosedListsHaveAll
closed_have_all k image hs c is_node sized enough closed q g e meets short n many =
    nodes_all k image hs c (λ (m : List Stored). is_node m ≡ true) sized enough closed q g e meets short n (let t = length-take n (all_stores q.events g) in omega (arith, t, many))
