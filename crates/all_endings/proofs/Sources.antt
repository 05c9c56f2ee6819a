-- What a load reads, in times.
use Rattle.std.proofs.Common.{◌≡◌, ◌≢◌, ℕ, zero, suc, ◌+◌, ◌<◌, ◌≤◌, ◌↔◌, ◌⊎◌, ◌&&◌, ◌||◌, Bool, true, false, if◌then◌else◌, List, [], ◌∷◌, length, map, filter, get_or, get_or-take, Option, Some, None, refl, sym, ap, ◌∙◌, subst, inl, inr, arith}
use Rattle.std.proofs.lemmas.Bool.{and_parts, cases_Bool, cases_lt}
use Rattle.round_schedule.specs.declared.event.Event.{Event}
use Rattle.round_schedule.specs.Accesses.{is_sc, byte_read}
use Rattle.round_schedule.specs.Positions.{ProgramBefore, event, source_byte, writes_at}
use Rattle.memory_order.specs.Operations.{is_amo, is_operation, is_store}
use Rattle.memory_order.specs.Orders.{order_position}
use Rattle.memory_order.specs.Rvwmo.{IsSource, Rule, dependent, overlapping-store, returns-atomic}
use Rattle.memory_order.specs.Dependencies.{DependencyRule, by-forwarding, registers_at}
use Rattle.memory_order.proofs.Bounding.{max_below}
use Rattle.rule_checker.specs.CarriedBounds.{operand_bound}
use Rattle.rule_checker.proofs.Carrying.{operands_are, rule_before}
use Rattle.std.specs.List.{AllPairs}
use Rattle.memory_order.proofs.Facts.{store_is_operation}
use Rattle.memory_order.proofs.Placing.{position_found, position_of_contained}
use Rattle.memory_order.proofs.Sources.{load_at}
use Rattle.all_endings.specs.StoreLists.{Stored, byte_at, byte_in, has_byte, last_place, no_store, stores_of, told}
use Rattle.all_endings.specs.Sources.{IsRemembered, IsForwarded, LoadsReadInTime, PreservedInTime}
use Rattle.all_endings.specs.Times.{carried_before, stores_before, time_after, time_of, timed}
use Rattle.all_endings.proofs.StoreLists.{stands_at, store_counts, stores_stand}
use Rattle.all_endings.proofs.Times.{carried_at, carried_below, operands_below, stores_rise, timed_rises}

pub preserved_in_time : PreservedInTime
preserved_in_time is t opening g meets n a b oa ob before rule =
    let l = meets.preserved a b oa ob before rule in
    timed_rises n t g (order_position g a + 1) (order_position g b) (omega (arith, l))

-- ---- the last of the first stores that writes a byte

last_is : (m : List Stored) (x T p : ℕ) → p < T → has_byte (get_or m p no_store) x ≡ true →
    ((j : ℕ) → p < j → j < T → has_byte (get_or m j no_store) x ≡ true → ⊥) → last_place m x T ≡ suc p
last_is m x zero p l w none = absurd (omega (arith, l))
last_is m x (suc T) p l w none = by_test (has_byte (get_or m T no_store) x) refl (λ k. last_is m x T p k w (λ j a b. none j a (omega (arith, b))))
  where
    by_test : (b : Bool) → has_byte (get_or m T no_store) x ≡ b → (p < T → last_place m x T ≡ suc p) → (if b then suc T else last_place m x T) ≡ suc p
    by_test true e rest = elim (cases_lt p T) [
      | inl k ↦ absurd (none T k (omega arith) e)
      | inr k ↦ omega (arith, k, l)
    ]
    by_test false e rest = elim (cases_lt p T) [
      | inl k ↦ rest k
      | inr k ↦ let s : p ≡ T = omega (arith, k, l) in let w : has_byte (get_or m T no_store) x ≡ true = ap (λ i. has_byte (get_or m i no_store) x) (sym s) ∙ w in absurd (cc)
    ]

none_is : (m : List Stored) (x T : ℕ) → ((j : ℕ) → j < T → has_byte (get_or m j no_store) x ≡ true → ⊥) → last_place m x T ≡ 0
none_is m x zero none = refl
none_is m x (suc T) none = by_test (has_byte (get_or m T no_store) x) refl (none_is m x T (λ j l. none j (omega (arith, l))))
  where
    by_test : (b : Bool) → has_byte (get_or m T no_store) x ≡ b → last_place m x T ≡ 0 → (if b then suc T else last_place m x T) ≡ 0
    by_test true e rest = absurd (none T (omega arith) e)
    by_test false e rest = rest

-- ---- each place below a position's time has a store of the order, before the position

pub place_of_time : (t : List Event) (g : List ℕ) (p j : ℕ) → j < stores_before t g p →
    (k : ℕ) × (k < p) × (k < length g) × (is_store (event t (get_or g k 0)) ≡ true) × (stores_before t g k ≡ j)
place_of_time t [] p j l = absurd (omega (arith, l))
place_of_time t (a ∷ g) zero j l = absurd (omega (arith, l))
place_of_time t (a ∷ g) (suc p) j l = by_test (is_store (event t a)) refl j l (λ i r. place_of_time t g p i r)
  where
    Found : ℕ → Type 0
    Found j = (k : ℕ) × (k < suc p) × (k < length (a ∷ g)) × (is_store (event t (get_or (a ∷ g) k 0)) ≡ true) × (stores_before t (a ∷ g) k ≡ j)

    Inner : ℕ → Type 0
    Inner i = (k : ℕ) × (k < p) × (k < length g) × (is_store (event t (get_or g k 0)) ≡ true) × (stores_before t g k ≡ i)

    more : (b : Bool) → is_store (event t a) ≡ b → (i : ℕ) → Inner i → Found ((if b then 1 else 0) + i)
    more b e i f = (suc f.0, omega (arith, f.1), omega (arith, f.2), f.3, ap (λ c. (if c then 1 else 0) + stores_before t g f.0) e ∙ ap (λ y. (if b then 1 else 0) + y) f.4)

    by_test : (b : Bool) → is_store (event t a) ≡ b → (j : ℕ) → j < (if is_store (event t a) then 1 else 0) + stores_before t g p →
        ((i : ℕ) → i < stores_before t g p → Inner i) → Found j
    by_test true e zero l rest = (0, omega arith, omega arith, e, refl)
    by_test true e (suc j) l rest =
        let o : (if is_store (event t a) then 1 else 0) + stores_before t g p ≡ 1 + stores_before t g p = ap (λ c. (if c then 1 else 0) + stores_before t g p) e in
        subst Found (let q : 1 + j ≡ suc j = omega arith in q) (more true e j (rest j (omega (arith, l, o))))
    by_test false e j l rest =
        let o : (if is_store (event t a) then 1 else 0) + stores_before t g p ≡ 0 + stores_before t g p = ap (λ c. (if c then 1 else 0) + stores_before t g p) e in
        subst Found (let q : 0 + j ≡ j = omega arith in q) (more false e j (rest j (omega (arith, l, o))))

-- an index that the order has once is found where it stands
pub once_at : (g : List ℕ) (k : ℕ) → k < length g → AllPairs (λ a b. a ≢ b) g → order_position g (get_or g k 0) ≡ k
once_at g k l once =
    let f = position_found g (get_or g k 0) k l refl in
    elim (cases_lt (order_position g (get_or g k 0)) k) [
      | inl a ↦ absurd (once (order_position g (get_or g k 0)) k 0 a l f.1)
      | inr a ↦ elim (cases_lt k (order_position g (get_or g k 0))) [
        | inl b ↦ absurd (once k (order_position g (get_or g k 0)) 0 b f.0 (sym f.1))
        | inr b ↦ omega (arith, a, b)
      ]
    ]

pub both : (p q : Bool) → p ≡ true → q ≡ true → (p && q) ≡ true
both true q e d = d
both false q e d = absurd (cc)

-- ---- a load

pub loads_read : LoadsReadInTime
loads_read is t opening g fit meets n b x read known =
    let s = meets.load_value b x read in
    (s.0, s.1, by_source s.0 s.1 s.2)
  where
    pos : ℕ → ℕ
    pos = order_position g

    m : List Stored
    m = stores_of n t g

    T : ℕ
    T = time_of n t g b

    storing : (w : ℕ) → writes_at t w x ≡ true → is_store (event t w) ≡ true
    storing w wr = (and_parts (is_store (event t w)) _ wr).0

    after_store : (w : ℕ) → is_store (event t w) ≡ true → time_after n t g w ≤ n → time_after n t g w ≡ suc (time_of n t g w)
    after_store w s l =
        let f = position_of_contained g w (meets.lists.each w (store_is_operation (event t w) s)) in
        let e : pos w + 1 ≡ suc (pos w) = omega arith in
        let c = ap (stores_before t g) e ∙ store_counts t g (pos w) f.0 (ap (λ i. is_store (event t i)) f.1 ∙ s) in
        omega (arith, c, l)

    compare : (w : ℕ) → writes_at t w x ≡ true → (pos w < pos b) ↔ (time_after n t g w ≤ T)
    compare w wr = (stores_stand t g meets.lists n w (storing w wr)).1 b known

    -- a place below the load's time has a store that stands before the load in the order
    store_below : (j : ℕ) → j < T → has_byte (get_or m j no_store) x ≡ true → (k : ℕ) × (k < pos b) × (stores_before t g k ≡ j) × (writes_at t (get_or g k 0) x ≡ true)
    store_below j l wr =
        let f = place_of_time t g (pos b) j (omega (arith, l)) in
        let at : get_or m j no_store ≡ told (event t (get_or g f.0 0)) =
        get_or-take n (map (λ i. told (event t i)) (filter (λ i. is_store (event t i)) g)) j no_store (omega (arith, l, known))
        ∙ ap (λ i. get_or (map (λ i. told (event t i)) (filter (λ i. is_store (event t i)) g)) i no_store) (sym f.4) ∙ stands_at t g f.0 f.2 f.3 in
        (f.0, f.1, f.4, both (is_store (event t (get_or g f.0 0))) (has_byte (told (event t (get_or g f.0 0))) x) f.3 (sym (ap (λ (e : Stored). has_byte e x) at) ∙ wr))

    -- the store at a position of the order is at that position
    found : (k : ℕ) → k < pos b → pos b < length g → order_position g (get_or g k 0) ≡ k
    found k l i = once_at g k (omega (arith, l, i)) meets.lists.once

    reading : is_operation (event t b) ≡ true
    reading = load_at t b x read

    before_load : (w : ℕ) → writes_at t w x ≡ true → ProgramBefore t w b → Rule (DependencyRule is t pos) t pos w b → pos w < pos b
    before_load w wr before rule = meets.preserved w b (store_is_operation (event t w) (storing w wr)) reading before rule

    inside : pos b < length g
    inside = (position_of_contained g b (meets.lists.each b (load_at t b x read))).0

    by_source : (s : Option ℕ) → IsSource t pos b x s → byte_read (event t b).access x ≡ source_byte t opening x s →
        ((w : ℕ) × (s ≡ Some w) × IsForwarded n is t g b x w) ⊎ IsRemembered n t opening g b x s
    by_source None source byte =
        let none : last_place m x T ≡ 0 = none_is m x T (λ j l wr.
        let f = store_below j l wr in
        source (get_or g f.0 0) (f.3, inl (let e = found f.0 f.1 inside in let k = f.1 in omega (arith, e, k)))) in
        inr (record {
          past = λ v own. absurd (source v (own.0, inr own.1));
          place = none;
          byte = byte ∙ sym (ap (byte_at m opening x) none);
        })
    by_source (Some w) source byte = elim (cases_lt (pos w) (pos b)) [
      | inl l ↦
          let after = (compare w source.0.0).0 l in
          let counts : time_after n t g w ≡ suc (time_of n t g w) = after_store w (storing w source.0.0) (omega (arith, after, known)) in
          let at : get_or m (time_of n t g w) no_store ≡ told (event t w) = (stores_stand t g meets.lists n w (storing w source.0.0)).0 (omega (arith, after, counts, known)) in
          let last : last_place m x T ≡ suc (time_of n t g w) =
          last_is m x T (time_of n t g w) (omega (arith, after, counts)) (ap (λ (e : Stored). has_byte e x) at ∙ (and_parts (is_store (event t w)) _ source.0.0).1)
          (λ j above below wr.
          let f = store_below j below wr in
          let e = found f.0 f.1 inside in
          let k = f.1 in
          let earlier = source.1 (get_or g f.0 0) (f.3, inl (omega (arith, e, k))) in
          let low = stores_rise t g f.0 (pos w) (omega (arith, e, earlier)) in
          let same = f.2 in
          omega (arith, above, low, same, below, known)) in
          inr (record {
            past = λ v own. let p = source.1 v (own.0, inr own.1) in (compare v own.0).0 (omega (arith, p, l));
            place = last ∙ sym counts;
            byte = byte ∙ sym (ap (byte_at m opening x) last ∙ ap (λ (e : Stored). byte_in e x) at);
          })
      | inr l ↦ inl (
        w,
        refl,
        record {
          own = (source.0.0, own_of source.0.1 l);
          last = λ v own. elim (cases_lt w v) [
            | inl k ↦
                let r = meets.preserved w v (store_is_operation (event t w) (storing w source.0.0)) (store_is_operation (event t v) (storing v own.0))
                (record { earlier = k; same_hart = (own_of source.0.1 l).same_hart ∙ sym own.1.same_hart })
                (overlapping-store x (storing v own.0) (and_parts (is_store (event t w)) _ source.0.0).1 (and_parts (is_store (event t v)) _ own.0).1) in
                let p = source.1 v (own.0, inr own.1) in
                absurd (omega (arith, r, p))
            | inr k ↦ k
          ];
          behind = elim (cases_lt T (time_after n t g w)) [ inl k ↦ k | inr k ↦ absurd (let q = (compare w source.0.0).1 k in omega (arith, q, l)) ];
          byte = byte;
          plain = elim (cases_Bool (is_amo (event t w).access || is_sc (event t w).access)) [
            | inl atomic ↦ let q = before_load w source.0.0 (own_of source.0.1 l) (returns-atomic x atomic read source) in absurd (omega (arith, q, l))
            | inr plain ↦ plain
          ];
          needs =
              let h : ℕ = (event t w).hart in
              let low = operands_below (timed n t g) (timed_rises n t g) _ _ (registers_at is w) (fit w) (carried_below (timed n t g) (timed_rises n t g) is t pos fit h w) in
              let high = timed_rises n t g (operand_bound (carried_before (λ j. pos j + 1) is t h w) (registers_at is w)) (pos b)
              (max_below pos _ (operand_bound (carried_before (λ j. pos j + 1) is t h w) (registers_at is w)) (pos b)
              (operands_are is t pos h w (carried_before (λ j. pos j + 1) is t h w) (registers_at is w) (fit w) (carried_at is t pos fit w h))
              (λ a d. let r : DependencyRule is t pos a b = by-forwarding w x (own_of source.0.1 l) d.1 read source in
              meets.preserved a b d.0 reading (rule_before is t pos a b r) (dependent r))) in
              omega (arith, low, high);
        },
      )
    ]
      where
        own_of : (pos w < pos b) ⊎ ProgramBefore t w b → pos b ≤ pos w → ProgramBefore t w b
        own_of (inl a) l = absurd (omega (arith, a, l))
        own_of (inr p) l = p
