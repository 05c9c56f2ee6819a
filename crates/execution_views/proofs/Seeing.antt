-- The source of a byte that is seen at the moment of a load is that of the load value axiom.
use Rattle.std.proofs.Common.{◌≡◌, ℕ, zero, suc, ◌<◌, ◌≤◌, ◌==◌, ◌&&◌, ◌||◌, ◌≢◌, get_or, Bool, true, false, if◌then◌else◌, nat_lt, List, length, slice_index, option_map, Option, Some, None, refl, sym, ap, subst, ◌∙◌, inl, inr, arith}
use Rattle.std.specs.List.{AllPairs}
use Rattle.std.proofs.lemmas.Bool.{and_from, and_parts, cases_lt, cases_order, eq-eqb, eqb-true, lt-ltb, ltb-true, or_cases, or_left, or_right}
use Rattle.round_schedule.specs.declared.event.Event.{Event}
use Rattle.round_schedule.specs.Positions.{IsLatest, event, source_byte, writes_at}
use Rattle.memory_order.specs.Operations.{is_operation}
use Rattle.memory_order.specs.Orders.{ListsOperations, order_position}
use Rattle.memory_order.specs.Rvwmo.{IsSource, MaySee}
use Rattle.memory_order.proofs.Facts.{within}
use Rattle.memory_order.proofs.Placing.{position_found, position_of_contained}
use Rattle.memory_order.proofs.Sources.{load_at, one_source, store_at}
use Rattle.byte_sources.specs.Sources.{last_below}
use Rattle.byte_sources.proofs.Firsts.{first_found}
use Rattle.execution_views.specs.declared.moment.Moment.{Moment}
use Rattle.execution_views.specs.Moments.{byte_at, is_next_of, may_read, moment_of, next_operation, position_of, source_at}
use Rattle.execution_views.specs.Laws.{LoadsReadWhatIsSeen}

-- ---- the last number below a bound that passes

abbrev Passes : (ℕ → Bool) → ℕ → ℕ → Type 0
Passes test n w = (w < n) × (test w ≡ true)

differ : (b : Bool) → b ≡ true → b ≡ false → ⊥
differ b t f = cc

lowered : (test : ℕ → Bool) (n : ℕ) → test n ≡ false → (w : ℕ) → Passes test (suc n) w → Passes test n w
lowered test n e w p = elim (cases_lt w n) [
  | inl l ↦ (l, p.1)
  | inr m ↦ let q : w ≡ n = omega (arith, p.0) in absurd (differ (test w) p.1 (ap test q ∙ e))
]

raised : (test : ℕ → Bool) (n : ℕ) → test n ≡ false → (s : Option ℕ) → IsLatest (λ w. w) (Passes test n) s → IsLatest (λ w. w) (Passes test (suc n)) s
raised test n e None h = λ w p. h w (lowered test n e w p)
raised test n e (Some v) h = ((omega (arith, h.0.0), h.0.1), λ w p. h.1 w (lowered test n e w p))

last_step : (test : ℕ → Bool) (n : ℕ) (s : Option ℕ) → IsLatest (λ w. w) (Passes test n) s → (b : Bool) → test n ≡ b →
    IsLatest (λ w. w) (Passes test (suc n)) (if b then Some n else s)
last_step test n s h true e = ((omega arith, e), λ w p. omega (arith, p.0))
last_step test n s h false e = raised test n e s h

last_is_latest : (test : ℕ → Bool) (n : ℕ) → IsLatest (λ w. w) (Passes test n) (last_below test n)
last_is_latest test zero = λ w p. absurd (omega (arith, p.0))
last_is_latest test (suc n) = last_step test n (last_below test n) (last_is_latest test n) (test n) refl

-- ---- the moment of a load

next_is_itself : (t : List Event) (r : ℕ) → is_operation (event t r) ≡ true → next_operation t r ≡ Some r
next_is_itself t r h =
    sym (first_found (is_next_of t r) r (length t) (next_operation t r) refl (within t r h) (and_from ((event t r).hart == (event t r).hart) (is_operation (event t r)) (eq-eqb (event t r).hart (event t r).hart refl) h))

abbrev load_moment : List Event → List ℕ → ℕ → Moment
load_moment t g r = record { hart = (event t r).hart; index = r; position = order_position g r }

moment_is : (t : List Event) (g : List ℕ) (r : ℕ) → is_operation (event t r) ≡ true → moment_of t g r ≡ load_moment t g r
moment_is t g r h = ap (λ (o : Option ℕ). record { hart = (event t r).hart; index = r; position = position_of g o }) (next_is_itself t r h)

-- an order that lists each index once has at each position the index of that position
position_at : (g : List ℕ) → AllPairs (λ a b. a ≢ b) g → (k : ℕ) → k < length g → order_position g (get_or g k 0) ≡ k
position_at g once k l =
    let f = position_found g (get_or g k 0) k l refl in
    elim (cases_order (order_position g (get_or g k 0)) k) [
      | inl e ↦ e
      | inr o ↦ elim o [
        | inl b ↦ absurd (once (order_position g (get_or g k 0)) k 0 b l f.1)
        | inr a ↦ absurd (once k (order_position g (get_or g k 0)) 0 a f.0 (sym f.1))
      ]
    ]

-- ---- what may be read there is what the load may see

abbrev near : List Event → List ℕ → ℕ → ℕ → ℕ → Bool
near t g r p w = nat_lt p (order_position g r) || (nat_lt w r && ((event t w).hart == (event t r).hart))

read_from_seen : (t : List Event) (g : List ℕ) (r x p w : ℕ) → p ≡ order_position g w → slice_index g p ≡ w → MaySee t (order_position g) r x w → may_read t g (load_moment t g r) x p ≡ true
read_from_seen t g r x p w at is see =
    subst (λ (v : ℕ). (writes_at t v x && near t g r p v) ≡ true) (sym is)
    (and_from (writes_at t w x) (near t g r p w) see.0
    (elim see.1 [
      | inl before ↦ or_left (nat_lt p (order_position g r)) (nat_lt w r && ((event t w).hart == (event t r).hart)) (lt-ltb p (order_position g r) (omega (arith, before, at)))
      | inr own ↦
          or_right (nat_lt p (order_position g r)) (nat_lt w r && ((event t w).hart == (event t r).hart))
          (and_from (nat_lt w r) ((event t w).hart == (event t r).hart) (lt-ltb w r own.earlier) (eq-eqb (event t w).hart (event t r).hart own.same_hart))
    ]))

seen_from_read : (t : List Event) (g : List ℕ) (r x p : ℕ) → order_position g (slice_index g p) ≡ p → may_read t g (load_moment t g r) x p ≡ true → MaySee t (order_position g) r x (slice_index g p)
seen_from_read t g r x p at may =
    let w = slice_index g p in
    let two = and_parts (writes_at t w x) (near t g r p w) may in (
      two.0,
      elim (or_cases (nat_lt p (order_position g r)) (nat_lt w r && ((event t w).hart == (event t r).hart)) two.1) [
        | inl before ↦ inl (let l = ltb-true p (order_position g r) before in omega (arith, l, at))
        | inr own ↦
            let both = and_parts (nat_lt w r) ((event t w).hart == (event t r).hart) own in
            inr (record { earlier = ltb-true w r both.0; same_hart = eqb-true (event t w).hart (event t r).hart both.1 })
      ],
    )

is_source : (t : List Event) (g : List ℕ) (r x : ℕ) → ListsOperations t g → (o : Option ℕ) →
    IsLatest (λ w. w) (Passes (may_read t g (load_moment t g r) x) (length g)) o → IsSource t (order_position g) r x (option_map (slice_index g) o)
is_source t g r x lists None h = λ w see.
    let f = position_of_contained g w (lists.each w (store_at t w x see.0)) in
    h (order_position g w) (f.0, read_from_seen t g r x (order_position g w) w refl f.1 see)
is_source t g r x lists (Some p) h =
    let at : order_position g (slice_index g p) ≡ p = position_at g lists.once p h.0.0 in (
      seen_from_read t g r x p at h.0.1,
      λ v see.
          let f = position_of_contained g v (lists.each v (store_at t v x see.0)) in
          let l : order_position g v ≤ p = h.1 (order_position g v) (f.0, read_from_seen t g r x (order_position g v) v refl f.1 see) in
          omega (arith, l, at),
    )

pub read_seen : LoadsReadWhatIsSeen
read_seen t opening g lists value r x reads =
    let m = load_moment t g r in
    let read = value r x reads in
    ap (λ (n : Moment). byte_at t opening g n x) (moment_is t g r (load_at t r x reads))
    ∙ ap (source_byte t opening x) (one_source t g r x (source_at t g m x) read.0 lists (is_source t g r x lists (last_below (may_read t g m x) (length g)) (last_is_latest (may_read t g m x) (length g))) read.1)
    ∙ sym read.2
