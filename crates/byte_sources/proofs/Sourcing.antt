-- The sources are those of the load value axiom.
use Rattle.std.proofs.Common.{◌≡◌, ℕ, zero, suc, ◌+◌, ◌-◌, ◌<◌, ◌≤◌, ◌==◌, ◌&&◌, ◌||◌, Bool, true, false, if◌then◌else◌, nat_le, nat_lt, List, [], ◌∷◌, map, Option, Some, None, refl, sym, ap, ◌∙◌, subst, inl, inr, arith}
use Rattle.std.specs.List.{list_any, range_with_len}
use Rattle.std.proofs.lemmas.Bool.{cases_lt, eq-eqb, eqb-true, leb-true, ltb-true}
use Rattle.std.proofs.lemmas.Bool.Decides.{nat_tests}
use Rattle.pages.specs.Memory.{in_range}
use Rattle.round_schedule.specs.declared.event.Event.{Event}
use Rattle.round_schedule.specs.Accesses.{address_of, bytes_of, loads, stores}
use Rattle.round_schedule.specs.Events.{is_serial}
use Rattle.round_schedule.specs.Positions.{IsLatest, event, reads_at, writes_at}
use Rattle.round_schedule.specs.RoundTrace.{IsRoundTrace, SeenInParallel, SeenInSerial}
use Rattle.memory_order.specs.Operations.{covers, is_store}
use Rattle.memory_order.specs.Orders.{order_position}
use Rattle.memory_order.specs.RoundOrder.{IsRoundOrder}
use Rattle.memory_order.specs.Rvwmo.{IsSource}
use Rattle.memory_order.proofs.Facts.{and_left, and_right, or_cases, or_left, or_right, store_is_operation, within}
use Rattle.memory_order.proofs.Placing.{goes_by_rank}
use Rattle.memory_order.proofs.RoundOrders.{parallel_source, serial_source}
use Rattle.memory_order.proofs.Sources.{one_source}
use Rattle.byte_sources.specs.Laws.{ArrowsMeetAxiom, ReadsFrom, SourcesMeetAxiom}
use Rattle.byte_sources.specs.Sources.{gives, is_opening, is_index, last_below, sees, source, sources}

-- ---- the last number below a bound

abbrev Passes : (ℕ → Bool) → ℕ → ℕ → Type 0
Passes test n w = (w < n) × (test w ≡ true)

differ : (b : Bool) → b ≡ true → b ≡ false → ⊥
differ b t f = cc

lowered : (test : ℕ → Bool) (n : ℕ) → test n ≡ false → (w : ℕ) → Passes test (suc n) w → Passes test n w
lowered test n e w p = elim (cases_lt w n) [
  | inl l ↦ (l, p.1)
  | inr m ↦ let q : w ≡ n = omega (arith, p.0) in let f : test w ≡ false = ap test q ∙ e in absurd (differ (test w) p.1 f)
]

-- a latest one below n is the latest below n + 1 too, where n does not pass
raised : (test : ℕ → Bool) (n : ℕ) → test n ≡ false → (s : Option ℕ) → IsLatest (λ w. w) (Passes test n) s → IsLatest (λ w. w) (Passes test (suc n)) s
raised test n e None h = λ w p. h w (lowered test n e w p)
raised test n e (Some v) h = ((omega (arith, h.0.0), h.0.1), λ w p. h.1 w (lowered test n e w p))

last_step : (test : ℕ → Bool) (n : ℕ) (s : Option ℕ) → IsLatest (λ w. w) (Passes test n) s → (b : Bool) → test n ≡ b →
    IsLatest (λ w. w) (Passes test (suc n)) (if b then Some n else s)
last_step test n s h true e = ((omega arith, e), λ w p. omega (arith, p.0))
last_step test n s h false e = raised test n e s h

last_is_latest : (test : ℕ → Bool) (n : ℕ) → IsLatest (λ w. w) (Passes test n) (last_below test n)
last_is_latest test zero = λ w p. absurd (omega (arith, p.0))
last_is_latest test (suc n) = last_step test n (last_below test n) (last_is_latest test n) (test n) refl

-- what holds of the same numbers has the same latest ones
same_latest : (P Q : ℕ → Type 0) → ((w : ℕ) → P w → Q w) → ((w : ℕ) → Q w → P w) → (s : Option ℕ) → IsLatest (λ w. w) P s → IsLatest (λ w. w) Q s
same_latest P Q to from None h = λ w q. h w (from w q)
same_latest P Q to from (Some w) h = (to w h.0, λ v q. h.1 v (from v q))

-- ---- what a load may see

stores_at : (t : List Event) (w x : ℕ) → writes_at t w x ≡ true → is_store (event t w) ≡ true
stores_at t w x h = and_left (stores (event t w).access) (covers (event t w).access x) h

-- a store of an earlier round stands before the load
earlier_round : (t : List Event) (opening : ℕ → ℕ) (budget : ℕ) → IsRoundTrace t opening budget → (r x w : ℕ) → writes_at t w x ≡ true →
    (event t w).round < (event t r).round → w < r
earlier_round t opening budget i r x w h l = elim (cases_lt w r) [
  | inl b ↦ b
  | inr b ↦ elim (cases_lt r w) [
    | inl c ↦ let f = i.in_order r w c (within t w (store_is_operation (event t w) (stores_at t w x h))) in absurd (omega (arith, f.rounds, l))
    | inr c ↦ let e : w ≡ r = omega arith in let same = ap (λ k. (event t k).round) e in absurd (omega (arith, l, same))
  ]
]

lt_test : (a b : ℕ) → a < b → nat_lt a b ≡ true
lt_test a b l = grind (arith, nat_tests)

lt_from_test : (a b : ℕ) → nat_lt a b ≡ true → a < b
lt_from_test a b e = ltb-true a b e

eq_test : (a b : ℕ) → a ≡ b → (a == b) ≡ true
eq_test a b e = eq-eqb a b e

eq_from_test : (a b : ℕ) → (a == b) ≡ true → a ≡ b
eq_from_test a b e = eqb-true a b e

pub both : (a b : Bool) → a ≡ true → b ≡ true → (a && b) ≡ true
both true b e f = f
both false b e f = e

given_in_parallel : (t : List Event) (opening : ℕ → ℕ) (budget : ℕ) → IsRoundTrace t opening budget → (r x w : ℕ) →
    SeenInParallel t r x w → Passes (gives t (event t r) x) r w
given_in_parallel t opening budget i r x w seen = elim seen.1 [
  | inl l ↦ (
    earlier_round t opening budget i r x w seen.0 l,
    both (writes_at t w x) (sees (event t r) (event t w)) seen.0
        (or_left (is_serial (event t r).phase || nat_lt (event t w).round (event t r).round) ((event t w).hart == (event t r).hart)
        (or_right (is_serial (event t r).phase) (nat_lt (event t w).round (event t r).round) (lt_test _ _ l))),
  )
  | inr b ↦ (
    b.earlier,
    both (writes_at t w x) (sees (event t r) (event t w)) seen.0
        (or_right (is_serial (event t r).phase || nat_lt (event t w).round (event t r).round) ((event t w).hart == (event t r).hart) (eq_test _ _ b.same_hart)),
  )
]

seen_in_parallel : (t : List Event) (r x w : ℕ) → is_serial (event t r).phase ≡ false → Passes (gives t (event t r) x) r w → SeenInParallel t r x w
seen_in_parallel t r x w phase p = (
  and_left (writes_at t w x) (sees (event t r) (event t w)) p.1,
  elim (or_cases (is_serial (event t r).phase || nat_lt (event t w).round (event t r).round) ((event t w).hart == (event t r).hart)
      (and_right (writes_at t w x) (sees (event t r) (event t w)) p.1)) [
        | inl a ↦ inl (lt_from_test (event t w).round (event t r).round (unless_serial (is_serial (event t r).phase) (nat_lt (event t w).round (event t r).round) phase a))
        | inr b ↦ inr (record { earlier = p.0; same_hart = eq_from_test (event t w).hart (event t r).hart b })
      ],
)
  where
    unless_serial : (s b : Bool) → s ≡ false → (s || b) ≡ true → b ≡ true
    unless_serial true b e h = cc
    unless_serial false b e h = h

given_in_serial : (t : List Event) (r x w : ℕ) → is_serial (event t r).phase ≡ true → SeenInSerial t r x w → Passes (gives t (event t r) x) r w
given_in_serial t r x w phase seen = (
  seen.1,
  both (writes_at t w x) (sees (event t r) (event t w)) seen.0
      (or_left (is_serial (event t r).phase || nat_lt (event t w).round (event t r).round) ((event t w).hart == (event t r).hart)
      (or_left (is_serial (event t r).phase) (nat_lt (event t w).round (event t r).round) phase)),
)

seen_in_serial : (t : List Event) (r x w : ℕ) → Passes (gives t (event t r) x) r w → SeenInSerial t r x w
seen_in_serial t r x w p = (and_left (writes_at t w x) (sees (event t r) (event t w)) p.1, p.0)

-- ---- the source

pub source_meets : (t : List Event) (opening : ℕ → ℕ) (budget : ℕ) → IsRoundTrace t opening budget → (g : List ℕ) → IsRoundOrder t g →
    (r x : ℕ) → reads_at t r x ≡ true → IsSource t (order_position g) r x (source t r x)
unfolding source
source_meets t opening budget i g o r x h = by_phase (is_serial (event t r).phase) refl
  where
    found : IsLatest (λ w. w) (Passes (gives t (event t r) x) r) (last_below (gives t (event t r) x) r)
    found = last_is_latest (gives t (event t r) x) r

    by_phase : (b : Bool) → is_serial (event t r).phase ≡ b → IsSource t (order_position g) r x (last_below (gives t (event t r) x) r)
    by_phase true s = serial_source t opening budget (order_position g) i (goes_by_rank t g o) r x h s (last_below (gives t (event t r) x) r)
        (same_latest (Passes (gives t (event t r) x) r) (SeenInSerial t r x) (seen_in_serial t r x) (λ w q. given_in_serial t r x w s q) (last_below (gives t (event t r) x) r) found)
    by_phase false s = parallel_source t opening budget (order_position g) i (goes_by_rank t g o) r x h s (last_below (gives t (event t r) x) r)
        (same_latest (Passes (gives t (event t r) x) r) (SeenInParallel t r x) (λ w p. seen_in_parallel t r x w s p) (given_in_parallel t opening budget i r x) (last_below (gives t (event t r) x) r) found)

pub sources_meet : SourcesMeetAxiom
sources_meet t opening budget i g o r x h s = (to, from)
  where
    to : source t r x ≡ s → IsSource t (order_position g) r x s
    to e = let P : Option ℕ → Type 0 = λ u. IsSource t (order_position g) r x u in subst P e (source_meets t opening budget i g o r x h)

    from : IsSource t (order_position g) r x s → source t r x ≡ s
    from k = one_source t g r x (source t r x) s o.lists (source_meets t opening budget i g o r x h) k

-- ---- the sources of all bytes

any_of_map : {A B : Type 0} (p : B → Bool) (f : A → B) (xs : List A) → list_any p (map f xs) ≡ list_any (λ x. p (f x)) xs
any_of_map p f [] = refl
any_of_map p f (x ∷ xs) = ap (λ b. p (f x) || b) (any_of_map p f xs)

-- some number of a range passes
any_from_range : (p : ℕ → Bool) (a n : ℕ) → list_any p (range_with_len a n) ≡ true → (x : ℕ) × (a ≤ x) × (x < a + n) × (p x ≡ true)
any_from_range p a zero h = cc
any_from_range p a (suc n) h = elim (or_cases (p a) (list_any p (range_with_len (a + 1) n)) h) [
  | inl e ↦ (a, omega arith, omega arith, e)
  | inr e ↦ let k = any_from_range p (a + 1) n e in (k.0, omega (arith, k.1), omega (arith, k.2), k.3)
]

pub any_in_range : (p : ℕ → Bool) (a n x : ℕ) → a ≤ x → x < a + n → p x ≡ true → list_any p (range_with_len a n) ≡ true
any_in_range p a zero x l m h = absurd (omega arith)
any_in_range p a (suc n) x l m h = elim (cases_lt a x) [
  | inl k ↦ or_right (p a) (list_any p (range_with_len (a + 1) n)) (any_in_range p (a + 1) n x (omega arith) (omega arith) h)
  | inr k ↦ let e : x ≡ a = omega arith in or_left (p a) (list_any p (range_with_len (a + 1) n)) (sym (ap p e) ∙ h)
]

in_range_test : (a n x : ℕ) → a ≤ x → x < a + n → in_range a n x ≡ true
in_range_test a n x l m = grind (arith, nat_tests)

in_range_from : (a n x : ℕ) → in_range a n x ≡ true → (a ≤ x) × (x < a + n)
in_range_from a n x h = (leb-true a x (and_left (nat_le a x) (nat_lt x (a + n)) h), ltb-true x (a + n) (and_right (nat_le a x) (nat_lt x (a + n)) h))

-- some source of an event passes exactly where some byte that it reads has such a source
any_source : (p : Option ℕ → Bool) (t : List Event) (r : ℕ) → list_any p (sources t r) ≡ true → (x : ℕ) × (reads_at t r x ≡ true) × (p (source t r x) ≡ true)
unfolding sources
any_source p t r h = by_kind (loads (event t r).access) refl h
  where
    a : ℕ
    a = address_of (event t r).access

    n : ℕ
    n = bytes_of (event t r).access

    by_kind : (b : Bool) → loads (event t r).access ≡ b → list_any p (if b then map (source t r) (range_with_len a ((a + n) - a)) else []) ≡ true →
        (x : ℕ) × (reads_at t r x ≡ true) × (p (source t r x) ≡ true)
    by_kind false e k = cc
    by_kind true e k =
        let f = any_from_range (λ x. p (source t r x)) a ((a + n) - a) (sym (any_of_map p (source t r) (range_with_len a ((a + n) - a))) ∙ k) in
        (f.0, both (loads (event t r).access) (in_range a n f.0) e (in_range_test a n f.0 f.1 (omega (arith, f.2))), f.3)

source_is_any : (p : Option ℕ → Bool) (t : List Event) (r x : ℕ) → reads_at t r x ≡ true → p (source t r x) ≡ true → list_any p (sources t r) ≡ true
unfolding sources
source_is_any p t r x h q = by_kind (loads (event t r).access) (and_left (loads (event t r).access) (in_range a n x) h)
  where
    a : ℕ
    a = address_of (event t r).access

    n : ℕ
    n = bytes_of (event t r).access

    by_kind : (b : Bool) → b ≡ true → list_any p (if b then map (source t r) (range_with_len a ((a + n) - a)) else []) ≡ true
    by_kind false e = cc
    by_kind true e =
        let l = in_range_from a n x (and_right (loads (event t r).access) (in_range a n x) h) in
        any_of_map p (source t r) (range_with_len a ((a + n) - a)) ∙ any_in_range (λ y. p (source t r y)) a ((a + n) - a) x l.0 (omega (arith, l.1)) q

place_from_test : (w : ℕ) (s : Option ℕ) → is_index w s ≡ true → s ≡ Some w
place_from_test w None h = cc
place_from_test w (Some v) h = ap Some (eq_from_test v w h)

place_test : (w : ℕ) (s : Option ℕ) → s ≡ Some w → is_index w s ≡ true
place_test w s e = ap (is_index w) e ∙ eq_test w w refl

opening_from_test : (s : Option ℕ) → is_opening s ≡ true → s ≡ None
opening_from_test None h = refl
opening_from_test (Some v) h = cc

pub arrows_meet : ArrowsMeetAxiom
arrows_meet t opening budget i g o r = (λ w. (to_store w, from_store w), (to_opening, from_opening))
  where
    to_store : (w : ℕ) → list_any (is_index w) (sources t r) ≡ true → ReadsFrom t g r (Some w)
    to_store w h = let f = any_source (is_index w) t r h in (f.0, f.1, (sources_meet t opening budget i g o r f.0 f.1 (Some w)).0 (place_from_test w (source t r f.0) f.2))

    from_store : (w : ℕ) → ReadsFrom t g r (Some w) → list_any (is_index w) (sources t r) ≡ true
    from_store w k = source_is_any (is_index w) t r k.0 k.1 (place_test w (source t r k.0) ((sources_meet t opening budget i g o r k.0 k.1 (Some w)).1 k.2))

    to_opening : list_any is_opening (sources t r) ≡ true → ReadsFrom t g r None
    to_opening h = let f = any_source is_opening t r h in (f.0, f.1, (sources_meet t opening budget i g o r f.0 f.1 None).0 (opening_from_test (source t r f.0) f.2))

    from_opening : ReadsFrom t g r None → list_any is_opening (sources t r) ≡ true
    from_opening k = source_is_any is_opening t r k.0 k.1 (ap is_opening ((sources_meet t opening budget i g o r k.0 k.1 None).1 k.2))
