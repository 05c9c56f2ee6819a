-- A load reads no earlier store than the loads of its hart before it.
use Rattle.std.proofs.Common.{◌≡◌, ◌≢◌, ℕ, zero, suc, ◌+◌, ◌<◌, ◌≤◌, ◌⊎◌, true, false, List, Option, Some, None, unwrap_or, is_some, sym, ap, ◌∙◌, inl, inr, arith}
use Rattle.std.proofs.lemmas.Bool.{and_parts, cases_Bool, cases_eq, cases_lt}
use Rattle.rv64_decode.specs.declared.instruction.Instr.{Instr}
use Rattle.round_schedule.specs.declared.event.Event.{Event}
use Rattle.round_schedule.specs.Accesses.{loads, stores}
use Rattle.round_schedule.specs.Positions.{ProgramBefore, event, reads_at, writes_at}
use Rattle.memory_order.specs.Operations.{covers}
use Rattle.memory_order.specs.Orders.{order_position}
use Rattle.memory_order.specs.Rvwmo.{IsSource, MaySee, MeetsRvwmoBy, different-writes, overlapping-store}
use Rattle.memory_order.specs.Dependencies.{DependencyRule}
use Rattle.memory_order.proofs.Sources.{load_at, store_at}
use Rattle.all_endings.specs.Sources.{SeenStays}
use Rattle.all_endings.specs.StoreLists.{place_behind}
use Rattle.all_endings.specs.Times.{time_after}
use Rattle.all_endings.proofs.Times.{timed_rises}

abbrev Between : List Event → ℕ → ℕ → ℕ → ℕ → Type 0
Between t h x a n = (k : ℕ) × (a < k) × (k < n) × ((event t k).hart ≡ h) × (writes_at t k x ≡ true)

abbrev NoneBetween : List Event → ℕ → ℕ → ℕ → ℕ → Type 0
NoneBetween t h x a n = (k : ℕ) → a < k → k < n → (event t k).hart ≡ h → writes_at t k x ≡ true → ⊥

between : (t : List Event) (h x a n : ℕ) → Between t h x a n ⊎ NoneBetween t h x a n
between t h x a zero = inr (λ k l m s w. omega (arith, m))
between t h x a (suc n) = elim (between t h x a n) [
  | inl b ↦ inl (b.0, b.1, omega (arith, b.2), b.3, b.4)
  | inr none ↦ elim (cases_Bool (writes_at t n x)) [
    | inr dry ↦ inr (λ k l m s w. elim (cases_lt k n) [
      | inl c ↦ none k l c s w
      | inr c ↦ let e : k ≡ n = omega (arith, c, m) in let v : writes_at t n x ≡ true = ap (λ i. writes_at t i x) (sym e) ∙ w in absurd (cc)
    ])
    | inl wet ↦ elim (cases_eq (event t n).hart h) [
      | inl here ↦ elim (cases_lt a n) [
        | inl l ↦ inl (n, l, omega arith, here, wet)
        | inr l ↦ inr (λ k i m s w. omega (arith, l, i, m))
      ]
      | inr other ↦ inr (λ k l m s w. elim (cases_lt k n) [
        | inl c ↦ none k l c s w
        | inr c ↦ let e : k ≡ n = omega (arith, c, m) in absurd (other (ap (λ i. (event t i).hart) (sym e) ∙ s))
      ])
    ]
  ]
]

-- of the places that one test passes, two latest have one rank
pub same_place : (n : ℕ) (t : List Event) (g : List ℕ) (b x : ℕ) (s u : Option ℕ) → IsSource t (order_position g) b x s → IsSource t (order_position g) b x u →
    place_behind n t g s ≤ place_behind n t g u
same_place n t g b x None u p q = omega arith
same_place n t g b x (Some w) None p q = absurd (q w p.0)
same_place n t g b x (Some w) (Some v) p q = let r = q.1 w p.0 in timed_rises n t g (order_position g w + 1) (order_position g v + 1) (omega (arith, r))

source_stays : (is : List Instr) (t : List Event) (opening : ℕ → ℕ) (g : List ℕ) → MeetsRvwmoBy (DependencyRule is t) t opening g →
    (n a b x w : ℕ) → ProgramBefore t a b → reads_at t a x ≡ true → reads_at t b x ≡ true → IsSource t (order_position g) a x (Some w) →
    (s : ℕ) × IsSource t (order_position g) b x (Some s) × (time_after n t g w ≤ time_after n t g s)
source_stays is t opening g meets n a b x w before ra rb sa = elim (between t (event t b).hart x a b) [
  | inl k ↦ finish k.0 (k.4, inr (record { earlier = k.2; same_hart = k.3 })) (behind k)
  | inr none ↦ compare none (meets.load_value b x rb).0 (meets.load_value b x rb).1
]
  where
    pos : ℕ → ℕ
    pos = order_position g

    Goal : Type 0
    Goal = (s : ℕ) × IsSource t pos b x (Some s) × (time_after n t g w ≤ time_after n t g s)

    finish_by : (v : ℕ) → MaySee t pos b x v → pos w ≤ pos v → (s : Option ℕ) → IsSource t pos b x s → Goal
    finish_by v m l None source = absurd (source v m)
    finish_by v m l (Some s) source = (s, source, (let k = source.1 v m in timed_rises n t g (pos w + 1) (pos s + 1) (omega (arith, k, l))))

    finish : (v : ℕ) → MaySee t pos b x v → pos w ≤ pos v → Goal
    finish v m l = finish_by v m l (meets.load_value b x rb).0 (meets.load_value b x rb).1

    behind : (k : Between t (event t b).hart x a b) → pos w ≤ pos k.0
    behind k =
        let both = and_parts (stores (event t k.0).access) (covers (event t k.0).access x) k.4 in
        elim sa.0.1 [
          | inl l ↦
              let r = meets.preserved a k.0 (load_at t a x ra) (store_at t k.0 x k.4) (record { earlier = k.1; same_hart = before.same_hart ∙ sym k.3 })
              (overlapping-store x both.0 (and_parts (loads (event t a).access) (covers (event t a).access x) ra).1 both.1) in
              omega (arith, l, r)
          | inr p ↦
              let e = p.earlier in
              let f = k.1 in
              let r = meets.preserved w k.0 (store_at t w x sa.0.0) (store_at t k.0 x k.4) (record { earlier = omega (arith, e, f); same_hart = p.same_hart ∙ before.same_hart ∙ sym k.3 })
              (overlapping-store x both.0 (and_parts (stores (event t w).access) (covers (event t w).access x) sa.0.0).1 both.1) in
              omega (arith, r)
        ]

    ahead : NoneBetween t (event t b).hart x a b → (s : Option ℕ) → IsSource t pos b x s → (Some w ≢ s) → Goal
    ahead none s source differ =
        let l = meets.preserved a b (load_at t a x ra) (load_at t b x rb) before (different-writes x (Some w) s ra rb none sa source differ) in
        finish w (
          sa.0.0,
          elim sa.0.1 [
            | inl k ↦ inl (omega (arith, k, l))
            | inr p ↦ inr (record { earlier = (let e = p.earlier in let f = before.earlier in omega (arith, e, f)); same_hart = p.same_hart ∙ before.same_hart })
          ],
        ) (omega arith)

    compare : NoneBetween t (event t b).hart x a b → (s : Option ℕ) → IsSource t pos b x s → Goal
    compare none None source = ahead none None source (λ e. let f : true ≡ false = ap (λ o. is_some o) e in cc)
    compare none (Some s) source = elim (cases_eq w s) [
      | inl same ↦ (s, source, omega (arith, ap (time_after n t g) same))
      | inr other ↦ ahead none (Some s) source (λ e. other (ap (λ o. unwrap_or o 0) e))
    ]

pub seen_stays : SeenStays
seen_stays is t opening g meets n a b x None u before ra rb sa sb = omega arith
seen_stays is t opening g meets n a b x (Some w) u before ra rb sa sb =
    let k = source_stays is t opening g meets n a b x w before ra rb sa in
    let l = same_place n t g b x (Some k.0) u k.1 sb in
    let j = k.2 in
    omega (arith, l, j)
