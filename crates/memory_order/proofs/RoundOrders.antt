-- The order by rounds of a round trace meets RVWMO.
use Rattle.std.proofs.Common.{◌≡◌, ◌≢◌, ℕ, ◌+◌, ◌*◌, ◌<◌, ◌≤◌, ◌⊎◌, Bool, true, false, if◌then◌else◌, List, length, Option, Some, None, refl, sym, ap, ◌∙◌, subst, inl, inr, arith}
use Rattle.std.proofs.lemmas.Bool.{cases_lt, cases_Bool}
use Rattle.round_schedule.specs.declared.access.Access.{Access}
use Rattle.round_schedule.specs.declared.event.Event.{Event}
use Rattle.round_schedule.specs.declared.event.Phase.{Phase}
use Rattle.round_schedule.specs.declared.event.Phase.TheVariants.{Parallel, Serial}
use Rattle.round_schedule.specs.Accesses.{byte_read, is_lr, is_sc, loads, must_be_serial, stores}
use Rattle.round_schedule.specs.Events.{is_serial}
use Rattle.round_schedule.specs.Positions.{IsLatest, ProgramBefore, event, reads_at, source_byte, writes_at}
use Rattle.round_schedule.specs.RoundTrace.{Follows, IsRoundTrace, Reservation, SeenInParallel, SeenInSerial, phase_number}
use Rattle.memory_order.specs.Operations.{covers, fence_orders, is_acquire, is_load, is_operation, is_plain_store, is_release, is_store}
use Rattle.memory_order.specs.ProgramOrder.{RespectsProgramOrder, is_plain_load}
use Rattle.memory_order.specs.RoundOrder.{RanksBefore, stage, rank}
use Rattle.memory_order.specs.Rvwmo.{AtomicityAxiom, IsPaired, IsSource, IsUndisturbed, LoadValueAxiom, MaySee, NotPlainStore, PreservedOrder, Rule, acquired, both-annotated, different-writes, dependent, fenced, overlapping-store, paired, released, returns-atomic}
use Rattle.memory_order.proofs.Facts.{acquire_is_other, and_left, and_right, atomic_is_serial, fence_is_serial, load_cases, load_is_operation, load_is_other, lr_is_serial, or_cases, or_left, release_is_serial, serial_is_other, store_cases, store_does_not_load, store_is_operation, within}

-- ---- what holds of each of two latest ones

-- the latest by one rank is the latest by another that agrees with it
latest_alike : (rank other : ℕ → ℕ) (P Q : ℕ → Type 0) → ((w : ℕ) → P w → Q w) → ((w : ℕ) → Q w → P w) →
    ((v w : ℕ) → P v → P w → rank v ≤ rank w → other v ≤ other w) → (s : Option ℕ) → IsLatest rank P s → IsLatest other Q s
latest_alike rank other P Q to from alike None h = λ w q. h w (from w q)
latest_alike rank other P Q to from alike (Some w) h = (to w h.0, λ v q. alike v w (from v q) h.0 (h.1 v (from v q)))

-- ---- positions that go by rank

-- the positions of operations go by rank, and in one rank by index
pub record GoesByRank (t : List Event) (pos : ℕ → ℕ) : Type 0 where
  pub rises : (a b : ℕ) → is_operation (event t a) ≡ true → is_operation (event t b) ≡ true → RanksBefore t a b → pos a < pos b
  pub reflects : (a b : ℕ) → is_operation (event t a) ≡ true → is_operation (event t b) ≡ true → pos a < pos b → RanksBefore t a b

-- the list goes by rounds and phases, and in the parallel phase there are plain loads, plain stores and lesser fences alone
record IsPhased (t : List Event) : Type 0 where
  pub in_order : (i j : ℕ) → i < j → j < length t → Follows (event t i) (event t j)
  pub serial_words : (i : ℕ) → must_be_serial (event t i).access ≡ true → is_serial (event t i).phase ≡ true

phased : (t : List Event) (opening : ℕ → ℕ) (budget : ℕ) → IsRoundTrace t opening budget → IsPhased t
phased t opening budget r = record { in_order = r.in_order; serial_words = r.serial_words }

parallel_number : (s : Phase) → is_serial s ≡ false → phase_number s ≡ 0
parallel_number Parallel h = refl
parallel_number Serial h = cc

serial_number : (s : Phase) → is_serial s ≡ true → phase_number s ≡ 1
serial_number Parallel h = cc
serial_number Serial h = refl

at_most_serial : (s : Phase) → phase_number s ≤ 1
at_most_serial Parallel = omega arith
at_most_serial Serial = omega arith

stage_of_store : (s : Phase) (a : Access) → (is_serial s ≡ false → is_plain_store a ≡ true) → stage s a ≡ 1 + phase_number s
stage_of_store Parallel a h = rw (h refl) refl
stage_of_store Serial a h = refl

stage_of_other : (s : Phase) (a : Access) → is_plain_store a ≡ false → stage s a ≡ 2 * phase_number s
stage_of_other Parallel a h = rw h refl
stage_of_other Serial a h = refl

stage_bound : (s : Phase) (a : Access) → stage s a ≤ 2
stage_bound Parallel a = bound (is_plain_store a)
  where
    bound : (b : Bool) → (if b then 1 else 0) ≤ 2
    bound true = omega arith
    bound false = omega arith
stage_bound Serial a = omega arith

before : (m k a b : ℕ) → m ≤ k → a < b → (m < k) ⊎ ((m ≡ k) × (a < b))
before m k a b h l = elim (cases_lt m k) [ inl f ↦ inl f | inr g ↦ inr (omega arith, l) ]

-- ---- stores stand as in the list

plain_in_parallel : (t : List Event) → IsPhased t → (w : ℕ) → is_store (event t w) ≡ true → is_serial (event t w).phase ≡ false → is_plain_store (event t w).access ≡ true
plain_in_parallel t p w h s = elim (store_cases (event t w).access h) [
  | inl e ↦ e
  | inr m ↦ let e = p.serial_words w m in cc
]

store_rank : (t : List Event) → IsPhased t → (w : ℕ) → is_store (event t w) ≡ true → rank (event t w) ≡ 3 * (event t w).round + (1 + phase_number (event t w).phase)
store_rank t p w h = ap (λ n. 3 * (event t w).round + n) (stage_of_store (event t w).phase (event t w).access (plain_in_parallel t p w h))

ranks_rise : (r q m k : ℕ) → r ≤ q → (r ≡ q → m ≤ k) → m ≤ 1 → 3 * r + (1 + m) ≤ 3 * q + (1 + k)
ranks_rise r q m k h f b = elim (cases_lt r q) [
  | inl l ↦ omega arith
  | inr g ↦ let e : r ≡ q = omega arith in let n = f e in omega arith
]

stores_rise : (t : List Event) (pos : ℕ → ℕ) → IsPhased t → GoesByRank t pos → (v w : ℕ) → is_store (event t v) ≡ true → is_store (event t w) ≡ true → v < w → pos v < pos w
stores_rise t pos p g v w hv hw l =
    let ow = store_is_operation (event t w) hw in
    let f = p.in_order v w l (within t w ow) in
    let n = ranks_rise (event t v).round (event t w).round (phase_number (event t v).phase) (phase_number (event t w).phase) f.rounds f.phases (at_most_serial (event t v).phase) in
    let ev = store_rank t p v hv in
    let ew = store_rank t p w hw in
    let m : rank (event t v) ≤ rank (event t w) = omega (arith, n, ev, ew) in
    g.rises v w (store_is_operation (event t v) hv) ow (before (rank (event t v)) (rank (event t w)) v w m l)

stores_alike : (t : List Event) (pos : ℕ → ℕ) → IsPhased t → GoesByRank t pos → (v w : ℕ) → is_store (event t v) ≡ true → is_store (event t w) ≡ true → v ≤ w → pos v ≤ pos w
stores_alike t pos p g v w hv hw l = elim (cases_lt v w) [
  | inl b ↦ omega (arith, stores_rise t pos p g v w hv hw b)
  | inr b ↦ let e : v ≡ w = omega arith in omega (arith, ap pos e)
]

stores_reflect : (t : List Event) (pos : ℕ → ℕ) → IsPhased t → GoesByRank t pos → (v w : ℕ) → is_store (event t v) ≡ true → is_store (event t w) ≡ true → pos v < pos w → v < w
stores_reflect t pos p g v w hv hw l = elim (cases_lt v w) [
  | inl b ↦ b
  | inr b ↦ absurd (omega (arith, l, stores_alike t pos p g w v hw hv b))
]

-- ---- load value

stores_at : (t : List Event) (w x : ℕ) → writes_at t w x ≡ true → is_store (event t w) ≡ true
stores_at t w x h = and_left (stores (event t w).access) (covers (event t w).access x) h

loads_at : (t : List Event) (r x : ℕ) → reads_at t r x ≡ true → is_load (event t r) ≡ true
loads_at t r x h = and_left (loads (event t r).access) (covers (event t r).access x) h

load_rank : (t : List Event) (r : ℕ) → is_load (event t r) ≡ true → rank (event t r) ≡ 3 * (event t r).round + 2 * phase_number (event t r).phase
load_rank t r h = ap (λ n. 3 * (event t r).round + n) (stage_of_other (event t r).phase (event t r).access (load_is_other (event t r).access h))

parallel_to : (t : List Event) (pos : ℕ → ℕ) → IsPhased t → GoesByRank t pos → (r x : ℕ) → is_load (event t r) ≡ true → is_serial (event t r).phase ≡ false →
    (w : ℕ) → SeenInParallel t r x w → MaySee t pos r x w
parallel_to t pos p g r x hr s w seen = elim seen.1 [
  | inl l ↦
      let hw = stores_at t w x seen.0 in
      let ew = store_rank t p w hw in
      let er = load_rank t r hr in
      let n = at_most_serial (event t w).phase in
      let m : rank (event t w) < rank (event t r) = omega (arith, l, ew, er, n) in
      (seen.0, inl (g.rises w r (store_is_operation (event t w) hw) (load_is_operation (event t r) hr) (inl m)))
  | inr b ↦ (seen.0, inr b)
]

parallel_from : (t : List Event) (pos : ℕ → ℕ) → IsPhased t → GoesByRank t pos → (r x : ℕ) → is_load (event t r) ≡ true → is_serial (event t r).phase ≡ false →
    (w : ℕ) → MaySee t pos r x w → SeenInParallel t r x w
parallel_from t pos p g r x hr s w seen = elim seen.1 [
  | inl l ↦
      let hw = stores_at t w x seen.0 in
      let ew = store_rank t p w hw in
      let er = load_rank t r hr in
      let n = parallel_number (event t r).phase s in
      let m = lower (g.reflects w r (store_is_operation (event t w) hw) (load_is_operation (event t r) hr) l) in
      let k : (event t w).round < (event t r).round = omega (arith, m, ew, er, n) in
      (seen.0, inl k)
  | inr b ↦ (seen.0, inr b)
]
  where
    lower : RanksBefore t w r → rank (event t w) ≤ rank (event t r)
    lower (inl l) = omega arith
    lower (inr e) = omega (arith, e.0)

serial_to : (t : List Event) (pos : ℕ → ℕ) → IsPhased t → GoesByRank t pos → (r x : ℕ) → is_load (event t r) ≡ true → is_serial (event t r).phase ≡ true →
    (w : ℕ) → SeenInSerial t r x w → MaySee t pos r x w
serial_to t pos p g r x hr s w seen =
    let hw = stores_at t w x seen.0 in
    let or = load_is_operation (event t r) hr in
    let f = p.in_order w r seen.1 (within t r or) in
    let ew = store_rank t p w hw in
    let er = load_rank t r hr in
    let n = serial_number (event t r).phase s in
    let k = at_most_serial (event t w).phase in
    let m : rank (event t w) ≤ rank (event t r) = omega (arith, ew, er, n, k, f.rounds) in
    (seen.0, inl (g.rises w r (store_is_operation (event t w) hw) or (before (rank (event t w)) (rank (event t r)) w r m seen.1)))

-- a store that stands before a serial load in rank or index stands before it in the list
serial_before : (t : List Event) → IsPhased t → (r w : ℕ) → is_load (event t r) ≡ true → is_serial (event t r).phase ≡ true → is_store (event t w) ≡ true → RanksBefore t w r → w < r
serial_before t p r w hr s hw (inr e) = e.1
serial_before t p r w hr s hw (inl l) = elim (cases_lt w r) [
  | inl b ↦ b
  | inr b ↦ elim (cases_lt r w) [
    | inl c ↦
        let f = p.in_order r w c (within t w (store_is_operation (event t w) hw)) in
        let ew = store_rank t p w hw in
        let er = load_rank t r hr in
        let n = serial_number (event t r).phase s in
        absurd (apart (event t r).round (event t w).round (phase_number (event t r).phase) (phase_number (event t w).phase) f.rounds f.phases n (omega (arith, l, ew, er)))
    | inr c ↦ let e : w ≡ r = omega arith in let same = ap (λ i. rank (event t i)) e in absurd (omega (arith, l, same))
  ]
]
  where
    apart : (m k a b : ℕ) → m ≤ k → (m ≡ k → a ≤ b) → a ≡ 1 → 3 * k + (1 + b) < 3 * m + 2 * a → ⊥
    apart m k a b h f e l = elim (cases_lt m k) [
      | inl d ↦ omega arith
      | inr d ↦ let q : m ≡ k = omega arith in let n = f q in omega arith
    ]

serial_from : (t : List Event) (pos : ℕ → ℕ) → IsPhased t → GoesByRank t pos → (r x : ℕ) → is_load (event t r) ≡ true → is_serial (event t r).phase ≡ true →
    (w : ℕ) → MaySee t pos r x w → SeenInSerial t r x w
serial_from t pos p g r x hr s w seen = elim seen.1 [
  | inl l ↦
      let hw = stores_at t w x seen.0 in
      (seen.0, serial_before t p r w hr s hw (g.reflects w r (store_is_operation (event t w) hw) (load_is_operation (event t r) hr) l))
  | inr b ↦ (seen.0, b.earlier)
]

-- the source of a parallel load in the order is the last write that it may see, and so is that of a serial one
pub parallel_source : (t : List Event) (opening : ℕ → ℕ) (budget : ℕ) (pos : ℕ → ℕ) → IsRoundTrace t opening budget → GoesByRank t pos →
    (r x : ℕ) → reads_at t r x ≡ true → is_serial (event t r).phase ≡ false → (s : Option ℕ) → IsLatest (λ w. w) (SeenInParallel t r x) s → IsSource t pos r x s
parallel_source t opening budget pos i g r x h phase s last =
    let p = phased t opening budget i in
    let hr = loads_at t r x h in
    latest_alike (λ w. w) pos (SeenInParallel t r x) (MaySee t pos r x) (parallel_to t pos p g r x hr phase) (parallel_from t pos p g r x hr phase)
    (λ a b ha hb. stores_alike t pos p g a b (stores_at t a x ha.0) (stores_at t b x hb.0)) s last

pub serial_source : (t : List Event) (opening : ℕ → ℕ) (budget : ℕ) (pos : ℕ → ℕ) → IsRoundTrace t opening budget → GoesByRank t pos →
    (r x : ℕ) → reads_at t r x ≡ true → is_serial (event t r).phase ≡ true → (s : Option ℕ) → IsLatest (λ w. w) (SeenInSerial t r x) s → IsSource t pos r x s
serial_source t opening budget pos i g r x h phase s last =
    let p = phased t opening budget i in
    let hr = loads_at t r x h in
    latest_alike (λ w. w) pos (SeenInSerial t r x) (MaySee t pos r x) (serial_to t pos p g r x hr phase) (serial_from t pos p g r x hr phase)
    (λ a b ha hb. stores_alike t pos p g a b (stores_at t a x ha.0) (stores_at t b x hb.0)) s last

pub load_value : (t : List Event) (opening : ℕ → ℕ) (budget : ℕ) (pos : ℕ → ℕ) → IsRoundTrace t opening budget → GoesByRank t pos → LoadValueAxiom t opening pos
load_value t opening budget pos i g r x h = by_phase (is_serial (event t r).phase) refl
  where
    p : IsPhased t
    p = phased t opening budget i

    hr : is_load (event t r) ≡ true
    hr = loads_at t r x h

    by_phase : (b : Bool) → is_serial (event t r).phase ≡ b →
        (s : Option ℕ) × IsSource t pos r x s × (byte_read (event t r).access x ≡ source_byte t opening x s)
    by_phase true s =
        let v = i.serial_loads r x h s in (
          v.0,
          latest_alike (λ w. w) pos (SeenInSerial t r x) (MaySee t pos r x) (serial_to t pos p g r x hr s) (serial_from t pos p g r x hr s)
              (λ a b ha hb. stores_alike t pos p g a b (stores_at t a x ha.0) (stores_at t b x hb.0)) v.0 v.1,
          v.2,
        )
    by_phase false s =
        let v = i.parallel_loads r x h s in (
          v.0,
          latest_alike (λ w. w) pos (SeenInParallel t r x) (MaySee t pos r x) (parallel_to t pos p g r x hr s) (parallel_from t pos p g r x hr s)
              (λ a b ha hb. stores_alike t pos p g a b (stores_at t a x ha.0) (stores_at t b x hb.0)) v.0 v.1,
          v.2,
        )

-- ---- program order

-- the one exchange of two operations of a hart: a plain store and another operation of one parallel phase
record Exchanged (a b : Event) : Type 0 where
  pub store : is_plain_store a.access ≡ true
  pub other : is_plain_store b.access ≡ false
  pub one_round : a.round ≡ b.round
  pub parallel_store : is_serial a.phase ≡ false
  pub parallel_load : is_serial b.phase ≡ false

parts : (s u : Phase) (a b : Access) → phase_number s ≤ phase_number u →
    (stage s a ≤ stage u b) ⊎ ((is_plain_store a ≡ true) × (is_plain_store b ≡ false) × (is_serial s ≡ false) × (is_serial u ≡ false))
parts s Serial a b h = inl (stage_bound s a)
parts Serial Parallel a b h = absurd (omega arith)
parts Parallel Parallel a b h = by_kinds (is_plain_store a) (is_plain_store b) refl refl
  where
    by_kinds : (m k : Bool) → is_plain_store a ≡ m → is_plain_store b ≡ k →
        ((if is_plain_store a then 1 else 0) ≤ (if is_plain_store b then 1 else 0)) ⊎
        ((is_plain_store a ≡ true) × (is_plain_store b ≡ false) × (is_serial Parallel ≡ false) × (is_serial Parallel ≡ false))
    by_kinds false k ea eb = inl (rw ea (omega arith))
    by_kinds true true ea eb = inl (rw (ea, eb) (omega arith))
    by_kinds true false ea eb = inr (ea, eb, refl, refl)

ranked_or_exchanged : (e f : Event) → Follows e f → (rank e ≤ rank f) ⊎ Exchanged e f
ranked_or_exchanged e f h = elim (cases_lt e.round f.round) [
  | inl l ↦ let b = stage_bound e.phase e.access in inl (omega (arith, b))
  | inr g ↦
      let s : e.round ≡ f.round = omega (arith, h.rounds) in
      elim (parts e.phase f.phase e.access f.access (h.phases s)) [
        | inl n ↦ inl (omega (arith, n))
        | inr x ↦ inr (record { store = x.0; other = x.1; one_round = s; parallel_store = x.2; parallel_load = x.3 })
      ]
]

respected_or_exchanged : (t : List Event) (pos : ℕ → ℕ) → IsPhased t → GoesByRank t pos → (a b : ℕ) → is_operation (event t a) ≡ true → is_operation (event t b) ≡ true →
    ProgramBefore t a b → (pos a < pos b) ⊎ Exchanged (event t a) (event t b)
respected_or_exchanged t pos p g a b oa ob h = elim (ranked_or_exchanged (event t a) (event t b) (p.in_order a b h.earlier (within t b ob))) [
  | inl n ↦ inl (g.rises a b oa ob (before (rank (event t a)) (rank (event t b)) a b n h.earlier))
  | inr x ↦ inr x
]

pub program_order : (t : List Event) (opening : ℕ → ℕ) (budget : ℕ) (pos : ℕ → ℕ) → IsRoundTrace t opening budget → GoesByRank t pos → RespectsProgramOrder t pos
program_order t opening budget pos i g a b oa ob h = elim (respected_or_exchanged t pos (phased t opening budget i) g a b oa ob h) [
  | inl l ↦ inl l
  | inr x ↦ inr (record { store = x.store; load = plain_load x; one_round = x.one_round; parallel_store = x.parallel_store; parallel_load = x.parallel_load })
]
  where
    serial_first : Exchanged (event t a) (event t b) → must_be_serial (event t b).access ≡ true → ⊥
    serial_first x m = let e = i.serial_words b m in let f = x.parallel_load in cc

    plain_load : Exchanged (event t a) (event t b) → is_plain_load (event t b).access ≡ true
    plain_load x = elim (or_cases (is_load (event t b)) (is_store (event t b)) ob) [
      | inl l ↦ elim (load_cases (event t b).access l) [
        | inl e ↦ e
        | inr m ↦ absurd (serial_first x m)
      ]
      | inr s ↦ elim (store_cases (event t b).access s) [
        | inl e ↦ let f = x.other in cc
        | inr m ↦ absurd (serial_first x m)
      ]
    ]

-- what is left of the rules where the first is a plain store
data ShortRule (t : List Event) (a b : ℕ) : Type 0 where
  short-other : is_plain_store (event t a).access ≡ false → ShortRule t a b
  short-store : is_store (event t b) ≡ true → ShortRule t a b
  short-fence : (f : ℕ) → ProgramBefore t a f → ProgramBefore t f b → fence_orders (event t f).access (event t a).access (event t b).access ≡ true → ShortRule t a b
  short-release : is_release (event t b).access ≡ true → ShortRule t a b

short : (t : List Event) (pos : ℕ → ℕ) (a b : ℕ) → Rule (NotPlainStore t) t pos a b → ShortRule t a b
short t pos a b (overlapping-store x s ca cb) = short-store s
short t pos a b (different-writes x s u ra rb none sa sb d) = short-other (load_is_other (event t a).access (loads_at t a x ra))
short t pos a b (returns-atomic x h rb s) = short-other (serial_is_other (event t a).access (atomic_is_serial (event t a).access h))
short t pos a b (fenced f af fb h) = short-fence f af fb h
short t pos a b (acquired h) = short-other (acquire_is_other (event t a).access h)
short t pos a b (released h) = short-release h
short t pos a b (both-annotated ha hb) = short-other (elim (or_cases (is_acquire (event t a).access) (is_release (event t a).access) ha) [
  | inl l ↦ acquire_is_other (event t a).access l
  | inr l ↦ serial_is_other (event t a).access (release_is_serial (event t a).access l)
])
short t pos a b (paired h) = short-other (serial_is_other (event t a).access (lr_is_serial (event t a).access h.reserved))
short t pos a b (dependent h) = short-other h

-- the later one of the two is no store
no_store : (t : List Event) → IsPhased t → (a b : ℕ) → Exchanged (event t a) (event t b) → is_store (event t b) ≡ true → ⊥
no_store t p a b x h = elim (store_cases (event t b).access h) [
  | inl e ↦ let f = x.other in cc
  | inr m ↦ let e = p.serial_words b m in let f = x.parallel_load in cc
]

-- no rule orders two operations that are exchanged
unordered : (t : List Event) → IsPhased t → (a b : ℕ) → is_operation (event t b) ≡ true → Exchanged (event t a) (event t b) → ShortRule t a b → ⊥
unordered t p a b ob x (short-other h) = let e = x.store in cc
unordered t p a b ob x (short-store h) = no_store t p a b x h
unordered t p a b ob x (short-release h) = let e = p.serial_words b (release_is_serial (event t b).access h) in let f = x.parallel_load in cc
unordered t p a b ob x (short-fence f af fb h) = elim (cases_Bool (stores (event t b).access)) [
  | inl s ↦ absurd (no_store t p a b x s)
  | inr s ↦
      let m = fence_is_serial (event t f).access (event t a).access (event t b).access h (store_does_not_load (event t a).access x.store) s in
      let lb = within t b ob in
      let first = p.in_order a f af.earlier (omega (arith, fb.earlier, lb)) in
      let second = p.in_order f b fb.earlier lb in
      let same : (event t f).round ≡ (event t b).round = omega (arith, first.rounds, second.rounds, x.one_round) in
      let n = second.phases same in
      let one = serial_number (event t f).phase (p.serial_words f m) in
      let none = parallel_number (event t b).phase x.parallel_load in
      omega (arith, n, one, none)
]

pub preserved : (t : List Event) (opening : ℕ → ℕ) (budget : ℕ) (pos : ℕ → ℕ) → IsRoundTrace t opening budget → GoesByRank t pos → PreservedOrder t pos
preserved t opening budget pos i g a b oa ob h r = elim (respected_or_exchanged t pos (phased t opening budget i) g a b oa ob h) [
  | inl l ↦ l
  | inr x ↦ absurd (unordered t (phased t opening budget i) a b ob x (short t pos a b r))
]

-- ---- atomicity

one_last : (t : List Event) (l m c : ℕ) → IsPaired t l c → Reservation t m c → l ≡ m
one_last t l m c h r = elim (cases_lt l m) [
  | inl f ↦ absurd (h.none_between m f r.in_program.earlier r.in_program.same_hart (or_left (is_lr (event t m).access) (is_sc (event t m).access) r.reserved))
  | inr f ↦ elim (cases_lt m l) [
    | inl k ↦ absurd (r.last l k h.in_program.earlier h.in_program.same_hart (or_left (is_lr (event t l).access) (is_sc (event t l).access) h.reserved))
    | inr k ↦ omega arith
  ]
]

-- another hart's store to a byte of the reservation before the SC is one before the LR
before_reserved : (t : List Event) (l c x v : ℕ) → Reservation t l c → covers (event t l).access x ≡ true → writes_at t v x ≡ true → (event t v).hart ≢ (event t c).hart → v < c → v < l
before_reserved t l c x v r cover w other b = elim (cases_lt v l) [
  | inl f ↦ f
  | inr f ↦ elim (cases_lt l v) [
    | inl k ↦ absurd (r.unbroken v x k b other cover w)
    | inr k ↦ let e : v ≡ l = omega arith in absurd (other (ap (λ i. (event t i).hart) e ∙ r.in_program.same_hart))
  ]
]

is_undisturbed : (t : List Event) (pos : ℕ → ℕ) → IsPhased t → GoesByRank t pos → (l c x : ℕ) → Reservation t l c → is_store (event t c) ≡ true → reads_at t l x ≡ true →
    (s : Option ℕ) → IsSource t pos l x s → IsUndisturbed t pos c x s
is_undisturbed t pos p g l c x r hc hl None none = λ v w other b. none v (serial_to t pos p g l x load serial v (w, earlier v w other b))
  where
    load : is_load (event t l) ≡ true
    load = loads_at t l x hl

    serial : is_serial (event t l).phase ≡ true
    serial = p.serial_words l (lr_is_serial (event t l).access r.reserved)

    earlier : (v : ℕ) → writes_at t v x ≡ true → (event t v).hart ≢ (event t c).hart → pos v < pos c → v < l
    earlier v w other b =
        before_reserved t l c x v r (and_right (loads (event t l).access) (covers (event t l).access x) hl) w other
        (stores_reflect t pos p g v c (stores_at t v x w) hc b)
is_undisturbed t pos p g l c x r hc hl (Some s) source = (
  stores_rise t pos p g s c (stores_at t s x source.0.0) hc before_c,
  λ v w other a b. let n = source.1 v (serial_to t pos p g l x load serial v (w, earlier v w other b)) in omega arith,
)
  where
    load : is_load (event t l) ≡ true
    load = loads_at t l x hl

    serial : is_serial (event t l).phase ≡ true
    serial = p.serial_words l (lr_is_serial (event t l).access r.reserved)

    earlier : (v : ℕ) → writes_at t v x ≡ true → (event t v).hart ≢ (event t c).hart → pos v < pos c → v < l
    earlier v w other b =
        before_reserved t l c x v r (and_right (loads (event t l).access) (covers (event t l).access x) hl) w other
        (stores_reflect t pos p g v c (stores_at t v x w) hc b)

    before_c : s < c
    before_c = let seen = serial_from t pos p g l x load serial s source.0 in omega (arith, seen.1, r.in_program.earlier)

pub atomicity : (t : List Event) (opening : ℕ → ℕ) (budget : ℕ) (pos : ℕ → ℕ) → IsRoundTrace t opening budget → GoesByRank t pos → AtomicityAxiom t pos
atomicity t opening budget pos i g l c x s h hc hl source =
    let m = i.reservations c h.conditional hc in
    let e = one_last t l m.0 c h m.1 in
    let r = subst (λ k. Reservation t k c) (sym e) m.1 in
    is_undisturbed t pos (phased t opening budget i) g l c x r hc hl s source
