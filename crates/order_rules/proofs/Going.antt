-- Going back from an operation, instruction by instruction of its hart.
use Rattle.std.proofs.Common.{◌≡◌, ◌≢◌, ℕ, ◌+◌, ◌<◌, ◌≤◌, ◌⊎◌, ◌&&◌, ◌||◌, Bool, true, false, List, length, get_or, slice_set, refl, sym, ap, ◌∙◌, subst, inl, inr, arith}
use Rattle.std.proofs.lemmas.Bool.{cases_eq, cases_lt, and_parts, and_from}
use Rattle.std.proofs.lemmas.List.{get_or-set_other, get_or-set_same, length-set}
use Rattle.rv64_decode.specs.declared.instruction.Instr.{Instr}
use Rattle.round_schedule.specs.declared.access.Access.{Access}
use Rattle.round_schedule.specs.declared.access.Access.TheVariants.{Load, Store, LoadReserved, StoreConditional, Atomic, Fence}
use Rattle.round_schedule.specs.declared.event.Event.{Event}
use Rattle.round_schedule.specs.Accesses.{loads, stores}
use Rattle.round_schedule.specs.Positions.{ProgramBefore, event}
use Rattle.memory_order.specs.declared.registers.Registers.{Registers}
use Rattle.memory_order.specs.Operations.{fence_orders, is_normal, is_store}
use Rattle.memory_order.specs.Dependencies.{Depends, IsSourceRegister, destination_at, registers_at}
use Rattle.memory_order.proofs.Facts.{or_cases, or_left, or_right}
use Rattle.memory_order.proofs.Steps.{depends_earlier, stays_down, new_down}
use Rattle.order_rules.specs.declared.behind.Behind.{Behind}
use Rattle.order_rules.specs.declared.rule.OrderRule.{OrderRule}
use Rattle.order_rules.specs.declared.rule.OrderRule.TheVariants.{OverlappingStore, DifferentWrites, ReturnsAtomic, Fenced, Acquired, Released, BothAnnotated, Paired, ByAddress, ByData, ByControl, ByForwarding, ByAddressBetween}
use Rattle.order_rules.specs.Orders.{Asks, NoneAsks, Returns}
use Rattle.order_rules.specs.Behind.{AreCandidates, Demands, IsBehind, NeedsAll, address-between, forwarded-address, forwarded-value, is_needed, is_of_pair, keeps_loads, keeps_stores, own-address, own-value, steering}

-- ---- fences

both_sides : (r la ar lb w sb wr sa n : Bool) → ((r && la && ar && lb) || (r && la && w && sb) || (wr && sa && w && sb) || (wr && sa && ar && lb && n)) ≡ true →
    ((la ≡ true) × ((r && ((ar && lb) || (w && sb))) ≡ true)) ⊎ ((sa ≡ true) × ((wr && ((w && sb) || (ar && lb && n))) ≡ true))
both_sides r la ar lb w sb wr sa n e = elim (or_cases ((r && la && ar && lb) || (r && la && w && sb) || (wr && sa && w && sb)) (wr && sa && ar && lb && n) e) [
  | inl abc ↦ elim (or_cases ((r && la && ar && lb) || (r && la && w && sb)) (wr && sa && w && sb) abc) [
    | inl ab ↦ elim (or_cases (r && la && ar && lb) (r && la && w && sb) ab) [
      | inl x ↦
          let p = and_parts (r && la && ar) lb x in
          let q = and_parts (r && la) ar p.0 in
          let s = and_parts r la q.0 in
          inl (s.1, and_from r ((ar && lb) || (w && sb)) s.0 (or_left (ar && lb) (w && sb) (and_from ar lb q.1 p.1)))
      | inr x ↦
          let p = and_parts (r && la && w) sb x in
          let q = and_parts (r && la) w p.0 in
          let s = and_parts r la q.0 in
          inl (s.1, and_from r ((ar && lb) || (w && sb)) s.0 (or_right (ar && lb) (w && sb) (and_from w sb q.1 p.1)))
    ]
    | inr x ↦
        let p = and_parts (wr && sa && w) sb x in
        let q = and_parts (wr && sa) w p.0 in
        let s = and_parts wr sa q.0 in
        inr (s.1, and_from wr ((w && sb) || (ar && lb && n)) s.0 (or_left (w && sb) (ar && lb && n) (and_from w sb q.1 p.1)))
  ]
  | inr x ↦
      let p = and_parts (wr && sa && ar && lb) n x in
      let q = and_parts (wr && sa && ar) lb p.0 in
      let u = and_parts (wr && sa) ar q.0 in
      let s = and_parts wr sa u.0 in
      inr (s.1, and_from wr ((w && sb) || (ar && lb && n)) s.0 (or_right (w && sb) (ar && lb && n) (and_from (ar && lb) n (and_from ar lb u.1 q.1) p.1)))
]

pub fence_keeps : (f a b : Access) → fence_orders f a b ≡ true → ((loads a ≡ true) × (keeps_loads f b ≡ true)) ⊎ ((stores a ≡ true) × (keeps_stores f b ≡ true))
fence_keeps (Fence before after mode p) a b e =
    both_sides before.reads (loads a) after.reads (loads b) after.writes (stores b) before.writes (stores a) (is_normal mode) e
fence_keeps (Load w p a r) b c e = absurd cc
fence_keeps (Store w p a r) b c e = absurd cc
fence_keeps (LoadReserved w o p a r) b c e = absurd cc
fence_keeps (StoreConditional w o p a r) b c e = absurd cc
fence_keeps (Atomic w o p a r v) b c e = absurd cc

-- ---- at the operation itself

demanded_itself : (is : List Instr) (t : List Event) (pos : ℕ → ℕ) (b : ℕ) (d : Behind) → is_needed d (registers_at is b).address ≡ true → is_needed d (registers_at is b).value ≡ true →
    (m r : ℕ) → b ≤ m → Demands is t pos b m r → (m ≡ b) × (is_needed d r ≡ true)
demanded_itself is t pos b d address value m r l own-address = (refl, address)
demanded_itself is t pos b d address value m r l own-value = (refl, value)
demanded_itself is t pos b d address value m r l (steering _ _ s before steers source) = absurd (let e = before.earlier in omega (arith, l, e))
demanded_itself is t pos b d address value m r l (forwarded-address _ before returns) = absurd (let e = before.earlier in omega (arith, l, e))
demanded_itself is t pos b d address value m r l (forwarded-value _ before returns) = absurd (let e = before.earlier in omega (arith, l, e))
demanded_itself is t pos b d address value m r l (address-between _ s before) = absurd (let e = before.earlier in omega (arith, l, e))

pub behind_itself : (is : List Instr) (t : List Event) (pos : ℕ → ℕ) (b : ℕ) (d : Behind) → is_needed d (registers_at is b).address ≡ true → is_needed d (registers_at is b).value ≡ true →
    IsBehind is t pos b b d
behind_itself is t pos b d address value = record {
  needed = λ a m r l n demand e.
      let p = demanded_itself is t pos b d address value m r n demand in
      (r, p.1, subst (λ j. Depends is t (event t b).hart j r a) p.0 e);
  fenced = λ a f l k. absurd (let e = k.1.earlier in omega (arith, l, e));
}

-- ---- before one more instruction

source_is_needed : (needed : List Bool) (x : Registers) (p : ℕ) → NeedsAll needed x → IsSourceRegister x p → get_or needed p false ≡ true
source_is_needed needed x p all (inl (inl e)) = ap (λ q. get_or needed q false) e ∙ all.address
source_is_needed needed x p all (inl (inr e)) = ap (λ q. get_or needed q false) e ∙ all.value
source_is_needed needed x p all (inr (inl e)) = ap (λ q. get_or needed q false) e ∙ all.first
source_is_needed needed x p all (inr (inr e)) = ap (λ q. get_or needed q false) e ∙ all.second

-- what the instruction at k, of the hart of b, makes of the registers that are needed behind it
pub record Goes (is : List Instr) (t : List Event) (pos : ℕ → ℕ) (b k : ℕ) (old new : Behind) : Type 0 where
  pub kept : (q : ℕ) → q ≢ destination_at is t k → is_needed old q ≡ true → is_needed new q ≡ true
  pub carried : (registers_at is k).carries ≡ true → is_needed old (destination_at is t k) ≡ true → NeedsAll new.needed (registers_at is k)
  pub steered : is_store (event t b) ≡ true → (registers_at is k).steers ≡ true → NeedsAll new.needed (registers_at is k)
  pub address : is_store (event t b) ≡ true → is_needed new (registers_at is k).address ≡ true
  pub forwarded_address : Returns t pos k b → is_needed new (registers_at is k).address ≡ true
  pub forwarded_value : Returns t pos k b → is_needed new (registers_at is k).value ≡ true
  pub loads : new.loads ≡ (old.loads || keeps_loads (event t k).access (event t b).access)
  pub stores : new.stores ≡ (old.stores || keeps_stores (event t k).access (event t b).access)

demanded_here : (is : List Instr) (t : List Event) (pos : ℕ → ℕ) (b k : ℕ) (old new : Behind) → k < b → Goes is t pos b k old new → (m r : ℕ) → m ≡ k → Demands is t pos b m r →
    is_needed new r ≡ true
demanded_here is t pos b k old new below g m r e own-address = absurd (omega (arith, below, e))
demanded_here is t pos b k old new below g m r e own-value = absurd (omega (arith, below, e))
demanded_here is t pos b k old new below g m r e (steering _ _ s before steers source) =
    source_is_needed new.needed (registers_at is k) r (g.steered s (subst (λ n. (registers_at is n).steers ≡ true) e steers)) (subst (λ n. IsSourceRegister (registers_at is n) r) e source)
demanded_here is t pos b k old new below g m r e (forwarded-address _ before returns) =
    ap (λ n. is_needed new (registers_at is n).address) e ∙ g.forwarded_address (subst (λ n. Returns t pos n b) e returns)
demanded_here is t pos b k old new below g m r e (forwarded-value _ before returns) =
    ap (λ n. is_needed new (registers_at is n).value) e ∙ g.forwarded_value (subst (λ n. Returns t pos n b) e returns)
demanded_here is t pos b k old new below g m r e (address-between _ s before) =
    ap (λ n. is_needed new (registers_at is n).address) e ∙ g.address s

abbrev Through : List Instr → List Event → ℕ → ℕ → Behind → ℕ → Type 0
Through is t b k d a = (q : ℕ) × (is_needed d q ≡ true) × Depends is t (event t b).hart k q a

goes_through : (is : List Instr) (t : List Event) (pos : ℕ → ℕ) (b k a : ℕ) (old new : Behind) → a < k → (event t k).hart ≡ (event t b).hart → Goes is t pos b k old new →
    Through is t b (k + 1) old a → Through is t b k new a
goes_through is t pos b k a old new l here g p = elim (cases_eq p.0 (destination_at is t k)) [
  | inl same ↦ elim (new_down is t (event t b).hart k (k + 1) p.0 a refl here (sym same) p.2) [
    | inl itself ↦ absurd (omega (arith, l, itself))
    | inr on ↦ (on.1.0, source_is_needed new.needed (registers_at is k) on.1.0 (g.carried on.0 (subst (λ q. is_needed old q ≡ true) same p.1)) on.1.1, on.1.2)
  ]
  | inr other ↦ (p.0, g.kept p.0 other p.1, stays_down is t (event t b).hart k (k + 1) p.0 a refl (λ _ s. other (sym s)) p.2)
]

fence_here : (t : List Event) (b k a : ℕ) (old new_loads new_stores : Bool) (d : Behind) → new_loads ≡ (d.loads || keeps_loads (event t k).access (event t b).access) →
    new_stores ≡ (d.stores || keeps_stores (event t k).access (event t b).access) → fence_orders (event t k).access (event t a).access (event t b).access ≡ true →
    ((loads (event t a).access ≡ true) × (new_loads ≡ true)) ⊎ ((stores (event t a).access ≡ true) × (new_stores ≡ true))
fence_here t b k a old new_loads new_stores d nl ns o = elim (fence_keeps (event t k).access (event t a).access (event t b).access o) [
  | inl p ↦ inl (p.0, nl ∙ or_right d.loads (keeps_loads (event t k).access (event t b).access) p.1)
  | inr p ↦ inr (p.0, ns ∙ or_right d.stores (keeps_stores (event t k).access (event t b).access) p.1)
]

pub behind_more : (is : List Instr) (t : List Event) (pos : ℕ → ℕ) (b k : ℕ) (old new : Behind) → k < b → (event t k).hart ≡ (event t b).hart → Goes is t pos b k old new →
    IsBehind is t pos b (k + 1) old → IsBehind is t pos b k new
behind_more is t pos b k old new below here g was = record {
  needed = λ a m r l n demand e. elim (cases_lt k m) [
    | inl later ↦ goes_through is t pos b k a old new l here g (was.needed a m r (omega (arith, l)) (omega (arith, later)) demand e)
    | inr sooner ↦
        let same : m ≡ k = omega (arith, n, sooner) in
        (r, demanded_here is t pos b k old new below g m r same demand, subst (λ j. Depends is t (event t b).hart j r a) same e)
  ];
  fenced = λ a f l fb. elim (cases_lt k f) [
    | inl later ↦ elim (was.fenced a f (omega (arith, later)) fb) [
      | inl p ↦ inl (p.0, g.loads ∙ or_left old.loads (keeps_loads (event t k).access (event t b).access) p.1)
      | inr p ↦ inr (p.0, g.stores ∙ or_left old.stores (keeps_stores (event t k).access (event t b).access) p.1)
    ]
    | inr sooner ↦
        let same : f ≡ k = omega (arith, l, sooner) in
        fence_here t b k a true new.loads new.stores old g.loads g.stores (subst (λ n. fence_orders (event t n).access (event t a).access (event t b).access ≡ true) same fb.2)
  ];
}

-- an instruction of another hart
other_demand : (is : List Instr) (t : List Event) (pos : ℕ → ℕ) (b k : ℕ) → k < b → ((event t k).hart ≡ (event t b).hart → ⊥) → (m r : ℕ) → m ≡ k → Demands is t pos b m r → ⊥
other_demand is t pos b k below other m r e own-address = omega (arith, below, e)
other_demand is t pos b k below other m r e own-value = omega (arith, below, e)
other_demand is t pos b k below other m r e (steering _ _ s before steers source) = other (ap (λ n. (event t n).hart) (sym e) ∙ before.same_hart)
other_demand is t pos b k below other m r e (forwarded-address _ before returns) = other (ap (λ n. (event t n).hart) (sym e) ∙ before.same_hart)
other_demand is t pos b k below other m r e (forwarded-value _ before returns) = other (ap (λ n. (event t n).hart) (sym e) ∙ before.same_hart)
other_demand is t pos b k below other m r e (address-between _ s before) = other (ap (λ n. (event t n).hart) (sym e) ∙ before.same_hart)

pub behind_skip : (is : List Instr) (t : List Event) (pos : ℕ → ℕ) (b k : ℕ) (d : Behind) → k < b → ((event t k).hart ≡ (event t b).hart → ⊥) →
    IsBehind is t pos b (k + 1) d → IsBehind is t pos b k d
behind_skip is t pos b k d below other was = record {
  needed = λ a m r l n demand e. elim (cases_lt k m) [
    | inl later ↦
        let p = was.needed a m r (omega (arith, l)) (omega (arith, later)) demand e in
        (p.0, p.1, stays_down is t (event t b).hart k (k + 1) p.0 a refl (λ s. absurd (other s)) p.2)
    | inr sooner ↦ absurd (other_demand is t pos b k below other m r (omega (arith, n, sooner)) demand)
  ];
  fenced = λ a f l fb. elim (cases_lt k f) [
    | inl later ↦ was.fenced a f (omega (arith, later)) fb
    | inr sooner ↦ absurd (let same : k ≡ f = omega (arith, l, sooner) in other (ap (λ n. (event t n).hart) same ∙ fb.1.same_hart))
  ];
}

-- ---- what they say of an operation before them

pub none_asks : (is : List Instr) (t : List Event) (pos : ℕ → ℕ) (a b : ℕ) (d : Behind) → IsBehind is t pos b (a + 1) d → ProgramBefore t a b →
    (loads (event t a).access ≡ true → d.loads ≡ false) → (stores (event t a).access ≡ true → d.stores ≡ false) → is_needed d (destination_at is t a) ≡ false →
    ((k : OrderRule) → is_of_pair k ≡ true → Asks k is t pos a b → ⊥) → NoneAsks is t pos a b
none_asks is t pos a b d behind before no_loads no_stores no_needed no_pair = asked
  where
    undemanded : (m r : ℕ) → Demands is t pos b m r → Depends is t (event t b).hart m r a → ⊥
    undemanded m r demand e =
        let l = depends_earlier is t (event t b).hart m r a e in
        let p = behind.needed a m r (omega arith) (omega (arith, l)) demand e in
        elim (cases_eq p.0 (destination_at is t a)) [
          | inl same ↦ let yes = subst (λ q. is_needed d q ≡ true) same p.1 in cc
          | inr other ↦
              let n = depends_earlier is t (event t b).hart a p.0 a (stays_down is t (event t b).hart a (a + 1) p.0 a refl (λ _ s. other (sym s)) p.2) in
              omega (arith, n)
        ]

    asked : NoneAsks is t pos a b
    asked OverlappingStore k = no_pair OverlappingStore refl k
    asked DifferentWrites k = no_pair DifferentWrites refl k
    asked ReturnsAtomic k = no_pair ReturnsAtomic refl k
    asked Fenced k = elim (behind.fenced a k.0 (let l = k.1.0.earlier in omega (arith, l)) k.1) [
      | inl p ↦ let no = no_loads p.0 in let yes = p.1 in cc
      | inr p ↦ let no = no_stores p.0 in let yes = p.1 in cc
    ]
    asked Acquired k = no_pair Acquired refl k
    asked Released k = no_pair Released refl k
    asked BothAnnotated k = no_pair BothAnnotated refl k
    asked Paired k = no_pair Paired refl k
    asked ByAddress k = undemanded b (registers_at is b).address own-address k
    asked ByData k = undemanded b (registers_at is b).value own-value k.1
    asked ByControl k =
        undemanded k.1.0 k.1.3.0 (steering k.1.0 k.1.3.0 k.0 k.1.1 k.1.2 k.1.3.1)
        (subst (λ h. Depends is t h k.1.0 k.1.3.0 a) k.1.1.same_hart k.1.3.2)
    asked ByForwarding k = elim k.1.2 [
      | inl e ↦ undemanded k.1.0 (registers_at is k.1.0).address (forwarded-address k.1.0 k.1.1 (k.0, (k.1.3, k.1.4)))
          (subst (λ h. Depends is t h k.1.0 (registers_at is k.1.0).address a) k.1.1.same_hart e)
      | inr e ↦ undemanded k.1.0 (registers_at is k.1.0).value (forwarded-value k.1.0 k.1.1 (k.0, (k.1.3, k.1.4)))
          (subst (λ h. Depends is t h k.1.0 (registers_at is k.1.0).value a) k.1.1.same_hart e)
    ]
    asked ByAddressBetween k = undemanded k.1.0 (registers_at is k.1.0).address (address-between k.1.0 k.0 k.1.1)
        (subst (λ h. Depends is t h k.1.0 (registers_at is k.1.0).address a) k.1.1.same_hart k.1.2)

-- ---- the list of candidates

pub no_candidates_yet : (is : List Instr) (t : List Event) (pos : ℕ → ℕ) (b k : ℕ) (may : List Bool) → length may ≡ b → b ≤ k → AreCandidates is t pos b k may
no_candidates_yet is t pos b k may size l = record { size = size; none = λ a low high. absurd (omega (arith, low, high, l)) }

pub one_candidate_more : (is : List Instr) (t : List Event) (pos : ℕ → ℕ) (b k : ℕ) (may : List Bool) (v : Bool) → k < b →
    (v ≡ false → ProgramBefore t k b → NoneAsks is t pos k b) → AreCandidates is t pos b (k + 1) may → AreCandidates is t pos b k (slice_set may k v)
one_candidate_more is t pos b k may v l here was = record {
  size = length-set may k v ∙ was.size;
  none = λ a low high no before. elim (cases_eq a k) [
    | inl same ↦
        let fits : k < length may = omega (arith, l, was.size) in
        let is_v : get_or (slice_set may k v) a true ≡ v = ap (λ n. get_or (slice_set may k v) n true) same ∙ get_or-set_same may k v true fits in
        subst (λ n. NoneAsks is t pos n b) (sym same) (here (sym is_v ∙ no) (subst (λ n. ProgramBefore t n b) same before))
    | inr other ↦ was.none a (omega (arith, low, other)) high (sym (get_or-set_other may k a v true other) ∙ no) before
  ];
}
