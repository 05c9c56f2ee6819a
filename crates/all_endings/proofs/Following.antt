-- A run that follows a hart of an execution: what its state has to do with what the hart did so far.
use Rattle.std.proofs.Common.{◌≡◌, ◌≢◌, ℕ, zero, suc, ◌+◌, ◌<◌, ◌≤◌, ◌==◌, ◌&&◌, ◌||◌, ◌⊎◌, max, min, Bool, true, false, if◌then◌else◌, List, [], ◌∷◌, length, get_or, Option, Some, None, refl, sym, ap, ◌∙◌, inl, inr, arith}
use Rattle.std.proofs.lemmas.Bool.{cases_lt, eqb-true, ne_eqb, cond-false}
use Rattle.pages.specs.Memory.{Memory, width_bytes}
use Rattle.rv64_decode.specs.declared.instruction.Instr.{Instr}
use Rattle.round_schedule.specs.declared.event.Event.{Event}
use Rattle.round_schedule.specs.declared.span.Span.{Span}
use Rattle.round_schedule.specs.Accesses.{address_of, byte_written, bytes_of, is_lr, is_sc}
use Rattle.round_schedule.specs.Positions.{event, reads_at, writes_at}
use Rattle.hart_step.specs.declared.hart.Hart.{Hart}
use Rattle.memory_order.specs.Operations.{covers, is_amo, is_lr_or_sc, is_operation, is_store}
use Rattle.memory_order.specs.Orders.{order_position}
use Rattle.memory_order.specs.Rvwmo.{IsSource, MeetsRvwmoBy}
use Rattle.memory_order.specs.Dependencies.{DependencyRule, registers_at}
use Rattle.memory_order.proofs.Facts.{store_is_operation}
use Rattle.memory_order.proofs.Placing.{position_of_contained}
use Rattle.rule_checker.specs.CarriedBounds.{AreRegisters, carried_after, operand_bound}
use Rattle.rule_checker.specs.Kinds.{kinds_after}
use Rattle.rule_checker.specs.declared.carried.Carried.{Carried}
use Rattle.all_endings.specs.Endings.{opening_bytes}
use Rattle.all_endings.specs.Factorizing.{Lags}
use Rattle.all_endings.specs.RunStates.{OwnByte, RunState}
use Rattle.all_endings.specs.StoreLists.{Stored, place_behind, stores_of}
use Rattle.all_endings.specs.Times.{carried_before, kinds_before, stores_before, time_after, time_of, touched_before}
use Rattle.all_endings.proofs.SourceRegisters.{IsKnown}
use Rattle.all_endings.proofs.StoreLists.{store_counts}

-- what was done in an execution, in an order that RVWMO allows, and how many stores of the order are known
pub record Setting : Type 0 where
  pub image : Memory
  pub is : List Instr
  pub t : List Event
  pub g : List ℕ
  pub n : ℕ
  pub fit : (i : ℕ) → AreRegisters (registers_at is i)
  pub meets : MeetsRvwmoBy (DependencyRule is t) t (opening_bytes image) g
  pub many : length (stores_of n t g) ≡ n

abbrev pub after : Setting → ℕ → ℕ
after s i = time_after s.n s.t s.g i

abbrev pub time : Setting → ℕ → ℕ
time s i = time_of s.n s.t s.g i

abbrev pub list : Setting → List Stored
list s = stores_of s.n s.t s.g

abbrev pub place : Setting → Option ℕ → ℕ
place s u = place_behind s.n s.t s.g u

abbrev pub Source : Setting → ℕ → ℕ → Option ℕ → Type 0
Source s b x u = IsSource s.t (order_position s.g) b x u

abbrev pub carried_at_index : Setting → ℕ → ℕ → Carried
carried_at_index s h i = carried_before (after s) s.is s.t h i

-- a byte that the hart wrote last at w: what is known of it
pub record OwnLast (s : Setting) (h i x : ℕ) (o : OwnByte) : Type 0 where
  pub index : ℕ
  pub earlier : index < i
  pub hart : (event s.t index).hart ≡ h
  pub writes : writes_at s.t index x ≡ true
  pub last : (v : ℕ) → v < i → (event s.t v).hart ≡ h → writes_at s.t v x ≡ true → v ≤ index
  pub place : o.place ≡ after s index
  pub atomic : o.atomic ≡ (is_amo (event s.t index).access || is_sc (event s.t index).access)
  pub needs : o.needs ≡ operand_bound (carried_at_index s h index) (registers_at s.is index)
  pub byte : (o.byte ≡ Some (byte_written (event s.t index).access x)) ⊎ ((s.n < o.needs) ⊎ (o.atomic ≡ true))

abbrev pub OwnIs : Setting → ℕ → ℕ → ℕ → Option OwnByte → Type 0
OwnIs s h i x None = (v : ℕ) → v < i → (event s.t v).hart ≡ h → writes_at s.t v x ≡ true → ⊥
OwnIs s h i x (Some o) = OwnLast s h i x o

-- the LR of a reservation
pub record Reserving (s : Setting) (h i : ℕ) (a : RunState) (span : Span) : Type 0 where
  pub index : ℕ
  pub earlier : index < i
  pub hart : (event s.t index).hart ≡ h
  pub reserves : is_lr (event s.t index).access ≡ true
  pub address : address_of (event s.t index).access ≡ span.address
  pub bytes : bytes_of (event s.t index).access ≡ width_bytes span.width
  pub none_between : (k : ℕ) → index < k → k < i → (event s.t k).hart ≡ h → is_lr_or_sc (event s.t k).access ≡ true → ⊥
  pub reserved : a.reserved ≡ after s index
  pub sources : (x : ℕ) (u : Option ℕ) → reads_at s.t index x ≡ true → after s index ≤ s.n → Source s index x u → a.sources x ≡ place s u

pub record Follows (s : Setting) (h i : ℕ) (held : Option Span) (a : RunState) (k : Hart) : Type 0 where
  pub lags : Lags a k
  pub small : length a.registers ≡ 32
  pub size : length k.x ≡ 32
  pub known : IsKnown s.n a.registers a.carried
  pub kinds : a.kinds ≡ kinds_before (after s) s.t h i
  pub carried : a.carried ≡ carried_at_index s h i
  pub touched : (x : ℕ) → a.touched x ≡ touched_before (after s) s.t h x i
  pub seen : (b x : ℕ) (u : Option ℕ) → i ≤ b → (event s.t b).hart ≡ h → reads_at s.t b x ≡ true → Source s b x u → a.seen x ≤ place s u
  pub own : (x : ℕ) → OwnIs s h i x (a.own x)
  pub holds : a.held ≡ held
  pub reserving : (span : Span) → a.held ≡ Some span → Reserving s h i a span

-- ---- times of what is no store, and of stores

stores_flat : (t : List Event) (g : List ℕ) (p : ℕ) → (p < length g → is_store (event t (get_or g p 0)) ≡ false) → stores_before t g (suc p) ≡ stores_before t g p
stores_flat t [] p f = refl
stores_flat t (a ∷ g) zero f = by_test (is_store (event t a)) (f (omega arith)) (none_first t g)
  where
    none_first : (t : List Event) (g : List ℕ) → stores_before t g 0 ≡ 0
    none_first t [] = refl
    none_first t (a ∷ g) = refl

    by_test : (b : Bool) → b ≡ false → stores_before t g 0 ≡ 0 → (if b then 1 else 0) + stores_before t g 0 ≡ 0
    by_test true e z = absurd (cc)
    by_test false e z = omega (arith, z)
stores_flat t (a ∷ g) (suc p) f = ap (λ (k : ℕ). (if is_store (event t a) then 1 else 0) + k) (stores_flat t g p (λ l. f (omega (arith, l))))

found_step : (b a : ℕ) (g : List ℕ) (c : Bool) → (b == a) ≡ c → (order_position g a < length g → get_or g (order_position g a) 0 ≡ a) →
    (if c then 0 else suc (order_position g a)) < suc (length g) → get_or (b ∷ g) (if c then 0 else suc (order_position g a)) 0 ≡ a
found_step b a g true e rest l = eqb-true b a e
found_step b a g false e rest l = rest (omega (arith, l))

found_at : (g : List ℕ) (a : ℕ) → order_position g a < length g → get_or g (order_position g a) 0 ≡ a
found_at [] a l = absurd (omega (arith, l))
found_at (b ∷ g) a l = found_step b a g (b == a) refl (λ k. found_at g a k) l

-- what is no store stands at one time, before it and behind it
pub after_other : (s : Setting) (i : ℕ) → is_store (event s.t i) ≡ false → after s i ≡ time s i
after_other s i none =
    let e : order_position s.g i + 1 ≡ suc (order_position s.g i) = omega arith in
    let k : stores_before s.t s.g (order_position s.g i + 1) ≡ stores_before s.t s.g (order_position s.g i) =
    ap (stores_before s.t s.g) e ∙ stores_flat s.t s.g (order_position s.g i) (λ l. ap (λ (j : ℕ). is_store (event s.t j)) (found_at s.g i l) ∙ none) in
    ap (λ (k : ℕ). min k (s.n + 1)) k

-- behind a store is one more; behind all that is known stays LATER
pub after_store : (s : Setting) (i : ℕ) → is_store (event s.t i) ≡ true → after s i ≡ min (time s i + 1) (s.n + 1)
after_store s i store =
    let f = position_of_contained s.g i (s.meets.lists.each i (store_is_operation (event s.t i) store)) in
    let e : order_position s.g i + 1 ≡ suc (order_position s.g i) = omega arith in
    let k : stores_before s.t s.g (order_position s.g i + 1) ≡ stores_before s.t s.g (order_position s.g i) + 1 =
    ap (stores_before s.t s.g) e ∙ store_counts s.t s.g (order_position s.g i) f.0 (ap (λ (j : ℕ). is_store (event s.t j)) f.1 ∙ store) in
    omega (arith, k)

pub time_small : (s : Setting) (i : ℕ) → time s i ≤ s.n + 1
time_small s i = omega arith

-- ---- a step of another hart

abbrev Other : Setting → ℕ → ℕ → Type 0
Other s h i = (h == (event s.t i).hart) ≡ false

pub not_it : (s : Setting) (h i v : ℕ) → (event s.t i).hart ≢ h → v < suc i → (event s.t v).hart ≡ h → v < i
not_it s h i v other l here = elim (cases_lt v i) [
  | inl k ↦ k
  | inr k ↦ let e : i ≡ v = omega (arith, k, l) in absurd (other (ap (λ (j : ℕ). (event s.t j).hart) e ∙ here))
]

own_other : (s : Setting) (h i x : ℕ) (o : Option OwnByte) → (event s.t i).hart ≢ h → OwnIs s h i x o → OwnIs s h (suc i) x o
own_other s h i x None other own = λ v l here w. own v (not_it s h i v other l here) here w
own_other s h i x (Some o) other own = record {
  index = own.index;
  earlier = (let l = own.earlier in omega (arith, l));
  hart = own.hart;
  writes = own.writes;
  last = λ v l here w. own.last v (not_it s h i v other l here) here w;
  place = own.place;
  atomic = own.atomic;
  needs = own.needs;
  byte = own.byte;
}

pub follows_other : (s : Setting) (h i : ℕ) (held : Option Span) (a : RunState) (k : Hart) → (event s.t i).hart ≢ h → Follows s h i held a k → Follows s h (suc i) held a k
follows_other s h i held a k other f = record {
  lags = f.lags;
  small = f.small;
  size = f.size;
  known = f.known;
  kinds = f.kinds ∙ sym (cond-false (h == (event s.t i).hart) (kinds_after (kinds_before (after s) s.t h i) (event s.t i).access (is_operation (event s.t i)) (after s i)) (kinds_before (after s) s.t h i) no);
  carried = f.carried ∙ sym (cond-false (h == (event s.t i).hart) (carried_after (carried_at_index s h i) (registers_at s.is i) (event s.t i) (after s i)) (carried_at_index s h i) no);
  touched = λ x. f.touched x ∙ sym (cond-false (h == (event s.t i).hart && (is_operation (event s.t i) && covers (event s.t i).access x))
      (max (touched_before (after s) s.t h x i) (after s i)) (touched_before (after s) s.t h x i) (ap (λ (b : Bool). b && (is_operation (event s.t i) && covers (event s.t i).access x)) no));
  seen = λ b x u l here r source. f.seen b x u (omega (arith, l)) here r source;
  own = λ x. own_other s h i x (a.own x) other (f.own x);
  holds = f.holds;
  reserving = λ span is. let p = f.reserving span is in record {
    index = p.index;
    earlier = (let l = p.earlier in omega (arith, l));
    hart = p.hart;
    reserves = p.reserves;
    address = p.address;
    bytes = p.bytes;
    none_between = λ j l m here paired. p.none_between j l (not_it s h i j other m here) here paired;
    reserved = p.reserved;
    sources = p.sources;
  };
}
  where
    no : (h == (event s.t i).hart) ≡ false
    no = ne_eqb h (event s.t i).hart (λ e. other (sym e))
