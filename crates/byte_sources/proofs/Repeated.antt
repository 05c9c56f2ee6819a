-- A load that repeats an earlier one has its sources.
use Rattle.std.proofs.Common.{◌≡◌, ℕ, zero, suc, ◌+◌, ◌-◌, ◌<◌, ◌≤◌, ◌==◌, ◌&&◌, Bool, true, false, not, if◌then◌else◌, List, [], ◌∷◌, map, Option, Some, refl, sym, ap, ◌∙◌, inl, inr, arith}
use Rattle.std.specs.List.{list_any, range_with_len}
use Rattle.std.proofs.lemmas.Bool.{cases_lt, eqb-true}
use Rattle.pages.specs.Memory.{in_range, width_bytes}
use Rattle.round_schedule.specs.declared.access.Access.{Access}
use Rattle.round_schedule.specs.declared.access.Access.TheVariants.{Load, Store, LoadReserved, StoreConditional, Atomic, Fence}
use Rattle.round_schedule.specs.declared.event.Event.{Event}
use Rattle.round_schedule.specs.declared.event.Phase.{Phase}
use Rattle.round_schedule.specs.declared.event.Phase.TheVariants.{Parallel, Serial}
use Rattle.round_schedule.specs.Accesses.{address_of, bytes_of, loads, stores}
use Rattle.round_schedule.specs.Events.{is_serial}
use Rattle.round_schedule.specs.Positions.{event, writes_at}
use Rattle.round_schedule.specs.RoundTrace.{phase_number}
use Rattle.memory_order.proofs.Facts.{and_left, and_right}
use Rattle.byte_sources.specs.Laws.{RepeatsReadFromTheSame}
use Rattle.byte_sources.specs.Phases.{one_phase, same_turn}
use Rattle.byte_sources.specs.Repeats.{repeats, same_load, writes_some}
use Rattle.byte_sources.specs.Sources.{between, bytes, gives, last_below, sees, source, sources}
use Rattle.byte_sources.proofs.Sourcing.{any_in_range}

-- ---- two equal loads

same_bytes : (a b : Access) → same_load a b ≡ true → bytes a ≡ bytes b
same_bytes (Load w p a r) (Load v q b s) h =
    let count : width_bytes v ≡ width_bytes w = eqb-true _ _ (and_left (width_bytes v == width_bytes w) (b == a) (and_left ((width_bytes v == width_bytes w) && (b == a)) (s == r) h)) in
    let first : b ≡ a = eqb-true _ _ (and_right (width_bytes v == width_bytes w) (b == a) (and_left ((width_bytes v == width_bytes w) && (b == a)) (s == r) h)) in
    cc
same_bytes (Load w p a r) (Store v q b s) h = cc
same_bytes (Load w p a r) (LoadReserved v o q b s) h = cc
same_bytes (Load w p a r) (StoreConditional v o q b s) h = cc
same_bytes (Load w p a r) (Atomic v o q b s z) h = cc
same_bytes (Load w p a r) (Fence c f m q) h = cc
same_bytes (Store w p a v) b h = cc
same_bytes (LoadReserved w o p a r) b h = cc
same_bytes (StoreConditional w o p a v) b h = cc
same_bytes (Atomic w o p a r v) b h = cc
same_bytes (Fence c f m p) b h = cc

first_loads : (a b : Access) → same_load a b ≡ true → loads a ≡ true
first_loads (Load w p a r) b h = refl
first_loads (Store w p a v) b h = cc
first_loads (LoadReserved w o p a r) b h = cc
first_loads (StoreConditional w o p a v) b h = cc
first_loads (Atomic w o p a r v) b h = cc
first_loads (Fence c f m p) b h = cc

first_keeps : (a b : Access) → same_load a b ≡ true → stores a ≡ false
first_keeps (Load w p a r) b h = refl
first_keeps (Store w p a v) b h = cc
first_keeps (LoadReserved w o p a r) b h = cc
first_keeps (StoreConditional w o p a v) b h = cc
first_keeps (Atomic w o p a r v) b h = cc
first_keeps (Fence c f m p) b h = cc

second_loads : (a b : Access) → same_load a b ≡ true → loads b ≡ true
second_loads (Load w p a r) (Load v q b s) h = refl
second_loads (Load w p a r) (Store v q b s) h = cc
second_loads (Load w p a r) (LoadReserved v o q b s) h = refl
second_loads (Load w p a r) (StoreConditional v o q b s) h = cc
second_loads (Load w p a r) (Atomic v o q b s z) h = refl
second_loads (Load w p a r) (Fence c f m q) h = cc
second_loads (Store w p a v) b h = cc
second_loads (LoadReserved w o p a r) b h = cc
second_loads (StoreConditional w o p a v) b h = cc
second_loads (Atomic w o p a r v) b h = cc
second_loads (Fence c f m p) b h = cc

-- ---- two events of one turn see the same

same_phase : (p q : Phase) → phase_number p ≡ phase_number q → is_serial p ≡ is_serial q
same_phase Parallel Parallel h = refl
same_phase Parallel Serial h = cc
same_phase Serial Parallel h = cc
same_phase Serial Serial h = refl

same_sight : (e f w : Event) → same_turn e f ≡ true → sees f w ≡ sees e w
same_sight e f w h =
    let part = and_left (one_phase e f) (e.hart == f.hart) h in
    let round : e.round ≡ f.round = eqb-true _ _ (and_left (e.round == f.round) (phase_number e.phase == phase_number f.phase) part) in
    let phase : is_serial e.phase ≡ is_serial f.phase = same_phase e.phase f.phase (eqb-true _ _ (and_right (e.round == f.round) (phase_number e.phase == phase_number f.phase) part)) in
    let hart : e.hart ≡ f.hart = eqb-true _ _ (and_right (one_phase e f) (e.hart == f.hart) h) in
    cc

-- ---- the last number below a bound

last_alike : (f g : ℕ → Bool) → ((w : ℕ) → f w ≡ g w) → (n : ℕ) → last_below f n ≡ last_below g n
last_alike f g h zero = refl
last_alike f g h (suc n) =
    ap (λ (b : Bool). if b then Some n else last_below f n) (h n) ∙ ap (λ (o : Option ℕ). if g n then Some n else o) (last_alike f g h n)

-- none from n on passes
pub last_passed : (f : ℕ → Bool) (n d : ℕ) → ((w : ℕ) → n ≤ w → w < n + d → f w ≡ false) → last_below f (n + d) ≡ last_below f n
last_passed f n zero h = let e : n + 0 ≡ n = omega arith in ap (last_below f) e
last_passed f n (suc d) h =
    let e : n + suc d ≡ suc (n + d) = omega arith in
    ap (last_below f) e
    ∙ ap (λ (b : Bool). if b then Some (n + d) else last_below f (n + d)) (h (n + d) (omega arith) (omega arith))
    ∙ last_passed f n d (λ w l m. h w l (omega (arith, m)))

-- ---- nothing in a list passes

none_passes : (b : Bool) → not b ≡ true → b ≡ false
none_passes true h = cc
none_passes false h = refl

not_any : (p : ℕ → Bool) (a n x : ℕ) → list_any p (range_with_len a n) ≡ false → a ≤ x → x < a + n → p x ≡ false
not_any p a n x h l m = by_test (p x) refl
  where
    by_test : (b : Bool) → p x ≡ b → b ≡ false
    by_test false e = refl
    by_test true e = let f = any_in_range p a n x l m e in cc

-- ---- the sources

map_alike : {A : Type 0} (f g : ℕ → A) (a n : ℕ) → ((x : ℕ) → a ≤ x → x < a + n → f x ≡ g x) → map f (range_with_len a n) ≡ map g (range_with_len a n)
map_alike f g a zero h = refl
map_alike {A} f g a (suc n) h =
    ap (λ (y : A). y ∷ map f (range_with_len (a + 1) n)) (h a (omega arith) (omega arith))
    ∙ ap (λ (ys : List A). g a ∷ ys) (map_alike f g (a + 1) n (λ x l m. h x (omega (arith, l)) (omega (arith, m))))

-- no event from i up to j writes the byte
pub source_alike : (t : List Event) (i j x : ℕ) → i < j → same_turn (event t i) (event t j) ≡ true → ((k : ℕ) → i ≤ k → k < j → writes_at t k x ≡ false) →
    source t j x ≡ source t i x
unfolding source
source_alike t i j x l same none =
    let d : ℕ = j - i in
    let e : j ≡ i + d = omega arith in
    last_alike (gives t (event t j) x) (gives t (event t i) x) (λ w. ap (λ (b : Bool). writes_at t w x && b) (same_sight (event t i) (event t j) (event t w) same)) j
    ∙ ap (last_below (gives t (event t i) x)) e
    ∙ last_passed (gives t (event t i) x) i d (λ w low high. let quiet : writes_at t w x ≡ false = none w low (omega (arith, high, e)) in ap (λ (b : Bool). b && sees (event t i) (event t w)) quiet)

pub repeated : RepeatsReadFromTheSame
unfolding repeats sources
repeated t i j l h =
    let a : Access = (event t i).access in
    let first = and_left (same_turn (event t i) (event t j) && same_load a (event t j).access) (not (list_any (writes_some t a) (between (i + 1) j))) h in
    let turn = and_left (same_turn (event t i) (event t j)) (same_load a (event t j).access) first in
    let alike = and_right (same_turn (event t i) (event t j)) (same_load a (event t j).access) first in
    let quiet = none_passes _ (and_right (same_turn (event t i) (event t j) && same_load a (event t j).access) (not (list_any (writes_some t a) (between (i + 1) j))) h) in
    ap (λ (b : Bool). if b then map (source t j) (bytes (event t j).access) else []) (second_loads a (event t j).access alike)
    ∙ ap (map (source t j)) (sym (same_bytes a (event t j).access alike))
    ∙ map_alike (source t j) (source t i) (address_of a) ((address_of a + bytes_of a) - address_of a)
    (λ x low high. source_alike t i j x l turn (λ k from to. unwritten t i j x l alike quiet low (omega (arith, high)) k from to))
    ∙ sym (ap (λ (b : Bool). if b then map (source t i) (bytes a) else []) (first_loads a (event t j).access alike))
  where
    still : (a : Access) (x : ℕ) → stores a ≡ false → (stores a && in_range (address_of a) (bytes_of a) x) ≡ false
    still a x h = ap (λ (b : Bool). b && in_range (address_of a) (bytes_of a) x) h

    unwritten : (t : List Event) (i j x : ℕ) → i < j → same_load (event t i).access (event t j).access ≡ true →
        list_any (writes_some t (event t i).access) (between (i + 1) j) ≡ false → address_of (event t i).access ≤ x → x < address_of (event t i).access + bytes_of (event t i).access →
        (k : ℕ) → i ≤ k → k < j → writes_at t k x ≡ false
    unwritten t i j x l alike quiet low high k from to = elim (cases_lt i k) [
      | inl m ↦
          let some = not_any (writes_some t (event t i).access) (i + 1) (j - (i + 1)) k quiet (omega arith) (omega arith) in
          not_any (λ y. writes_at t k y) (address_of (event t i).access) ((address_of (event t i).access + bytes_of (event t i).access) - address_of (event t i).access) x some low (omega arith)
      | inr m ↦
          let e : k ≡ i = omega arith in
          let keeps = first_keeps (event t i).access (event t j).access alike in
          ap (λ (n : ℕ). writes_at t n x) e ∙ still (event t i).access x keeps
    ]
