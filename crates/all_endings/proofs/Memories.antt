-- Memory after the operations of an order is memory after its stores.
use Rattle.std.proofs.Common.{◌≡◌, ℕ, zero, suc, ◌&&◌, Bool, true, false, cond, if◌then◌else◌, List, [], ◌∷◌, length, map, filter, get_or, refl, sym, ◌∙◌}
use Rattle.pages.specs.Memory.{in_range}
use Rattle.round_schedule.specs.declared.event.Event.{Event}
use Rattle.round_schedule.specs.Accesses.{address_of, byte_written, bytes_of}
use Rattle.round_schedule.specs.Positions.{event, writes_at}
use Rattle.memory_order.specs.Operations.{is_store}
use Rattle.all_endings.specs.Endings.{memory_after}
use Rattle.all_endings.specs.StoreLists.{Stored, all_stores, byte_at, byte_in, has_byte, last_place, no_store, told}
use Rattle.all_endings.specs.Tables.{memory_of}

-- memory after one store
abbrev written_by : Stored → (ℕ → ℕ) → ℕ → ℕ
written_by s mem y = if has_byte s y then byte_in s y else mem y

-- a store before a list
one_first : (s : Stored) (m : List Stored) (mem : ℕ → ℕ) (x k : ℕ) → byte_at (s ∷ m) mem x (last_place (s ∷ m) x (suc k)) ≡ byte_at m (written_by s mem) x (last_place m x k)
one_first s m mem x zero = by_test (has_byte s x)
  where
    by_test : (b : Bool) → byte_at (s ∷ m) mem x (if b then 1 else 0) ≡ (if b then byte_in s x else mem x)
    by_test true = refl
    by_test false = refl
one_first s m mem x (suc k) = more (has_byte (get_or m k no_store) x) (one_first s m mem x k)
  where
    more : (b : Bool) → byte_at (s ∷ m) mem x (last_place (s ∷ m) x (suc k)) ≡ byte_at m (written_by s mem) x (last_place m x k) →
        byte_at (s ∷ m) mem x (if b then suc (suc k) else last_place (s ∷ m) x (suc k)) ≡ byte_at m (written_by s mem) x (if b then suc k else last_place m x k)
    more true r = refl
    more false r = r

after_same : (t : List Event) (g : List ℕ) (f k : ℕ → ℕ) → ((y : ℕ) → f y ≡ k y) → (x : ℕ) → memory_after t g f x ≡ memory_after t g k x
after_same t [] f k same x = same x
after_same t (a ∷ g) f k same x = after_same t g _ _ (λ y. by_test (writes_at t a y) y) x
  where
    by_test : (b : Bool) (y : ℕ) → (if b then byte_written (event t a).access y else f y) ≡ (if b then byte_written (event t a).access y else k y)
    by_test true y = refl
    by_test false y = same y

-- an operation before an order
step_after : (t : List Event) (a : ℕ) (g : List ℕ) (mem : ℕ → ℕ) (x : ℕ) (b : Bool) →
    ((f : ℕ → ℕ) → memory_after t g f x ≡ memory_of (all_stores t g) f x) →
    memory_after t g (λ y. if b && in_range (address_of (event t a).access) (bytes_of (event t a).access) y then byte_written (event t a).access y else mem y) x ≡
    memory_of (map (λ i. told (event t i)) (cond b (a ∷ filter (λ i. is_store (event t i)) g) (filter (λ i. is_store (event t i)) g))) mem x
step_after t a g mem x true rest = rest (written_by (told (event t a)) mem) ∙ sym (one_first (told (event t a)) (all_stores t g) mem x (length (all_stores t g)))
step_after t a g mem x false rest = rest mem

pub memories_same : (t : List Event) (g : List ℕ) (mem : ℕ → ℕ) (x : ℕ) → memory_after t g mem x ≡ memory_of (all_stores t g) mem x
memories_same t [] mem x = refl
memories_same t (a ∷ g) mem x = step_after t a g mem x (is_store (event t a)) (λ f. memories_same t g f x)
