-- What the checker of orders keeps: bounds of positions, in maps from pairs of numbers.
use Rattle.std.specs.Prelude.{◌≡◌, ℕ, ◌+◌, ◌-◌, ◌/◌, ◌%◌, ◌<◌, ◌⊎◌, ◌==◌, ◌&&◌, Bool, true, max, if◌then◌else◌, List, [], length, replicate, slice_index, slice_index_or, unwrap_or}
use Rattle.std.specs.Ordering.{nat_cmp, ordering_then}
use Rattle.std.specs.declared.cmp.Ordering.{Ordering}
use Rattle.std.specs.BTreeMap.{BTreeMap, get}
use Rattle.round_schedule.specs.declared.event.Event.{Event}
use Rattle.round_schedule.specs.Accesses.{byte_read, byte_written, writes}
use Rattle.round_schedule.specs.Positions.{event, reads_at}
use Rattle.pages.specs.Memory.{in_range}
use Rattle.memory_order.specs.Operations.{is_lr_or_sc}
use Rattle.memory_order.specs.Orders.{order_position}

-- the list r has the position of each event of the trace in the order
abbrev pub IsRanking : List Event → List ℕ → List ℕ → Type 0
IsRanking t g r = (length r ≡ length t) × ((i : ℕ) → i < length t → slice_index r i ≡ order_position g i)

-- v is one more than the greatest position of the indexes that P holds of; 0 where there is none
pub record IsMax (pos : ℕ → ℕ) (P : ℕ → Type 0) (v : ℕ) : Type 0 where
  pub upper : (a : ℕ) → P a → pos a < v
  pub attained : (v ≡ 0) ⊎ ((a : ℕ) × P a × (pos a + 1 ≡ v))

-- the events before index i of the trace, on hart h, that pass a test
abbrev pub Earlier : (Event → Bool) → List Event → ℕ → ℕ → ℕ → Type 0
Earlier q t h i a = (a < i) × ((event t a).hart ≡ h) × (q (event t a) ≡ true)

-- the events below position p of the order that pass a test
abbrev pub Below : (Event → Bool) → List Event → (ℕ → ℕ) → ℕ → ℕ → Type 0
Below q t pos p a = (q (event t a) ≡ true) × (pos a < p)

-- the hart's stores to byte x before the one at r in the program
abbrev pub OwnWrite : List Event → ℕ → ℕ → ℕ → Type 0
OwnWrite t r x = Earlier (λ e. writes e.access x) t (event t r).hart r

-- of each of the first n events, the bound of the indexes of its hart's LRs and SCs before it
abbrev pub AreReserved : List Event → ℕ → List ℕ → Type 0
AreReserved t n v = (length v ≡ n) × ((c : ℕ) → c < n → IsMax (λ i. i) (Earlier (λ e. is_lr_or_sc e.access) t (event t c).hart c) (slice_index v c))

-- the byte x that the store before position v of the order left; the opening byte for 0
abbrev pub left_by : List Event → (ℕ → ℕ) → List ℕ → ℕ → ℕ → ℕ
left_by t opening g x v = if v == 0 then opening x else byte_written (event t (slice_index g (v - 1))).access x

-- the byte x of the load at r is the one that the store before position v left
abbrev pub IsLeft : List Event → (ℕ → ℕ) → List ℕ → ℕ → ℕ → ℕ → Type 0
IsLeft t opening g r x v = byte_read (event t r).access x ≡ left_by t opening g x v

abbrev pub pair_cmp : ℕ × ℕ → ℕ × ℕ → Ordering
pair_cmp x y = ordering_then (nat_cmp x.0 y.0) (nat_cmp x.1 y.1)

-- the eight numbers of a word; all 0 where nothing stands
abbrev pub word_of : BTreeMap (ℕ × ℕ) (List ℕ) → ℕ → ℕ → List ℕ
word_of m h w = unwrap_or (get pair_cmp m (h, w)) (replicate 8 0)

-- what the map holds at a pair; 0 where nothing
abbrev pub bound : BTreeMap (ℕ × ℕ) (List ℕ) → ℕ → ℕ → ℕ
bound m h x = slice_index (word_of m h (x / 8)) (x % 8)

-- the numbers that a list has for the operation at a position; the one of byte x stands at x % 8
abbrev pub row_of : List (List ℕ) → ℕ → List ℕ
row_of s p = slice_index_or s p []

abbrev pub source_at : List (List ℕ) → ℕ → ℕ → ℕ
source_at s p x = slice_index (row_of s p) (x % 8)

-- and what it has for byte x of the operation at index r of the trace
abbrev pub source_of : List ℕ → List (List ℕ) → ℕ → ℕ → ℕ
source_of g s r x = source_at s (order_position g r) x

-- the list has the bound of the indexes that P holds of, for each load and each of its bytes
pub record AreSources (t : List Event) (g : List ℕ) (P : ℕ → ℕ → ℕ → Type 0) (s : List (List ℕ)) : Type 0 where
  pub len : length s ≡ length g
  pub max : (r x : ℕ) → reads_at t r x ≡ true → IsMax (order_position g) (P r x) (source_of g s r x)

-- the number at one pair is raised to v
abbrev pub Raises : BTreeMap (ℕ × ℕ) (List ℕ) → BTreeMap (ℕ × ℕ) (List ℕ) → ℕ → ℕ → ℕ → Type 0
Raises old new a y v = (h x : ℕ) → bound new h x ≡ (if h == a && x == y then max (bound old h x) v else bound old h x)

-- the numbers at a and each byte of a range are raised to those of a function
abbrev pub RaisesBytes : BTreeMap (ℕ × ℕ) (List ℕ) → BTreeMap (ℕ × ℕ) (List ℕ) → ℕ → ℕ → ℕ → (ℕ → ℕ) → Type 0
RaisesBytes old new a address n f =
    (h x : ℕ) → bound new h x ≡ (if h == a && in_range address n x then max (bound old h x) (f x) else bound old h x)
