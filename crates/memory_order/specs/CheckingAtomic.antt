-- The atomicity axiom as the checker takes it, position by position of the order.
use Rattle.std.specs.Prelude.{◌≡◌, ◌≢◌, ℕ, ◌+◌, ◌/◌, ◌%◌, ◌<◌, ◌==◌, true, if◌then◌else◌, List, Option, replicate, slice_index, unwrap_or}
use Rattle.std.specs.Ordering.{nat_cmp}
use Rattle.std.specs.BTreeMap.{BTreeMap, get}
use Rattle.round_schedule.specs.declared.event.Event.{Event}
use Rattle.round_schedule.specs.Accesses.{writes}
use Rattle.round_schedule.specs.Positions.{event, reads_at, writes_at}
use Rattle.memory_order.specs.Operations.{is_store}
use Rattle.memory_order.specs.Rvwmo.{IsPaired, IsSource, IsUndisturbed}
use Rattle.memory_order.specs.declared.checking.latest.Latest.{Latest}
use Rattle.memory_order.specs.declared.checking.latest.LatestOfWord.{LatestOfWord}
use Rattle.memory_order.specs.Checking.{Below, IsMax}

-- the atomicity axiom for the SC at c
abbrev pub AtomicAt : List Event → (ℕ → ℕ) → ℕ → Type 0
AtomicAt t pos c =
    (l x : ℕ) (s : Option ℕ) → IsPaired t l c → is_store (event t c) ≡ true → reads_at t l x ≡ true → IsSource t pos l x s → IsUndisturbed t pos c x s

abbrev pub no_store : Latest
no_store = record { last = 0; owner = 0; other = 0 }

abbrev pub no_stores : LatestOfWord
no_stores = record { last = replicate 8 0; owner = replicate 8 0; other = replicate 8 0 }

-- what a word holds at one of its eight bytes
abbrev pub latest_in : LatestOfWord → ℕ → Latest
latest_in w j = record { last = slice_index w.last j; owner = slice_index w.owner j; other = slice_index w.other j }

-- what a map of words holds at a byte
abbrev pub latest_of : BTreeMap ℕ LatestOfWord → ℕ → Latest
latest_of m x = latest_in (unwrap_or (get nat_cmp m (x / 8)) no_stores) (x % 8)

-- the bound of the latest store of another hart
abbrev pub others_of : Latest → ℕ → ℕ
others_of l h = if l.owner == h then l.other else l.last

abbrev pub after_store : Latest → ℕ → ℕ → Latest
after_store l h next = record { last = next; owner = h; other = others_of l h }

-- the stores of other harts than h to byte x below position p
abbrev pub OthersBelow : List Event → (ℕ → ℕ) → ℕ → ℕ → ℕ → ℕ → Type 0
OthersBelow t pos p x h a = (writes_at t a x ≡ true) × ((event t a).hart ≢ h) × (pos a < p)

-- the latest store to byte x below position p
pub record IsLatestStore (t : List Event) (pos : ℕ → ℕ) (p x : ℕ) (l : Latest) : Type 0 where
  pub last : IsMax pos (Below (λ e. writes e.access x) t pos p) l.last
  pub owner : (a : ℕ) → writes_at t a x ≡ true → pos a < p → pos a + 1 ≡ l.last → (event t a).hart ≡ l.owner
  pub other : IsMax pos (OthersBelow t pos p x l.owner) l.other
