-- Where the stores to each word of memory stand, so that a store is found without going through the trace.
use Rattle.std.specs.Prelude.{◌≡◌, ℕ, zero, suc, ◌+◌, ◌/◌, ◌%◌, ◌<◌, ◌≤◌, ◌==◌, ◌&&◌, Bool, true, if◌then◌else◌, List, length, slice_index}
use Rattle.round_schedule.specs.declared.event.Event.{Event}
use Rattle.round_schedule.specs.Accesses.{address_of, bytes_of, stores}
use Rattle.round_schedule.specs.Positions.{event}
use Rattle.trace_events.specs.declared.writers.Writers.{Writers}

-- one more than the greatest number below n that passes a test, and 0 where there is none
abbrev pub after_last : (ℕ → Bool) → ℕ → ℕ
after_last test zero = 0
after_last test (suc n) = if test n then suc n else after_last test n

-- whether the event at i is a store whose first byte lies in word k, of 8 bytes
abbrev pub stores_word : List Event → ℕ → ℕ → Bool
stores_word t k i = stores (event t i).access && (address_of (event t i).access / 8 == k)

-- an access that lies in one word
abbrev pub LiesInWord : Event → Type 0
LiesInWord e = address_of e.access % 8 + bytes_of e.access ≤ 8

-- the word of the event at i
abbrev pub word_at : List Event → ℕ → ℕ
word_at t i = address_of (event t i).access / 8

-- whether two events are of one hart and one round, and whether they are of the same bytes
abbrev pub is_same_doer : Event → Event → Bool
is_same_doer e f = (e.round == f.round) && (e.hart == f.hart)

abbrev pub is_same_bytes : Event → Event → Bool
is_same_bytes e f = (address_of e.access == address_of f.access) && (bytes_of e.access == bytes_of f.access)

-- the index after a store, from which on up to the event at i all stores to its word are like that event; 0 where all before it are
pub record IsPast (same : Event → Event → Bool) (t : List Event) (i s : ℕ) : Type 0 where
  pub before : s ≤ i
  pub at_store : after_last (stores_word t (word_at t i)) s ≡ s
  pub alike : (v : ℕ) → s ≤ v → v < i → stores_word t (word_at t i) v ≡ true → same (event t v) (event t i) ≡ true

-- how it is found: by the index after the last store before, and what was found for that one
abbrev pub past : (Event → Event → Bool) → List Event → List ℕ → ℕ → ℕ → ℕ
past same t found i zero = 0
past same t found i (suc w) = if same (event t w) (event t i) then slice_index found w else suc w

-- these are the stores among the first n events of a trace: for each word of the list the index after the last store to it, and for
-- each store what stands past those before it to the same word that are of its hart and round, and past those of the same bytes; where
-- it is exact, each store lies in its word
pub record IndexesBy (t : List Event) (n : ℕ) (latest others other_bytes : List ℕ) (exact : Bool) : Type 0 where
  pub size : length others ≡ n
  pub other_size : length other_bytes ≡ n
  pub last_stores : (k : ℕ) → k < length latest → slice_index latest k ≡ after_last (stores_word t k) n
  pub past_own : (i : ℕ) → i < n → stores (event t i).access ≡ true → word_at t i < length latest →
      IsPast is_same_doer t i (slice_index others i)
  pub past_bytes : (i : ℕ) → i < n → stores (event t i).access ≡ true → word_at t i < length latest →
      IsPast is_same_bytes t i (slice_index other_bytes i)
  pub words : exact ≡ true → (i : ℕ) → i < n → stores (event t i).access ≡ true → LiesInWord (event t i)

abbrev pub Indexes : List Event → ℕ → Writers → Type 0
Indexes t n w = IndexesBy t n w.last.items w.of_others.items w.of_other_bytes.items w.exact
