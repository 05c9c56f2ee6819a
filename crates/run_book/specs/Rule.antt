-- The rule of a book's table, which each step keeps, and what each step tells its seat.
-- The first word is the lock: while it is free, it is the position of the next entry in the run's history, from 1 on, and else 0. The
-- second counts the turns, and the slot has the history of the open round.
use Rattle.std.specs.Prelude.{◌≡◌, ℕ, ◌+◌, ◌-◌, ◌^◌, ◌<◌, ◌≤◌, ◌≢◌, ◌⊎◌, true, false, List, [], ◌∷◌, ◌++◌, drop, length, slice_index}
use mathlib.Core.Option.{some}
use lib.ListN.{get_elem?}
use Rattle.atomic_table.specs.Table.{State, Me, Step, rest}
use Rattle.run_book.specs.declared.sitter.Sitter.{Sitter}
use Rattle.run_book.specs.declared.sitter.Size.{Size}
use Rattle.run_book.specs.Lists.{Begins, Each, Apart, has}
use Rattle.run_book.specs.Turns.{first_turn, turn_of}
use Rattle.run_book.specs.Sitters.{others_of, sitter, with_claim, with_lock, with_puts, with_seen, with_turn, without_lock, numbered, one, held, sum_of}
use Rattle.run_book.specs.Histories.{IsHistory, harts_of, of_seat}

abbrev pub View : Type 0 → Type 0
View E = List (Sitter E)

-- between two calls a seat has one sitter, and neither the lock nor the slot
pub record AtRest {S E : Type 0} (m : Me S (View E)) : Type 0 where
  pub alone : m.0 ≡ sitter m.0 ∷ []
  pub empty : m.1 ≡ []
  pub idle : (sitter m.0).holding ≡ false

module _ {E : Type 0} (hart seat : E → ℕ) where
  -- the round was ended: what stood in the slot is the round's, and all that was claimed in it
  pub record Ended (found : ℕ) (x : Sitter E) : Type 0 where
    pub round : ℕ
    pub counts : found ≡ turn_of round (length x.page)
    pub few : length x.page < 4294967296
    pub apart : Apart (harts_of hart seat x.page)
    pub within : Each (λ e. (first_turn round ≤ hart e) × (hart e < turn_of round (length x.page))) x.page
    pub owners : List ℕ
    pub all_claimed : length owners ≡ length x.page
    pub entries : Each (λ e. get_elem? owners (hart e - first_turn round) ≡ some (seat e)) x.page

-- `items` gives what stands in a slot, and `room` how many entries it has room for. The turn of an entry is its round's first and its hart
module _ {S E : Type 0} (items : S → List E) (room : S → ℕ) (hart seat : E → ℕ) where
  -- what one seat knows agrees with the owners, the history, its part that was taken out and the slot's, the lock word, who holds the
  -- lock, and the open round
  pub record Fits (size : Size) (owners : List ℕ) (log gone page : List E) (lock who round : ℕ) (x : Sitter E) : Type 0 where
    pub harts_are : x.harts ≡ size.harts
    pub below : x.number < size.seats
    pub claimed : (h : ℕ) → has x.claims h ≡ true → get_elem? owners h ≡ some x.number
    pub knows : (h : ℕ) → get_elem? owners h ≡ some x.number → has x.claims h ≡ true
    pub seen_is : Begins x.seen log
    pub own_is : x.own ≡ of_seat hart seat x.number log
    pub ends : x.number ≡ 0 → (x.round ≡ round) × (x.gone ≡ gone)
    pub holds : x.holding ≡ true → (lock ≡ 0) × (who ≡ x.number) × (x.seen ≡ log) × (x.page ≡ page)

  pub record BookHolds (size : Size) (s : State S (View E)) : Type 0 where
    -- who claimed turn 0, 1, ..: a seat, or nobody
    pub owners : List ℕ
    -- the history of the run: what was taken out, and what stands in the slot
    pub log : List E
    pub gone : List E
    pub page : List E
    -- who holds the lock
    pub who : ℕ
    -- which round is open
    pub round : ℕ
    pub wide : length s.words ≡ 2
    pub counts : slice_index s.words 1 ≡ length owners
    pub begun : first_turn round ≤ length owners
    pub low : length owners ≤ turn_of round size.harts
    pub small : (size.harts < 2 ^ 32) × (size.seats < 2 ^ 32) × (round < 2 ^ 32)
    pub log_is : log ≡ gone ++ page
    -- each round before the open one left a turn at least that nobody put
    pub taken : length gone + round ≤ first_turn round
    pub entries : Each (λ e. get_elem? owners (hart e) ≡ some (seat e)) log
    pub whose : Each (λ e. seat e < size.seats) log
    pub apart : Apart (harts_of hart seat log)
    -- the slot has entries of the open round alone, and of the rounds before it all that was claimed is put
    pub here : Each (λ e. first_turn round ≤ hart e) page
    pub settled : (t k : ℕ) → t < first_turn round → get_elem? owners t ≡ some k → k < size.seats → has (harts_of hart seat log) t ≡ true
    -- while the lock is free, nobody holds it, and the slot is at home
    pub free : 0 < slice_index s.words 0 → (slice_index s.words 0 ≡ length log + 1) × (sum_of held s.views ≡ 0) × ((v : S) × (get_elem? s.homes 0 ≡ some (some v)) × (items v ≡ page) × (size.harts ≤ room v))
    pub locked : slice_index s.words 0 ≡ 0 → sum_of held s.views ≡ 1
    pub seats : (k : ℕ) → k < size.seats → sum_of (numbered k) s.views ≡ 1
    pub all : sum_of one s.views ≡ size.seats
    pub fits : (j : ℕ) (v : View E) → get_elem? s.views j ≡ some v → Each (Fits size owners log gone page (slice_index s.words 0) who round) v

  -- a try at a claim: the counter was as was looked, and the turn is the seat's, and was not; or nothing changes
  abbrev pub Claimed : Step S → Me S (View E) → ℕ → Me S (View E) → Type 0
  Claimed st m r n =
      (r ≡ st.first → (n.1 ≡ m.1) × (n.0 ≡ with_claim r (sitter m.0) ∷ []) × (has (sitter m.0).claims r ≡ false))
      × (r ≢ st.first → n ≡ m)

  -- what the holder of the lock knows: all histories that were taken out, `before`, and what stands in the slot make up the run's, the
  -- word that it found is the position of the next entry, and there is room for it
  pub record Finds (x : Sitter E) (position : ℕ) (before : List E) (found : S) : Type 0 where
    pub position_is : position ≡ length (before ++ items found) + 1
    pub position_fits : position + 1 < 2 ^ 64
    pub begins : Begins x.seen (before ++ items found)
    pub gone : x.number ≡ 0 → before ≡ x.gone
    pub own : x.own ≡ of_seat hart seat x.number (before ++ items found)
    pub spare : x.harts ≤ room found
    pub few : length (items found) ≤ x.harts
    pub fewer : (h : ℕ) → has x.claims h ≡ true → has (harts_of hart seat x.own) h ≡ false → length (items found) < x.harts

  -- the lock is taken: the seat sees the whole history and has the slot
  pub record GotLock (position : ℕ) (x : Sitter E) (m n : Me S (View E)) : Type 0 where
    pub found : S
    pub before : List E
    pub sees : n.0 ≡ with_lock (before ++ items found) (items found) x ∷ []
    pub carries : n.1 ≡ (0, found) ∷ m.1
    pub finds : Finds x position before found

  -- the seat holds the lock and has taken the history `now` out of the slot, in which `blank` stands
  pub record HasTaken (position : ℕ) (x : Sitter E) (now blank : S) (n : Me S (View E)) : Type 0 where
    pub before : List E
    pub is : n ≡ (with_lock (before ++ items now) (items now) x ∷ [], (0, blank) ∷ [])
    pub finds : Finds x position before now

  -- a try at the lock: it was free, or nothing changes
  abbrev pub Acquired : Step S → Me S (View E) → ℕ → Me S (View E) → Type 0
  Acquired st m r n = (0 < r → GotLock r (sitter m.0) m n) × (r ≡ 0 → n ≡ m)

  -- the lock is given up with the slot, and an entry more in it
  abbrev pub Released : Step S → Me S (View E) → ℕ → Me S (View E) → Type 0
  Released st m r n =
      (v : S) → m.1 ≡ (0, v) ∷ []
      → (n.0 ≡ with_puts (items v) (sitter m.0) ∷ []) × (n.1 ≡ []) × IsHistory hart seat (sitter m.0).number (sitter m.0).claims ((sitter m.0).seen ++ drop (length (sitter m.0).page) (items v))

  -- the lock is given up with the slot as its holder knows it
  abbrev pub Returned : Step S → Me S (View E) → ℕ → Me S (View E) → Type 0
  Returned st m r n = (n.0 ≡ without_lock (sitter m.0) ∷ []) × (n.1 ≡ rest m.1)

  -- a try to end the round: it went, or nothing changes
  abbrev pub Turned : Step S → Me S (View E) → ℕ → Me S (View E) → Type 0
  Turned st m r n =
      (r ≡ st.first → (n.1 ≡ m.1) × ((next : ℕ) × (st.second ≡ first_turn next) × (n.0 ≡ with_turn next (sitter m.0) ∷ [])) × Ended hart seat r (sitter m.0))
      × (r ≢ st.first → n ≡ m)

  -- two seats in one view see what the longer of both saw, and no turn is claimed by both
  pub record Met (x y : Sitter E) (m n : Me S (View E)) : Type 0 where
    pub longer : List E
    pub views : n.0 ≡ with_seen longer x ∷ with_seen longer y ∷ []
    pub carries : n.1 ≡ m.1
    pub begins_first : Begins x.seen longer
    pub begins_second : Begins y.seen longer
    pub either : (longer ≡ x.seen) ⊎ (longer ≡ y.seen)
    pub apart : (h : ℕ) → has x.claims h ≡ true → has y.claims h ≡ false

  abbrev pub Compared : Step S → Me S (View E) → ℕ → Me S (View E) → Type 0
  Compared st m r n = Met (sitter m.0) (sitter (others_of m.0)) m n
