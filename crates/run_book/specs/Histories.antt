-- Histories of puts, and the gathering as a machine whose steps are claims, takings of the lock, puts and releases.
use Rattle.std.specs.Prelude.{◌≡◌, ℕ, ◌<◌, ◌==◌, true, false, if◌then◌else◌, List, [], ◌∷◌, ◌++◌, map, length, Option, Some, None, find}
use mathlib.Core.Option.{some}
use lib.ListN.{get_elem?}
use Rattle.run_book.specs.Lists.{Each, Apart, has, times}

-- who claimed hart 0, 1, .., who holds the lock, and what was put
pub record Gathering (E : Type 0) : Type 0 where
  pub owners : List ℕ
  pub holder : Option ℕ
  pub history : List E

-- a seat claims the next hart; a seat takes the lock; its holder puts an entry; its holder gives it up
pub data Move (E : Type 0) : Type 0 where
  claims : ℕ → Move E
  takes : ℕ → Move E
  puts : E → Move E
  releases : Move E

abbrev pub opening : {E : Type 0} → Gathering E
opening = record { owners = []; holder = None; history = [] }

abbrev pub after_move : {E : Type 0} → Gathering E → Move E → Gathering E
after_move m (claims k) = record m { owners = m.owners ++ k ∷ [] }
after_move m (takes k) = record m { holder = Some k }
after_move m (puts e) = record m { history = m.history ++ e ∷ [] }
after_move m releases = record m { holder = None }

abbrev pub after_moves : {E : Type 0} → Gathering E → List (Move E) → Gathering E
after_moves m [] = m
after_moves m (x ∷ xs) = after_moves (after_move m x) xs

module _ {E : Type 0} (hart seat : E → ℕ) where
  abbrev pub harts_of : List E → List ℕ
  harts_of es = map hart es

  -- the entries that a seat put
  abbrev pub of_seat : ℕ → List E → List E
  of_seat k [] = []
  of_seat k (e ∷ es) = if seat e == k then e ∷ of_seat k es else of_seat k es

  -- no hart comes twice, and each entry of this seat is of a hart that the seat claimed
  pub record IsHistory (number : ℕ) (claimed : List ℕ) (es : List E) : Type 0 where
    pub apart : Apart (harts_of es)
    pub claimed_are : Each (λ e. seat e ≡ number → has claimed (hart e) ≡ true) es

  -- the entry of a hart
  abbrev pub entry_of : ℕ → List E → Option E
  entry_of h es = find (λ e. hart e == h) es

  -- each hart stands in the history once
  abbrev pub Complete : ℕ → List E → Type 0
  Complete harts es = (h : ℕ) → h < harts → times h (harts_of es) ≡ 1

  module _ (right : E → Type 0) (harts : ℕ) where
    abbrev pub May : Gathering E → Move E → Type 0
    May m (claims k) = length m.owners < harts
    May m (takes k) = m.holder ≡ None
    May m (puts e) = (m.holder ≡ Some (seat e)) × (get_elem? m.owners (hart e) ≡ some (seat e)) × (has (harts_of m.history) (hart e) ≡ false) × right e
    May m releases = (k : ℕ) × (m.holder ≡ Some k)

    -- a legal list of moves
    abbrev pub AllMay : Gathering E → List (Move E) → Type 0
    AllMay m [] = Unit {0}
    AllMay m (x ∷ xs) = May m x × AllMay (after_move m x) xs

    -- a legal list of moves leaves these owners, a free lock and this history
    abbrev pub Made : List ℕ → List E → Type 0
    Made owners es = (moves : List (Move E)) × AllMay opening moves × (after_moves opening moves ≡ record { owners = owners; holder = None; history = es })

    -- any two legal lists that are complete leave the same entries: at each hart a right one of it
    abbrev pub SameTable : Type 0
    SameTable =
        (xs ys : List (Move E)) → AllMay opening xs → AllMay opening ys →
        Complete harts (after_moves opening xs).history → Complete harts (after_moves opening ys).history →
        (h : ℕ) → h < harts →
        (e : E) × (f : E) × (entry_of h (after_moves opening xs).history ≡ Some e) × (entry_of h (after_moves opening ys).history ≡ Some f) × right e × right f × (hart e ≡ h) × (hart f ≡ h)
