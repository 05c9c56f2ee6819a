-- What a seat knows, and the steps by which it comes to know more.
use Rattle.std.specs.Prelude.{ℕ, zero, suc, ◌+◌, ◌==◌, true, false, if◌then◌else◌, List, [], ◌∷◌, ◌++◌, length, drop}
use Rattle.run_book.specs.declared.sitter.Sitter.{Sitter}

module _ {E : Type 0} where
  -- a seat that knows nothing yet
  abbrev pub newcomer : ℕ → ℕ → Sitter E
  newcomer harts number = record { number = number; harts = harts; claims = []; seen = []; own = []; page = []; round = 0; gone = []; holding = false }

  -- n of them, numbered from k on
  abbrev pub newcomers_from : ℕ → ℕ → ℕ → List (Sitter E)
  newcomers_from harts k zero = []
  newcomers_from harts k (suc n) = newcomer harts k ∷ newcomers_from harts (suc k) n

  abbrev pub newcomers : ℕ → ℕ → List (Sitter E)
  newcomers harts n = newcomers_from harts 0 n

  -- the first of a view, or one that knows nothing
  abbrev pub sitter : List (Sitter E) → Sitter E
  sitter [] = newcomer 0 0
  sitter (x ∷ xs) = x

  abbrev pub first_of : List (Sitter E) → List (Sitter E)
  first_of [] = []
  first_of (x ∷ xs) = x ∷ []

  abbrev pub others_of : List (Sitter E) → List (Sitter E)
  others_of [] = []
  others_of (x ∷ xs) = xs

  abbrev pub with_claim : ℕ → Sitter E → Sitter E
  with_claim h x = record x { claims = x.claims ++ h ∷ [] }

  abbrev pub with_seen : List E → Sitter E → Sitter E
  with_seen es x = record x { seen = es }

  -- it holds the lock, and sees the whole history and what stands in the slot
  abbrev pub with_lock : List E → List E → Sitter E → Sitter E
  with_lock es page x = record x { seen = es; page = page; holding = true }

  -- it gives the lock up, and what was added to the slot is its own
  abbrev pub with_puts : List E → Sitter E → Sitter E
  with_puts page x = record x { seen = x.seen ++ drop (length x.page) page; own = x.own ++ drop (length x.page) page; holding = false }

  -- the slot's history was taken out, and this round is open
  abbrev pub with_turn : ℕ → Sitter E → Sitter E
  with_turn round x = record x { page = []; round = round; gone = x.seen }

  -- it gives the lock up
  abbrev pub without_lock : Sitter E → Sitter E
  without_lock x = record x { holding = false }

  abbrev pub one : Sitter E → ℕ
  one x = 1

  abbrev pub numbered : ℕ → Sitter E → ℕ
  numbered k x = if x.number == k then 1 else 0

  abbrev pub held : Sitter E → ℕ
  held x = if x.holding then 1 else 0

  abbrev pub sum_in : (Sitter E → ℕ) → List (Sitter E) → ℕ
  sum_in f [] = 0
  sum_in f (x ∷ xs) = f x + sum_in f xs

  -- over all seats of all views
  abbrev pub sum_of : (Sitter E → ℕ) → List (List (Sitter E)) → ℕ
  sum_of f [] = 0
  sum_of f (v ∷ vs) = sum_in f v + sum_of f vs
