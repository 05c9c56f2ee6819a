-- Pages of 4096 bytes, end to end. A page that holds no bytes reads 0.
use Rattle.std.specs.Prelude.{ℕ, ◌*◌, ◌%◌, ◌^◌, List, [], ◌∷◌, ◌++◌, length, map, take, drop, replicate, Bool, true, false, Option, None, Some}
use Rattle.pages.specs.declared.access.Store.{Store}

-- a page: its bytes, 4096 or none, and whether they are its own, so that a store can be done in place
pub record Page : Type 0 where
  pub own : Bool
  pub bytes : List ℕ

-- the bytes of a page that nothing was written to
unfoldable pub blank : List ℕ
blank = replicate 4096 0

-- a page that holds nothing
abbrev pub absent : Page
absent = record { own = false; bytes = [] }

-- the page of these bytes of its own, or, where it has none, of those that it shares
abbrev pub page_of : List ℕ → List ℕ → Page
page_of [] shared = record { own = false; bytes = shared }
page_of (b ∷ bs) shared = record { own = true; bytes = b ∷ bs }

-- the bytes that are shared, if there are some
abbrev pub bytes_in : {X : Type 0} → Option X → (X → List ℕ) → List ℕ
bytes_in None bytes = []
bytes_in (Some x) bytes = bytes x

-- what a page reads as: 4096 bytes
unfoldable pub full : Page → List ℕ
full p = map (λ b. b % 2 ^ 8) (take 4096 (p.bytes ++ blank))

abbrev pub flat : List Page → List ℕ
flat [] = []
flat (p ∷ ps) = full p ++ flat ps

-- the bytes of page i
unfoldable pub page_bytes : List ℕ → ℕ → List ℕ
page_bytes bs i = take 4096 (drop (4096 * i) bs)

-- whether a page holds bytes of its own
abbrev pub is_ready : Page → Bool
is_ready p = p.own

-- a store, its address counted from the start of its page
abbrev pub in_page : Store → Store
in_page s = record s { address = s.address % 4096 }

-- ys over the front of xs, which has the same length where the two have
abbrev pub laid : {X : Type 0} → List X → List X → List X
laid xs ys = take (length xs) (ys ++ drop (length ys) xs)
