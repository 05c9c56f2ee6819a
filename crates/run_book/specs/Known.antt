-- What callers see of a seat, of a book and of a closed book, and what the calls promise.
use Rattle.std.specs.Prelude.{◌≡◌, ℕ, ◌-◌, ◌<◌, ◌≤◌, List, [], ◌∷◌, ◌++◌, map, length}
use Rattle.atomic_table.specs.Seated.{TableId}
use Rattle.run_book.specs.declared.sitter.Sitter.{Sitter}
use Rattle.run_book.specs.Lists.{Apart, Each}
use Rattle.run_book.specs.Sitters.{newcomers}
use Rattle.run_book.specs.Turns.{first_turn, turn_of}
use Rattle.run_book.specs.Histories.{Made, IsHistory, harts_of, of_seat}

-- a seat: its book, its number, how many harts there are, the turns that it claimed, the beginning of the history that it has
-- seen, its own puts, and, of the seat with number 0, which ends the rounds, the open round and the histories of those before it
pub record Known (E : Type 0) : Type 0 where
  pub table : TableId
  pub number : ℕ
  pub harts : ℕ
  pub claims : List ℕ
  pub seen : List E
  pub own : List E
  pub round : ℕ
  pub gone : List E

-- a book: its harts and seats
pub record Bound : Type 0 where
  pub table : TableId
  pub harts : ℕ
  pub seats : ℕ

-- the history of a round, and how many harts there are
pub record Collected (E : Type 0) : Type 0 where
  pub round : ℕ
  pub harts : ℕ
  pub history : List E

-- a hart in a round, and the seat that claimed it
pub record Named : Type 0 where
  pub round : ℕ
  pub hart : ℕ
  pub seat : ℕ

module _ {E : Type 0} where
  abbrev pub known : TableId → Sitter E → Known E
  known t x = record { table = t; number = x.number; harts = x.harts; claims = x.claims; seen = x.seen; own = x.own; round = x.round; gone = x.gone }

  -- the seats of a new book, numbered from 0 on
  abbrev pub fresh_seats : TableId → ℕ → ℕ → List (Known E)
  fresh_seats t harts n = map (known t) (newcomers harts n)

module _ {E : Type 0} (hart seat : E → ℕ) (right : E → Type 0) where
  -- a put: the history seen begins with the one seen before and ends with the entry, unchanged
  pub record Puts (k : Known E) (e : E) (l : Known E) : Type 0 where
    pub seen : (between : List E) × (l.seen ≡ (k.seen ++ between) ++ e ∷ [])
    pub own : l.own ≡ k.own ++ e ∷ []
    pub legal : IsHistory hart seat l.number l.claims l.seen
    pub mine : l.own ≡ of_seat hart seat l.number l.seen
    pub contents : Each right l.seen
    pub rest : (l.table ≡ k.table) × (l.number ≡ k.number) × (l.harts ≡ k.harts) × (l.claims ≡ k.claims) × (l.round ≡ k.round) × (l.gone ≡ k.gone)

  -- the history of a round, as it is taken out of the slot: turns of this round, none twice, as many as there are entries
  pub record IsRound (round : ℕ) (es : List E) : Type 0 where
    pub apart : Apart (harts_of hart seat es)
    pub within : Each (λ e. (first_turn round ≤ hart e) × (hart e < turn_of round (length es))) es
    -- a legal list of moves of this round leaves it, in which each turn up to the last is claimed
    pub made : (owners : List ℕ) × (length owners ≡ length es) × Made (λ e. hart e - first_turn round) seat right (length es) owners es

  -- the history of the open round was taken out, which was the rest of the run's, and this round is open
  pub record TakesRound (k : Known E) (next : ℕ) (es : List E) (l : Known E) : Type 0 where
    pub seen : l.seen ≡ k.gone ++ es
    pub gone : l.gone ≡ k.gone ++ es
    pub round : l.round ≡ next
    pub round_is : IsRound k.round es
    pub contents : Each right es
    pub rest : (l.table ≡ k.table) × (l.number ≡ k.number) × (l.harts ≡ k.harts) × (l.claims ≡ k.claims) × (l.own ≡ k.own)
