-- What a worker keeps of its seat from round to round, and the histories that the calling thread's seat gathers.
use Rattle.std.specs.Prelude.{◌≡◌, ℕ, ◌<◌, false, List, [], ◌∷◌, ◌++◌, length}
use Rattle.atomic_table.specs.Seated.{TableId}
use Rattle.run_book.specs.Histories.{harts_of}
use Rattle.run_book.specs.Known.{IsRound, Known}
use Rattle.run_book.specs.Lists.{has, times}
use Rattle.run_book.specs.Turns.{turn_of}

module _ {E : Type 0} (turn seat : E → ℕ) where
  -- it sits at this book, of so many harts, and has put nothing that it has not claimed
  pub record IsHonest (t : TableId) (harts : ℕ) (k : Known E) : Type 0 where
    pub table : k.table ≡ t
    pub harts_are : k.harts ≡ harts
    pub own : (n : ℕ) → has k.claims n ≡ false → has (harts_of turn seat k.own) n ≡ false

  -- it is the seat that ends rounds, between two of them: it has seen what it has taken out, and no more
  pub record IsCalling (t : TableId) (harts : ℕ) (k : Known E) : Type 0 where
    pub honest : IsHonest t harts k
    pub number : k.number ≡ 0
    pub seen : k.seen ≡ k.gone

-- it ended no round
pub record KeepsRound {E : Type 0} (k l : Known E) : Type 0 where
  pub number : l.number ≡ k.number
  pub round : l.round ≡ k.round
  pub gone : l.gone ≡ k.gone

module _ {E : Type 0} (turn seat : E → ℕ) (right : E → Type 0) where
  -- each hart of the round stands there once, and nothing else does
  pub record IsWhole (round harts : ℕ) (es : List E) : Type 0 where
    pub count : length es ≡ harts
    pub round_is : IsRound turn seat right round es
    pub once : (h : ℕ) → h < harts → times (turn_of round h) (harts_of turn seat es) ≡ 1

  -- whole histories of these rounds, one after the other
  abbrev pub AreWhole : List ℕ → ℕ → List E → Type 0
  AreWhole [] harts es = es ≡ []
  AreWhole (round ∷ rounds) harts es = (first : List E) × (later : List E) × (es ≡ first ++ later) × IsWhole round harts first × AreWhole rounds harts later

  -- the seat has seen these rounds more, the history of each whole, and nothing else
  abbrev pub HasGathered : List ℕ → ℕ → Known E → Known E → Type 0
  HasGathered rounds harts k l = (es : List E) × (l.seen ≡ k.seen ++ es) × AreWhole rounds harts es
