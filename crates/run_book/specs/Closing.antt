-- What the closing of a book with all its seats tells.
use Rattle.std.specs.Prelude.{◌≡◌, ℕ, ◌-◌, ◌==◌, false, true, if◌then◌else◌, List, [], ◌∷◌, map}
use mathlib.Core.Option.{some}
use lib.ListN.{get_elem?}
use Rattle.run_book.specs.Histories.{Made, harts_of, of_seat}
use Rattle.run_book.specs.Known.{Known}
use Rattle.run_book.specs.Lists.{Apart, Begins, Each, has}
use Rattle.run_book.specs.Turns.{first_turn, turn_of}

module _ {E : Type 0} where
  -- what the seat with number 0 took out
  abbrev pub gone_of : List (Known E) → List E
  gone_of [] = []
  gone_of (k ∷ ks) = if k.number == 0 then k.gone else gone_of ks

  -- two seats are not one, and no turn is claimed by both
  pub record Parted (k l : Known E) : Type 0 where
    pub numbers : k.number ≡ l.number → ⊥
    pub claims : (t : ℕ) → has k.claims t ≡ true → has l.claims t ≡ false

  -- so it is of any two of the seats
  abbrev pub AllParted : List (Known E) → Type 0
  AllParted [] = Unit {0}
  AllParted (k ∷ ks) = Each (Parted k) ks × AllParted ks

  -- the seat's claims in the round are just the harts that it owns
  pub record Owns (round : ℕ) (owners : List ℕ) (k : Known E) : Type 0 where
    pub claimed : (h : ℕ) → has k.claims (turn_of round h) ≡ true → get_elem? owners h ≡ some k.number
    pub knows : (h : ℕ) → get_elem? owners h ≡ some k.number → has k.claims (turn_of round h) ≡ true

-- `es` is what stood in the slot, of the round that was open, and `all` the history of the run
module _ {E : Type 0} (turn seat : E → ℕ) (right : E → Type 0) where
  pub record IsClosed (harts : ℕ) (ks : List (Known E)) (all es : List E) : Type 0 where
    pub begins : Each (λ k. Begins k.seen all) ks
    pub own : Each (λ k. k.own ≡ of_seat turn seat k.number all) ks
    pub whose : Each (λ e. has (map (λ k. k.number) ks) (seat e) ≡ true) all
    pub apart : Apart (harts_of turn seat all)
    pub parted : AllParted ks
    pub round : ℕ
    pub open_is : Each (λ k. k.number ≡ 0 → k.round ≡ round) ks
    -- a legal list of moves of the open round leaves it, whose claims are the seats'
    pub owners : List ℕ
    pub made : Made (λ e. turn e - first_turn round) seat right harts owners es
    pub claims : Each (Owns round owners) ks
