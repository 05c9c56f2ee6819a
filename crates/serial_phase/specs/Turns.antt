-- The accesses of serial turns, one after another in a list, with the place where each turn ends.
use Rattle.std.specs.Prelude.{ℕ, zero, suc, ◌+◌, ◌-◌, ◌≤◌, List, [], ◌∷◌, drop, length, take, slice_index}
use Rattle.round_schedule.specs.declared.access.Access.{Access}

-- the turns that have ended, the one that is under way, and the room for further accesses
pub record Turns : Type 0 where
  pub closed : List (List Access)
  pub current : List Access
  pub room : ℕ

-- the turns that end at these places, the first of them from a start on
abbrev pub turns_at : List Access → ℕ → List ℕ → List (List Access)
turns_at xs start [] = []
turns_at xs start (e ∷ es) = take (e - start) (drop start xs) ∷ turns_at xs e es

-- what comes after the last of these places
abbrev pub open_turn : List Access → ℕ → List ℕ → List Access
open_turn xs start [] = drop start xs
open_turn xs start (e ∷ es) = open_turn xs e es

-- the places rise from a start to an end
abbrev pub AreEnds : ℕ → List ℕ → ℕ → Type 0
AreEnds start [] end = start ≤ end
AreEnds start (e ∷ es) end = (start ≤ e) × AreEnds e es end

-- where turn h begins
abbrev pub start_of : ℕ → List ℕ → ℕ → ℕ
start_of s es zero = s
start_of s es (suc h) = slice_index es h

-- how many accesses turns have together
abbrev pub count_log : List (List Access) → ℕ
count_log [] = 0
count_log (l ∷ ls) = length l + count_log ls
