-- An execution, as a file holds it.
use Rattle.std.specs.Prelude.{ℕ, ◌+◌, Bool, List, [], ◌∷◌, Option}

-- a hart, and in an order which one of its accesses, or in calls which round answers it
pub record Turn : Type 0 where
  pub hart : ℕ
  pub number : Option ℕ

-- what a hart does: how many instructions, the stop code after them, 0 while it runs, and the value of the exit call, and the
-- numbers that its loads, LRs and AMOs read, and for each SC 1 where it succeeds and 0 where it fails, in program order
pub record HartDeeds : Type 0 where
  pub steps : ℕ
  pub code : ℕ
  pub value : Option ℕ
  pub reads : List ℕ

-- how many instructions harts do together
abbrev pub steps_of : List HartDeeds → ℕ
steps_of [] = 0
steps_of (h ∷ hs) = h.steps + steps_of hs

pub record Recorded : Type 0 where
  pub flat : Bool
  pub pages : ℕ
  pub image : List ℕ
  pub input : List ℕ
  pub harts : List HartDeeds
  pub calls : List Turn
  pub order : List Turn
