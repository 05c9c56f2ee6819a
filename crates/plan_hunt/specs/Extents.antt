-- How far a hunt goes, and with which plan it is over. `ends n` is the ending of plan n.
use Rattle.std.specs.Prelude.{◌≡◌, ◌≢◌, ◌⊎◌, ℕ, ◌+◌, ◌<◌, ◌≤◌, Bool, true, false, List, [], ◌∷◌}
use Rattle.std.specs.List.{list_all}
use Rattle.plan_hunt.specs.Endings.{Ended, ends_well}
use Rattle.plan_hunt.specs.Tables.{IsTable}
use Rattle.plan_hunt.specs.declared.extent.Extent.{Extent}
use Rattle.plan_hunt.specs.declared.extent.Until.{Until}
use Rattle.plan_hunt.specs.declared.extent.Until.TheVariants.{Bad, Differ, Done}
use Rattle.plan_hunt.specs.declared.row.Row.{Row}

-- a hunt whose first plan ends in `start` is over with this ending: with none, a bad one, or one that is another
abbrev pub IsSought : Until → Ended → Ended → Type 0
IsSought Done start e = ⊥
IsSought Bad start e = list_all ends_well e.stops ≡ false
IsSought Differ start e = e ≢ start

-- none of the n plans from first on has such an ending
abbrev pub NoneSought : Until → (ℕ → Ended) → ℕ → ℕ → Type 0
NoneSought until ends first n = (i : ℕ) → first ≤ i → i < first + n → IsSought until (ends first) (ends i) → ⊥

-- of the n plans from first on, the last has, and none before it
pub record EndsWithSought (until : Until) (ends : ℕ → Ended) (first n : ℕ) : Type 0 where
  pub before : ℕ
  pub count : n ≡ before + 1
  pub none_before : NoneSought until ends first before
  pub last : IsSought until (ends first) (ends (first + before))

-- the hunt has only so much time, and it is over after one plan or more
pub record EndsInTime (extent : Extent) (ends : ℕ → Ended) (n : ℕ) : Type 0 where
  pub timed : extent.is_timed ≡ true
  pub some : 1 ≤ n
  pub none : NoneSought extent.until ends extent.first n

-- the hunt is over after n plans: with the one that is sought, for want of time, or since all are done
abbrev pub IsOver : Extent → (ℕ → Ended) → ℕ → Type 0
IsOver extent ends n = EndsWithSought extent.until ends extent.first n
    ⊎ (EndsInTime extent ends n
    ⊎ ((n ≡ extent.most) × NoneSought extent.until ends extent.first n))

-- the rows are the table of the n plans from the first one on, after which the hunt is over
pub record IsTableOf (ends : ℕ → Ended) (extent : Extent) (n : ℕ) (rows : List Row) : Type 0 where
  pub table : IsTable ends extent.first n rows
  pub few : n ≤ extent.most
  pub over : IsOver extent ends n

-- ---- on the way

-- the ending of the first plan, by the rows so far and the ending of the plan that comes next
abbrev pub start_of : List Row → Ended → Ended
start_of [] e = e
start_of (r ∷ rows) e = r.ending

-- after n plans the hunt is over before its last plan, or goes on
abbrev pub Stands : Bool → Extent → (ℕ → Ended) → ℕ → Type 0
Stands true extent ends n = EndsWithSought extent.until ends extent.first n ⊎ EndsInTime extent ends n
Stands false extent ends n = NoneSought extent.until ends extent.first n

-- the rows are the table of n plans so far
pub record IsTally (ends : ℕ → Ended) (extent : Extent) (is_over : Bool) (n : ℕ) (rows : List Row) : Type 0 where
  pub table : IsTable ends extent.first n rows
  pub few : n ≤ extent.most
  pub stands : Stands is_over extent ends n
