-- A recording: the inputs of a run, and what its states were.
use Rattle.std.specs.Prelude.{ℕ, List, Option}

-- what a recording has of a hart: the code is 0 while it runs
pub record HartSummary : Type 0 where
  pub pc : ℕ
  pub done : ℕ
  pub code : ℕ
  pub value : ℕ

-- what a recording has of the state after a round
pub record Summary : Type 0 where
  pub output : ℕ
  pub trace : ℕ
  pub harts : List HartSummary

-- the summary of a round, and where they are due registers x1 to x31 of each hart
pub record Checkpoint : Type 0 where
  pub summary : Summary
  pub registers : Option (List (List ℕ))

pub record Recorded : Type 0 where
  pub version : ℕ
  pub format : ℕ
  pub harts : ℕ
  pub pages : ℕ
  pub rounds : ℕ
  pub budget : ℕ
  pub every : ℕ
  pub image : List ℕ
  pub input : List ℕ
  pub plan : List ℕ
  pub checkpoints : List Checkpoint
