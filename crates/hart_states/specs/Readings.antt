-- What is read of a number at a time.
use Rattle.std.specs.Prelude.{◌≡◌, ℕ, ◌+◌, ◌<◌, List, slice_index, slice_index_or, option_map, Option, Some}
use Rattle.run_bounds.specs.declared.touched.TouchedByte.{TouchedByte}
use Rattle.all_endings.specs.RunStates.{Move, RunState}
use Rattle.hart_states.specs.declared.reading.Reading.{Reading}
use Rattle.hart_states.specs.States.{own_of}

-- what a state keeps of n bytes from an address on
pub record IsSpan (a : RunState) (known : List TouchedByte) (address n : ℕ) : Type 0 where
  pub touched : (k : ℕ) (d : TouchedByte) → k < n → a.touched (address + k) ≡ (slice_index_or known k d).touched
  pub seen : (k : ℕ) (d : TouchedByte) → k < n → a.seen (address + k) ≡ (slice_index_or known k d).seen
  pub own : (k : ℕ) (d : TouchedByte) → k < n → a.own (address + k) ≡ option_map own_of (slice_index_or known k d).own

-- what is found is this number, from the move's sources
pub record IsReadingOf (v : Move) (address n value : ℕ) (found : Option Reading) : Type 0 where
  pub reading : Reading
  pub is : found ≡ Some reading
  pub number : reading.number ≡ value
  pub sources : (k : ℕ) → k < n → slice_index reading.sources k ≡ v.source (address + k)
