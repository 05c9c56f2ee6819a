-- A packet's data as far as it came.
use Rattle.std.specs.Prelude.{◌≡◌, ℕ, ◌%◌, ◌<◌, ◌≤◌, List, length, sum}
use Rattle.gdb_packets.specs.declared.draft.Draft.{Draft}
use Rattle.gdb_packets.specs.declared.draft.Fate.{Fate}
use Rattle.gdb_packets.specs.declared.draft.Fate.TheVariants.{Whole, TooLong, Lost}
use Rattle.gdb_packets.specs.Payload.{most}

-- all of it is kept, or it is too long, or it found no memory
abbrev pub HasFate : Fate → List ℕ → List ℕ → Type 0
HasFate Whole gathered bs = (gathered ≡ bs) × (length bs ≤ most)
HasFate TooLong gathered bs = most < length bs
HasFate Lost gathered bs = Unit {0}

pub record IsDraft (bs : List ℕ) (d : Draft) : Type 0 where
  pub sum : d.sum ≡ sum bs % 256
  pub gathered : HasFate d.fate d.bytes.items bs
