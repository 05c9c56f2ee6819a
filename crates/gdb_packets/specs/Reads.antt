-- Reading a source: some of the bytes that it gave are held, those before them were read.
use Rattle.std.specs.Prelude.{◌≡◌, ℕ, List, [], ◌++◌, Option, Some, None}
use Rattle.gdb_packets.specs.declared.item.Item.{Item}
use Rattle.gdb_packets.specs.Stream.{Told}
use Rattle.gdb_packets.specs.Views.{told_in}

-- these bytes come next, and were read: what the source gave, and what of it is held, before and after
pub record GoesOn (gave held gave_then held_then text : List ℕ) : Type 0 where
  pub on : (read : List ℕ) → gave ≡ read ++ held → gave_then ≡ read ++ (text ++ held_then)

-- the bytes that were read tell this by f, and no byte behind them was read
pub record TellsBy (f : List ℕ → Option (Told × List ℕ)) (gave held gave_then held_then : List ℕ) (x : Told) : Type 0 where
  pub text : List ℕ
  pub on : GoesOn gave held gave_then held_then text
  pub tells : f text ≡ Some (x, [])

-- all bytes were read up to the end that the source said, and they tell nothing by f
pub record EndsBy (f : List ℕ → Option (Told × List ℕ)) (gave held gave_then held_then : List ℕ) : Type 0 where
  pub text : List ℕ
  pub on : GoesOn gave held gave_then held_then text
  pub tells : f text ≡ None
  pub all : held_then ≡ []

abbrev pub Reads : (List ℕ → Option (Told × List ℕ)) → List ℕ → List ℕ → List ℕ → List ℕ → Option Item → Type 0
Reads f gave held gave_then held_then (Some x) = TellsBy f gave held gave_then held_then (told_in x)
Reads f gave held gave_then held_then None = EndsBy f gave held gave_then held_then

-- the same where what is told found no memory
abbrev pub Loses : (List ℕ → Option (Told × List ℕ)) → List ℕ → List ℕ → List ℕ → List ℕ → Type 0
Loses f gave held gave_then held_then = (x : Told) × TellsBy f gave held gave_then held_then x
