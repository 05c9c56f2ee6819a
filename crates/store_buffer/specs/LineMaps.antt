-- Lines as they came, with the index of each by its number.
use Rattle.std.specs.Prelude.{◌≡◌, ℕ, ◌^◌, ◌<◌, ◌≤◌, ◌+◌, ◌-◌, ◌≢◌, ◌⊎◌, List, [], ◌∷◌, length, All, Option, Some, None, cond, if◌then◌else◌, option_map}
use Rattle.std.specs.Ordering.{nat_cmp}
use Rattle.std.specs.BTreeMap.{BTreeMap, IsOrdered, insert_entry, is_at}
use Rattle.std.specs.Map.{keys_of, lookup, values_of}
use Rattle.pages.specs.declared.access.Width.{Width}
use Rattle.pages.specs.Memory.{byte_of, in_range, width_bytes}
use Rattle.store_buffer.specs.declared.line.Line.{Line}
use Rattle.store_buffer.specs.declared.slots.Numbered.{Numbered}
use Rattle.store_buffer.specs.Lines.{line_at, line_of, index_of}
use Rattle.store_buffer.specs.Slots.{AreChained, line_in, number_in}

-- the index that is listed for a number
abbrev pub listed_at : List (ℕ × ℕ) → ℕ → Option ℕ
listed_at es n = lookup (is_at (nat_cmp n)) es

-- the lines at the indices that are listed, each with its number
abbrev pub lines_in : List Numbered → List (ℕ × ℕ) → List (ℕ × Line)
lines_in ls [] = []
lines_in ls (e ∷ es) = (e.0, line_in ls e.1) ∷ lines_in ls es

-- each number has the index of its line, and no other
pub record ArePlaced (ls : List Numbered) (es : List (ℕ × ℕ)) : Type 0 where
  pub placed : (n p : ℕ) → Some p ≡ listed_at es n → (p < length ls) × (number_in ls p ≡ n)
  pub listed : (p : ℕ) → p < length ls → Some p ≡ listed_at es (number_in ls p)
  pub within : All (λ p. p < length ls) (values_of es)

-- the same, with the lines in their slots, and the indices in the order of their numbers, which are those of addresses
-- of 64 bits
pub record IsLineMap (ls : List Numbered) (latest : List (Option ℕ)) (indices : BTreeMap ℕ ℕ) : Type 0 where
  pub placed : ArePlaced ls indices.entries
  pub chained : AreChained (length ls) ls latest
  pub ordered : IsOrdered nat_cmp indices
  pub near : All (λ k. k < 2 ^ 58) (keys_of indices.entries)

-- an empty line stands behind the others, which are as they were
pub record HasAppended (number : ℕ) (ls ms : List Numbered) : Type 0 where
  pub count : length ms ≡ length ls + 1
  pub kept : (p : ℕ) → p < length ls → (number_in ms p ≡ number_in ls p) × (line_in ms p ≡ line_in ls p)
  pub number_there : number_in ms (length ls) ≡ number
  pub empty : (line_in ms (length ls)).mask ≡ 0

-- the same, with its index listed
pub record HasAdded (number index : ℕ) (ls ms : List Numbered) (es fs : List (ℕ × ℕ)) : Type 0 where
  pub last : index ≡ length ls
  pub lines : HasAppended number ls ms
  pub indices : fs ≡ insert_entry nat_cmp es number index
  pub listed : (q : ℕ) → listed_at fs q ≡ cond (is_at (nat_cmp number) q) (Some index) (listed_at es q)

-- the index of the line of a number, which may be a new and empty one; the others stand where they stood
pub record IsOpen (number index : ℕ) (ls ms : List Numbered) (es fs : List (ℕ × ℕ)) : Type 0 where
  pub listed : (q : ℕ) → listed_at fs q ≡ cond (is_at (nat_cmp number) q) (Some index) (listed_at es q)
  pub low : index < length ms
  pub number_there : number_in ms index ≡ number
  pub kept : (p : ℕ) → p < length ls → p ≢ index → (number_in ms p ≡ number_in ls p) × (line_in ms p ≡ line_in ls p)
  pub older : (p : ℕ) → p < length ms → p ≢ index → p < length ls
  pub longer : length ls ≤ length ms
  pub before : (Some index ≡ listed_at es number) ⊎ ((None ≡ listed_at es number) × (index ≡ length ls))
  pub within : All (λ p. p < length ms) (values_of fs)
  pub same : (j : ℕ) → line_at (line_in ms index) j ≡ index_of (option_map (line_in ls) (listed_at es number)) j

-- the line of a number has taken the bytes of a value from a index on, and the others are as they were
pub record HasTaken (number at : ℕ) (width : Width) (value : ℕ) (es fs : List (ℕ × Line)) : Type 0 where
  pub line : Line
  pub others : (q : ℕ) → line_of fs q ≡ cond (is_at (nat_cmp number) q) (Some line) (line_of es q)
  pub here : (j : ℕ) → j < 64 → line_at line j ≡ (if in_range at (width_bytes width) j then Some (byte_of value (j - at)) else index_of (line_of es number) j)
